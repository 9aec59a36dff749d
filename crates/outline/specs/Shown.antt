-- What the contract of a step says: its outcome and the buffer after it are what the definition gives, the state too.
use Rattle.std.specs.Prelude.{◌≡◌, List, ℕ}
use Rattle.write.specs.Shown.{shown_answer}
use Rattle.steps.specs.Plans.{Out}
use Rattle.outline.specs.declared.State.{State}
use Rattle.outline.specs.declared.Outcome.{Outcome}
use Rattle.outline.specs.Steps.{Step, step}

abbrev pub came : Out State → Outcome
came o = record { answer = shown_answer o.answer; state = o.state }

-- the step s, in a state and on a buffer b, comes to r and leaves the buffer b'; a begin has no state: st is `closed 0` there
abbrev pub Stepped : Step → State → List ℕ → Outcome → List ℕ → Type 0
Stepped s st b r b' = (r ≡ came (step s st b)) × (b' ≡ (step s st b).buffer)
