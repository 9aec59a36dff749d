-- A step's answer packed and its state kept are what the step's definition gives: an answer that is shown tells what it is of.
use Prim.Native.Nat.{ℕ}
use mathlib.Core.Path.{◌≡◌, ap, ◌∙◌, subst}
use mathlib.Core.List.{List}
use Rattle.format.specs.Result.{Res, told}
use Rattle.numbers.specs.Packed.{packed, itself}
use Rattle.numbers.proofs.Kept.{told_shown_lem}
use Rattle.outline.specs.declared.State.{State}
use Rattle.outline.specs.declared.Outcome.{Outcome}
use Rattle.outline.specs.Steps.{Step, step}
use Rattle.outline.specs.Shown.{Stepped}
use Rattle.areaexports.specs.Stored.{state_of, kept, WroteFrom, Wrote}

pub wrote_from : (S : Step) (st : State) (ns b b' ns' : List ℕ) {s : Outcome} {r : ℕ} → Stepped S st b s b'
    → (r ≡ packed itself (told s.answer)) × (ns' ≡ kept ns (told s.answer) s.state) → WroteFrom S st ns b r ns' b'
wrote_from S st ns b b' ns' {s} steps keeps =
    let o = step S st b in
    let told : told s.answer ≡ o.answer = ap (λ (z : Outcome). told z.answer) steps.0 ∙ told_shown_lem o.answer in
    let left : s.state ≡ o.state = ap (λ (z : Outcome). z.state) steps.0 in (
      keeps.0 ∙ ap (packed itself) told,
      keeps.1 ∙ ap (λ (z : Res ℕ). kept ns z s.state) told ∙ ap (kept ns o.answer) left,
      steps.1,
    )

pub wrote : (S : Step) (ns b b' ns' : List ℕ) {st : State} {s : Outcome} {r : ℕ} → st ≡ state_of ns → Stepped S st b s b'
    → (r ≡ packed itself (told s.answer)) × (ns' ≡ kept ns (told s.answer) s.state) → Wrote S ns b r ns' b'
wrote S ns b b' ns' {st} {s} {r} is steps keeps = subst (λ (z : State). WroteFrom S z ns b r ns' b') is (wrote_from S st ns b b' ns' steps keeps)
