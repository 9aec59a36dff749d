-- A step changes what it writes and what it fills, and no other byte; a refused one changes nothing: what it fills ends by its position, as its state is sound.
use Prim.Native.Nat.{ℕ, ◌<◌}
use mathlib.Core.Path.{◌≡◌, sym, ◌∙◌, ap}
use mathlib.Core.Bool.{true}
use mathlib.Core.List.{List}
use lib.ListN.{length}
use native.Mathlib.Omega.{arith}
use Rattle.format.specs.declared.Fault.{Fault}
use Rattle.format.specs.Result.{ok, no}
use Rattle.put.specs.Put.{put}
use Rattle.steps.specs.Plans.{Out, fill_all}
use Rattle.steps.proofs.Plans.{Accepted, carry_ok, carry_no, Kept, EndBy, Outside, carry_keeps}
use Rattle.outline.specs.declared.State.{State}
use Rattle.outline.specs.declared.Outcome.{Outcome}
use Rattle.outline.specs.Steps.{Step, begin_area, open_ring, add_vertex, close_ring, finish_area, plan, step}
use Rattle.outline.specs.Shown.{Stepped}
use Rattle.outline.proofs.Taken.{in_area, in_ring}

-- what an accepted step passed on its way, and what comes of it
pub step_ok : (s : Step) (st : State) (b : List ℕ) (n : ℕ) → (step s st b).answer ≡ ok n → let p = plan s st (length b) in
    Accepted p (length b) n × (step s st b ≡ record { answer = ok n; state = p.next n; buffer = fill_all p.fills (put b p.at p.bytes) })
unfolding step
step_ok s st b n e = carry_ok (plan s st (length b)) st b n e

pub step_no : (s : Step) (st : State) (b : List ℕ) (f : Fault) (q : ℕ) → (step s st b).answer ≡ no f q → ((step s st b).state ≡ st) × ((step s st b).buffer ≡ b)
unfolding step
step_no s st b f q e =
    let o = carry_no (plan s st (length b)) st b f q e in
    (ap (λ (x : Out State). x.state) o, ap (λ (x : Out State). x.buffer) o)

fills_end : (s : Step) (st : State) (size : ℕ) → (plan s st size).permitted ≡ true → EndBy (plan s st size).at (plan s st size).fills
fills_end (begin_area i j) st size e = tt
fills_end (open_ring m) st size e = tt
fills_end (add_vertex x y z) st size e = tt
fills_end (close_ring k) st size e = let o = in_ring st size e in (omega (arith, o.begun), tt)
fills_end (finish_area k) st size e = let o = in_area st size e in (omega (arith, o.behind), (omega (arith, o.behind), tt))

-- every step, in every state: nothing from the new position on changes, nor any byte before the old one but those that the step fills
pub step_keeps : (s : Step) (st : State) (b : List ℕ) (n : ℕ) → (step s st b).answer ≡ ok n → let p = plan s st (length b) in
    Kept b (step s st b).buffer n (λ i. (i < p.at) × Outside p.fills i)
unfolding step
step_keeps s st b n e = carry_keeps (plan s st (length b)) st b n e (fills_end s st (length b))

-- a contract decides the outcome and the buffer
pub stepped_once : (s : Step) (st : State) (b : List ℕ) (r q : Outcome) (c d : List ℕ) → Stepped s st b r c → Stepped s st b q d → (r ≡ q) × (c ≡ d)
stepped_once s st b r q c d x y = (x.0 ∙ sym y.0, x.1 ∙ sym y.1)
