-- What the code of a step has to show: if it is refused, that it hands back what it was given; if it is taken, that it leaves the next
-- state and wrote what its plan says.
use Prim.Native.Nat.{ℕ, ◌+◌, ◌≤◌}
use native.Mathlib.Omega.{arith}
use mathlib.Core.Path.{◌≡◌, refl, sym, ap, ◌∙◌}
use mathlib.Core.Bool.{Bool, true, false}
use mathlib.Core.List.{List}
use lib.ListN.{length}
use lib.Dec.{leb}
use borrow.Author.Tests.{leb-true}
use Rattle.std.specs.Prelude.{Result, Ok, Err}
use Rattle.format.specs.declared.Refusal.{Refusal}
use Rattle.format.specs.Format.{Verdict, fine, bad}
use Rattle.scan.proofs.Answers.{shown_go, shown_stop}
use Rattle.put.specs.Put.{put}
use Rattle.write.specs.declared.State.{State as Code}
use Rattle.write.specs.declared.Outcome.{Outcome}
use Rattle.steps.specs.State.{State}
use Rattle.steps.specs.Plans.{Plan, answer_within, answer_of, carry, fill_all}
use Rattle.steps.specs.Steps.{Step, plan, step}
use Rattle.write.specs.Shown.{seen, shown, shown_answer, came, Stepped}
use Rattle.steps.proofs.Plans.{Accepted, answer_ok}

-- what the tests of the code gave is what the plan asks; limits and length are asked only of a step that nothing else refuses
pub answered : {S : Type 0} (p : Plan S) (size : ℕ) {permitted limits : Bool} {v : Verdict} {n : ℕ} {a : Result ℕ Refusal} → a ≡ shown_answer (answer_within p.most permitted v limits p.at n size)
    → permitted ≡ p.permitted → v ≡ p.faults → (p.permitted ≡ true → p.faults ≡ fine → (limits ≡ p.limits) × (n ≡ length p.bytes)) → a ≡ shown_answer (answer_of p size)
answered p size {permitted} {limits} {v} {n} {a} e f g h = e ∙ rw (f, g) (go p.permitted p.faults h)
  where
    go : (u : Bool) (w : Verdict) → (u ≡ true → w ≡ fine → (limits ≡ p.limits) × (n ≡ length p.bytes))
        → shown_answer (answer_within p.most u w limits p.at n size) ≡ shown_answer (answer_within p.most u w p.limits p.at (length p.bytes) size)
    go true fine h = let w = h refl refl in rw (w.0, w.1)
    go true (bad x q) h = refl
    go false w h = refl

module _ (p : Plan State) (st : Code) (b : List ℕ) (types : List ℕ) where
  -- what comes of a plan that is refused
  pub refused : {a : Result ℕ Refusal} {x : Refusal} → a ≡ shown_answer (answer_of p (length b)) → a ≡ Err x
      → (record { answer = a; state = st } ≡ came st (carry p (seen st types) b)) × (b ≡ (carry p (seen st types) b).buffer)
  unfolding carry
  refused {a} {x} e f =
      let r = shown_stop (answer_of p (length b)) e f in
      (sym (rw r (ap {B = Outcome} (λ (y : Result ℕ Refusal). record { answer = y; state = st }) (sym f))), sym (rw r))

  -- what comes of one that is taken
  pub record Taken (n : ℕ) : Type 0 where
    pub accepted : Accepted p (length b) n
    pub came_is : came st (carry p (seen st types) b) ≡ record { answer = Ok n; state = shown (p.next n) }
    pub wrote : (carry p (seen st types) b).buffer ≡ fill_all p.fills (put b p.at p.bytes)

  pub taken : {a : Result ℕ Refusal} {n : ℕ} → a ≡ shown_answer (answer_of p (length b)) → a ≡ Ok n → Taken n
  unfolding carry
  taken {a} {n} e f =
      let r = shown_go (answer_of p (length b)) e f in
      record { accepted = answer_ok p (length b) n r; came_is = rw r; wrote = rw r }

-- the same of a step
module _ (s : Step) (st : Code) (b : List ℕ) (types : List ℕ) where
  pub step_refused : {a : Result ℕ Refusal} {x : Refusal} → a ≡ shown_answer (answer_of (plan s (seen st types) (length b)) (length b)) → a ≡ Err x → Stepped s st types b (record { answer = a; state = st }) b
  unfolding step
  step_refused e f = refused (plan s (seen st types) (length b)) st b types e f

  pub step_accepted : {a : Result ℕ Refusal} {n : ℕ} → let p = plan s (seen st types) (length b) in a ≡ shown_answer (answer_of p (length b)) → a ≡ Ok n → Accepted p (length b) n
  step_accepted e f = (taken (plan s (seen st types) (length b)) st b types e f).accepted

  pub step_taken : {a : Result ℕ Refusal} {n : ℕ} {next : Code} {c : List ℕ} → let p = plan s (seen st types) (length b) in a ≡ shown_answer (answer_of p (length b)) → a ≡ Ok n
      → next ≡ shown (p.next n) → c ≡ fill_all p.fills (put b p.at p.bytes) → Stepped s st types b (record { answer = Ok n; state = next }) c
  unfolding step
  step_taken {a} {n} {next} e f g h =
      let t = taken (plan s (seen st types) (length b)) st b types e f in
      (rw g (sym t.came_is), h ∙ sym t.wrote)

-- what an accepted plan writes fits
pub room : {S : Type 0} {p : Plan S} {size n k : ℕ} → Accepted p size n → length p.bytes ≡ k → p.at + k ≤ size
room {p} {size} {n} a l = let e : n ≡ p.at + length p.bytes = a.reached in let f : n ≤ size = a.fits in omega arith

-- one more is within its limit, and so fits a number of the code
pub counts : {S : Type 0} {p : Plan S} {size n : ℕ} (k most : ℕ) → Accepted p size n → p.limits ≡ leb (k + 1) most → k + 1 ≤ most
counts k most a e = leb-true (k + 1) most (sym e ∙ a.fine.limits)
