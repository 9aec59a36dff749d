-- What the code of a step has to show: if it is refused, that it hands back what it was given; if it is taken, that it leaves the next state and wrote what
-- its plan says.
use Prim.Native.Nat.{ℕ, ◌+◌, ◌≤◌}
use mathlib.Core.Path.{◌≡◌, sym, ap, ◌∙◌}
use mathlib.Core.Bool.{true}
use mathlib.Core.List.{List}
use lib.ListN.{length}
use lib.Dec.{leb, eqb}
use borrow.Author.Tests.{leb-true}
use Rattle.std.specs.Prelude.{Result, Ok, Err}
use Rattle.format.specs.declared.Refusal.{Refusal}
use Rattle.format.specs.Result.{Res, ok}
use Rattle.format.specs.Message.{unlimited}
use Rattle.format.proofs.Results.{and_true_both}
use Rattle.scan.proofs.Answers.{shown_go, shown_stop}
use Rattle.put.specs.Put.{put}
use Rattle.steps.specs.Plans.{answer_of, carry, fill_all}
use Rattle.steps.proofs.Plans.{Accepted, answer_ok}
use Rattle.write.specs.Shown.{shown_answer}
use Rattle.outline.specs.declared.Outline.TheVariants.{Area, Ring}
use Rattle.outline.specs.declared.State.{State}
use Rattle.outline.specs.declared.Outcome.{Outcome}
use Rattle.outline.specs.State.{area_head, ring_head, stage_number, sound, at_stage}
use Rattle.outline.specs.Steps.{Step, plan, step}
use Rattle.outline.specs.Shown.{Stepped}

pub shown_ok : (r : Res ℕ) {a : Result ℕ Refusal} {n : ℕ} → a ≡ shown_answer r → a ≡ Ok n → r ≡ ok n
shown_ok = shown_go

module _ (s : Step) (st : State) (b : List ℕ) where
  pub step_refused : {a : Result ℕ Refusal} {x : Refusal} → a ≡ shown_answer (answer_of (plan s st (length b)) (length b)) → a ≡ Err x → Stepped s st b (record { answer = a; state = st }) b
  unfolding step carry
  step_refused {a} {x} e f =
      let r = shown_stop (answer_of (plan s st (length b)) (length b)) e f in
      (sym (rw r (ap {B = Outcome} (λ (y : Result ℕ Refusal). record { answer = y; state = st }) (sym f))), sym (rw r))

  pub step_accepted : {a : Result ℕ Refusal} {n : ℕ} → let p = plan s st (length b) in a ≡ shown_answer (answer_of p (length b)) → a ≡ Ok n → Accepted p (length b) n
  step_accepted {a} {n} e f = answer_ok (plan s st (length b)) (length b) n (shown_ok (answer_of (plan s st (length b)) (length b)) e f)

  pub step_taken : {a : Result ℕ Refusal} {n : ℕ} {next : State} {c : List ℕ} → let p = plan s st (length b) in a ≡ shown_answer (answer_of p (length b)) → a ≡ Ok n
      → next ≡ p.next n → c ≡ fill_all p.fills (put b p.at p.bytes) → Stepped s st b (record { answer = Ok n; state = next }) c
  unfolding step carry
  step_taken {a} {n} {next} e f g h =
      let r = shown_ok (answer_of (plan s st (length b)) (length b)) e f in
      (rw g (sym (rw r)), h ∙ sym (rw r))

-- what a permitted step's state says of its places
pub record InArea (st : State) (size : ℕ) : Type 0 where
  pub behind : area_head ≤ st.position
  pub inside : st.position ≤ size
  pub few : st.rings ≤ unlimited

pub record InRing (st : State) (size : ℕ) : Type 0 where
  pub rings : st.rings ≤ unlimited
  pub behind : area_head ≤ st.ring_at
  pub begun : st.ring_at + ring_head ≤ st.position
  pub inside : st.position ≤ size
  pub few : st.vertices ≤ unlimited

pub in_area : (st : State) (size : ℕ) → at_stage Area st size ≡ true → InArea st size
unfolding sound
in_area st size e =
    let a = and_true_both (eqb (stage_number st.stage) 1) _ e in
    let d = and_true_both (leb area_head st.position) _ a.1 in
    let f = and_true_both (leb st.position size) _ d.1 in
    record { behind = leb-true _ _ d.0; inside = leb-true _ _ f.0; few = leb-true _ _ f.1 }

pub in_ring : (st : State) (size : ℕ) → at_stage Ring st size ≡ true → InRing st size
unfolding sound
in_ring st size e =
    let a = and_true_both (eqb (stage_number st.stage) 2) _ e in
    let d = and_true_both (leb st.rings unlimited) _ a.1 in
    let f = and_true_both (leb area_head st.ring_at) _ d.1 in
    let g = and_true_both (leb (st.ring_at + ring_head) st.position) _ f.1 in
    let h = and_true_both (leb st.position size) _ g.1 in
    record { rings = leb-true _ _ d.0; behind = leb-true _ _ f.0; begun = leb-true _ _ g.0; inside = leb-true _ _ h.0; few = leb-true _ _ h.1 }
