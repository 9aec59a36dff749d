-- What the code that writes around the columns has to show, where the step is taken.
use Prim.Native.Nat.{ℕ, ◌+◌, ◌≤◌}
use mathlib.Core.Path.{◌≡◌, ap, ◌∙◌}
use mathlib.Core.List.{[]}
use lib.ListN.{length, replicate, length-replicate}
use lib.Dec.{leb}
use borrow.Author.Tests.{leb-true}
use Rattle.std.specs.Prelude.{Result, Ok}
use Rattle.format.specs.declared.Fault.TheVariants.{Limit, WireType}
use Rattle.format.specs.declared.Refusal.{Refusal}
use Rattle.format.specs.Result.{ok}
use Rattle.format.specs.Message.{most_columns, most_items}
use Rattle.scan.proofs.Answers.{shown_go}
use Rattle.steps.specs.declared.Stage.TheVariants.{Reply}
use Rattle.write.specs.declared.State.{State as Code}
use Rattle.steps.specs.State.{State, at_stage, closed}
use Rattle.steps.specs.Plans.{Plan, also, test}
use Rattle.steps.specs.Steps.{message_end}
use Rattle.write.specs.Shown.{seen, shown_answer}
use Rattle.write.specs.Shared.{verdict_of}
use Rattle.steps.proofs.Plans.{Accepted, answer_ok}
use Rattle.steps.proofs.Back.{also_fine, test_fine}
use Rattle.columns.specs.declared.survey.Survey.{Survey}
use Rattle.columns.specs.Walks.{survey_fault, head_answer}

module _ (st : Code) (s : Survey) (size : ℕ) where
  -- what is known of a step that is taken, and reached n
  pub record Taken (n : ℕ) : Type 0 where
    pub is : head_answer st s size ≡ ok n
    pub few : s.n ≤ most_columns
    pub count : st.count + 1 ≤ most_items
    pub reached : n ≡ st.position + (15 + (s.n + s.size))
    pub fits : n ≤ size

  -- a plan that asks the same
  abbrev asks : Plan State
  asks = record {
    permitted = at_stage Reply (seen st []) size;
    faults = survey_fault s;
    limits = leb (st.count + 1) most_items;
    most = message_end;
    at = st.position;
    bytes = replicate (15 + (s.n + s.size)) 0;
    fills = [];
    next = λ n. closed n;
  }

  pub taken : {a : Result ℕ Refusal} {n : ℕ} → a ≡ shown_answer (head_answer st s size) → a ≡ Ok n → Taken n
  taken {a} {n} e f =
      let r = shown_go (head_answer st s size) e f in
      let l : length {A = ℕ} (replicate (15 + (s.n + s.size)) 0) ≡ 15 + (s.n + s.size) = length-replicate (15 + (s.n + s.size)) 0 in
      let x : Accepted asks size n = answer_ok asks size n (rw l r) in
      let v = also_fine (test (leb s.n most_columns) Limit s.at) (also (test s.kinds WireType s.at) (verdict_of s.fault)) x.fine.faultless in
      record {
        is = r;
        few = leb-true s.n most_columns (test_fine (leb s.n most_columns) Limit s.at v.0);
        count = leb-true (st.count + 1) most_items x.fine.limits;
        reached = x.reached ∙ ap (λ (k : ℕ). st.position + k) l;
        fits = x.fits;
      }
