-- What the tests of each step give is what its plan asks.
use Prim.Native.Nat.{ℕ, ◌+◌}
use mathlib.Core.Path.{◌≡◌, refl, ◌∙◌}
use mathlib.Core.Bool.{Bool, true}
use mathlib.Core.List.{List}
use lib.ListN.{length}
use lib.Dec.{leb}
use Rattle.std.specs.Prelude.{Result}
use Rattle.format.specs.declared.Refusal.{Refusal}
use Rattle.format.specs.declared.Fault.TheVariants.{Geography}
use Rattle.format.specs.Format.{Verdict, fine}
use Rattle.format.specs.Message.{unlimited}
use Rattle.format.specs.Geography.{fewest_vertices, ring_kept, body_kept}
use Rattle.steps.specs.Plans.{answer_within, answer_of, test}
use Rattle.write.specs.Shown.{shown_answer}
use Rattle.outline.specs.declared.Outline.TheVariants.{Area, Ring}
use Rattle.outline.specs.declared.State.{State}
use Rattle.outline.specs.State.{area_head, ring_head, closed, at_stage}
use Rattle.outline.specs.Steps.{Step, begin_area, open_ring, add_vertex, close_ring, finish_area, plan}
use Rattle.outline.proofs.Bytes.{begun_size, opened_size, vertex_size}

-- a step may reach what it writes
pub no_limit : (s : Step) (st : State) (size : ℕ) → (plan s st size).most ≡ (plan s st size).at + length (plan s st size).bytes
no_limit (begin_area e i) st size = refl
no_limit (open_ring m) st size = refl
no_limit (add_vertex x y z) st size = refl
no_limit (close_ring k) st size = refl
no_limit (finish_area k) st size = refl

answers : (s : Step) (st : State) (size : ℕ) {permitted limits : Bool} {v : Verdict} (k : ℕ) {a : Result ℕ Refusal} → let p = plan s st size in
    length p.bytes ≡ k → permitted ≡ p.permitted → v ≡ p.faults → limits ≡ p.limits → a ≡ shown_answer (answer_within (p.at + k) permitted v limits p.at k size) → a ≡ shown_answer (answer_of p size)
answers s st size k l e f g h = h ∙ rw (e, f, g, ← l, no_limit s st size)

pub begin_answer : (edition internal size : ℕ) {a : Result ℕ Refusal} → a ≡ shown_answer (answer_within (0 + area_head) true fine true 0 area_head size) → a ≡ shown_answer (answer_of (plan (begin_area edition internal) (closed 0) size) size)
begin_answer edition internal size h = answers (begin_area edition internal) (closed 0) size area_head (begun_size edition internal) refl refl refl h

module _ (st : State) (size : ℕ) {permitted : Bool} {a : Result ℕ Refusal} where
  pub open_answer : (mark : ℕ) {more : Bool} → permitted ≡ at_stage Area st size → more ≡ leb (st.rings + 1) unlimited
      → a ≡ shown_answer (answer_within (st.position + ring_head) permitted fine more st.position ring_head size) → a ≡ shown_answer (answer_of (plan (open_ring mark) st size) size)
  open_answer mark e f h = answers (open_ring mark) st size ring_head (opened_size mark) e refl f h

  pub vertex_answer : (x y z : ℕ) {more : Bool} → permitted ≡ at_stage Ring st size → more ≡ leb (st.vertices + 1) unlimited
      → a ≡ shown_answer (answer_within (st.position + 24) permitted fine more st.position 24 size) → a ≡ shown_answer (answer_of (plan (add_vertex x y z) st size) size)
  vertex_answer x y z e f h = answers (add_vertex x y z) st size 24 (vertex_size x y z) e refl f h

  pub close_answer : (kept : List ℕ) → length kept ≡ ring_kept → permitted ≡ at_stage Ring st size
      → a ≡ shown_answer (answer_within (st.position + ring_kept) permitted (test (leb fewest_vertices st.vertices) Geography st.position) true st.position ring_kept size)
      → a ≡ shown_answer (answer_of (plan (close_ring kept) st size) size)
  close_answer kept l e h = answers (close_ring kept) st size ring_kept l e refl refl h

  pub finish_answer : (kept : List ℕ) → length kept ≡ body_kept → permitted ≡ at_stage Area st size
      → a ≡ shown_answer (answer_within (st.position + body_kept) permitted (test (leb 1 st.rings) Geography st.position) true st.position body_kept size)
      → a ≡ shown_answer (answer_of (plan (finish_area kept) st size) size)
  finish_answer kept l e h = answers (finish_area kept) st size body_kept l e refl refl h
