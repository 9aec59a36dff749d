-- What the definitions of specs/Answers.antt amount to: an answer is decided by what it says, a search finds the first equal name, and a part that is handed
-- back is a value's body. (The crate `places` has that a cell is the bytes at its place, and is listed there.)
use Rattle.std.specs.Prelude.{Result, Ok, Err, Option as Maybe, Some, None}
use Prim.Native.Nat.{ℕ, zero, suc, ◌+◌, ◌<◌}
use mathlib.Core.Path.{◌≡◌, refl, sym, ◌∙◌, ap, ap₂}
use mathlib.Core.Bool.{Bool, true, false, false≢true, true≢false}
use mathlib.Core.List.{List, [], ◌∷◌}
use mathlib.Core.Option.{Option, some, none}
use lib.ListN.{length, take, drop, length-drop}
use lib.Seq.{length-take-le}
use native.Mathlib.Omega.{arith}
use denote.Ref.{Bor}
use denote.Slice.{slice_val, shr_slice_vals}
use Rattle.format.specs.declared.Fault.{Fault}
use Rattle.format.specs.declared.Refusal.{Refusal}
use Rattle.format.specs.Result.{Res, ok, no, pick, told}
use Rattle.format.specs.Number.{Bytes}
use Rattle.format.specs.Value.{body}
use Rattle.format.proofs.Decides.{once, answer, answer_once}
use Rattle.format.proofs.Results.{ok_same, no_ok}
use Rattle.show.specs.declared.Cell.{Cell}
use Rattle.show.specs.Parts.{IsPart}
use Rattle.places.specs.Places.{tables_of, table_at, params_of, param_at}
use Rattle.places.specs.Entries.{Here, entry, cell_here, value_here, element_of}
use Rattle.places.proofs.Calls.{param_stands}
use Rattle.places.proofs.Values.{cell_stands, value_stands, element_stands}
use Rattle.query.specs.declared.ColumnLayout.{ColumnLayout}
use Rattle.query.specs.declared.TableLayout.{TableLayout}
use Rattle.query.specs.declared.Argument.{Argument}
use Rattle.query.specs.declared.Argument.TheVariants.{Null, One, Array}
use Rattle.query.specs.Answers.{Given, Part, is_named, first_named, span_in, of_table, of_param, ask_cell_span, ask_parameter_span, ask_element_span, Handed, told_maybe, told_placed, told_part, told_argument}
use Rattle.query.proofs.Names.{same_yes, same_true}
use Rattle.query.proofs.Opened.{Told, part_told}

-- ---- two answers that say the same are the same
pub table_once : (a b : Result TableLayout Refusal) → told a ≡ told b → a ≡ b
table_once = answer_once

pub column_once : (a b : Result ColumnLayout Refusal) → told a ≡ told b → a ≡ b
column_once = answer_once

module _ {A : Type 0} where
  abbrev maybe : Option A → Result (Maybe A) Refusal
  maybe none = Ok None
  maybe (some a) = Ok (Some a)

  maybe_once : (a b : Result (Maybe A) Refusal) → told_maybe a ≡ told_maybe b → a ≡ b
  maybe_once = once told_maybe (answer maybe Err) (elim [ Ok (Some a) ↦ refl | Ok None ↦ refl | Err r ↦ refl ])

pub placed_once : (a b : Result (Maybe ColumnLayout) Refusal) → told_placed a ≡ told_placed b → a ≡ b
placed_once = maybe_once

pub named_once : (a b : Result (ℕ × ColumnLayout) Refusal) → told a ≡ told b → a ≡ b
named_once = answer_once

pub cell_once : (a b : Result Cell Refusal) → told a ≡ told b → a ≡ b
cell_once = answer_once

pub part_once : (a b : Part) → told_part a ≡ told_part b → a ≡ b
part_once = maybe_once

abbrev argued : Given → Argument
argued Given.nothing = Null
argued (Given.value c) = One c
argued (Given.list t n) = Array t n

pub argument_once : (a b : Result Argument Refusal) → told_argument a ≡ told_argument b → a ≡ b
argument_once = once told_argument (answer (λ g. Ok (argued g)) Err) (elim [ Ok Null ↦ refl | Ok (One c) ↦ refl | Ok (Array t n) ↦ refl | Err r ↦ refl ])

-- ---- a search finds the first equal name, and fails only where there is none
module _ (name : List ℕ) where
  named_is : (n : Option (List ℕ)) → is_named name n ≡ true → n ≡ some name
  named_is none e = absurd (false≢true e)
  named_is (some bs) e = ap some (same_true bs name e)

  named_not : (n : Option (List ℕ)) → is_named name n ≡ false → ok n ≡ ok (some name) → ⊥
  named_not n e f = true≢false (sym (same_yes name) ∙ (sym (ap (is_named name) (ok_same f)) ∙ e))

  pub record First (ns : List (Option (List ℕ))) (l : ℕ) : Type 0 where
    pub there : entry ns l ≡ ok (some name)
    pub none_before : (k : ℕ) → k < l → entry ns k ≡ ok (some name) → ⊥

  first_from_lem : (ns : List (Option (List ℕ))) (i j : ℕ) → first_named name ns i ≡ ok j → (l : ℕ) × (j ≡ i + l) × First ns l
  unfolding first_named
  first_from_lem [] i j e = absurd (no_ok e)
  first_from_lem (n ∷ ns) i j e = by_name (λ h. first_from_lem ns (i + 1) j h) (is_named name n) refl e
    where
      by_name : (first_named name ns (i + 1) ≡ ok j → (l : ℕ) × (j ≡ i + 1 + l) × First ns l) → (b : Bool) → is_named name n ≡ b → pick b (ok i) (first_named name ns (i + 1)) ≡ ok j → (l : ℕ) × (j ≡ i + l) × First (n ∷ ns) l
      by_name others true is h = (0, omega (arith, ok_same h), record { there = ap ok (named_is n is); none_before = λ k l. absurd (omega arith) })
      by_name others false is h =
          let w = others h in
          (suc w.0, omega (arith, w.1), record { there = w.2.there; none_before = elim [ zero ↦ λ l f. named_not n is f | suc k ↦ λ l f. w.2.none_before k (omega arith) f ] })

  pub finds_first : (ns : List (Option (List ℕ))) (j : ℕ) → first_named name ns 0 ≡ ok j → First ns j
  finds_first ns j e = let w = first_from_lem ns 0 j e in let same : j ≡ w.0 = omega (arith, w.1) in rw same w.2

  pub finds_none : (ns : List (Option (List ℕ))) (i : ℕ) {f : Fault} {p : ℕ} → first_named name ns i ≡ no f p → (k : ℕ) → entry ns k ≡ ok (some name) → ⊥
  unfolding first_named
  finds_none [] i e k h = no_ok h
  finds_none (n ∷ ns) i {f} {p} e k h = by_name (λ g. finds_none ns (i + 1) g) (is_named name n) refl e k h
    where
      by_name : (first_named name ns (i + 1) ≡ no f p → (k : ℕ) → entry ns k ≡ ok (some name) → ⊥) → (b : Bool) → is_named name n ≡ b → pick b (ok i) (first_named name ns (i + 1)) ≡ no f p → (k : ℕ) → entry (n ∷ ns) k ≡ ok (some name) → ⊥
      by_name others true is h k there = no_ok (sym h)
      by_name others false is h zero there = named_not n is there
      by_name others false is h (suc k) there = others h k there

-- ---- what is told to be a part lies whole in the message and is the value's bytes, and null is told of null alone: of a cell, a parameter and an element
module _ (m : List ℕ) (all : Bytes m) (span : Option (ℕ × ℕ)) where
  pub cell_span_told : (t k c : ℕ) → ask_cell_span m t k c ≡ ok span → Told m (of_table true m t (λ at b. cell_here at b k c)) span
  cell_span_told t k c e = part_told 4 tables_of (table_at true) m t (λ at b. cell_here at b k c) (cell_stands true m all t k c) span e

  pub parameter_span_told : (p : ℕ) → ask_parameter_span m p ≡ ok span → Told m (of_param m p (λ at q. value_here at q.type q.argument)) span
  parameter_span_told p e =
      part_told 3 params_of param_at m p (λ at q. value_here at q.type q.argument) (λ r f q there. value_stands (param_stands m all r f p there)) span e

  pub element_span_told : (p k : ℕ) → ask_element_span m p k ≡ ok span → Told m (of_param m p (λ at q. element_of at q.argument k)) span
  element_span_told p k e =
      part_told 3 params_of param_at m p (λ at q. element_of at q.argument k) (λ r f q there. element_stands (param_stands m all r f p there) k) span e

-- so the slice that is handed back has the value's bytes, all of them
pub handed_value : (m part : Bor (List ℕ)) (asked : Res Here) (p : ℕ × ℕ) (answer : Part) (w : Told m.now asked (some p)) → Handed m (ok (some p)) answer part
    → (w.here.value ≡ body (some part.now)) × (length part.now ≡ p.1)
handed_value m part asked p answer w h =
    let fit = w.fits in
    let size : length (take p.1 (drop p.0 m.now)) ≡ p.1 = length-take-le p.1 (drop p.0 m.now) (rw length-drop (omega arith)) in
    (w.value ∙ ap (λ (l : List ℕ). body (some l)) (sym h.itself.bytes), ap length h.itself.bytes ∙ size)

-- ---- what is handed back is decided: two slices that are one part of a message are one machine value, that is they point to one place and are as long,
-- and have the same bytes. A slice has one thing more in the logic, the name under which a loan is tracked: no program can see it, and no statement can give it
module _ (m : Bor (List ℕ)) (p q : Bor (List ℕ)) where
  pub slice_once : (start size : ℕ) → IsPart m start size p → IsPart m start size q → (p.now ≡ q.now) × (shr_slice_vals p ≡ shr_slice_vals q)
  slice_once start size a b =
      let bytes : p.now ≡ q.now = a.bytes ∙ sym b.bytes in
      (bytes, ap₂ (λ (x : ℕ × ℕ) (n : ℕ). slice_val x n ∷ []) (a.place ∙ sym b.place) (ap length bytes))

  pub handed_once : (span : Res (Option (ℕ × ℕ))) (x y : Part) → Handed m span x p → Handed m span y q → (x ≡ y) × (p.now ≡ q.now) × (shr_slice_vals p ≡ shr_slice_vals q)
  handed_once span x y a b =
      let slices = slice_once (span_in span).0 (span_in span).1 a.itself b.itself in
      (part_once x y (a.says ∙ sym b.says), slices.0, slices.1)
