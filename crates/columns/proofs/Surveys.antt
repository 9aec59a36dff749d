-- What a survey finds of columns is what the definition asks of them.
use Prim.Native.Nat.{ℕ, ◌+◌, ◌<◌, ◌≤◌}
use native.Mathlib.Nat.{add-zero}
use native.Mathlib.Omega.{arith}
use mathlib.Core.Path.{◌≡◌, refl, sym, ap, ap₂, ◌∙◌}
use mathlib.Core.Bool.{Bool, true, false, ◌&&◌}
use mathlib.Core.List.{List, [], ◌∷◌}
use lib.ListN.{length}
use lib.Dec.{leb}
use borrow.Author.Tests.{lt-leb, leb-true, leb-false}
use Rattle.std.specs.Prelude.{Result, Ok, Err}
use Rattle.format.specs.declared.Refusal.{Refusal}
use Rattle.format.specs.Format.{Verdict, fine, bad}
use Rattle.format.specs.Value.{is_column, most_bytes}
use Rattle.format.specs.Message.{most_columns}
use Rattle.steps.specs.State.{all_columns}
use Rattle.steps.specs.Plans.{also}
use Rattle.steps.specs.Arguments.{name_fault, name_faults, types_of}
use Rattle.write.specs.Shared.{verdict_of}
use Rattle.columns.specs.declared.Column.{Column as Entry}
use Rattle.columns.specs.declared.survey.Survey.{Survey}
use Rattle.columns.specs.Entries.{name_of, columns_of, types_in, names_size, columns_fault}
use Rattle.columns.specs.Walks.{none_at, check_of, next_fault, next_size, added, added_where, add_all, survey_fault}
use Rattle.columns.specs.Short.{name_fine}
use Rattle.columns.proofs.Metadata.{columns_length, types_same}

-- what the code found, and what it says
pub check_is : (x : Result Unit Refusal) (v : Verdict) → verdict_of x ≡ v → x ≡ check_of v
check_is (Ok u) v e = ap check_of e
check_is (Err r) v e = ap check_of e

said : (v : Verdict) → verdict_of (check_of v) ≡ v
said fine = refl
said (bad f p) = refl

-- one column that is not too many
pub record More (names : List ℕ) (s : Survey) (e : Entry) (r : Survey) : Type 0 where
  pub at : r.at ≡ s.at
  pub n : r.n ≡ s.n + 1
  pub kinds : r.kinds ≡ (is_column e.wire_type && s.kinds)
  pub fault : r.fault ≡ next_fault s.at names s.fault e
  pub size : r.size ≡ next_size (next_fault s.at names s.fault e) s.size (4 + e.size)

pub one_more : (names : List ℕ) (s : Survey) (e : Entry) → s.n < most_columns → More names s e (added names s e)
one_more names s e h = go (leb most_columns s.n) refl
  where
    go : (t : Bool) (x : leb most_columns s.n ≡ t) → More names s e (added_where names s e t x)
    go true x = absurd (let k = leb-true most_columns s.n x in omega arith)
    go false x = record { at = refl; n = refl; kinds = refl; fault = refl; size = refl }

pub too_many : (names : List ℕ) (s : Survey) (e : Entry) → most_columns ≤ s.n → ((added names s e).at ≡ s.at) × (most_columns < (added names s e).n)
too_many names s e h = go (leb most_columns s.n) refl
  where
    go : (t : Bool) (x : leb most_columns s.n ≡ t) → ((added_where names s e t x).at ≡ s.at) × (most_columns < (added_where names s e t x).n)
    go true x = (refl, omega arith)
    go false x = absurd (let k = leb-false most_columns s.n x in omega arith)

-- a name that is counted is short
pub short_next : (at : ℕ) (names : List ℕ) (x : Result Unit Refusal) (e : Entry) {f : Result Unit Refusal} {u : Unit} → f ≡ next_fault at names x e → f ≡ Ok u → e.size ≤ most_bytes
short_next at names (Ok u) e g h = (name_fine at names e (sym (said (name_fault at (name_of names e))) ∙ ap verdict_of (sym g ∙ h))).1
short_next at names (Err r) e g h = absurd (let z : Err r ≡ Ok _ = sym g ∙ h in let y : ◌≡◌ {A = ℕ} 0 1 = cc in omega arith)

-- what was found, from a survey on
pub record Found (names : List ℕ) (s : Survey) (es : List Entry) (r : Survey) : Type 0 where
  pub at : r.at ≡ s.at
  pub n : r.n ≡ s.n + length es
  pub kinds : r.kinds ≡ s.kinds && all_columns (types_in es)
  pub fault : verdict_of r.fault ≡ also (verdict_of s.fault) (name_faults s.at (columns_of es names))
  pub size : verdict_of r.fault ≡ fine → r.size ≡ s.size + names_size es

and_true : (a : Bool) → a ≡ a && true
and_true true = refl
and_true false = refl

and_swap : (a b c : Bool) → (a && b) && c ≡ b && (a && c)
and_swap true true c = refl
and_swap true false c = refl
and_swap false true c = refl
and_swap false false c = refl

also_fine_right : (v : Verdict) → v ≡ also v fine
also_fine_right fine = refl
also_fine_right (bad f p) = refl

also_next : (at : ℕ) (names : List ℕ) (x : Result Unit Refusal) (e : Entry) (v : Verdict) → also (verdict_of (next_fault at names x e)) v ≡ also (verdict_of x) (also (name_fault at (name_of names e)) v)
also_next at names (Ok u) e v = ap (λ (w : Verdict). also w v) (said (name_fault at (name_of names e)))
also_next at names (Err r) e v = refl

also_left : (v w : Verdict) → also v w ≡ fine → v ≡ fine
also_left fine w e = refl
also_left (bad f p) w e = e

counts : (x : Result Unit Refusal) (size more : ℕ) → verdict_of x ≡ fine → next_size x size more ≡ size + more
counts (Ok u) size more e = refl
counts (Err r) size more e = absurd (let z : ◌≡◌ {A = ℕ} 0 1 = cc in omega arith)

pub found : (names : List ℕ) (s : Survey) (es : List Entry) → s.n + length es ≤ most_columns → Found names s es (add_all names s es)
unfolding add_all name_faults names_size
found names s [] h = record { at = refl; n = sym (add-zero s.n); kinds = and_true s.kinds; fault = also_fine_right (verdict_of s.fault); size = λ _. sym (add-zero s.size) }
found names s (e ∷ es) h =
    let f = next_fault s.at names s.fault e in
    let next = added names s e in
    let m : More names s e next = one_more names s e (omega arith) in
    let r : Found names next es (add_all names next es) = found names next es (omega (arith, h, m.n)) in
    let v : verdict_of next.fault ≡ verdict_of f = ap verdict_of m.fault in
    record {
      at = r.at ∙ m.at;
      n = omega (arith, r.n, m.n);
      kinds = r.kinds ∙ ap (λ (b : Bool). b && all_columns (types_in es)) m.kinds ∙ and_swap (is_column e.wire_type) s.kinds (all_columns (types_in es));
      fault = r.fault ∙ ap₂ (λ (w : Verdict) (p : ℕ). also w (name_faults p (columns_of es names))) v m.at ∙ also_next s.at names s.fault e (name_faults s.at (columns_of es names));
      size = λ k.
          let z = also_left (verdict_of next.fault) (name_faults next.at (columns_of es names)) (sym r.fault ∙ k) in
          let x = counts f s.size (4 + e.size) (sym v ∙ z) in
          omega (arith, r.size k, m.size, x);
    }

-- too many are told
pub many : (names : List ℕ) (s : Survey) (es : List Entry) → most_columns < s.n + length es → ((add_all names s es).at ≡ s.at) × (most_columns < (add_all names s es).n)
unfolding add_all
many names s [] h = (refl, omega arith)
many names s (e ∷ es) h = go (leb most_columns s.n) refl (many names (added names s e) es)
  where
    next : Survey
    next = added names s e

    go : (t : Bool) → leb most_columns s.n ≡ t
        → (most_columns < next.n + length es → ((add_all names next es).at ≡ next.at) × (most_columns < (add_all names next es).n))
        → ((add_all names next es).at ≡ s.at) × (most_columns < (add_all names next es).n)
    go true x rest =
        let a = too_many names s e (leb-true most_columns s.n x) in
        let r = rest (omega (arith, a.1)) in (r.0 ∙ a.0, r.1)
    go false x rest =
        let a = one_more names s e (leb-false most_columns s.n x) in
        let r = rest (omega (arith, h, a.n)) in (r.0 ∙ a.at, r.1)

-- so a survey of a whole list refuses what the definition refuses
pub fault_same : (names : List ℕ) (at : ℕ) (es : List Entry) → survey_fault (add_all names (none_at at) es) ≡ columns_fault at (columns_of es names)
fault_same names at es = go (leb (length es) most_columns) refl
  where
    s : Survey
    s = add_all names (none_at at) es

    cs_length : length (columns_of es names) ≡ length es
    cs_length = columns_length es names

    go : (t : Bool) → leb (length es) most_columns ≡ t → survey_fault (add_all names (none_at at) es) ≡ columns_fault at (columns_of es names)
    go true e =
        let few = leb-true (length es) most_columns e in
        let f = found names (none_at at) es (omega arith) in
        let n : (add_all names (none_at at) es).n ≡ length es = f.n ∙ (omega arith) in
        let kinds : (add_all names (none_at at) es).kinds ≡ all_columns (types_of (columns_of es names)) = f.kinds ∙ ap all_columns (sym (types_same es names)) in
        rw (f.at, n, kinds, f.fault, cs_length)
    go false e =
        let h = leb-false (length es) most_columns e in
        let m = many names (none_at at) es (omega arith) in
        let k : most_columns < length (columns_of es names) = omega (arith, h, cs_length) in
        rw (m.0, lt-leb (add_all names (none_at at) es).n most_columns m.1, lt-leb (length (columns_of es names)) most_columns k)
