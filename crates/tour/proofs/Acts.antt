-- What a task has done after one field: counted it, and listed it where it is wanted. Only here does `acted` unfold; the walks know of it that it is done.
use Rattle.std.proofs.Common.{◌≡◌, ℕ, suc, ◌+◌, ◌-◌, ◌*◌, ◌/◌, ◌%◌, ◌^◌, ◌<◌, Bool, true, false, ltb, leb, List, [], ◌∷◌, length, set, sym, ◌∙◌, arith, ltb-true}
use lib.Seq.{sets}
use Rattle.format.proofs.Results.{and_true_both}
use Rattle.format.specs.Format.{Index, Entry}
use Rattle.tally.specs.declared.Task.{Task}
use Rattle.tally.specs.Task.{doing, wanted, six, acted}

-- six stores in a row
pub stores : (l : List ℕ) (p a b c d e f : ℕ)
    → set (set (set (set (set (set l p a) (p + 1) b) (p + 2) c) (p + 3) d) (p + 4) e) (p + 5) f ≡ sets l p (a ∷ b ∷ c ∷ d ∷ e ∷ f ∷ [])
stores l p a b c d e f =
    let e₁ : p + 1 ≡ suc p = omega arith in
    let e₂ : p + 2 ≡ suc (suc p) = omega arith in
    let e₃ : p + 3 ≡ suc (suc (suc p)) = omega arith in
    let e₄ : p + 4 ≡ suc (suc (suc (suc p))) = omega arith in
    let e₅ : p + 5 ≡ suc (suc (suc (suc (suc p)))) = omega arith in
    rw (e₁, e₂, e₃, e₄, e₅)

module _ (task : Task) (out : List ℕ) (at end field : ℕ) (ix : Index) (h : at < end) {seen : ℕ} (one : seen ≡ (task.seen + 1) % 2 ^ 64) {w : Bool}
    (told : w ≡ wanted task end (length out)) where
  -- the field from at to end
  abbrev met : Entry
  met = record { at = at; size = end - at; field = field; index = ix }

  pub act_skip : w ≡ false
      → doing (record { first = task.first; offset = task.offset; seen = seen; taken = task.taken; last = task.last }) out ≡ acted (doing task out) met
  unfolding acted
  act_skip is =
      let far : at + (end - at) ≡ end = omega arith in
      let no : wanted task end (length out) ≡ false = sym told ∙ is in
      rw (far, no, one)

  pub act_take : {written : List ℕ} → w ≡ true → written ≡ sets out (6 * task.taken) (six met)
      → doing (record { first = task.first; offset = task.offset; seen = seen; taken = task.taken + 1; last = task.seen }) written ≡ acted (doing task out) met
  unfolding acted
  act_take is put =
      let far : at + (end - at) ≡ end = omega arith in
      let yes : wanted task end (length out) ≡ true = sym told ∙ is in
      rw (far, yes, one, put)

  -- there is room for one more
  pub act_room : w ≡ true → task.taken < length out / 6
  act_room is =
      let t = and_true_both (leb task.first task.seen) _ (sym told ∙ is) in
      ltb-true _ _ (and_true_both (ltb task.offset end) _ t.1).1
