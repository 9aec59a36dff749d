-- A point is shown as null exactly for the 16 bytes of a null point, and is listed as one field of 16 bytes, null or not: by computing.
use Prim.Native.Nat.{ℕ}
use mathlib.Core.Path.{◌≡◌, refl, sym, ◌∙◌, ap}
use mathlib.Core.List.{List, [], ◌∷◌}
use native.Mathlib.Omega.{arith}
use Rattle.format.specs.Result.{ok}
use Rattle.format.specs.Number.{num_at, num_bytes, Bytes}
use Rattle.format.specs.Format.{Index, number, ruled, into}
use Rattle.format.specs.Value.{Value, fixed, value, t_point}
use Rattle.format.specs.Message.{Message, read_message, message_fields}
use Rattle.format.proofs.Results.{ok_same}
use Rattle.show.specs.declared.Cell.{Cell}
use Rattle.show.specs.Cells.{type_of, value_of}
use Rattle.query.specs.Answers.{Given, ask_cell, ask_parameter, ask_element}
use Rattle.exactly.specs.Listed.{bytes_for, field_bytes, null_point, NullExactly, of_parameter, Says}
use Rattle.exactly.proofs.Exactly.{cell_reads_its_bytes}
use Rattle.exactly.proofs.Arguments.{parameter_reads_its_bytes, element_reads_its_bytes}

-- one entry
pub point_listed : (l b : ℕ) (ix : Index) (at n : ℕ) → (value l b t_point).fields ix at (fixed n) ≡ record { at = at; size = 16; field = b; index = ix } ∷ []
unfolding value into ruled number
point_listed l b ix at n = refl

-- any bytes that say a point
module _ (l b : ℕ) (m : List ℕ) (at : ℕ) where
  null_bytes : (value l b t_point).bytes (value_of m Cell.NullPoint) ≡ null_point
  unfolding value into ruled number num_bytes
  null_bytes = refl

  null_read : (value l b t_point).read null_point 0 ≡ ok (value_of m Cell.NullPoint, 16)
  unfolding value into ruled number num_at
  null_read = refl

  pub null_exactly : (bs : List ℕ) (x : Cell) → type_of x ≡ t_point → Says l b m bs at x → NullExactly bs x
  null_exactly bs x type says = (
    λ e. says.encodes ∙ ap (λ (y : Cell). (value l b (type_of y)).bytes (value_of m y)) e ∙ null_bytes,
    λ e.
        let same : value_of m x ≡ value_of m Cell.NullPoint =
        ap (λ (p : Value × ℕ). p.0) (ok_same (sym (rw (type, e) at says.reads) ∙ null_read)) in
        says.shows ∙ rw (type, same),
  )

-- the cell at table t, row k and column c, whose column's type is point's
pub null_cell_exactly : (m : List ℕ) → Bytes m → (r : Message) → read_message 4 m ≡ ok r → (t k c : ℕ) (x : Cell) → ask_cell m t k c ≡ ok x
    → field_bytes 45 (record { i = t; j = 0; k = c }) m (message_fields 4 r) ≡ t_point ∷ [] → NullExactly (bytes_for 50 51 (record { i = t; j = k; k = c }) m (message_fields 4 r)) x
null_cell_exactly m all r accepted t k c x e type =
    let w = cell_reads_its_bytes m all r accepted t k c x e in
    let same : type_of x ∷ [] ≡ t_point ∷ [] = sym w.type_byte ∙ type in
    null_exactly 50 51 m _ _ x (cc) w.cell.says

-- parameter p
pub null_parameter_exactly : (m : List ℕ) → Bytes m → (r : Message) → read_message 3 m ≡ ok r → (p : ℕ) (x : Cell) → ask_parameter m p ≡ ok (Given.value x)
    → field_bytes 24 (of_parameter p) m (message_fields 3 r) ≡ t_point ∷ [] → NullExactly (bytes_for 27 28 (of_parameter p) m (message_fields 3 r)) x
null_parameter_exactly m all r accepted p x e type =
    let w = parameter_reads_its_bytes m all r accepted p (Given.value x) e in
    let same : type_of x ∷ [] ≡ t_point ∷ [] = sym w.type_byte ∙ type in
    null_exactly 27 28 m _ _ x (cc) w.argument.says

-- element e of the array that parameter p is
pub null_element_exactly : (m : List ℕ) → Bytes m → (r : Message) → read_message 3 m ≡ ok r → (p e : ℕ) (x : Cell) → ask_element m p e ≡ ok x
    → field_bytes 25 (of_parameter p) m (message_fields 3 r) ≡ t_point ∷ [] → NullExactly (bytes_for 27 28 (record { i = p; j = e; k = 0 }) m (message_fields 3 r)) x
null_element_exactly m all r accepted p e x asked type =
    let w = element_reads_its_bytes m all r accepted p e x asked in
    let both : type_of x ∷ [] ≡ t_point ∷ [] = sym w.type_byte ∙ type in
    let same : type_of x ≡ t_point = cc in
    null_exactly 27 28 m _ _ x same (w.by_itself (λ t. omega (arith, same, t))).says
