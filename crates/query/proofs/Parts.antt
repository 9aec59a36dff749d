-- What a cell gives as a part: a number gives none, null is null, and a body is its bytes, which stand in the message.
use Prim.Native.Nat.{ℕ, ◌+◌, ◌≤◌}
use mathlib.Core.Path.{◌≡◌, refl, sym, ◌∙◌, ap}
use mathlib.Core.Bool.{Bool, true, false}
use mathlib.Core.Option.{Option, some, none}
use lib.ListN.{length, take, drop}
use lib.Dec.{eqb}
use lib.Ieee.{binary64, nan_bits}
use native.Mathlib.Omega.{arith}
use mathlib.Core.List.{List}
use Rattle.format.specs.declared.Fault.TheVariants.{WireType}
use Rattle.format.specs.Result.{Res, ok, no, pick}
use Rattle.format.specs.Value.{Value, fixed, body, value, t_tinyint, t_smallint, t_integer, t_float, t_string, t_timestamp, t_decimal, t_varbinary, t_point, is_null_point}
use Rattle.format.proofs.Results.{ok_same, no_ok}
use Rattle.show.specs.declared.Cell.{Cell}
use Rattle.show.specs.Cells.{cell_of, fixed_cell, plain_cell, body_cell}
use Rattle.places.specs.Stands.{Stands}
use Rattle.places.proofs.Values.{body_stands}
use Rattle.std.specs.Prelude.{Ok, Err, Some, None}
use Rattle.query.specs.Answers.{Part, part_of, span_in, told_part}

-- an answer that tells no part tells the empty one
pub no_span : (span : Part) → ((start size : ℕ) → span ≡ Ok (Some (start, size)) → ⊥) → span_in (told_part span) ≡ (0, 0)
no_span (Ok (Some (start, size))) other = absurd (other start size refl)
no_span (Ok None) other = refl
no_span (Err r) other = refl

-- what a cell gives as a part
record Gives (p : ℕ) (cell : Cell) (r : Res (Option (ℕ × ℕ))) : Type 0 where
  is : part_of p cell ≡ r

module _ {p : ℕ} {r : Res (Option (ℕ × ℕ))} where
  by_pick : (t : Bool) {x y : Cell} → Gives p x r → Gives p y r → Gives p (pick t x y) r
  by_pick true e f = e
  by_pick false e f = f

-- a number is no part, null is null, and a body is its bytes
module _ (p : ℕ) where
  fixed_part : (t n : ℕ) → Gives p (fixed_cell t n) (no WireType p)
  unfolding plain_cell
  fixed_part t n =
      by_pick (eqb t t_decimal) (record { is = refl }) (by_pick (eqb t t_point) (by_pick (is_null_point n) (record { is = refl }) (record { is = refl }))
      (by_pick (eqb t t_tinyint) (record { is = refl }) (by_pick (eqb t t_smallint) (record { is = refl }) (by_pick (eqb t t_integer) (record { is = refl })
      (by_pick (eqb t t_float) (by_pick (nan_bits binary64 n) (record { is = refl }) (record { is = refl })) (by_pick (eqb t t_timestamp) (record { is = refl }) (record { is = refl })))))))

  null_part : (t at : ℕ) → Gives p (body_cell t at none) (ok none)
  null_part t at = by_pick (eqb t t_string) (record { is = refl }) (by_pick (eqb t t_varbinary) (record { is = refl }) (record { is = refl }))

  body_part : (t at : ℕ) (bs : List ℕ) → Gives p (body_cell t at (some bs)) (ok (some (at + 4, length bs)))
  body_part t at bs = by_pick (eqb t t_string) (record { is = refl }) (by_pick (eqb t t_varbinary) (record { is = refl }) (record { is = refl }))

-- the bytes that a span is, if it is not null
abbrev pub bytes_in : List ℕ → Option (ℕ × ℕ) → Option (List ℕ)
bytes_in m none = none
bytes_in m (some p) = some (take p.1 (drop p.0 m))

-- a part that a cell is lies in the message, and is the cell's value; null is told of null alone
pub part_stands : {m : List ℕ} {at : ℕ} (l b t p : ℕ) (v : Value) {span : Option (ℕ × ℕ)} → Stands (value l b t) m at v → part_of p (cell_of t at v) ≡ ok span
    → ((span_in (ok span)).0 + (span_in (ok span)).1 ≤ length m) × (v ≡ body (bytes_in m span))
part_stands l b t p (fixed n) d e = absurd (no_ok (sym (fixed_part p t n).is ∙ e))
part_stands {at = at} l b t p (body none) {span} d e =
    let same : none ≡ span = ok_same (sym (null_part p t at).is ∙ e) in
    rw (← same) (omega arith, refl)
part_stands {m} {at} l b t p (body (some bs)) {span} d e =
    let same : some (at + 4, length bs) ≡ span = ok_same (sym (body_part p t at bs).is ∙ e) in
    let there = body_stands l b t bs d in
    rw (← same) (there.0, ap (λ (z : List ℕ). body (some z)) (sym there.1))
