-- What two numbers say of a cell: its value, and the bytes that it has where it is without a fault.
use Prim.Native.Nat.{ℕ, ◌+◌, ◌-◌, ◌*◌, ◌^◌, ◌≤◌}
use native.Mathlib.Omega.{arith}
use mathlib.Core.Path.{◌≡◌, refl, sym, ap, ◌∙◌}
use mathlib.Core.Bool.{Bool, true, false}
use mathlib.Core.List.{List}
use mathlib.Core.Option.{some, none}
use lib.ListN.{length, take, drop, length-drop}
use lib.Seq.{length-take-le}
use lib.Dec.{leb, eqb}
use borrow.Author.Tests.{le-leb, leb-true}
use Rattle.format.specs.Result.{pick}
use Rattle.format.specs.Number.{num_bytes}
use Rattle.format.specs.Format.{fine}
use Rattle.format.specs.Value.{Value, fixed, body, value, is_counted, width_of}
use Rattle.steps.specs.Arguments.{value_fault}
use Rattle.write.proofs.Bytes.{fixed_bytes, body_bytes_lem}
use Rattle.whole.specs.Rows.{null_size, body_in, value_in}
use Rattle.whole.specs.Laid.{body_bytes, cell_bytes, Stands}

-- the part of the lent bytes that a cell's two numbers say
pub part_is : (bytes : List ℕ) (start size : ℕ) → take (start + size - start) (drop start bytes) ≡ take size (drop start bytes)
part_is bytes start size = let same : start + size - start ≡ size = omega arith in rw same

pub part_length : (bytes : List ℕ) (start size : ℕ) → start + size ≤ length bytes → length (take size (drop start bytes)) ≡ size
part_length bytes start size h = length-take-le size (drop start bytes) (omega (arith, length-drop start bytes))

-- a text or binary cell
pub body_null : (bytes : List ℕ) (start size : ℕ) → eqb size null_size ≡ true → body_in bytes start size ≡ some (body none)
body_null bytes start size e = rw e

pub body_there : (bytes : List ℕ) (start size : ℕ) → eqb size null_size ≡ false → start + size ≤ length bytes → body_in bytes start size ≡ some (body (some (take size (drop start bytes))))
body_there bytes start size e h = rw (e, le-leb (start + size) (length bytes) h)

-- a cell, by its type
pub in_body : (bytes : List ℕ) (t a b : ℕ) → is_counted t ≡ true → value_in bytes t a b ≡ body_in bytes a b
unfolding value_in
in_body bytes t a b e = rw e

pub in_fixed : (bytes : List ℕ) (t a b : ℕ) → is_counted t ≡ false → value_in bytes t a b ≡ some (fixed (a * 2 ^ 64 + b))
unfolding value_in
in_fixed bytes t a b e = rw e

-- the bytes of a cell, by its type
pub laid_body : (bytes : List ℕ) (t a b : ℕ) → is_counted t ≡ true → cell_bytes bytes t a b ≡ body_bytes bytes a b
unfolding cell_bytes
laid_body bytes t a b e = rw e

pub laid_fixed : (bytes : List ℕ) (t a b : ℕ) → is_counted t ≡ false → cell_bytes bytes t a b ≡ num_bytes (width_of t) (a * 2 ^ 64 + b)
unfolding cell_bytes
laid_fixed bytes t a b e = rw e

some_same : {A : Type 0} {x y : A} → some x ≡ some y → x ≡ y
some_same e = cc

none_some : {A : Type 0} {x : A} → none ≡ some x → ⊥
none_some e = let z : ◌≡◌ {A = ℕ} 0 1 = cc in omega arith

true_false : true ≡ false → ⊥
true_false e = let z : ◌≡◌ {A = ℕ} 0 1 = cc in omega arith

-- a body that there is stands among the lent bytes, and they are its
body_is : (bytes : List ℕ) (a b : ℕ) (v : Value) → body_in bytes a b ≡ some v → Stands bytes a b × (v ≡ body (pick (eqb b null_size) none (some (take b (drop a bytes)))))
body_is bytes a b v e = go (eqb b null_size) (leb (a + b) (length bytes)) refl refl e
  where
    go : (n s : Bool) → eqb b null_size ≡ n → leb (a + b) (length bytes) ≡ s → pick n (some (body none)) (pick s (some (body (some (take b (drop a bytes))))) none) ≡ some v
        → Stands bytes a b × (v ≡ body (pick (eqb b null_size) none (some (take b (drop a bytes)))))
    go true s f g h = (λ z. absurd (true_false (sym f ∙ z)), sym (some_same h) ∙ rw f refl)
    go false true f g h = (λ z. leb-true (a + b) (length bytes) g, sym (some_same h) ∙ rw f refl)
    go false false f g h = absurd (none_some h)

-- a cell without a fault: its bytes are there, and what it writes is said by its two numbers
pub cell_stands : (bytes : List ℕ) (t a b : ℕ) (v : Value) → value_in bytes t a b ≡ some v → is_counted t ≡ true → Stands bytes a b
cell_stands bytes t a b v e c = (body_is bytes a b v (sym (in_body bytes t a b c) ∙ e)).0

pub cell_bytes_lem : (bytes : List ℕ) (p t a b : ℕ) (v : Value) → value_in bytes t a b ≡ some v → value_fault p t v ≡ fine → (value 50 51 t).bytes v ≡ cell_bytes bytes t a b
cell_bytes_lem bytes p t a b v e f = go (is_counted t) refl
  where
    go : (c : Bool) → is_counted t ≡ c → (value 50 51 t).bytes v ≡ cell_bytes bytes t a b
    go true c =
        let w = (body_is bytes a b v (sym (in_body bytes t a b c) ∙ e)).1 in
        let o = pick (eqb b null_size) none (some (take b (drop a bytes))) in
        let fault : value_fault p t (body o) ≡ fine = ap (value_fault p t) (sym w) ∙ f in
        ap (value 50 51 t).bytes w ∙ body_bytes_lem p 50 51 t o fault ∙ sym (laid_body bytes t a b c)
    go false c =
        let w : v ≡ fixed (a * 2 ^ 64 + b) = some_same (sym e ∙ in_fixed bytes t a b c) in
        let fault : value_fault p t (fixed (a * 2 ^ 64 + b)) ≡ fine = ap (value_fault p t) (sym w) ∙ f in
        ap (value 50 51 t).bytes w ∙ fixed_bytes p 50 51 t (a * 2 ^ 64 + b) fault ∙ sym (laid_fixed bytes t a b c)
