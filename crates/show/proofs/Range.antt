-- The rule of a point on bits is that on floats: a float given by 64 bits lies from -k to k exactly where its bits without the sign are at most those of k, and no NaN does.
use mathlib.Core.Path.{◌≡◌, refl, sym, ap, ap₂, ◌∙◌, subst}
use mathlib.Core.Logic.{◌⊎◌, inl, inr}
use Prim.Native.Nat.{ℕ, zero, suc, ◌+◌, ◌*◌, ◌/◌, ◌%◌, ◌^◌, ◌≤◌, ◌<◌}
use native.Mathlib.Nat.{le_trans, le_of_eq, le_of_lt, lt_of_lt_of_le, eq-or-lt_of_le, not-le_of_lt, le_of_mul-le-mul_right, mul-one, mul_assoc, mul-le-mul_right, mul-le-mul_left, mul-lt-mul_of_pos_right, pow-succ'}
use native.Mathlib.Omega.{arith}
use mathlib.Core.Bool.{Bool, true, false, not, ◌&&◌, ◌||◌, cond, true≢false}
use lib.Dec.{T, lit<, leb, ltb, eqb, leb→le, le→leb, ltb→lt, lt→ltb, eqb→eq, eqb_refl, not_T, nltb→le, nleb→lt}
use lib.Arith.{lt→nleb}
use lib.Pow.{pow_pos, pow_mono}
use lib.Ieee.{Float, nan, inf, fin, binary64, up, down, odd, of_fields, of_bits, is_nan, neg, le}
use lib.Ieee.Bits.{is_true, is_false, cond_no, nan_bits_is, nan_bits_above}
use lib.Ieee.Exact.{HasValue, odd_sign}
use lib.Ieee.Fits.{down_pos, and_l}
use lib.Ieee.Order.{transfer}
use Rattle.format.specs.Value.{is_position}

-- from -k to k, where k is given by its bits
abbrev pub in_range : ℕ → Float → Bool
in_range k x = le (neg (of_bits binary64 k)) x && le x (of_bits binary64 k)

abbrev hid : ℕ
hid = 4503599627370496

abbrev top : ℕ
top = 9223372036854775808

-- ---- the size of a finite float, in units of the smallest, by its exponent's field and its digits
abbrev units_at : ℕ → ℕ → ℕ
units_at zero t = t
units_at (suc x) t = (hid + t) * 2 ^ x

abbrev units : ℕ → ℕ
units m = units_at (m / hid) (m % hid)

differ : (x : ℕ) → suc x < 2047 → suc x ≡ 2047 → ⊥
differ x l e = omega arith

fields_value : (s : Bool) (x t : ℕ) → x < 2047 → HasValue (of_fields binary64 s x t) s (units_at x t) (2 ^ 1074)
unfolding of_fields
fields_value s zero t l = subst (λ (n : ℕ). HasValue (odd 53 s t 0 1074) s n (2 ^ 1074)) (mul-one t) (odd_sign 53 s t 0 1074)
fields_value s (suc x) t l =
    subst (λ (v : Float). HasValue v s ((hid + t) * 2 ^ x) (2 ^ 1074))
    (sym (cond_no (eqb (suc x) 2047) (cond (eqb t 0) (inf s) nan) (odd 53 s (hid + t) x 1074) (not_T (eqb (suc x) 2047) (λ (u : T (eqb (suc x) 2047)). differ x l (eqb→eq (suc x) 2047 u)))))
    (odd_sign 53 s (hid + t) x 1074)

of_bits_is : (b : ℕ) → of_bits binary64 b ≡ of_fields binary64 (leb top b) (b % top / hid) (b % hid)
unfolding of_bits
of_bits_is b = refl

digits_same : (b : ℕ) → b % top % hid ≡ b % hid
digits_same b = omega arith

field_lt : (m : ℕ) → m < 2047 * hid → m / hid < 2047
field_lt m l = omega arith

bits_value : (b : ℕ) → b % top < 2047 * hid → HasValue (of_bits binary64 b) (leb top b) (units (b % top)) (2 ^ 1074)
bits_value b l =
    subst (λ (v : Float). HasValue v (leb top b) (units (b % top)) (2 ^ 1074)) (sym (of_bits_is b))
    (subst (λ (t : ℕ). HasValue (of_fields binary64 (leb top b) (b % top / hid) t) (leb top b) (units (b % top)) (2 ^ 1074)) (digits_same b)
    (fields_value (leb top b) (b % top / hid) (b % top % hid) (field_lt (b % top) l)))

-- ---- a larger pattern stands for a larger number
twice : (t : ℕ) → t < hid → hid + t < hid * 2
twice t l = omega arith

fields_le : (x t y u : ℕ) → u < hid → suc x * hid + t < suc y * hid + u → x ≤ y
fields_le x t y u l k = omega arith

digits_lt : (x t y u : ℕ) → x ≡ y → suc x * hid + t < suc y * hid + u → hid + t < hid + u
digits_lt x t y u e k = omega arith

no_less : (x t u : ℕ) → u < hid → suc x * hid + t < 0 * hid + u → ⊥
no_less x t u l k = omega arith

grown : (t u : ℕ) → t < hid → t < hid + u
grown t u l = omega arith

units_lt : (x t y u : ℕ) → t < hid → u < hid → x * hid + t < y * hid + u → units_at x t < units_at y u
units_lt zero t zero u T U l = omega arith
units_lt zero t (suc y) u T U l = lt_of_lt_of_le (grown t u T) (le_trans (le_of_eq (sym (mul-one (hid + u)))) (mul-le-mul_left (hid + u) (pow_pos y)))
units_lt (suc x) t zero u T U l = absurd (no_less x t u U l)
units_lt (suc x) t (suc y) u T U l =
    elim (eq-or-lt_of_le (fields_le x t y u U l)) [
      | inl e ↦ subst (λ (z : ℕ). (hid + t) * 2 ^ x < (hid + u) * 2 ^ z) e (mul-lt-mul_of_pos_right (digits_lt x t y u e l) (pow_pos x))
      | inr k ↦
          lt_of_lt_of_le (mul-lt-mul_of_pos_right (twice t T) (pow_pos x))
          (le_trans (le_of_eq (mul_assoc hid 2 (2 ^ x) ∙ ap (λ (z : ℕ). hid * z) (sym (pow-succ' 2 x))))
          (le_trans (mul-le-mul_left hid (pow_mono k)) (mul-le-mul_right (2 ^ y) (more u))))
    ]
  where
    more : (u : ℕ) → hid ≤ hid + u
    more u = omega arith

two_fields : (m n : ℕ) → m < n → m / hid * hid + m % hid < n / hid * hid + n % hid
two_fields m n l = omega arith

digits_in : (m : ℕ) → m % hid < hid
digits_in m = omega arith

units_grow : (m n : ℕ) → m < n → units m < units n
units_grow m n l = units_lt (m / hid) (m % hid) (n / hid) (n % hid) (digits_in m) (digits_in n) (two_fields m n l)

same_test : (a b : Bool) → (T a → T b) → (T b → T a) → a ≡ b
same_test true true p q = refl
same_test true false p q = absurd (p tt)
same_test false true p q = absurd (q tt)
same_test false false p q = refl

yes_or_no : (a : Bool) → T a ⊎ T (not a)
yes_or_no true = inl tt
yes_or_no false = inr tt

by_cases : (m n : ℕ) → (m ≤ n) ⊎ (n < m)
by_cases m n = elim (yes_or_no (leb m n)) [ inl t ↦ inl (leb→le m n t) | inr t ↦ inr (nleb→lt m n t) ]

-- the order of two patterns is that of the numbers
units_leb : (m k : ℕ) → leb (units m) (units k) ≡ leb m k
units_leb m k =
    same_test (leb (units m) (units k)) (leb m k)
    (λ t. elim (by_cases m k) [ inl l ↦ le→leb m k l | inr l ↦ absurd (not-le_of_lt (units_grow k m l) (leb→le (units m) (units k) t)) ])
    (λ t. le→leb (units m) (units k) (elim (eq-or-lt_of_le (leb→le m k t)) [ inl e ↦ le_of_eq (ap units e) | inr l ↦ le_of_lt (units_grow m k l) ]))

-- ---- the comparison of two floats of known size
-- a number below 0, or -0, is at most one that is not below 0
nothing_both : (a b : ℕ) → a + b ≤ 0 → (a ≡ 0) × (b ≡ 0)
nothing_both a b l = (omega arith, omega arith)

or_true : (z : Bool) → (z || true) ≡ true
or_true true = refl
or_true false = refl

below_zero : (a b : ℕ) → (ltb 0 (a + b) || (eqb a b && (false || eqb a 0))) ≡ true
below_zero a b =
    elim (yes_or_no (ltb 0 (a + b))) [
      | inl t ↦ ap (λ (z : Bool). z || (eqb a b && (false || eqb a 0))) (is_true (ltb 0 (a + b)) t)
      | inr t ↦
          let e = nothing_both a b (nltb→le 0 (a + b) t) in
          ap (λ (x : ℕ). ltb 0 (x + b) || (eqb x b && (false || eqb x 0))) e.0 ∙ ap (λ (y : ℕ). ltb 0 (0 + y) || (eqb 0 y && (false || eqb 0 0))) e.1
    ]

-- less or equal, as one test
le_is : (a b : ℕ) → (ltb a b || (eqb a b && true)) ≡ leb a b
le_is a b =
    same_test (ltb a b || (eqb a b && true)) (leb a b)
    (λ t. le→leb a b (elim (yes_or_no (ltb a b)) [
      | inl l ↦ le_of_lt (ltb→lt a b l)
      | inr l ↦ le_of_eq (eqb→eq a b (and_l (eqb a b) true (subst (λ (z : Bool). T (z || (eqb a b && true))) (is_false (ltb a b) l) t)))
    ]))
    (λ t. elim (eq-or-lt_of_le (leb→le a b t)) [
      | inl e ↦ subst (λ (x : ℕ). T (ltb a x || (eqb a x && true))) e (subst (λ (z : Bool). T (ltb a a || (z && true))) (sym (is_true (eqb a a) (eqb_refl a))) (subst T (sym (or_true (ltb a a))) tt))
      | inr l ↦ subst (λ (z : Bool). T (z || (eqb a b && true))) (sym (is_true (ltb a b) (lt→ltb a b l))) tt
    ])

-- the same with the equation the other way round
le_is' : (a b : ℕ) → (ltb a b || (eqb b a && true)) ≡ leb a b
le_is' a b = ap (λ (z : Bool). ltb a b || (z && true)) (same_test (eqb b a) (eqb a b) (turned b a) (turned a b)) ∙ le_is a b
  where
    turned : (x y : ℕ) → T (eqb x y) → T (eqb y x)
    turned x y t = subst (λ (z : ℕ). T (eqb z x)) (eqb→eq x y t) (eqb_refl x)

-- x / de is a / l and y / dd is c / l
cross : (x y de dd a c l : ℕ) → 0 < l → 0 < de → 0 < dd → x * l ≡ a * de → y * l ≡ c * dd → leb (x * dd) (y * de) ≡ leb a c
cross x y de dd a c l L E D p q =
    same_test (leb (x * dd) (y * de)) (leb a c)
    (λ t. le→leb a c (le_of_mul-le-mul_right (transfer a c l l x y de dd E D (sym p) (sym q) (leb→le (x * dd) (y * de) t)) L))
    (λ t. le→leb (x * dd) (y * de) (transfer x y de dd a c l l L L p q (mul-le-mul_right l (leb→le a c t))))

and_true : (z : Bool) → (z && true) ≡ z
and_true true = refl
and_true false = refl

within_value : (k x : Float) (s : Bool) (a c : ℕ) → HasValue k false c (2 ^ 1074) → HasValue x s a (2 ^ 1074) → (le (neg k) x && le x k) ≡ leb a c
unfolding le neg
within_value nan x s a c p q = absurd p
within_value (inf t) x s a c p q = absurd p
within_value (fin true n d) x s a c p q = absurd (true≢false p.0)
within_value (fin false n d) nan s a c p q = absurd q
within_value (fin false n d) (inf t) s a c p q = absurd q
within_value (fin false n d) (fin false m e) s a c p q =
    ap (λ (z : Bool). z && (ltb (m * up e * down d) (n * up d * down e) || (eqb (m * up e * down d) (n * up d * down e) && true))) (below_zero (n * up d * down e) (m * up e * down d))
    ∙ le_is (m * up e * down d) (n * up d * down e)
    ∙ cross (m * up e) (n * up d) (down e) (down d) a c (2 ^ 1074) (pow_pos 1074) (down_pos e) (down_pos d) q.1 p.1
within_value (fin false n d) (fin true m e) s a c p q =
    ap (λ (z : Bool). (ltb (m * up e * down d) (n * up d * down e) || (eqb (n * up d * down e) (m * up e * down d) && true)) && z) (below_zero (m * up e * down d) (n * up d * down e))
    ∙ and_true (ltb (m * up e * down d) (n * up d * down e) || (eqb (n * up d * down e) (m * up e * down d) && true))
    ∙ le_is' (m * up e * down d) (n * up d * down e)
    ∙ cross (m * up e) (n * up d) (down e) (down d) a c (2 ^ 1074) (pow_pos 1074) (down_pos e) (down_pos d) q.1 p.1

-- ---- what is no number, or has no size, is in no range
nan_out : (k x : Float) → T (is_nan x) → (le (neg k) x && le x k) ≡ false
unfolding le neg is_nan
nan_out nan nan t = refl
nan_out (inf s) nan t = refl
nan_out (fin s m e) nan t = refl
nan_out k (inf s) t = absurd t
nan_out k (fin s m e) t = absurd t

inf_out : (k : Float) (s : Bool) (c : ℕ) → HasValue k false c (2 ^ 1074) → (le (neg k) (inf s) && le (inf s) k) ≡ false
unfolding le neg
inf_out nan s c p = absurd p
inf_out (inf t) s c p = absurd p
inf_out (fin t n d) true c p = refl
inf_out (fin t n d) false c p = refl

below_top : (k : ℕ) → k < 2047 * hid → k % top ≡ k
below_top k l = omega arith

k_value : (k : ℕ) → k < 2047 * hid → HasValue (of_bits binary64 k) false (units k) (2 ^ 1074)
k_value k l =
    subst (λ (s : Bool). HasValue (of_bits binary64 k) s (units k) (2 ^ 1074)) (is_false (leb top k) (lt→nleb top k (small k l)))
    (subst (λ (m : ℕ). HasValue (of_bits binary64 k) (leb top k) (units m) (2 ^ 1074)) (below_top k l) (bits_value k (subst (λ (m : ℕ). m < 2047 * hid) (sym (below_top k l)) l)))
  where
    small : (k : ℕ) → k < 2047 * hid → k < top
    small k l = omega arith

at_inf : (b : ℕ) → 2047 * hid ≡ b % top → of_bits binary64 b ≡ inf (leb top b)
unfolding of_fields
at_inf b e =
    of_bits_is b
    ∙ ap (λ (x : ℕ). of_fields binary64 (leb top b) x (b % hid)) (field b e)
    ∙ ap (λ (t : ℕ). of_fields binary64 (leb top b) 2047 t) (digits b e)
  where
    field : (b : ℕ) → 2047 * hid ≡ b % top → b % top / hid ≡ 2047
    field b e = omega arith

    digits : (b : ℕ) → 2047 * hid ≡ b % top → b % hid ≡ 0
    digits b e = omega arith

-- the test on floats is the test on the bits without the sign
pub within_bits : (k b : ℕ) → k < 2047 * hid → in_range k (of_bits binary64 b) ≡ leb (b % top) k
within_bits k b l =
    elim (by_cases (2047 * hid) (b % top)) [
      | inl big ↦ out big ∙ sym (is_false (leb (b % top) k) (lt→nleb (b % top) k (lt_of_lt_of_le l big)))
      | inr fine ↦ within_value (of_bits binary64 k) (of_bits binary64 b) (leb top b) (units (b % top)) (units k) (k_value k l) (bits_value b fine) ∙ units_leb (b % top) k
    ]
  where
    out : 2047 * hid ≤ b % top → in_range k (of_bits binary64 b) ≡ false
    out big =
        elim (eq-or-lt_of_le big) [
          | inl e ↦ ap (λ (x : Float). le (neg (of_bits binary64 k)) x && le x (of_bits binary64 k)) (at_inf b e) ∙ inf_out (of_bits binary64 k) (leb top b) (units k) (k_value k l)
          | inr m ↦ nan_out (of_bits binary64 k) (of_bits binary64 b) (subst T (sym (nan_bits_above binary64 b) ∙ nan_bits_is binary64 b) (lt→ltb (2047 * hid) (b % top) m))
        ]

-- a position by its numbers: longitude from -180 to 180, latitude from -90 to 90
pub position_range : (n : ℕ) → is_position n ≡ (in_range 0x4066800000000000 (of_bits binary64 (n / 2 ^ 64)) && in_range 0x4056800000000000 (of_bits binary64 (n % 2 ^ 64)))
position_range n = sym (ap₂ ◌&&◌ (within_bits 0x4066800000000000 (n / 2 ^ 64) (lit< tt)) (within_bits 0x4056800000000000 (n % 2 ^ 64) (lit< tt)))
