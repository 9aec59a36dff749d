-- What a buffer is after a part of it was lent and written from its start: the bytes stand at the part's place, and the rest is as it was.
use mathlib.Core.Path.{◌≡◌, refl, sym, ap, ap₂, ◌∙◌}
use mathlib.Core.Bool.{Bool, true, false, ◌||◌}
use Prim.Native.Nat.{ℕ, zero, suc, ◌+◌, ◌-◌, ◌*◌, ◌<◌, ◌≤◌, ◌^◌, ◌/◌, ◌%◌}
use native.Mathlib.Nat.{le_of_eq, add_assoc, zero-add, add-zero, le_trans, le-add_right, pow-zero, pow-suc, pow-succ', mul_assoc, add_comm, one-le-pow, mul-add-div_right, mul-add-mod_self_right, div-one, div-div-eq-div-mul}
use native.Mathlib.Omega.{arith}
use mathlib.Core.List.{List, [], ◌∷◌, ◌++◌, append_assoc, append-nil}
use mathlib.Core.Option.{some, none}
use lib.ListN.{length, take, drop, set, get_or, length-append, length-drop, take-append-drop}
use lib.Seq.{take_all, take_at, take-length, drop_at, drop-drop, drop-length, length-take-le, set_split, take-take, set-append_left, drop-append-add, drop-cons, take-append-le, take-add, sets-eq, paste}
use lib.Arith.{digits_div}
use lib.Pow.{pow-add}
use lib.Dec.{eqb, lit≤}
use borrow.Rule.Slice.PartMut.{mid_of, put_mid, post_of}
use Rattle.format.specs.Result.{pick}
use Rattle.format.specs.Number.{num_bytes, null4}
use Rattle.format.specs.Value.{width_of, t_tinyint, t_smallint, t_integer, t_bigint, t_float, t_timestamp, t_decimal, t_point}
use Rattle.format.proofs.Numbers.{length-num_bytes}
use Rattle.put.specs.Put.{put, optional, sized}

back : (n a : ℕ) → a ≤ n → a + (n - a) ≡ n
back n a l = omega arith

-- a part from `a` on is lent, and comes back with bs at its start
pub lent : (xs : List ℕ) (a : ℕ) (bs ys : List ℕ) → a + length bs ≤ length xs → ys ≡ bs ++ drop (length bs) (mid_of a (length xs - a) xs)
    → put_mid a (length xs - a) xs ys ≡ put xs a bs
unfolding put
lent xs a bs ys l e =
    let whole : mid_of a (length xs - a) xs ≡ drop a xs = take_all (length xs - a) (drop a xs) (le_of_eq (length-drop a xs)) in
    let none : post_of a (length xs - a) xs ≡ [] = drop-drop (length xs - a) a xs ∙ ap (λ (n : ℕ). drop n xs) (back (length xs) a (le_trans (le-add_right a (length bs)) l)) ∙ drop-length xs in
    ap (λ (zs : List ℕ). take a xs ++ (ys ++ zs)) none
    ∙ ap (λ (zs : List ℕ). take a xs ++ zs) (append-nil ys ∙ e ∙ ap (λ (zs : List ℕ). bs ++ drop (length bs) zs) whole)
    ∙ ap (λ (zs : List ℕ). take a xs ++ (bs ++ zs)) (drop-drop (length bs) a xs)

pub put_length : (xs : List ℕ) (a : ℕ) (bs : List ℕ) → a + length bs ≤ length xs → length (put xs a bs) ≡ length xs
unfolding put
put_length xs a bs l =
    length-append (take a xs) (bs ++ drop (a + length bs) xs)
    ∙ ap (λ (n : ℕ). length (take a xs) + n) (length-append bs (drop (a + length bs) xs))
    ∙ ap (λ (n : ℕ). n + (length bs + length (drop (a + length bs) xs))) (length-take-le a xs (le_trans (le-add_right a (length bs)) l))
    ∙ ap (λ (n : ℕ). a + (length bs + n)) (length-drop (a + length bs) xs)
    ∙ add_up a (length bs) (length xs) l
  where
    add_up : (a b n : ℕ) → a + b ≤ n → a + (b + (n - (a + b))) ≡ n
    add_up a b n l = omega arith

-- bytes put after bytes are both put at once
pub twice : (xs : List ℕ) (a : ℕ) (bs cs : List ℕ) → a + length bs ≤ length xs → put (put xs a bs) (a + length bs) cs ≡ put xs a (bs ++ cs)
unfolding put
twice xs a bs cs l =
    let p = take a xs ++ bs in
    let d = drop (a + length bs) xs in
    let whole : take a xs ++ (bs ++ d) ≡ p ++ d = sym (append_assoc (take a xs) bs d) in
    let n : length p ≡ a + length bs = length-append (take a xs) bs ∙ ap (λ (n : ℕ). n + length bs) (length-take-le a xs (le_trans (le-add_right a (length bs)) l)) in
    let front : take (a + length bs) (take a xs ++ (bs ++ d)) ≡ p = ap (take (a + length bs)) whole ∙ take_at p d (a + length bs) n in
    let rear : drop (a + length bs + length cs) (take a xs ++ (bs ++ d)) ≡ drop (a + length bs + length cs) xs =
    sym (drop-drop (length cs) (a + length bs) (take a xs ++ (bs ++ d)))
    ∙ ap (λ (zs : List ℕ). drop (length cs) (drop (a + length bs) zs)) whole
    ∙ ap (drop (length cs)) (drop_at p d (a + length bs) n)
    ∙ drop-drop (length cs) (a + length bs) xs in
    ap (λ (zs : List ℕ). zs ++ (cs ++ drop (a + length bs + length cs) (take a xs ++ (bs ++ d)))) front
    ∙ ap (λ (zs : List ℕ). p ++ (cs ++ zs)) rear
    ∙ append_assoc (take a xs) bs (cs ++ drop (a + length bs + length cs) xs)
    ∙ ap (λ (zs : List ℕ). take a xs ++ zs) (sym (append_assoc bs cs (drop (a + length bs + length cs) xs)))
    ∙ ap (λ (m : ℕ). take a xs ++ ((bs ++ cs) ++ drop m xs)) (add_assoc a (length bs) (length cs) ∙ ap (λ (m : ℕ). a + m) (sym (length-append bs cs)))

-- a byte stored just before what was written
pub store_before : (xs : List ℕ) (i : ℕ) (v : ℕ) (ys : List ℕ) → 0 < i → i ≤ length xs → set (take i xs ++ ys) (i - 1) v ≡ take (i - 1) xs ++ (v ∷ ys)
store_before xs i v ys p l =
    let n : length (take i xs) ≡ i = length-take-le i xs l in
    let h : i - 1 < length (take i xs) = omega arith in
    let s = set-append_left (take i xs) ys (i - 1) v h in
    let t : suc (i - 1) ≡ i = omega arith in
    let u : set (take i xs) (i - 1) v ≡ take (i - 1) xs ++ (v ∷ []) = set_split (take i xs) (i - 1) v h
    ∙ ap (λ (zs : List ℕ). zs ++ (v ∷ drop (suc (i - 1)) (take i xs))) (take-take (i - 1) i xs (omega arith))
    ∙ ap (λ (zs : List ℕ). take (i - 1) xs ++ (v ∷ zs)) (ap (λ (m : ℕ). drop m (take i xs)) (t ∙ sym n) ∙ drop-length (take i xs)) in
    s ∙ ap (λ (zs : List ℕ). zs ++ ys) u ∙ append_assoc (take (i - 1) xs) (v ∷ []) ys

-- a number is written from its last byte to its first: what is written so far, and what is left of the number
pub record Wrote (xs : List ℕ) (n k i rest : ℕ) (ys : List ℕ) : Type 0 where
  pub inside : i ≤ k
  pub room : k ≤ length xs
  pub left : rest ≡ n / 256 ^ (k - i)
  pub so_far : ys ≡ take i xs ++ (num_bytes (k - i) n ++ drop k xs)

pub wrote_none : (xs : List ℕ) (n k : ℕ) → k ≤ length xs → Wrote xs n k k n xs
unfolding num_bytes
wrote_none xs n k h =
    let z : k - k ≡ 0 = omega arith in
    record { inside = omega arith; room = h; left = rw (z, pow-zero, div-one); so_far = rw z (sym (take-append-drop k xs)) }

pub wrote_more : (xs : List ℕ) (n k i rest : ℕ) (ys : List ℕ) → 0 < i → Wrote xs n k i rest ys → Wrote xs n k (i - 1) (rest / 256) (set ys (i - 1) (rest % 256))
unfolding num_bytes
wrote_more xs n k i rest ys p w =
    let h : i ≤ k = w.inside in
    let r : k ≤ length xs = w.room in
    let s : k - (i - 1) ≡ suc (k - i) = omega arith in
    let less : rest / 256 ≡ n / 256 ^ suc (k - i) = rw (w.left, pow-suc, div-div-eq-div-mul) in
    record {
      inside = omega arith;
      room = r;
      left = rw s less;
      so_far = rw s (ap (λ (zs : List ℕ). set zs (i - 1) (rest % 256)) w.so_far ∙ store_before xs i (rest % 256) (num_bytes (k - i) n ++ drop k xs) p (le_trans h r)
          ∙ ap (λ (m : ℕ). take (i - 1) xs ++ (m % 256 ∷ (num_bytes (k - i) n ++ drop k xs))) w.left);
    }

pub wrote_length : (xs : List ℕ) (n k i rest : ℕ) (ys : List ℕ) → Wrote xs n k i rest ys → length ys ≡ length xs
wrote_length xs n k i rest ys w =
    let a = length-append (take i xs) (num_bytes (k - i) n ++ drop k xs) in
    let b = length-append (num_bytes (k - i) n) (drop k xs) in
    let c = length-num_bytes (k - i) n in
    let d = length-take-le i xs (le_trans w.inside w.room) in
    let e = length-drop k xs in
    let h : i ≤ k = w.inside in
    let r : k ≤ length xs = w.room in
    omega (arith, ap length w.so_far)

-- four bytes, stored one after the other, are a number's
pub four_stored : (xs : List ℕ) (n : ℕ) → 4 ≤ length xs → set (set (set (set xs 0 (n / 16777216 % 256)) 1 (n / 65536 % 256)) 2 (n / 256 % 256)) 3 (n % 256) ≡ num_bytes 4 n ++ drop 4 xs
unfolding num_bytes
four_stored [] n h = absurd (omega arith)
four_stored (a ∷ []) n h = absurd (omega arith)
four_stored (a ∷ (b ∷ [])) n h = absurd (omega arith)
four_stored (a ∷ (b ∷ (c ∷ []))) n h = absurd (omega arith)
four_stored (a ∷ (b ∷ (c ∷ (d ∷ xs)))) n h = ap (λ (m : ℕ). n / 16777216 % 256 ∷ (n / 65536 % 256 ∷ (n / 256 % 256 ∷ (m % 256 ∷ xs)))) (sym (div-one n))

-- a copy, from the first byte to the last
pub copied_all : (xs s : List ℕ) (i : ℕ) → i ≡ length s → paste xs 0 s i ≡ s ++ drop (length s) xs
copied_all xs s i e = rw (e, take-length, zero-add)

-- the k bytes from a place on, each read by itself
abbrev each : List ℕ → ℕ → ℕ → List ℕ
each s i zero = []
each s i (suc k) = get_or s i 0 ∷ each s (suc i) k

each_is : (s : List ℕ) (i k : ℕ) → i + k ≤ length s → each s i k ≡ take k (drop i s)
each_is s i zero h = refl
each_is s i (suc k) h = ap (λ (r : List ℕ). get_or s i 0 ∷ r) (each_is s (suc i) k (omega arith)) ∙ sym (ap (take (suc k)) (drop-cons s i 0 (omega arith)))

-- eight bytes, read and then stored one after the other, are put at once
pub eight_copied : (xs s : List ℕ) (i : ℕ) → i + 8 ≤ length s → length s ≤ length xs
    → set (set (set (set (set (set (set (set xs i (get_or s i 0)) (i + 1) (get_or s (i + 1) 0)) (i + 2) (get_or s (i + 2) 0)) (i + 3) (get_or s (i + 3) 0)) (i + 4) (get_or s (i + 4) 0)) (i + 5) (get_or s (i + 5) 0)) (i + 6) (get_or s (i + 6) 0)) (i + 7) (get_or s (i + 7) 0)
    ≡ put xs i (take 8 (drop i s))
unfolding put
eight_copied xs s i h l =
    let e₁ : i + 1 ≡ suc i = omega arith in
    let e₂ : i + 2 ≡ suc (suc i) = omega arith in
    let e₃ : i + 3 ≡ suc (suc (suc i)) = omega arith in
    let e₄ : i + 4 ≡ suc (suc (suc (suc i))) = omega arith in
    let e₅ : i + 5 ≡ suc (suc (suc (suc (suc i)))) = omega arith in
    let e₆ : i + 6 ≡ suc (suc (suc (suc (suc (suc i))))) = omega arith in
    let e₇ : i + 7 ≡ suc (suc (suc (suc (suc (suc (suc i)))))) = omega arith in
    rw (e₁, e₂, e₃, e₄, e₅, e₆, e₇) (sets-eq (each s i 8) xs i (omega arith))
    ∙ append_assoc (take i xs) (each s i 8) (drop (i + 8) xs)
    ∙ ap (λ (bs : List ℕ). take i xs ++ (bs ++ drop (i + length bs) xs)) (each_is s i 8 h)

-- eight bytes more of a copy, some of which may stand there already
pub copied_eight : (xs s : List ℕ) (k j : ℕ) → j ≤ k → k ≤ j + 8 → j + 8 ≤ length s → length s ≤ length xs → put (paste xs 0 s k) j (take 8 (drop j s)) ≡ paste xs 0 s (j + 8)
unfolding put
copied_eight xs s k j a b h l =
    let n : length (take k s) ≡ k = length-take-le k s (omega arith) in
    let m : length (take 8 (drop j s)) ≡ 8 = length-take-le 8 (drop j s) (rw length-drop (omega arith)) in
    let front : take j (take k s ++ drop (0 + k) xs) ≡ take j s = take-append-le j (take k s) (drop (0 + k) xs) (omega arith) ∙ take-take j k s a in
    let sum : j + length (take 8 (drop j s)) ≡ length (take k s) + (j + 8 - k) = omega arith in
    let end : 0 + k + (j + 8 - k) ≡ 0 + (j + 8) = omega arith in
    let rear : drop (j + length (take 8 (drop j s))) (take k s ++ drop (0 + k) xs) ≡ drop (0 + (j + 8)) xs =
    ap (λ (x : ℕ). drop x (take k s ++ drop (0 + k) xs)) sum
    ∙ drop-append-add (take k s) (drop (0 + k) xs) (j + 8 - k)
    ∙ drop-drop (j + 8 - k) (0 + k) xs
    ∙ ap (λ (x : ℕ). drop x xs) end in
    ap₂ (λ (x y : List ℕ). x ++ (take 8 (drop j s) ++ y)) front rear
    ∙ sym (append_assoc (take j s) (take 8 (drop j s)) (drop (0 + (j + 8)) xs))
    ∙ ap (λ (x : List ℕ). x ++ drop (0 + (j + 8)) xs) (sym (take-add j 8 s))

-- the same for k bytes
pub lent_sized : (k : ℕ) (xs : List ℕ) (a : ℕ) (bs ys : List ℕ) → length bs ≡ k → a + k ≤ length xs → ys ≡ bs ++ drop k (mid_of a (length xs - a) xs)
    → put_mid a (length xs - a) xs ys ≡ put xs a bs
lent_sized k xs a bs ys n l e = lent xs a bs ys (rw n l) (rw n e)

-- nothing is put
pub put_nothing : (xs : List ℕ) (a : ℕ) → put xs a [] ≡ xs
unfolding put
put_nothing xs a = rw add-zero (take-append-drop a xs)

-- k bytes bs, put into b at a place, end at m and leave c
pub record Puts (b : List ℕ) (at k : ℕ) (bs : List ℕ) (m : ℕ) (c : List ℕ) : Type 0 where
  pub is : c ≡ put b at bs
  pub size : length bs ≡ k
  pub ends : m ≡ at + k
  pub fits : at + k ≤ length b
  pub kept : length c ≡ length b

pub puts : (b : List ℕ) (at k : ℕ) (bs : List ℕ) {m : ℕ} {c : List ℕ} → length bs ≡ k → at + k ≤ length b → (m ≡ at + k) × (c ≡ put b at bs) → Puts b at k bs m c
puts b at k bs l f e = record { is = e.1; size = l; ends = e.0; fits = f; kept = ap length e.1 ∙ put_length b at bs (rw l f) }

pub puts_number : (b : List ℕ) (at k n : ℕ) {m : ℕ} {c : List ℕ} → at + k ≤ length b → (m ≡ at + k) × (c ≡ put b at (num_bytes k n)) → Puts b at k (num_bytes k n) m c
puts_number b at k n f e = puts b at k (num_bytes k n) (length-num_bytes k n) f e

-- one after the other
pub puts_both : {b : List ℕ} {at k : ℕ} {bs : List ℕ} {m : ℕ} {c : List ℕ} {j : ℕ} {cs : List ℕ} {m' : ℕ} {d : List ℕ}
    → Puts b at k bs m c → Puts c m j cs m' d → Puts b at (k + j) (bs ++ cs) m' d
puts_both {b} {at} {k} {bs} {m} {c} {j} {cs} {m'} {d} p q =
    let e₀ : m ≡ at + k = p.ends in
    let e₁ : m' ≡ m + j = q.ends in
    let e₂ : m + j ≤ length c = q.fits in
    let e₃ : length c ≡ length b = p.kept in
    record {
      is = q.is ∙ ap (λ (x : List ℕ). put x m cs) p.is ∙ ap (λ (x : ℕ). put (put b at bs) x cs) (e₀ ∙ ap (λ (x : ℕ). at + x) (sym p.size)) ∙ twice b at bs cs (rw p.size p.fits);
      size = length-append bs cs ∙ rw (p.size, q.size);
      ends = omega arith;
      fits = omega arith;
      kept = q.kept ∙ p.kept;
    }

-- what stands above k bytes is not in them
num_bytes_low : (k h n : ℕ) → num_bytes k (h * 256 ^ k + n) ≡ num_bytes k n
unfolding num_bytes
num_bytes_low zero h n = refl
num_bytes_low (suc k) h n =
    let e : h * 256 ^ suc k ≡ h * 256 * 256 ^ k = rw (pow-succ', mul_assoc) in
    ap₂ ◌∷◌ (rw (e, mul-add-div_right (one-le-pow k 256 (omega arith)), mul-add-mod_self_right)) (rw e (num_bytes_low k (h * 256) n))

pub num_bytes_split : (j k n : ℕ) → num_bytes (j + k) n ≡ num_bytes j (n / 256 ^ k) ++ num_bytes k n
unfolding num_bytes
num_bytes_split zero k n = ap (λ (m : ℕ). num_bytes m n) (zero-add k)
num_bytes_split (suc j) k n =
    let e : suc j + k ≡ suc (j + k) = omega arith in
    rw e (ap₂ ◌∷◌ (ap (λ (m : ℕ). m % 256) (ap (λ (m : ℕ). n / m) (ap (λ (m : ℕ). 256 ^ m) (add_comm j k) ∙ pow-add 256 k j) ∙ sym (div-div-eq-div-mul n (256 ^ k) (256 ^ j)))) (num_bytes_split j k n))

-- a number of 16 bytes is its halves', and a shorter one is in the lower half
pub halves : (hi lo : ℕ) → lo < 2 ^ 64 → num_bytes 16 (hi * 2 ^ 64 + lo) ≡ num_bytes 8 hi ++ num_bytes 8 lo
halves hi lo h =
    let upper : (hi * 2 ^ 64 + lo) / 256 ^ 8 ≡ hi = digits_div hi h in
    num_bytes_split 8 8 (hi * 2 ^ 64 + lo) ∙ ap₂ ◌++◌ (ap (num_bytes 8) upper) (num_bytes_low 8 hi lo)

pub lower_half : (k hi lo : ℕ) → k ≤ 8 → num_bytes k (hi * 2 ^ 64 + lo) ≡ num_bytes k lo
lower_half k hi lo h =
    let e : (8 - k) + k ≡ 8 = omega arith in
    let f : hi * 2 ^ 64 ≡ hi * 256 ^ (8 - k) * 256 ^ k = ap (λ (m : ℕ). hi * 256 ^ m) (sym e) ∙ ap (λ (m : ℕ). hi * m) (pow-add 256 (8 - k) k) ∙ sym (mul_assoc hi (256 ^ (8 - k)) (256 ^ k)) in
    rw f (num_bytes_low k (hi * 256 ^ (8 - k)) lo)

-- what holds of each width that there is holds of a type's
pub widths : (P : ℕ → Type 0) → P 0 → P 1 → P 2 → P 4 → P 8 → P 16 → (t : ℕ) → P (width_of t)
widths P p0 p1 p2 p4 p8 p16 t =
    either (eqb t t_tinyint) p1
    (either (eqb t t_smallint) p2
    (either (eqb t t_integer) p4
    (either (eqb t t_bigint || (eqb t t_float || eqb t t_timestamp)) p8
    (either (eqb t t_decimal || eqb t t_point) p16 p0))))
  where
    either : (b : Bool) {m n : ℕ} → P m → P n → P (pick b m n)
    either true p q = p
    either false p q = q

-- a value of a fixed size that has not 16 bytes has at most 8
pub narrow : (t : ℕ) → (width_of t ≡ 16 → ⊥) → width_of t ≤ 8
narrow = widths (λ w. (w ≡ 16 → ⊥) → w ≤ 8) (λ n. lit≤ tt) (λ n. lit≤ tt) (λ n. lit≤ tt) (λ n. lit≤ tt) (λ n. lit≤ tt) (λ n. absurd (n refl))

-- two parts, the first put at the start, the second behind it
pub front_two : (xs bs cs ys zs : List ℕ) (k j : ℕ) → length bs ≡ k → length cs ≡ j → k + j ≤ length xs → ys ≡ bs ++ drop k xs → zs ≡ cs ++ drop j (mid_of k (length ys - k) ys)
    → put_mid k (length ys - k) ys zs ≡ (bs ++ cs) ++ drop (k + j) xs
unfolding put
front_two xs bs cs ys zs k j l r f e g =
    let n : length ys ≡ length xs = ap length e ∙ simp (length-append, length-drop, l) (omega arith) in
    lent_sized j ys k cs zs r (rw n f) g
    ∙ ap (λ (w : List ℕ). take k w ++ (cs ++ drop (k + length cs) w)) e
    ∙ ap (λ (w : List ℕ). w ++ (cs ++ drop (k + length cs) (bs ++ drop k xs))) (take_at bs (drop k xs) k l)
    ∙ ap (λ (w : List ℕ). bs ++ (cs ++ w)) (ap (λ (m : ℕ). drop (m + length cs) (bs ++ drop k xs)) (sym l) ∙ drop-append-add bs (drop k xs) (length cs) ∙ drop-drop (length cs) k xs)
    ∙ sym (append_assoc bs cs (drop (k + length cs) xs))
    ∙ ap (λ (m : ℕ). (bs ++ cs) ++ drop (k + m) xs) r

-- how long a length and its bytes are
pub sized_null : length (sized none) ≡ 4
sized_null = length-num_bytes 4 null4

pub sized_some : (bs : List ℕ) → length (sized (some bs)) ≡ 4 + length bs
sized_some bs = length-append (num_bytes 4 (length bs)) bs ∙ ap (λ (m : ℕ). m + length bs) (length-num_bytes 4 (length bs))

-- bounds, so that sums in the code fit
pub width_most : (t : ℕ) → width_of t ≤ 16
width_most = widths (λ w. w ≤ 16) (lit≤ tt) (lit≤ tt) (lit≤ tt) (lit≤ tt) (lit≤ tt) (lit≤ tt)

pub sized_most : (null : Bool) (bs : List ℕ) → length (sized (optional null bs)) ≤ 4 + length bs
sized_most true bs = omega (arith, sized_null)
sized_most false bs = omega (arith, sized_some bs)
