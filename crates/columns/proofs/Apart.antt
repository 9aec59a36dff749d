-- Bytes that are put at two places which don't overlap can be put in either order.
use Prim.Native.Nat.{ℕ, ◌+◌, ◌-◌, ◌≤◌}
use native.Mathlib.Omega.{arith}
use mathlib.Core.Path.{◌≡◌, sym, ap, ap₂, ◌∙◌, subst}
use mathlib.Core.List.{List, ◌++◌, append_assoc}
use lib.ListN.{length, take, drop, length-append, length-drop, take-append-drop}
use lib.Seq.{take_at, drop_at, drop-drop, length-take-le}
use Rattle.put.specs.Put.{put}

-- a part of a list, by what stands before and behind it
put_in : (p q r bs : List ℕ) (a : ℕ) → length p ≡ a → length q ≡ length bs → put (p ++ (q ++ r)) a bs ≡ p ++ (bs ++ r)
unfolding put
put_in p q r bs a e f =
    let front = take_at p (q ++ r) a e in
    let rear : drop (a + length bs) (p ++ (q ++ r)) ≡ r = sym (drop-drop (length bs) a (p ++ (q ++ r))) ∙ ap (drop (length bs)) (drop_at p (q ++ r) a e) ∙ drop_at q r (length bs) f in
    ap₂ (λ (x y : List ℕ). x ++ (bs ++ y)) front rear

three : (p q r z : List ℕ) → (p ++ (q ++ r)) ++ z ≡ p ++ (q ++ (r ++ z))
three p q r z = append_assoc p (q ++ r) z ∙ ap (λ (x : List ℕ). p ++ x) (append_assoc q r z)

apart_in : (p q r s t bs cs : List ℕ) (a m : ℕ) → length p ≡ a → length q ≡ length bs → length (p ++ (q ++ r)) ≡ m → length (p ++ (bs ++ r)) ≡ m → length s ≡ length cs
    → put (put (p ++ (q ++ (r ++ (s ++ t)))) m cs) a bs ≡ put (put (p ++ (q ++ (r ++ (s ++ t)))) a bs) m cs
apart_in p q r s t bs cs a m e f g h k =
    let one : put (p ++ (q ++ (r ++ (s ++ t)))) m cs ≡ p ++ (q ++ (r ++ (cs ++ t)))
    = ap (λ (x : List ℕ). put x m cs) (sym (three p q r (s ++ t))) ∙ put_in (p ++ (q ++ r)) s t cs m g k ∙ three p q r (cs ++ t) in
    let two : put (p ++ (bs ++ (r ++ (s ++ t)))) m cs ≡ p ++ (bs ++ (r ++ (cs ++ t)))
    = ap (λ (x : List ℕ). put x m cs) (sym (three p bs r (s ++ t))) ∙ put_in (p ++ (bs ++ r)) s t cs m h k ∙ three p bs r (cs ++ t) in
    ap (λ (x : List ℕ). put x a bs) one ∙ put_in p q (r ++ (cs ++ t)) bs a e f
    ∙ sym (ap (λ (x : List ℕ). put x m cs) (put_in p q (r ++ (s ++ t)) bs a e f) ∙ two)

pub apart : (xs : List ℕ) (a : ℕ) (bs : List ℕ) (m : ℕ) (cs : List ℕ) → a + length bs ≤ m → m + length cs ≤ length xs → put (put xs m cs) a bs ≡ put (put xs a bs) m cs
apart xs a bs m cs h k =
    let j = m - (a + length bs) in
    let x₁ = drop a xs in
    let x₂ = drop (length bs) x₁ in
    let x₃ = drop j x₂ in
    let l₁ = length-drop a xs in
    let l₂ = length-drop (length bs) x₁ in
    let l₃ = length-drop j x₂ in
    let p = take a xs in
    let q = take (length bs) x₁ in
    let r = take j x₂ in
    let s = take (length cs) x₃ in
    let t = drop (length cs) x₃ in
    let e₁ : length p ≡ a = length-take-le a xs (omega arith) in
    let e₂ : length q ≡ length bs = length-take-le (length bs) x₁ (omega arith) in
    let e₃ : length r ≡ j = length-take-le j x₂ (omega arith) in
    let e₄ : length s ≡ length cs = length-take-le (length cs) x₃ (omega arith) in
    let whole : p ++ (q ++ (r ++ (s ++ t))) ≡ xs
    = ap (λ (x : List ℕ). p ++ (q ++ (r ++ x))) (take-append-drop (length cs) x₃) ∙ ap (λ (x : List ℕ). p ++ (q ++ x)) (take-append-drop j x₂)
    ∙ ap (λ (x : List ℕ). p ++ x) (take-append-drop (length bs) x₁) ∙ take-append-drop a xs in
    let n₁ = length-append p (q ++ r) in
    let n₂ = length-append q r in
    let n₃ = length-append p (bs ++ r) in
    let n₄ = length-append bs r in
    subst (λ (x : List ℕ). put (put x m cs) a bs ≡ put (put x a bs) m cs) whole (apart_in p q r s t bs cs a m e₁ e₂ (omega arith) (omega arith) e₄)
