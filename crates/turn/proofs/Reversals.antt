-- The bytes of some vertices, all reversed and then those of each, are the vertices in reverse order.
use Prim.Native.Nat.{ℕ, suc, ◌+◌, ◌-◌, ◌*◌, ◌≤◌}
use mathlib.Core.Path.{◌≡◌, refl, sym, ◌∙◌, ap}
use mathlib.Core.List.{List, [], ◌∷◌, ◌++◌, flat_map, reverse, reverse_aux, append_assoc, append-nil, reverse-append, reverse-reverse, reverse-cons}
use lib.ListN.{length, take, drop, length-append, length-reverse}
use lib.Seq.{take-append_seam, drop-append_seam}
use native.Mathlib.Omega.{arith}
use Rattle.std.proofs.lemmas.List.{drop-drop, drop-take}
use Rattle.turn.specs.Turning.{Each, Changing, Block, itself}
use Rattle.turn.proofs.Changes.{first_left}

-- a part of a list, reversed in its place
pub part_reversed : (s front c y : List ℕ) (from to : ℕ) → front ++ (c ++ y) ≡ s → length front ≡ from → length c + from ≡ to
    → take from s ++ (reverse (drop from (take to s)) ++ drop to s) ≡ front ++ (reverse c ++ y)
part_reversed s front c y from to e f t =
    let whole : front ++ c ++ y ≡ s = append_assoc front c y ∙ e in
    let long : length (front ++ c) ≡ to = length-append front c ∙ omega arith in
    let one : take from s ≡ front = rw (← e, ← f) (take-append_seam front (c ++ y)) in
    let two : take to s ≡ front ++ c = rw (← whole, ← long) (take-append_seam (front ++ c) y) in
    let three : drop to s ≡ y = rw (← whole, ← long) (drop-append_seam (front ++ c) y) in
    let four : drop from (front ++ c) ≡ c = rw (← f) (drop-append_seam front c) in
    rw (one, two, three, four)

-- a part that is lent, and comes back reversed
pub lent_reversed : (s : List ℕ) (from to : ℕ) → from ≤ to → {v : List ℕ} → v ≡ reverse (take (to - from) (drop from s))
    → take from s ++ (v ++ drop (to - from) (drop from s)) ≡ take from s ++ (reverse (drop from (take to s)) ++ drop to s)
lent_reversed s from to h {v} e =
    let n : from + (to - from) ≡ to = omega arith in
    let part : drop from (take to s) ≡ take (to - from) (drop from s) = rw n at (drop-take from (to - from) s) in
    let rest : drop (to - from) (drop from s) ≡ drop to s = rw n at (drop-drop (to - from) from s) in
    rw (e, part, rest)

-- one vertex more has its own order
pub mended : (s target : List ℕ) (at next left : ℕ) → at + 24 ≡ next → Changing reverse itself Block s target at (suc left) → {s' : List ℕ} → s' ≡ take at s ++ (reverse (drop at (take (at + 24) s)) ++ drop (at + 24) s)
    → Changing reverse itself Block s' target next left
mended s target at next left place h {s'} e =
    let f = first_left reverse itself Block h in
    let long : length (reverse f.one) + at ≡ at + 24 = omega (arith, length-reverse f.one, f.fine) in
    let part = part_reversed s f.front (reverse f.one) f.rest at (at + 24) f.stands f.place long in
    rw (f.fine, place) at (f.then s' (e ∙ part ∙ ap (λ (z : List ℕ). f.front ++ (z ++ f.rest)) (reverse-reverse f.one)))

flat_append : (f : List ℕ → List ℕ) (l m : List (List ℕ)) → flat_map f (l ++ m) ≡ flat_map f l ++ flat_map f m
unfolding flat_map
flat_append f [] m = refl
flat_append f (a ∷ l) m = ap (λ (z : List ℕ). f a ++ z) (flat_append f l m) ∙ sym (append_assoc (f a) (flat_map f l) (flat_map f m))

pub flat_reversed : (l : List (List ℕ)) → reverse (flat_map itself l) ≡ flat_map reverse (reverse l)
unfolding flat_map
flat_reversed [] = refl
flat_reversed (a ∷ l) =
    let last : flat_map reverse (a ∷ []) ≡ reverse a = append-nil (reverse a) in
    reverse-append a (flat_map itself l) ∙ rw (flat_reversed l, reverse-cons a l, flat_append reverse (reverse l) (a ∷ []), last)

-- reversing keeps the blocks, and how many bytes they have
each_aux : (l r : List (List ℕ)) → Each Block l → Each Block r → Each Block (reverse_aux l r)
each_aux [] r p q = q
each_aux (a ∷ l) r p q = each_aux l (a ∷ r) p.1 (p.0, q)

pub each_reversed : (l : List (List ℕ)) → Each Block l → Each Block (reverse l)
each_reversed l g = each_aux l [] g tt

pub flat_size : (l : List (List ℕ)) → Each Block l → length (flat_map itself l) ≡ 24 * length l
unfolding flat_map
flat_size [] g = refl
flat_size (a ∷ l) g = rw (length-append, g.0, flat_size l g.1) (omega arith)

-- what is left to mend when all bytes are reversed
pub to_mend : (s front : List ℕ) (blocks : List (List ℕ)) (back : List ℕ) (from n to : ℕ) → front ++ (flat_map itself blocks ++ back) ≡ s → length front ≡ from → length blocks ≡ n
    → Each Block blocks → to ≡ from + 24 * n
    → Changing reverse itself Block (take from s ++ (reverse (drop from (take to s)) ++ drop to s)) (front ++ (flat_map itself (reverse blocks) ++ back)) from n
to_mend s front blocks back from n to e f m g t =
    let size : length (flat_map itself blocks) + from ≡ to = omega (arith, flat_size blocks g, t, m) in
    record {
      front = front;
      todo = reverse blocks;
      back = back;
      stands = sym (part_reversed s front (flat_map itself blocks) back from to e f size ∙ ap (λ (z : List ℕ). front ++ (z ++ back)) (flat_reversed blocks));
      becomes = refl;
      place = f;
      many = length-reverse blocks ∙ m;
      fine = each_reversed blocks g;
    }
