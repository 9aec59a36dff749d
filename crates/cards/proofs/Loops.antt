-- One turn of each loop, over a card's name and over two names at once; and the parts of a card that is written.
use Prim.Native.Nat.{ℕ, zero, suc, ◌+◌, ◌-◌, ◌<◌, ◌≤◌}
use mathlib.Core.Path.{◌≡◌, refl, sym, ◌∙◌, ap, ap₂}
use mathlib.Core.Bool.{Bool, true, false}
use mathlib.Core.List.{List, [], ◌∷◌, ◌++◌}
use mathlib.Core.Option.{Option, some, none}
use lib.ListN.{length, get_or, set, take, drop, replicate, drop_of_length-le}
use lib.Seq.{drop-cons}
use native.Mathlib.Numerals.{add-one}
use native.Mathlib.Omega.{arith}
use Rattle.std.specs.Prelude.{Option as Maybe, Some, None}
use Rattle.format.specs.Result.{pick}
use Rattle.format.specs.Number.{num_bytes}
use Rattle.format.proofs.Numbers.{length-num_bytes}
use Rattle.put.specs.Put.{put}
use Rattle.query.specs.Answers.{same}
use Rattle.query.proofs.Ends.{EqualFrom, equal_from_end}
use Rattle.query.proofs.Names.{same_yes, same_no}
use Rattle.std.proofs.lemmas.List.{append_assoc, take_at, drop_at, drop-drop, drop-append-le, drop-replicate, length-replicate}
use borrow.Rule.Slice.PartMut.{put_mid}
use Rattle.cards.specs.Card.{Card, a_card, rest_size, position_place, type_place, front_bytes, rest_bytes, most_name, name_byte, wrong_from}
use Rattle.cards.specs.declared.kind.Kind.{Kind}
use Rattle.cards.specs.Shown.{shown_wrong}

-- the first wrong byte: of what is left as of all
module _ (size : ℕ) (bs : List ℕ) (k : ℕ) where
  pub wrong_here : k < length bs → name_byte size k (get_or bs k 0) ≡ false → wrong_from size k (drop k bs) ≡ some k
  unfolding wrong_from
  wrong_here h e = rw (drop-cons bs k 0 h, e)

  pub wrong_later : k < length bs → name_byte size k (get_or bs k 0) ≡ true → wrong_from size k (drop k bs) ≡ wrong_from size (k + 1) (drop (k + 1) bs)
  unfolding wrong_from
  wrong_later h e = rw (drop-cons bs k 0 h, e, add-one)

  pub wrong_none : length bs ≤ k → wrong_from size k (drop k bs) ≡ none
  unfolding wrong_from
  wrong_none h = rw (drop_of_length-le bs h)

pub wrong_below : (size j : ℕ) (bs : List ℕ) (k : ℕ) → wrong_from size j bs ≡ some k → k < j + length bs
unfolding wrong_from
wrong_below size j [] k e = absurd (let z : ◌≡◌ {A = ℕ} 0 1 = cc in omega arith)
wrong_below size j (b ∷ bs) k e = by_byte (λ h. wrong_below size (j + 1) bs k h) (name_byte size j b) e
  where
    by_byte : (wrong_from size (j + 1) bs ≡ some k → k < j + 1 + length bs) → (t : Bool) → pick t (wrong_from size (j + 1) bs) (some j) ≡ some k → k < j + length (b ∷ bs)
    by_byte others true e = omega (arith, others e)
    by_byte others false e = let here : j ≡ k = cc in omega arith

-- what the search for it says
pub none_wrong : (o : Option ℕ) {f : Maybe ℕ} → f ≡ shown_wrong o → f ≡ None → o ≡ none
none_wrong none e told = refl
none_wrong (some k) e told = absurd (let z : ◌≡◌ {A = ℕ} 0 1 = cc in omega arith)

pub one_wrong : (o : Option ℕ) {f : Maybe ℕ} {k : ℕ} → f ≡ shown_wrong o → f ≡ Some k → o ≡ some k
one_wrong none e told = absurd (let z : ◌≡◌ {A = ℕ} 0 1 = cc in omega arith)
one_wrong (some j) {f} {k} e told = let same : j ≡ k = cc in ap some same

-- two lists, compared from the end
module _ (xs ys : List ℕ) where
  pub other_length : (length xs ≡ length ys → ⊥) → false ≡ same xs ys
  other_length n = sym (same_no xs ys (λ e. n (ap length e)))

  pub other_byte : (i : ℕ) → (get_or xs i 0 ≡ get_or ys i 0 → ⊥) → false ≡ same xs ys
  other_byte i n = sym (same_no xs ys (λ e. n (ap (λ (l : List ℕ). get_or l i 0) e)))

  pub all_bytes : length xs ≡ length ys → EqualFrom (λ k. get_or xs k 0) ys 0 → true ≡ same xs ys
  all_bytes e h = let equal = equal_from_end xs ys e h in sym (rw equal (same_yes ys))

-- a card from its type on: its type, its name's length, its name and the zeros up to its end are put one after the other
pub rest_put : (out name zs : List ℕ) (t k m n : ℕ) → rest_size ≤ length out → length name ≤ most_name → k ≡ length name → m ≡ most_name - length name → n ≡ m → zs ≡ replicate n 0
    → put_mid (2 + length name) m (put_mid 2 k (set (set out 0 t) 1 (length name)) name) zs ≡ rest_bytes (a_card 0 t name) ++ drop rest_size out
rest_put [] name zs t k m n room few e f g z = absurd (omega arith)
rest_put (a ∷ []) name zs t k m n room few e f g z = absurd (omega arith)
rest_put (a ∷ b ∷ os) name zs t k m n room few e f g z =
    let front = t ∷ length name ∷ name in
    let back = drop (length name) os in
    let kept : put_mid 2 k (t ∷ length name ∷ os) name ≡ front ++ back = ap (λ (j : ℕ). front ++ drop j os) e in
    let whole : length name + m ≡ most_name = omega arith in
    let before : take (2 + length name) (front ++ back) ≡ front = take_at front back (2 + length name) (omega arith) in
    let after : drop m (drop (2 + length name) (front ++ back)) ≡ drop most_name os =
    ap (drop m) (drop_at front back (2 + length name) (omega arith)) ∙ drop-drop m (length name) os ∙ ap (λ (j : ℕ). drop j os) whole in
    ap (λ (l : List ℕ). put_mid (2 + length name) m l zs) kept
    ∙ ap₂ (λ (xs ys : List ℕ). xs ++ (zs ++ ys)) before after
    ∙ ap (λ (l : List ℕ). front ++ (l ++ drop most_name os)) (z ∙ ap (λ (j : ℕ). replicate j 0) (g ∙ f))
    ∙ ap (λ (l : List ℕ). t ∷ length name ∷ l) (sym (append_assoc name (replicate (most_name - length name) 0) (drop most_name os)))

-- the same where the room of the longest name is filled with zeros, and the name put into it
pub name_put : (out name zs : List ℕ) (t m n : ℕ) → rest_size ≤ length out → length name ≤ most_name → m ≡ most_name → n ≡ m → zs ≡ replicate n 0
    → put (put_mid 2 m (set (set out 0 t) 1 (length name)) zs) 2 name ≡ rest_bytes (a_card 0 t name) ++ drop rest_size out
unfolding put
name_put [] name zs t m n room few e f z = absurd (omega arith)
name_put (a ∷ []) name zs t m n room few e f z = absurd (omega arith)
name_put (a ∷ b ∷ os) name zs t m n room few e f z =
    let l = length name in
    let whole : zs ++ drop m os ≡ replicate most_name 0 ++ drop most_name os = ap₂ (λ (xs : List ℕ) (k : ℕ). xs ++ drop k os) (z ∙ ap (λ (k : ℕ). replicate k 0) (f ∙ e)) e in
    let left : drop l (replicate most_name 0 ++ drop most_name os) ≡ replicate (most_name - l) 0 ++ drop most_name os =
    drop-append-le l (replicate most_name 0) (drop most_name os) (simp length-replicate few) ∙ ap (λ (xs : List ℕ). xs ++ drop most_name os) (drop-replicate l most_name 0) in
    ap (λ (xs : List ℕ). t ∷ l ∷ (name ++ xs)) (sym (drop-drop l 2 (t ∷ l ∷ (zs ++ drop m os))) ∙ ap (drop l) whole ∙ left)
    ∙ ap (λ (xs : List ℕ). t ∷ l ∷ xs) (sym (append_assoc name (replicate (most_name - l) 0) (drop most_name os)))

-- a card's front: its position is put behind its first byte, and then that byte
pub front_put : (out : List ℕ) (k : Kind) (position : ℕ) → type_place k ≤ length out → set (put out position_place (num_bytes k.width position)) 0 k.number ≡ front_bytes k position ++ drop (type_place k) out
unfolding put
front_put [] k position h = absurd (omega arith)
front_put (b ∷ out) k position h =
    let size : position_place + length (num_bytes k.width position) ≡ type_place k = omega (arith, length-num_bytes k.width position) in
    ap (λ (n : ℕ). k.number ∷ (num_bytes k.width position ++ drop n (b ∷ out))) size

-- byte j of some bytes and the zeros after them
pub zeros_after : (bs : List ℕ) (n j : ℕ) → get_or (bs ++ replicate n 0) j 0 ≡ get_or bs j 0
zeros_after [] zero j = refl
zeros_after [] (suc n) zero = refl
zeros_after [] (suc n) (suc j) = zeros_after [] n j
zeros_after (b ∷ bs) n zero = refl
zeros_after (b ∷ bs) n (suc j) = zeros_after bs n j

pub byte_after : (c : Card) (k : ℕ) → 2 ≤ k → get_or (rest_bytes c) k 0 ≡ get_or c.name (k - 2) 0
byte_after c zero h = absurd (omega arith)
byte_after c (suc zero) h = absurd (omega arith)
byte_after c (suc (suc j)) h =
    let back : suc (suc j) - 2 ≡ j = omega arith in
    rw back (zeros_after c.name (most_name - length c.name) j)
