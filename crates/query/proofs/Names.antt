-- One turn of the search for a name.
use Prim.Native.Nat.{ℕ, suc, ◌+◌, ◌-◌, ◌≤◌, ◌<◌}
use mathlib.Core.Path.{◌≡◌, refl, sym, ◌∙◌, ap}
use mathlib.Core.Bool.{Bool, true, false, ◌&&◌, false≢true}
use mathlib.Core.List.{List, [], ◌∷◌}
use mathlib.Core.Option.{Option, some, none}
use lib.ListN.{length, get_or, drop, replicate, length-append}
use lib.Seq.{get_or-take, get_or-drop}
use lib.Dec.{T, eqb, eqb→eq, eqb_refl, lit<}
use lib.Ieee.Bits.{is_true}
use lib.Ieee.Fits.{and_l, and_r}
use native.Mathlib.Omega.{arith}
use Rattle.format.specs.declared.Fault.{Fault}
use Rattle.format.specs.declared.Fault.TheVariants.{NoColumn}
use Rattle.format.specs.Result.{Res, ok, no}
use Rattle.format.specs.Format.{each, counted, nothing}
use Rattle.format.specs.Value.{anything}
use Rattle.format.specs.Message.{third, unlimited}
use Rattle.format.proofs.Results.{ok_same, no_ok}
use Rattle.format.proofs.Numbers.{length-num_bytes}
use Rattle.format.proofs.Lengths.{lawful_counted}
use Rattle.scan.proofs.Counted.{Here}
use Rattle.places.specs.Stands.{Stands}
use Rattle.places.proofs.Stands.{stands_read, stands_head, stands_tail, stands_at_lem}
use Rattle.places.proofs.Lists.{sized}
use Rattle.places.proofs.Layouts.{name}
use Rattle.query.specs.Answers.{same, first_named}
use Rattle.query.proofs.Ends.{EqualFrom, equal_from_end}

-- `same` is equality
pub same_yes : (xs : List ℕ) → same xs xs ≡ true
unfolding same
same_yes [] = refl
same_yes (x ∷ xs) = ap (λ (z : Bool). z && same xs xs) (is_true (eqb x x) (eqb_refl x)) ∙ same_yes xs

same_eq : (xs ys : List ℕ) → T (same xs ys) → xs ≡ ys
unfolding same
same_eq [] [] t = refl
same_eq [] (y ∷ ys) t = absurd t
same_eq (x ∷ xs) [] t = absurd t
same_eq (x ∷ xs) (y ∷ ys) t = ap (λ (a : ℕ). a ∷ xs) (eqb→eq x y (and_l (eqb x y) (same xs ys) t)) ∙ ap (λ (zs : List ℕ). y ∷ zs) (same_eq xs ys (and_r (eqb x y) (same xs ys) t))

pub same_true : (xs ys : List ℕ) → same xs ys ≡ true → xs ≡ ys
same_true xs ys e = same_eq xs ys (rw e tt)

pub same_no : (xs ys : List ℕ) → (xs ≡ ys → ⊥) → same xs ys ≡ false
same_no xs ys n = go (same xs ys) (λ t. n (same_eq xs ys t))
  where
    go : (z : Bool) → (T z → ⊥) → z ≡ false
    go true h = absurd (h tt)
    go false h = refl

-- a name that stands, as a body of whatever bytes
pub name_body : {m : List ℕ} {at : ℕ} (n : Option (List ℕ)) → Stands name m at n → (bs : List ℕ) × (n ≡ some bs) × (sized.read m at ≡ ok (some bs, at + (4 + length bs)))
unfolding counted
name_body none d = absurd (false≢true d.good)
name_body {m} {at} (some bs) d =
    let body : Stands sized m at (some bs) = record { good = (omega (arith, d.good.0), d.good.1, refl); before = d.before; after = d.after; whole = d.whole; start = d.start } in
    (bs, refl, stands_read (lawful_counted false unlimited anything 0 0 (lit< tt)) body ∙ rw (length-append, length-num_bytes))

some_same : {a b : List ℕ} → some a ≡ some b → a ≡ b
some_same e = cc

-- what a body that was read and one that stands have in common
pub name_here : {m : List ℕ} {at start end : ℕ} (bs : List ℕ) → sized.read m at ≡ ok (some bs, at + (4 + length bs)) → (b : Here false unlimited m at start end) → (b.body ≡ bs) × (end ≡ at + (4 + length bs))
name_here bs e b =
    let both = ok_same (sym b.read ∙ e) in
    (some_same (ap (λ (p : Option (List ℕ) × ℕ). p.0) both), ap (λ (p : Option (List ℕ) × ℕ). p.1) both)

module _ (m : List ℕ) (count : ℕ) (wanted : List ℕ) where
  -- the names that are left to search, and that they decide the whole search
  pub record Left (i at : ℕ) (whole : Res ℕ) : Type 0 where
    pub names : List (Option (List ℕ))
    pub stands : Stands (each third i (replicate (count - i) name)) m at names
    pub decide : first_named wanted names i ≡ whole

  -- the name at this turn, its bytes, and what is left after it
  pub record Turn (i at start end : ℕ) (whole : Res ℕ) : Type 0 where
    pub bytes : List ℕ
    pub size : length bytes ≡ end - start
    pub stand : (k : ℕ) → k < length bytes → get_or m (start + k) 0 ≡ get_or bytes k 0
    pub found : bytes ≡ wanted → ok i ≡ whole
    pub goes_on : (bytes ≡ wanted → ⊥) → Left (i + 1) end whole

  pub starts : (at : ℕ) (names : List (Option (List ℕ))) → Stands (each third 0 (replicate count name)) m at names → Left 0 at (first_named wanted names 0)
  starts at names d = let all : count - 0 ≡ count = omega arith in record { names = names; stands = rw all d; decide = refl }

  pub ends : (i at : ℕ) {whole : Res ℕ} → count ≤ i → Left i at whole → no NoColumn 0 ≡ whole
  unfolding first_named each nothing
  ends i at h w =
      let none_left : count - i ≡ 0 = omega arith in
      let empty : w.names ≡ [] = rw none_left at w.stands.good in
      rw empty at w.decide

  module _ (i at start end : ℕ) (whole : Res ℕ) (b : Here false unlimited m at start end) where
    -- by the name that is first of those left
    first_left : (n : Option (List ℕ)) (ns : List (Option (List ℕ))) → Stands name m at n → Stands (each third (i + 1) (replicate (count - (i + 1)) name)) m (at + length (name.bytes n)) ns
        → first_named wanted (n ∷ ns) i ≡ whole → Turn i at start end whole
    unfolding first_named counted
    first_left n ns d rest e =
        let w = name_body n d in
        let bs = w.0 in
        let h = name_here bs w.2 b in
        let far = h.1 in
        let at-end : at + length (name.bytes n) ≡ end = rw (w.1, length-append, length-num_bytes) (sym far) in
        let known : first_named wanted (some bs ∷ ns) i ≡ whole = rw w.1 at e in
        let stand : (k : ℕ) → k < length b.body → get_or m (start + k) 0 ≡ get_or b.body k 0
        = λ k l. rw b.bytes (sym (get_or-take (end - start) (drop start m) k 0 (omega (arith, b.size)) ∙ get_or-drop start m k 0)) in
        record {
          bytes = b.body;
          size = b.size;
          stand = stand;
          found = λ equal. let yes : same bs wanted ≡ true = rw (← h.0, equal) (same_yes wanted) in rw yes at known;
          goes_on = λ other. let not : same bs wanted ≡ false = same_no bs wanted (λ z. other (h.0 ∙ z)) in record { names = ns; stands = stands_at_lem at-end rest; decide = rw not at known };
        }

    split : (k : ℕ) → count - (i + 1) ≡ k → (names : List (Option (List ℕ))) → Stands (each third i (name ∷ replicate k name)) m at names → first_named wanted names i ≡ whole → Turn i at start end whole
    unfolding each
    split k left [] d e = absurd d.good
    split k left (n ∷ ns) d e = first_left n ns (stands_head third i name (replicate k name) d) (rw left (stands_tail third i name (replicate k name) d)) e

  pub turn : (i at : ℕ) {start end : ℕ} {whole : Res ℕ} → i < count → Left i at whole → Here false unlimited m at start end → Turn i at start end whole
  turn i at {start} {end} {whole} h w b =
      let left : count - i ≡ suc (count - (i + 1)) = omega arith in
      split i at start end whole b (count - (i + 1)) refl w.names (rw left at w.stands) w.decide

  -- what the tests of a turn say of its name
  module _ {i at start end : ℕ} {whole : Res ℕ} (t : Turn i at start end whole) where
    pub found_it : end - start ≡ length wanted → EqualFrom (λ k. get_or m (start + k) 0) wanted 0 → ok i ≡ whole
    found_it size all =
        let long : length t.bytes ≡ length wanted = t.size ∙ size in
        t.found (equal_from_end t.bytes wanted long (λ k after below. sym (t.stand k (omega arith)) ∙ all k after below))

    pub other_length : (end - start ≡ length wanted → ⊥) → Left (i + 1) end whole
    other_length not = t.goes_on (λ e. not (sym t.size ∙ ap length e))

    pub other_byte : end - start ≡ length wanted → (j : ℕ) → j < length wanted → (get_or m (start + j) 0 ≡ get_or wanted j 0 → ⊥) → Left (i + 1) end whole
    other_byte size j l not = t.goes_on (λ e. let far = t.size in not (t.stand j (omega arith) ∙ ap (λ (xs : List ℕ). get_or xs j 0) e))

  -- a name that is there is read as a body
  module _ (i at : ℕ) {whole : Res ℕ} (h : i < count) (w : Left i at whole) where
    some_name : (k : ℕ) (names : List (Option (List ℕ))) → Stands (each third i (name ∷ replicate k name)) m at names → {f : Fault} {p : ℕ} → sized.read m at ≡ no f p → ⊥
    unfolding each
    some_name k [] d e = absurd d.good
    some_name k (n ∷ ns) d e = no_ok (sym e ∙ (name_body n (stands_head third i name (replicate k name) d)).2)

    pub never_refused : {f : Fault} {p : ℕ} → sized.read m at ≡ no f p → ⊥
    never_refused e = let left : count - i ≡ suc (count - (i + 1)) = omega arith in some_name (count - (i + 1)) w.names (rw left at w.stands) e
