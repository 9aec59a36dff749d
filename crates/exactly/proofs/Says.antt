-- A value that stands in a message, and whose fields are alone in the field list, reads as exactly the bytes that are listed for it.
use Prim.Native.Nat.{ℕ, zero, suc, ◌+◌, ◌-◌, ◌≤◌}
use mathlib.Core.Path.{◌≡◌, refl, sym, ◌∙◌, ap}
use mathlib.Core.Bool.{Bool, true, false, ◌||◌, not, false≢true}
use mathlib.Core.List.{List, [], ◌∷◌, ◌++◌, append-nil}
use mathlib.Core.Option.{Option, some, none}
use lib.ListN.{length, take, drop}
use lib.Seq.{take_at, drop_at, take-add, drop-drop}
use lib.Dec.{eqb}
use native.Mathlib.Omega.{arith}
use native.Mathlib.Nat.{zero-add}
use borrow.Author.Tests.{eq-eqb}
use Rattle.format.specs.Result.{ok, pick}
use Rattle.format.specs.Number.{Bytes, num_bytes}
use Rattle.format.specs.Format.{Format, Index, Entry, Verdict, number, ruled, into, counted, piece}
use Rattle.format.specs.Value.{Value, value, is_counted, is_column, body_of, width_of, rule_of, most_bytes}
use Rattle.format.proofs.Results.{ok_same}
use Rattle.format.proofs.Numbers.{length-num_bytes}
use Rattle.format.proofs.Took.{Tiles, tiles_piece}
use Rattle.format.proofs.Laws.{Lawful}
use Rattle.format.proofs.Formats.{lawful_value}
use Rattle.show.specs.declared.Cell.{Cell}
use Rattle.show.specs.Cells.{cell_of, type_of, value_of}
use Rattle.show.proofs.Kept.{Keeps, read_kept}
use Rattle.places.specs.Stands.{Stands}
use Rattle.places.proofs.Stands.{stands_read}
use Rattle.places.proofs.Layouts.{one_byte}
use Rattle.exactly.specs.Listed.{listed_for, bytes_at, start_of, bytes_for, field_bytes, Says, Reads, Alike}
use Rattle.exactly.proofs.Alone.{Alone, listed_both}

-- ---- a value's entries: all are listed for it, and the first stands at its place
module _ (l b : ℕ) (ix : Index) where
  -- they are those of a counted body, or one
  of_value_lem : (P : List Entry → Type 0) (t o : ℕ) (v : Value) → (is_counted t ≡ true → P ((counted true most_bytes (rule_of t) l b).fields ix o (body_of v))) → (is_counted t ≡ false → P (piece (width_of t) o b ix))
      → P ((value l b t).fields ix o v)
  unfolding value into ruled number
  of_value_lem P t o v p q = by_type (is_counted t) _ _ p q
    where
      by_type : (c : Bool) (f g : Format Value) → (c ≡ true → P (f.fields ix o v)) → (c ≡ false → P (g.fields ix o v)) → P ((pick c f g).fields ix o v)
      by_type true f g p q = p refl
      by_type false f g p q = q refl

  all_piece : (n o field : ℕ) → eqb field l || eqb field b ≡ true → listed_for l b ix (piece n o field ix) ≡ piece n o field ix
  unfolding listed_for
  all_piece zero o field h = refl
  all_piece (suc n) o field h = rw (h, eq-eqb ix.i ix.i refl, eq-eqb ix.j ix.j refl, eq-eqb ix.k ix.k refl)

  pub all_body : (n o : ℕ) → listed_for l b ix (piece n o b ix) ≡ piece n o b ix
  all_body n o = all_piece n o b (rw (eq-eqb b b refl) (or_true (eqb b l)))
    where
      or_true : (t : Bool) → t || true ≡ true
      or_true true = refl
      or_true false = refl

  all_length : (n o : ℕ) → listed_for l b ix (piece n o l ix) ≡ piece n o l ix
  all_length n o = all_piece n o l (rw (eq-eqb l l refl))

  all_counted : (nullable : Bool) (v : Option (List ℕ)) (rule : List ℕ → Verdict) (o : ℕ) → listed_for l b ix ((counted nullable most_bytes rule l b).fields ix o v) ≡ (counted nullable most_bytes rule l b).fields ix o v
  unfolding counted
  all_counted nullable none rule o = all_length 4 o
  all_counted nullable (some bs) rule o = listed_both l b ix (piece 4 o l ix) (piece (length bs) (o + 4) b ix) ∙ rw (all_length 4 o, all_body (length bs) (o + 4))

  all_value : (t o : ℕ) (v : Value) → listed_for l b ix ((value l b t).fields ix o v) ≡ (value l b t).fields ix o v
  all_value t o v = of_value_lem (λ es. listed_for l b ix es ≡ es) t o v (λ e. all_counted true (body_of v) (rule_of t) o) (λ e. all_body (width_of t) o)

  start_piece : (n o : ℕ) → not (eqb n 0) ≡ true → start_of (piece n o b ix) ≡ o
  start_piece zero o h = absurd (false≢true h)
  start_piece (suc n) o h = refl

  pub start_counted : (nullable : Bool) (v : Option (List ℕ)) (rule : List ℕ → Verdict) (o : ℕ) → start_of ((counted nullable most_bytes rule l b).fields ix o v) ≡ o
  unfolding counted
  start_counted nullable none rule o = refl
  start_counted nullable (some bs) rule o = refl

  start_value : (t o : ℕ) (v : Value) → is_column t ≡ true → start_of ((value l b t).fields ix o v) ≡ o
  start_value t o v is = of_value_lem (λ es. start_of es ≡ o) t o v (λ e. start_counted true (body_of v) (rule_of t) o) (λ e. start_piece (width_of t) o (rw e at is))

-- so they are alone, at their place
pub alone_number : (k field : ℕ) (ix : Index) {o p n : ℕ} → o ≡ p → Alone field field ix ((number k field).fields ix p n) (number k field) ix o n
unfolding number
alone_number k field ix {o} {p} e = record { is = rw e (all_body field field ix k p) }

pub alone_counted : (nullable : Bool) (rule : List ℕ → Verdict) (l b : ℕ) (ix : Index) {o p : ℕ} {v : Option (List ℕ)} → o ≡ p
    → Alone l b ix ((counted nullable most_bytes rule l b).fields ix p v) (counted nullable most_bytes rule l b) ix o v
alone_counted nullable rule l b ix {o} {p} {v} e = record { is = rw e (all_counted l b ix nullable v rule p) }

pub alone_value : (l b t : ℕ) (ix : Index) {o p : ℕ} {v : Value} → o ≡ p → Alone l b ix ((value l b t).fields ix p v) (value l b t) ix o v
alone_value l b t ix {o} {p} {v} e = record { is = rw e (all_value l b ix t p v) }

-- ---- the bytes at entries that tile a part are the part
tiles_on : (es : List Entry) (o e : ℕ) → Tiles o es e → o ≤ e
unfolding Tiles
tiles_on [] o e t = omega arith
tiles_on (x ∷ es) o e t = let h = tiles_on es (o + x.size) e t.2 in omega arith

pub tiled_bytes : (m : List ℕ) (es : List Entry) (o n : ℕ) → Tiles o es (o + n) → bytes_at m es ≡ take n (drop o m)
unfolding Tiles bytes_at
tiled_bytes m [] o n t = let none : n ≡ 0 = omega arith in rw none
tiled_bytes m (x ∷ es) o n t =
    let far = tiles_on es (o + x.size) (o + n) t.2 in
    let rest = n - x.size in
    let n_is : x.size + rest ≡ n = omega arith in
    let end : o + x.size + rest ≡ o + n = omega arith in
    let others = tiled_bytes m es (o + x.size) rest (rw end t.2) in
    rw (t.0, others, ← drop-drop x.size o m, ← take-add x.size rest (drop o m), n_is)

-- so the bytes at the fields of what stands in a message are its encoding
pub stands_bytes : {A : Type 0} {f : Format A} → Lawful f → (m : List ℕ) (ix : Index) {at : ℕ} {a : A} → Stands f m at a → bytes_at m (f.fields ix at a) ≡ f.bytes a
stands_bytes {f = f} law m ix {at} {a} d =
    let part : take (length (f.bytes a)) (drop at m) ≡ f.bytes a = rw (← d.whole, drop_at d.before (f.bytes a ++ d.after) at d.start, take_at (f.bytes a) d.after (length (f.bytes a)) refl) in
    tiled_bytes m (f.fields ix at a) at (length (f.bytes a)) (law.tiles ix at a d.good) ∙ part

-- ---- a number that stands, and is listed alone
pub number_reads : (m : List ℕ) (k field : ℕ) (ix : Index) (fs : List Entry) (at n : ℕ) → Stands (number k field) m at n → listed_for field field ix fs ≡ (number k field).fields ix at n → field_bytes field ix m fs ≡ num_bytes k n
unfolding number
number_reads m k field ix fs at n d w =
    ap (bytes_at m) w ∙ tiled_bytes m (piece k at field ix) at k (tiles_piece k at field ix)
    ∙ rw (← d.whole, drop_at d.before (num_bytes k n ++ d.after) at d.start, take_at (num_bytes k n) d.after k (length-num_bytes k n))

pub byte_reads : (m : List ℕ) (field : ℕ) (ix : Index) (fs : List Entry) (at b : ℕ) → Stands (number 1 field) m at b → listed_for field field ix fs ≡ (number 1 field).fields ix at b → field_bytes field ix m fs ≡ b ∷ []
unfolding number
byte_reads m field ix fs at b d w = number_reads m 1 field ix fs at b d w ∙ one_byte b d.good

-- ---- a value that stands, and is listed alone
module _ (m : List ℕ) (all : Bytes m) (l b t at : ℕ) (v : Value) (is : is_column t ≡ true) (d : Stands (value l b t) m at v) where
  abbrev shown : Cell
  shown = cell_of t at v

  abbrev its_bytes : List ℕ
  its_bytes = (value l b t).bytes v

  pub kept : Keeps m t at v
  kept = read_kept m all at l b t v _ is (stands_read (lawful_value l b t) d)

  -- its bytes say it
  pub stands_says : Says l b m its_bytes at shown
  stands_says =
      let read : (value l b t).read its_bytes 0 ≡ ok (v, length its_bytes) = simp (append-nil, zero-add) at ((lawful_value l b t).complete [] [] v d.good) in
      record { encodes = rw (kept.0, kept.1); reads = rw (kept.0, kept.1) read; shows = rw (kept.0, kept.1) }

  -- what is listed for it starts at its place, and is its bytes
  module _ (ix : Index) (fs : List Entry) (w : listed_for l b ix fs ≡ (value l b t).fields ix at v) where
    pub listed_start : start_of (listed_for l b ix fs) ≡ at
    listed_start = ap start_of w ∙ start_value l b ix t at v is

    pub listed_bytes : bytes_for l b ix m fs ≡ its_bytes
    listed_bytes = ap (bytes_at m) w ∙ stands_bytes (lawful_value l b t) m ix d

    pub value_reads : Reads l b ix m fs shown
    value_reads = record { entries = rw (kept.0, kept.1, listed_start) w; says = rw (listed_bytes, listed_start) stands_says }

-- ---- the bytes decide the value, and with their place what is shown
pub says_once : (l b : ℕ) (m n bs : List ℕ) (p q : ℕ) (x y : Cell) → type_of x ≡ type_of y → Says l b m bs p x → Says l b n bs q y → Alike m n p q x y
says_once l b m n bs p q x y same a c =
    let value_same : value_of m x ≡ value_of n y = ap (λ (z : Value × ℕ). z.0) (ok_same (sym a.reads ∙ ap (λ (t : ℕ). (value l b t).read bs 0) same ∙ c.reads)) in
    record { type_same = same; value_same = value_same; shown_same = λ e. cc (a.shows, c.shows) }

pub reads_alike : (l b : ℕ) (ix jx : Index) (m n : List ℕ) (fs gs : List Entry) (x y : Cell) → type_of x ≡ type_of y → bytes_for l b ix m fs ≡ bytes_for l b jx n gs → Reads l b ix m fs x → Reads l b jx n gs y
    → Alike m n (start_of (listed_for l b ix fs)) (start_of (listed_for l b jx gs)) x y
reads_alike l b ix jx m n fs gs x y same e a c = says_once l b m n (bytes_for l b jx n gs) _ _ x y same (rw e at a.says) c.says
