-- A table's metadata and contents, field by field; and where its columns' types stand.
use Rattle.std.specs.Prelude.{Result, Ok, Err}
use Prim.Native.Nat.{ℕ, zero, suc, ◌+◌, ◌-◌, ◌≤◌}
use mathlib.Core.Path.{◌≡◌, refl, sym, ◌∙◌, ap, ap₂}
use mathlib.Core.Bool.{false}
use mathlib.Core.List.{List, [], ◌∷◌, ◌++◌}
use mathlib.Core.Option.{Option}
use lib.ListN.{length, take, drop, get_or, replicate, take-append-drop, length-drop}
use lib.Seq.{drop-cons, length-take-le, drop-append-le, take-append-le}
use lib.Dec.{leb, ltb, eqb}
use native.Mathlib.Omega.{arith}
use native.Mathlib.Numerals.{add-one}
use native.Mathlib.Nat.{add_assoc}
use borrow.Author.Tests.{ltb-false}
use Rattle.format.specs.declared.Fault.{Fault}
use Rattle.format.specs.declared.Refusal.{Refusal}
use Rattle.format.specs.Result.{Res, ok, no, bind}
use Rattle.format.specs.Number.{half}
use Rattle.format.specs.Format.{Format, number, nothing, ruled, room, into, both, each}
use Rattle.format.specs.Value.{Value, string, ascii, is_column}
use Rattle.format.specs.Message.{Metadata, metadata, table, row, column_type, count, list, second, third, most_columns, unlimited}
use Rattle.format.proofs.Results.{ok_same, passed, spared, bound}
use Rattle.scan.specs.Shown.{shown_next, refusal}
use Rattle.scan.proofs.Answers.{took}
use Rattle.scan.proofs.Params.{byte_is}
use Rattle.scan.proofs.Steps.{into_ends, both_ends, both_stop}
use Rattle.message.specs.Columns.{shown_columns}
use Rattle.message.specs.Inner.{described, contents}

-- What an answer says of the metadata that was read.
pub columns_go : (at : ℕ) (r : Res (Metadata × ℕ)) {a : Result (ℕ × ℕ × ℕ) Refusal} {types n next : ℕ} → a ≡ shown_columns at r → a ≡ Ok (types, n, next) → (m : Metadata) × (r ≡ ok (m, next)) × (types ≡ at) × (n ≡ length m.types)
columns_go at (ok p) {types = types} {n = n} {next = next} e told =
    let same : ◌≡◌ {A = ℕ × ℕ × ℕ} (at, length p.0.types, p.1) (types, n, next) = cc in
    (p.0, ap (λ (w : ℕ × ℕ × ℕ). ok (p.0, w.2)) same, sym (ap (λ (w : ℕ × ℕ × ℕ). w.0) same), sym (ap (λ (w : ℕ × ℕ × ℕ). w.1) same))
columns_go at (no f p) e told = absurd (let z : ◌≡◌ {A = ℕ} 0 1 = cc in omega arith)

pub columns_stop : (at : ℕ) (r : Res (Metadata × ℕ)) {a : Result (ℕ × ℕ × ℕ) Refusal} {x : Refusal} → a ≡ shown_columns at r → a ≡ Err x → r ≡ no x.fault x.place
columns_stop at (ok p) e told = absurd (let z : ◌≡◌ {A = ℕ} 0 1 = cc in omega arith)
columns_stop at (no f p) e told = cc

pub same_columns : (next : ℕ) {types n at k : ℕ} → types ≡ at → n ≡ k → ◌≡◌ {A = Result (ℕ × ℕ × ℕ) Refusal} (Ok (types, n, next)) (Ok (at, k, next))
same_columns next e f = ap₂ (λ (a b : ℕ). Ok (a, b, next)) e f

module _ {A B C : Type 0} where
  pub bind_bind : (r : Res A) (f : A → Res B) (g : B → Res C) → bind (bind r f) g ≡ bind r (λ a. bind (f a) g)
  bind_bind (ok a) f g = refl
  bind_bind (no f p) g h = refl

-- a type of a column is the byte that stands there
type_is : (s : List ℕ) (at t next : ℕ) → (column_type 45).read s at ≡ ok (t, next) → (t ≡ get_or s at 0) × (next ≡ at + 1) × (at + 1 ≤ length s)
unfolding ruled
type_is s at t next e =
    let w = bound ((number 1 45).read s at) e in
    let same = ok_same (passed (is_column w.0.0) _ _ w.2).1 in
    let one = took 1 45 s at w.0.0 w.0.1 w.1 in
    (sym (ap (λ (p : ℕ × ℕ). p.0) same) ∙ one.value ∙ byte_is s at, sym (ap (λ (p : ℕ × ℕ). p.1) same) ∙ one.place, one.fit)

-- so the types stand side by side
pub record Stand (s : List ℕ) (at n : ℕ) (types : List ℕ) (next : ℕ) : Type 0 where
  pub place : next ≡ at + n
  pub fit : at ≤ length s → at + n ≤ length s
  pub are : types ≡ take n (drop at s)
  pub size : length types ≡ n

pub types_stand : (k n : ℕ) (s : List ℕ) (at : ℕ) (types : List ℕ) (next : ℕ) → (each third k (replicate n (column_type 45))).read s at ≡ ok (types, next) → Stand s at n types next
unfolding each nothing
types_stand k zero s at types next e =
    let same = ok_same e in
    let none : [] ≡ types = ap (λ (p : List ℕ × ℕ). p.0) same in
    let here : at ≡ next = ap (λ (p : List ℕ × ℕ). p.1) same in
    record { place = omega arith; fit = λ h. omega arith; are = sym none; size = sym (ap length none) }
types_stand k (suc n) s at types next e =
    let w = bound ((column_type 45).read s at) e in
    let v = bound ((each third (k + 1) (replicate n (column_type 45))).read s w.0.1) w.2 in
    let one = type_is s at w.0.0 w.0.1 w.1 in
    let rest = types_stand (k + 1) n s w.0.1 v.0.0 v.0.1 v.1 in
    let same = ok_same v.2 in
    let all : w.0.0 ∷ v.0.0 ≡ types = ap (λ (p : List ℕ × ℕ). p.0) same in
    let far : v.0.1 ≡ next = ap (λ (p : List ℕ × ℕ). p.1) same in
    let here : w.0.1 ≡ suc at = one.1 ∙ add-one at in
    let cons : drop at s ≡ get_or s at 0 ∷ drop (suc at) s = drop-cons s at 0 (omega (arith, one.2)) in
    record {
      place = omega (arith, rest.place, one.1);
      fit = λ h. omega (arith, rest.fit (omega (arith, one.1, one.2)), one.1);
      are = sym all ∙ ap₂ (λ (x : ℕ) (l : List ℕ). x ∷ l) one.0 (rest.are ∙ ap (λ (p : ℕ). take n (drop p s)) here) ∙ sym (ap (take (suc n)) cons);
      size = sym (ap length all) ∙ ap suc rest.size;
    }

-- the metadata after its length, field by field
module _ (s : List ℕ) (at : ℕ) where
  described_is : described.read s at
      ≡ bind ((number 1 0).read s at) (λ u. bind ((count 2 most_columns 0).read s u.1) (λ n.
      bind ((each third 0 (replicate n.0 (column_type 45))).read s n.1) (λ t.
      bind ((each third 0 (replicate n.0 (string false ascii 46 47))).read s t.1) (λ w. ok (record { status = u.0; types = t.0; names = w.0 }, w.1)))))
  unfolding described into both ruled number
  described_is = simp bind_bind

  pub no_status : {f : Fault} {p : ℕ} → (number 1 0).read s at ≡ no f p → described.read s at ≡ no f p
  no_status e = described_is ∙ rw e

  module _ {u a : ℕ} (status : (number 1 0).read s at ≡ ok (u, a)) where
    pub no_count : {f : Fault} {p : ℕ} → (count 2 most_columns 0).read s a ≡ no f p → described.read s at ≡ no f p
    no_count e = described_is ∙ rw (status, e)

    module _ {n b : ℕ} (columns : (count 2 most_columns 0).read s a ≡ ok (n, b)) where
      pub no_types : {f : Fault} {p : ℕ} → (each third 0 (replicate n (column_type 45))).read s b ≡ no f p → described.read s at ≡ no f p
      no_types e = described_is ∙ rw (status, columns, e)

      module _ {ts : List ℕ} {d : ℕ} (types : (each third 0 (replicate n (column_type 45))).read s b ≡ ok (ts, d)) where
        pub no_names : {f : Fault} {p : ℕ} → (each third 0 (replicate n (string false ascii 46 47))).read s d ≡ no f p → described.read s at ≡ no f p
        no_names e = described_is ∙ rw (status, columns, types, e)

        all_described : {ns : List (Option (List ℕ))} {next : ℕ} → (each third 0 (replicate n (string false ascii 46 47))).read s d ≡ ok (ns, next)
            → described.read s at ≡ ok (record { status = u; types = ts; names = ns }, next)
        all_described e = described_is ∙ rw (status, columns, types, e)

-- a count that was read
pub count_took : (k most : ℕ) (s : List ℕ) (at n next : ℕ) → (count k most 0).read s at ≡ ok (n, next) → (next ≡ at + k) × (at + k ≤ length s)
unfolding ruled
count_took k most s at n next e =
    let few = bound ((ruled (λ n. ltb n (half k)) Fault.Negative (number k 0)).read s at) e in
    let same = ok_same (passed (leb few.0.0 most) _ _ few.2).1 in
    let sign = bound ((number k 0).read s at) few.1 in
    let also = ok_same (passed (ltb sign.0.0 (half k)) _ _ sign.2).1 in
    let one = took k 0 s at sign.0.0 sign.0.1 sign.1 in
    (sym (ap (λ (p : ℕ × ℕ). p.1) same) ∙ sym (ap (λ (p : ℕ × ℕ). p.1) also) ∙ one.place, one.fit)

-- a part of the front of a list is a part of the list
pub cut : (s : List ℕ) (at n end : ℕ) → at + n ≤ end → end ≤ length s → take n (drop at (take end s)) ≡ take n (drop at s)
cut s at n end h fit =
    let size : length (take end s) ≡ end = length-take-le end s fit in
    let rest : drop at s ≡ drop at (take end s) ++ drop end s = ap (drop at) (sym (take-append-drop end s)) ∙ drop-append-le at (take end s) (drop end s) (omega arith) in
    let left : n ≤ length (drop at (take end s)) = simp length-drop (omega arith) in
    sym (ap (take n) rest ∙ take-append-le n (drop at (take end s)) (drop end s) left)

pub described_answer : (s : List ℕ) (at : ℕ) {u a n b : ℕ} {ts : List ℕ} {d : ℕ} {ns : List (Option (List ℕ))} {next : ℕ} → (number 1 0).read s at ≡ ok (u, a) → (count 2 most_columns 0).read s a ≡ ok (n, b)
    → (each third 0 (replicate n (column_type 45))).read s b ≡ ok (ts, d) → (each third 0 (replicate n (string false ascii 46 47))).read s d ≡ ok (ns, next)
    → Ok (b, n, next) ≡ shown_columns (at + 3) (described.read s at)
described_answer s at {u} {a} {n} {b} {ts} {d} {ns} {next} status columns types names =
    let one = took 1 0 s at u a status in
    let two = count_took 2 most_columns s a n b columns in
    let here : b ≡ at + 3 = omega (arith, one.place, two.0) in
    same_columns next here (sym (types_stand 0 n s b ts d types).size) ∙ sym (ap (shown_columns (at + 3)) (all_described s at status columns types names))

-- where the types of the columns stand, from a place on
pub record Typed (s : List ℕ) (at : ℕ) (m : Metadata) : Type 0 where
  pub are : m.types ≡ take (length m.types) (drop at s)
  pub fit : at + length m.types ≤ length s

module _ (s : List ℕ) (at : ℕ) (m : Metadata) (next : ℕ) where
  described_types : described.read s at ≡ ok (m, next) → Typed s (at + 3) m
  described_types e =
      let u = bound ((number 1 0).read s at) (sym (described_is s at) ∙ e) in
      let n = bound ((count 2 most_columns 0).read s u.0.1) u.2 in
      let t = bound ((each third 0 (replicate n.0.0 (column_type 45))).read s n.0.1) n.2 in
      let w = bound ((each third 0 (replicate n.0.0 (string false ascii 46 47))).read s t.0.1) t.2 in
      let same : t.0.0 ≡ m.types = ap (λ (p : Metadata × ℕ). p.0.types) (ok_same w.2) in
      let one = took 1 0 s at u.0.0 u.0.1 u.1 in
      let two = count_took 2 most_columns s u.0.1 n.0.0 n.0.1 n.1 in
      let all = types_stand 0 n.0.0 s n.0.1 t.0.0 t.0.1 t.1 in
      let here : n.0.1 ≡ at + 3 = omega (arith, two.0, one.place) in
      let size : n.0.0 ≡ length m.types = sym all.size ∙ ap length same in
      let fit : n.0.1 + n.0.0 ≤ length s = all.fit (omega (arith, two.0, two.1)) in
      record { are = sym same ∙ all.are ∙ ap₂ (λ (a b : ℕ). take a (drop b s)) size here; fit = omega arith }

module _ (s : List ℕ) (at : ℕ) (m : Metadata) (next : ℕ) where
  pub metadata_types : metadata.read s at ≡ ok (m, next) → Typed s (at + 7) m
  unfolding metadata room described
  metadata_types e =
      let p = bound ((number 4 42).read s at) e in
      let n = p.0.0 in
      let t₁ = spared (leb (half 4) n) _ _ p.2 in
      let t₂ = spared (ltb unlimited n) _ _ t₁.1 in
      let t₃ = spared (ltb (length s) (at + 4 + n)) _ _ t₂.1 in
      let fit = ltb-false (length s) (at + 4 + n) t₃.0 in
      let q = bound (described.read (take (at + 4 + n) s) (at + 4)) t₃.1 in
      let same = ok_same (passed (eqb q.0.1 (at + 4 + n)) _ _ q.2).1 in
      inner (at + 4 + n) fit (q.1 ∙ ap ok same)
    where
      inner : (end : ℕ) → end ≤ length s → described.read (take end s) (at + 4) ≡ ok (m, next) → Typed s (at + 7) m
      inner end fit e =
          let w = described_types (take end s) (at + 4) m next e in
          let size = length-take-le end s fit in
          let here : at + 4 + 3 ≡ at + 7 = add_assoc at 4 3 in
          let near : at + 7 + length m.types ≤ end = omega (arith, w.fit) in
          record { are = w.are ∙ ap (λ (p : ℕ). take (length m.types) (drop p (take end s))) here ∙ cut s (at + 7) (length m.types) end near fit; fit = omega arith }

-- a table after its length: its metadata, and its rows by their types
module _ (s : List ℕ) (at : ℕ) where
  abbrev rows_of : Metadata → Format (List (List Value))
  rows_of m = list 4 unlimited 48 second (row m.types)

  contents_ends : shown_next (contents.read s at) ≡ shown_next ((both metadata rows_of).read s at)
  unfolding contents
  contents_ends = into_ends _ _ (both metadata rows_of) s at

  pub contents_stop : {f : Fault} {p : ℕ} → metadata.read s at ≡ no f p → shown_next (contents.read s at) ≡ Err (refusal f p)
  contents_stop e = contents_ends ∙ ap shown_next (both_stop metadata rows_of s at e)

  pub contents_go : {m : Metadata} {next : ℕ} → metadata.read s at ≡ ok (m, next) → shown_next (contents.read s at) ≡ shown_next ((list 4 unlimited 48 second (row m.types)).read s next)
  contents_go e = contents_ends ∙ both_ends metadata rows_of s at e

-- rooms by their contents
pub metadata_room : (s : List ℕ) (at : ℕ) → metadata.read s at ≡ (room unlimited 42 described).read s at
unfolding metadata described
metadata_room s at = refl

pub table_room : (s : List ℕ) (at : ℕ) → table.read s at ≡ (room unlimited 41 contents).read s at
unfolding table contents
table_room s at = refl

-- the types of a table's columns are a part of the message that the table is in
pub types_part : (s : List ℕ) (start end n types : ℕ) (m : Metadata) → Typed (take end s) (start + 7) m → end ≤ length s → types ≡ start + 7 → n ≡ length m.types
    → (types + n ≤ end) × (take (types + n - types) (drop types s) ≡ m.types)
types_part s start end n types m w fit here size =
    let whole = length-take-le end s fit in
    let far : types + n ≤ end = omega (arith, w.fit) in
    let same : types + n - types ≡ n = omega arith in
    (far, rw same (sym (w.are ∙ ap₂ (λ (a b : ℕ). take a (drop b (take end s))) (sym size) (sym here) ∙ cut s types n end far fit)))

-- the metadata's length, its status and the count stand before the types
pub types_place : (start at : ℕ) {types : ℕ} → types ≡ start + 3 → start ≡ at + 4 → types ≡ at + 7
types_place start at e f = omega arith

-- rows by types that are equal
pub rows_same : (s : List ℕ) (at k : ℕ) {ts us : List ℕ} → ts ≡ us → shown_next ((each second 0 (replicate k (row ts))).read s at) ≡ shown_next ((each second 0 (replicate k (row us))).read s at)
rows_same s at k e = rw e
