-- The walks over rooms, tables and responses, each made from the walks over its parts; and where the types of a table's columns stand.
use Rattle.std.proofs.Common.{◌≡◌, ℕ, zero, suc, ◌+◌, ◌≤◌, Bool, false, eqb, ltb, leb, List, ◌∷◌, map, length, get_or, take, drop, replicate, sym, refl, ap, ◌∙◌, ap₂, arith, lit<, take-append-drop, length-take-le, drop-cons, ltb-false, eqb-true}
use mathlib.Core.Option.{Option}
use lib.ListN.{length-replicate}
use Rattle.format.specs.declared.Fault.TheVariants.{WireType, Limit, Negative}
use Rattle.format.specs.Result.{ok}
use Rattle.format.specs.Number.{Bytes, half}
use Rattle.format.specs.Format.{Format, Index, number, block, nothing, room, into, both, each}
use Rattle.format.specs.Value.{string, ascii, is_column, Value, value}
use Rattle.format.specs.Message.{count, column_type, list, third, most_columns, unlimited, most_row, Metadata, metadata, row, Table, table, in_table, second, first, most_items, flag_byte, after_flags, head, response}
use Rattle.format.proofs.Results.{ok_same, bound, spared, passed}
use Rattle.format.proofs.Numbers.{Bytes-take}
use Rattle.format.proofs.Laws.{Lawful, lawful_number, lawful_block, lawful_nothing, lawful_ruled, lawful_into, lawful_both, lawful_present, lawful_each, all_replicate, all_map, length-each}
use Rattle.format.proofs.Looks.{looks_longer}
use Rattle.format.proofs.Formats.{lawful_list, lawful_value, lawful_metadata, lawful_row, lawful_table, lawful_head}
use Rattle.scan.proofs.Answers.{took}
use Rattle.scan.proofs.Params.{byte_is}
use Rattle.tally.specs.declared.Tour.{Tour}
use Rattle.tally.specs.Walks.{Walked}
use Rattle.tally.proofs.Visits.{visited_both}
use Rattle.tally.proofs.Tours.{walked_ruled, walked_into}
use Rattle.tally.proofs.Values.{lawful_string, lawful_count, ruled_read, count_read}

-- how each format here is made
ruleset laws = (lawful_number, lawful_block, lawful_nothing, lawful_ruled, lawful_into, lawful_both, lawful_present, lawful_each, lawful_string, lawful_count, lawful_list, lawful_value, lawful_metadata, lawful_row, lawful_table, all_replicate, all_map, lit<, tt)

-- what was read of a room
pub record Roomed {A : Type 0} (f : Format A) (s : List ℕ) (at : ℕ) (a : A) (next : ℕ) : Type 0 where
  pub n : ℕ
  pub length-read : (number 4 0).read s at ≡ ok (n, at + 4)
  pub fit : at + 4 + n ≤ length s
  pub inside : f.read s (at + 4) ≡ ok (a, next)
  pub end : next ≡ at + 4 + n

pub roomed : {A : Type 0} (most field : ℕ) {f : Format A} (l : Lawful f) (s : List ℕ) (by : Bytes s) (at : ℕ) (a : A) (next : ℕ) → (room most field f).read s at ≡ ok (a, next) → Roomed f s at a next
unfolding room number
roomed {A} most field {f} l s by at a next e =
    let r = bound ((number 4 field).read s at) e in
    let n = r.0.0 in
    let place : r.0.1 ≡ at + 4 = (took 4 field s at n r.0.1 r.1).place in
    let t₁ = spared (leb (half 4) n) _ _ r.2 in
    let t₂ = spared (ltb most n) _ _ t₁.1 in
    let t₃ = spared (ltb (length s) (at + 4 + n)) _ _ t₂.1 in
    let fit : at + 4 + n ≤ length s = ltb-false (length s) (at + 4 + n) t₃.0 in
    let cut = take (at + 4 + n) s in
    let size : length cut ≡ at + 4 + n = length-take-le (at + 4 + n) s fit in
    let q = bound (f.read cut (at + 4)) t₃.1 in
    let end = passed (eqb q.0.1 (at + 4 + n)) _ _ q.2 in
    let long = looks_longer l cut (Bytes-take (at + 4 + n) s by) (at + 4) q.0.1 q.0.0 (omega arith) q.1 (drop (at + 4 + n) s) in
    record { n = n; length-read = r.1 ∙ ap (λ (p : ℕ). ok (n, p)) place; fit = fit; inside = rw take-append-drop at long ∙ end.1; end = sym (ap (λ (p : A × ℕ). p.1) (ok_same end.1)) ∙ eqb-true q.0.1 (at + 4 + n) end.0 }

module _ (s : List ℕ) (by : Bytes s) {ix : Index} {tour : Tour} {out : List ℕ} {mid : Tour} {written : List ℕ} {after : Tour} {more : List ℕ} where
  pub walked_room : {A : Type 0} (most field : ℕ) {f : Format A} → Lawful f → Walked (number 4 field) s ix tour out mid written → Walked f s ix mid written after more
      → Walked (room most field f) s ix tour out after more
  unfolding room number
  walked_room most field {f} l t u = record {
    goes = λ a next e.
        let r = roomed most field l s by tour.at a next e in
        let x = t.goes r.n (tour.at + 4) r.length-read in
        let y = u.goes a next (rw x.0 r.inside) in
        (y.0, rw (visited_both, ← x.0, ← x.1) y.1);
  }

-- the types of columns, as they stand
pub types_are : (at-index : ℕ → Index → Index) (k n field : ℕ) (s : List ℕ) (at : ℕ) → at ≤ length s → (ts : List ℕ) (next : ℕ)
    → (each at-index k (replicate n (column_type field))).read s at ≡ ok (ts, next) → (ts ≡ take n (drop at s)) × (at + n ≤ length s)
unfolding each nothing
types_are at-index k zero field s at h ts next e = (sym (ap (λ (p : List ℕ × ℕ). p.0) (ok_same e)), omega arith)
types_are at-index k (suc n) field s at h ts next e =
    let r = bound ((column_type field).read s at) e in
    let q = bound ((each at-index (k + 1) (replicate n (column_type field))).read s r.0.1) r.2 in
    let one = took 1 field s at r.0.0 r.0.1 (ruled_read is_column WireType (number 1 field) s at r.1) in
    let place : r.0.1 ≡ at + 1 = one.place in
    let fit : at + 1 ≤ length s = one.fit in
    let more = types_are at-index (k + 1) n field s r.0.1 (omega arith) q.0.0 q.0.1 q.1 in
    let byte : r.0.0 ≡ get_or s at 0 = one.value ∙ byte_is s at in
    let here : drop at s ≡ get_or s at 0 ∷ drop (suc at) s = drop-cons s at 0 (omega arith) in
    let next_place : r.0.1 ≡ suc at = omega arith in
    let rest : q.0.0 ≡ take n (drop (suc at) s) = more.0 ∙ ap (λ (p : ℕ). take n (drop p s)) next_place in
    let end = more.1 in
    let list : r.0.0 ∷ q.0.0 ≡ ts = ap (λ (p : List ℕ × ℕ). p.0) (ok_same q.2) in
    (sym list ∙ ap₂ (λ (b : ℕ) (l : List ℕ). b ∷ l) byte rest ∙ sym (ap (take (suc n)) here), omega arith)

-- the columns of a table, after its metadata's status
abbrev pub columns : ℕ → Format (List ℕ × List (Option (List ℕ)))
columns n = both (each third 0 (replicate n (column_type 45))) (λ t. each third 0 (replicate n (string false ascii 46 47)))

abbrev pub described : Format (ℕ × (ℕ × (List ℕ × List (Option (List ℕ)))))
described = both (number 1 43) (λ u. both (count 2 most_columns 44) columns)

pub lawful_types : (n : ℕ) → Lawful (each third 0 (replicate n (column_type 45)))
lawful_types n = search laws

described_back : (v : ℕ × (ℕ × (List ℕ × List (Option (List ℕ))))) → described.Good v
    → ◌≡◌ {A = ℕ × (ℕ × (List ℕ × List (Option (List ℕ))))} (v.0, (length v.1.1.0, v.1.1)) v
unfolding both
described_back v g =
    ap (λ (n : ℕ). (v.0, (n, v.1.1))) (length-each third 0 (replicate v.1.0 (column_type 45)) v.1.1.0 g.1.1.0 ∙ length-replicate v.1.0 (column_type 45))

lawful_described : Lawful described
lawful_described = search laws depth 10

abbrev told : ℕ × (ℕ × (List ℕ × List (Option (List ℕ)))) → Metadata
told v = record { status = v.0; types = v.1.1.0; names = v.1.1.1 }

abbrev untold : Metadata → ℕ × (ℕ × (List ℕ × List (Option (List ℕ))))
untold l = (l.status, (length l.types, (l.types, l.names)))

lawful_told : Lawful (into told untold described)
lawful_told = lawful_into told untold described_back lawful_described

-- where the types stand that a metadata at a place has
pub record Columns (s : List ℕ) (at : ℕ) (m : Metadata) : Type 0 where
  pub n : ℕ
  pub count_read : (number 2 0).read s (at + 5) ≡ ok (n, at + 7)
  pub fit : at + 7 + n ≤ length s
  pub types : m.types ≡ take n (drop (at + 7) s)

pub where_columns : (s : List ℕ) → Bytes s → (at : ℕ) (m : Metadata) (next : ℕ) → metadata.read s at ≡ ok (m, next) → Columns s at m
unfolding metadata into both
where_columns s by at m next e =
    let r = roomed unlimited 42 lawful_told s by at m next e in
    let a = bound (described.read s (at + 4)) r.inside in
    let b = bound ((number 1 43).read s (at + 4)) a.1 in
    let c = bound ((both (count 2 most_columns 44) columns).read s b.0.1) b.2 in
    let d = bound ((count 2 most_columns 44).read s b.0.1) c.1 in
    let n = d.0.0 in
    let g = bound ((columns n).read s d.0.1) d.2 in
    let h = bound ((each third 0 (replicate n (column_type 45))).read s d.0.1) g.1 in
    let k = bound ((each third 0 (replicate n (string false ascii 46 47))).read s h.0.1) h.2 in
    let status : b.0.1 ≡ at + 5 = (took 1 43 s (at + 4) b.0.0 b.0.1 b.1).place ∙ omega arith in
    let number_read = count_read 2 most_columns 44 s b.0.1 n d.0.1 d.1 in
    let counted = took 2 0 s b.0.1 n d.0.1 number_read in
    let first : d.0.1 ≡ at + 7 = counted.place ∙ omega arith in
    let inside : d.0.1 ≤ length s = omega (arith, counted.fit, counted.place) in
    let found = types_are third 0 n 45 s d.0.1 inside h.0.0 h.0.1 h.1 in
    let t₁ : a.0.0.1.1.0 ≡ m.types = ap (λ (p : Metadata × ℕ). p.0.types) (ok_same a.2) in
    let t₂ : c.0.0.1.0 ≡ a.0.0.1.1.0 = ap (λ (p : (ℕ × (ℕ × (List ℕ × List (Option (List ℕ))))) × ℕ). p.0.1.1.0) (ok_same c.2) in
    let t₃ : g.0.0.0 ≡ c.0.0.1.0 = ap (λ (p : (ℕ × (List ℕ × List (Option (List ℕ)))) × ℕ). p.0.1.0) (ok_same g.2) in
    let t₄ : h.0.0 ≡ g.0.0.0 = ap (λ (p : (List ℕ × List (Option (List ℕ))) × ℕ). p.0.0) (ok_same k.2) in
    record {
      n = n;
      count_read = ap (λ (p : ℕ). (number 2 0).read s p) (sym status) ∙ number_read ∙ ap (λ (p : ℕ). ok (n, p)) first;
      fit = omega (arith, found.1);
      types = sym (t₄ ∙ t₃ ∙ t₂ ∙ t₁) ∙ found.0 ∙ ap (λ (p : ℕ). take n (drop p s)) first;
    }

-- the rows by the types that the metadata has
abbrev pub rows : Metadata → Format (List (List Value))
rows m = list 4 unlimited 48 second (row m.types)

-- what stands in the rooms of a row and of a table
lawful_cells : (types : List ℕ) → Lawful (each third 0 (map (value 50 51) types))
lawful_cells types = search laws

lawful_rows : Lawful (in_table metadata)
lawful_rows = search laws depth 6

module _ (s : List ℕ) (by : Bytes s) {ix : Index} {tour : Tour} {out : List ℕ} {mid : Tour} {written : List ℕ} {after : Tour} {more : List ℕ} where
  pub walked_metadata : Walked (number 4 42) s ix tour out mid written → Walked described s ix mid written after more → Walked metadata s ix tour out after more
  unfolding metadata
  walked_metadata t u = walked_room s by unlimited 42 lawful_told t (walked_into s told untold by lawful_described described_back u)

  pub walked_row : (types : List ℕ) → Walked (number 4 49) s ix tour out mid written → Walked (each third 0 (map (value 50 51) types)) s ix mid written after more
      → Walked (row types) s ix tour out after more
  unfolding row
  walked_row types t u = walked_room s by most_row 49 (lawful_cells types) t u

  pub walked_table : Walked (number 4 41) s ix tour out mid written → Walked (both metadata rows) s ix mid written after more → Walked table s ix tour out after more
  unfolding table
  walked_table t u =
      walked_room s by unlimited 41 lawful_rows t
      (walked_into s (λ v. record { metadata = v.0; rows = v.1 }) (λ l. (l.metadata, l.rows)) by (search laws depth 6) (λ v g. refl) u)

module _ (s : List ℕ) (by : Bytes s) {ix : Index} {tour : Tour} {out : List ℕ} {after : Tour} {written : List ℕ} where
  pub walked_count : (k most field : ℕ) → Walked (number k field) s ix tour out after written → Walked (count k most field) s ix tour out after written
  walked_count k most field t = walked_ruled s (λ n. leb n most) Limit (walked_ruled s (λ n. ltb n (half k)) Negative t)

  pub walked_head : (timed : Bool) → Walked (both (block 8 22) (λ c. both (flag_byte 30) (after_flags timed))) s ix tour out after written → Walked (head timed) s ix tour out after written
  unfolding head
  walked_head timed w = walked_into s _ _ by (search laws depth 16) (λ v g. refl) w

  pub walked_reply : (timed : Bool) → Walked (both (head timed) (λ h. list 2 most_items 40 first table)) s ix tour out after written → Walked (response timed) s ix tour out after written
  unfolding response
  walked_reply timed w = walked_into s _ _ by (search (laws, lawful_head)) (λ v g. refl) w

-- where a room ends that was read, by its length
pub record Ended (s : List ℕ) (at next : ℕ) : Type 0 where
  pub n : ℕ
  pub length-read : (number 4 0).read s at ≡ ok (n, at + 4)
  pub fit : at + 4 + n ≤ length s
  pub end : next ≡ at + 4 + n

ended : {A : Type 0} {f : Format A} {s : List ℕ} {at : ℕ} {a : A} {next : ℕ} → Roomed f s at a next → Ended s at next
ended r = record { n = r.n; length-read = r.length-read; fit = r.fit; end = r.end }

module _ (s : List ℕ) (by : Bytes s) (at : ℕ) where
  pub row_ended : (types : List ℕ) (a : List Value) (next : ℕ) → (row types).read s at ≡ ok (a, next) → Ended s at next
  unfolding row
  row_ended types a next e = ended (roomed most_row 49 (lawful_cells types) s by at a next e)

  pub metadata_ended : (a : Metadata) (next : ℕ) → metadata.read s at ≡ ok (a, next) → Ended s at next
  unfolding metadata
  metadata_ended a next e = ended (roomed unlimited 42 lawful_told s by at a next e)

  pub table_ended : (a : Table) (next : ℕ) → table.read s at ≡ ok (a, next) → Ended s at next
  unfolding table
  table_ended a next e = ended (roomed unlimited 41 lawful_rows s by at a next e)

-- the same by what the code finds
pub found_columns : (s : List ℕ) → Bytes s → (at : ℕ) (m : Metadata) (next : ℕ) → metadata.read s at ≡ ok (m, next) → {count first n : ℕ}
    → (at + 5 ≤ length s → count ≡ at + 5) → (at + 7 ≤ length s → first ≡ at + 7) → ((k end : ℕ) → (number 2 0).read s count ≡ ok (k, end) → n ≡ k)
    → (first + n ≤ length s) × (m.types ≡ take n (drop first s))
found_columns s by at m next e {count} {first} {n} five seven told =
    let w = where_columns s by at m next e in
    let fit = w.fit in
    let a : count ≡ at + 5 = five (omega arith) in
    let b : first ≡ at + 7 = seven (omega arith) in
    let c : n ≡ w.n = told w.n (at + 7) (rw a w.count_read) in
    (omega arith, rw (b, c) w.types)
