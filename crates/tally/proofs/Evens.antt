-- Rows whose columns are all of fixed sizes: each has so many bytes and so many fields, so that some of them are passed by products.
use Rattle.std.proofs.Common.{◌≡◌, ℕ, zero, suc, ◌+◌, ◌*◌, ◌%◌, ◌^◌, ◌<◌, ◌≤◌, Bool, true, false, ◌||◌, eqb, List, [], ◌∷◌, map, length, replicate, sym, refl, ap, ◌∙◌, subst, inl, ⊎_elim, add-zero, suc-mul, mul-pos, zero-mul, arith, length-append}
use Rattle.format.specs.declared.Fault.TheVariants.{Decimal, Point, WireType}
use Rattle.format.specs.Result.{ok, pick}
use Rattle.format.specs.Number.{Bytes}
use Rattle.format.specs.Format.{Format, Index, number, ruled, into, each, room, nothing, piece}
use Rattle.format.specs.Value.{Value, value, fixed_fine, is_counted, is_column, width_of, t_tinyint, t_smallint, t_integer, t_bigint, t_float, t_timestamp, t_decimal, t_point}
use Rattle.format.specs.Message.{second, third, row, most_row, column_type}
use Rattle.format.proofs.Results.{ok_same, bound}
use Rattle.format.proofs.Laws.{Lawful, lawful_each, all_map, lawful_number, lawful_ruled}
use Rattle.format.proofs.Formats.{lawful_value, lawful_row}
use Rattle.scan.proofs.Answers.{took}
use Rattle.tally.specs.declared.Tour.{Tour}
use Rattle.tally.specs.Task.{seen_to, Calm}
use Rattle.tally.specs.Walks.{Walked}
use Rattle.tally.proofs.Tours.{walked_nothing}
use Rattle.tally.proofs.Values.{fixed_type, ruled_read}
use Rattle.tally.proofs.Tables.{roomed, types_are}
use Rattle.tally.proofs.Rounds.{Round, round_first, round_next, round_last, all_same}
use Rattle.tally.specs.declared.Tally.{Tally}
use Rattle.tally.specs.Tallies.{counting, Tallied, Fixed, widths}
use Rattle.tally.proofs.Counts.{seen_after, seen_both, seen_is, calm_fewer, calm_next, visited_calm, fields_tile}

-- a type that has a width has no length of its own
width_fixed : (t : ℕ) → 0 < width_of t → is_counted t ≡ false
width_fixed t h = fixed_type t (λ is.
    let none : width_of t ≡ 0 = ⊎_elim (λ e. rw e) (λ more. ⊎_elim (λ e. rw e) (λ e. rw e) more) is in
    omega arith)

one_piece : (n at field : ℕ) (ix : Index) → 0 < n → length (piece n at field ix) ≡ 1
one_piece zero at field ix h = absurd (omega arith)
one_piece (suc n) at field ix h = refl

most_of : (a b c d e : Bool) → pick a 1 (pick b 2 (pick c 4 (pick d 8 (pick e 16 0)))) ≤ 16
most_of true b c d e = omega arith
most_of false true c d e = omega arith
most_of false false true d e = omega arith
most_of false false false true e = omega arith
most_of false false false false true = omega arith
most_of false false false false false = omega arith

pub width_most : (t : ℕ) → width_of t ≤ 16
width_most t = most_of (eqb t t_tinyint) (eqb t t_smallint) (eqb t t_integer) (eqb t t_bigint || (eqb t t_float || eqb t t_timestamp)) (eqb t t_decimal || eqb t t_point)

-- a value of a fixed size: its bytes, and its one field
even_value : (t : ℕ) → 0 < width_of t → (s : List ℕ) (at : ℕ) (v : Value) (next : ℕ) → (value 50 51 t).read s at ≡ ok (v, next)
    → (next ≡ at + width_of t) × ((ix : Index) (o : ℕ) → length ((value 50 51 t).fields ix o v) ≡ 1)
unfolding value into ruled number
even_value t h s at v next e =
    let is = width_fixed t h in
    let fault = pick (eqb t 22) Decimal Point in
    let f = ruled (fixed_fine t) fault (number (width_of t) 51) in
    let r = bound (f.read s at) (rw is at e) in
    let n = took (width_of t) 51 s at r.0.0 r.0.1 (ruled_read (fixed_fine t) fault (number (width_of t) 51) s at r.1) in
    (sym (ap (λ (p : Value × ℕ). p.1) (ok_same r.2)) ∙ n.place, λ ix o. rw is (one_piece (width_of t) o 51 ix h))

even_cells : (types : List ℕ) (k : ℕ) → Fixed types → (s : List ℕ) (at : ℕ) (vs : List Value) (next : ℕ) → (each third k (map (value 50 51) types)).read s at ≡ ok (vs, next)
    → (next ≡ at + widths types) × ((ix : Index) (o : ℕ) → length ((each third k (map (value 50 51) types)).fields ix o vs) ≡ length types)
unfolding each nothing
even_cells [] k g s at vs next e = (omega (arith, ap (λ (p : List Value × ℕ). p.1) (ok_same e)), λ ix o. refl)
even_cells (t ∷ types) k g s at vs next e =
    let r = bound ((value 50 51 t).read s at) e in
    let q = bound ((each third (k + 1) (map (value 50 51) types)).read s r.0.1) r.2 in
    let one = even_value t g.0 s at r.0.0 r.0.1 r.1 in
    let more = even_cells types (k + 1) g.1 s r.0.1 q.0.0 q.0.1 q.1 in
    subst (λ (w : List Value × ℕ). (w.1 ≡ at + (width_of t + widths types)) × ((ix : Index) (o : ℕ) → length ((each third k (value 50 51 t ∷ map (value 50 51) types)).fields ix o w.0) ≡ suc (length types)))
    (ok_same q.2) (omega (arith, one.0, more.0), λ ix o. rw length-append (omega (arith, one.1 (third k ix) o, more.1 ix (o + length ((value 50 51 t).bytes r.0.0)))))

-- a row of fixed sizes
even_row : (types : List ℕ) → Fixed types → (s : List ℕ) → Bytes s → (at : ℕ) (a : List Value) (next : ℕ) → (row types).read s at ≡ ok (a, next)
    → (next ≡ at + (4 + widths types)) × ((ix : Index) (o : ℕ) → length ((row types).fields ix o a) ≡ 1 + length types)
unfolding row room
even_row types g s by at a next e =
    let r = roomed most_row 49 (lawful_each third 0 (map (value 50 51) types) (all_map (value 50 51) (λ t. lawful_value 50 51 t) types)) s by at a next e in
    let w = even_cells types 0 g s (at + 4) a next r.inside in
    (omega (arith, w.0), λ ix o. omega (arith, w.1 ix (o + 4)))

-- values of one format, each of so many bytes and so many fields
module _ {A : Type 0} (at-index : ℕ → Index → Index) {f : Format A} (l : Lawful f) (s : List ℕ) (by : Bytes s) (size fields : ℕ)
    (even : (at : ℕ) (a : A) (next : ℕ) → f.read s at ≡ ok (a, next) → (next ≡ at + size) × ((ix : Index) (o : ℕ) → length (f.fields ix o a) ≡ fields)) where
  -- a tour some values on, which are counted by their bytes and fields
  abbrev pub on_even : ℕ → Tour → Tour
  on_even k tour = record { at = tour.at + k * size; task = seen_to tour.task (seen_after tour.task.seen (k * fields)) }

  walked_even : {ix : Index} (tour : Tour) (out : List ℕ) → Calm tour.task (length out) (tour.at + size) fields
      → Walked f s ix tour out (record { at = tour.at + size; task = seen_to tour.task (seen_after tour.task.seen fields) }) out
  walked_even {ix} tour out calm = record {
    goes = λ a next e.
        let w = even tour.at a next e in
        let es = f.fields ix tour.at a in
        let many : length es ≡ fields = w.1 ix tour.at in
        let place = w.0 in
        let met = visited_calm es tour.at next tour.task out (fields_tile l s by ix tour.at a next e) (calm_fewer tour.task (length out) calm (omega arith) (omega arith)) in
        (sym place, rw (← many) (sym met));
  }

  module _ {ix : Index} {n : ℕ} {from : Tour} {old : List ℕ} where
    pub rounds_even : (k i : ℕ) (tour : Tour) {out : List ℕ} → i + k ≤ n → Calm tour.task (length out) (tour.at + k * size) (k * fields)
        → Round at-index (λ m. f) s ix n from old i tour out → Round at-index (λ m. f) s ix n from old (i + k) (on_even k tour) out
    unfolding seen_after
    rounds_even zero i tour h calm w = rw (zero-mul, zero-mul, add-zero, add-zero) w
    rounds_even (suc k) i tour {out} h calm w =
        let bytes : suc k * size ≡ k * size + size = suc-mul k size in
        let count : suc k * fields ≡ k * fields + fields = suc-mul k fields in
        let next : Tour = record { at = tour.at + size; task = seen_to tour.task (seen_after tour.task.seen fields) } in
        let one = round_next at-index (λ m. f) (λ m. l) s by ix n i (omega arith) w (walked_even tour out (calm_fewer tour.task (length out) calm (omega arith) (omega arith))) in
        let later : Calm next.task (length out) (next.at + k * size) (k * fields) = calm_next tour.task (length out) fields (k * fields) (calm_fewer tour.task (length out) calm (omega arith) (omega arith)) in
        let rest = rounds_even k (i + 1) next (omega arith) later one in
        let index : i + 1 + k ≡ i + suc k = omega arith in
        let place : tour.at + size + k * size ≡ tour.at + suc k * size = omega arith in
        let many : fields + k * fields ≡ suc k * fields = omega arith in
        let seen : seen_after (seen_after tour.task.seen fields) (k * fields) ≡ seen_after tour.task.seen (suc k * fields) = sym (seen_both tour.task.seen fields (k * fields)) ∙ ap (seen_after tour.task.seen) many in
        rw (index, place, seen) at rest

-- what is seen, where there is a field
seen_told : (seen n : ℕ) {told : ℕ} → 0 < n → told ≡ (seen + n) % 2 ^ 64 → seen_after seen n ≡ told
seen_told seen zero h is = absurd (omega arith)
seen_told seen (suc n) h is = seen_is seen n ∙ sym is

-- rows of fixed sizes
module _ (types : List ℕ) (g : Fixed types) (s : List ℕ) (by : Bytes s) (size : ℕ) (total : size ≡ 4 + widths types) where
  pub rounds_rows : {ix : Index} {n : ℕ} {from : Tour} {old : List ℕ} (k i : ℕ) (tour : Tour) {out : List ℕ} {seen : ℕ} → 0 < k → i + k ≤ n
      → Calm tour.task (length out) (tour.at + k * size) (k * (1 + length types)) → seen ≡ (tour.task.seen + k * (1 + length types)) % 2 ^ 64
      → Round second (λ m. row types) s ix n from old i tour out
      → Round second (λ m. row types) s ix n from old (i + k) (record { at = tour.at + k * size; task = seen_to tour.task seen }) out
  rounds_rows k i tour some h calm told w =
      let fields = 1 + length types in
      let same = seen_told tour.task.seen (k * fields) (mul-pos some (omega arith)) told in
      rw same at (rounds_even second (lawful_row types) s by size fields (λ at a next e. rw total (even_row types g s by at a next e)) k i tour h calm w)

  pub tallied_rows : (tally : Tally) (n : ℕ) {seen : ℕ} → 0 < n → seen ≡ (tally.seen + n * (1 + length types)) % 2 ^ 64
      → Tallied (each second 0 (replicate n (row types))) s tally (record { at = tally.at + n * size; seen = seen })
  tallied_rows tally n some told = record {
    walks = λ ix.
        let first = round_first second (λ m. row types) s ix n (counting tally) [] in
        let last = rounds_rows n 0 (counting tally) {out = []} some (omega arith) (inl (omega arith)) told first in
        all_same second s (row types) n (round_last second (λ m. row types) s ix n (counting tally) [] (omega arith) last);
  }

-- the types of columns: a byte and a field each
even_type : (s : List ℕ) (at a next : ℕ) → (column_type 45).read s at ≡ ok (a, next) → (next ≡ at + 1) × ((ix : Index) (o : ℕ) → length ((column_type 45).fields ix o a) ≡ 1)
unfolding ruled number
even_type s at a next e = ((took 1 45 s at a next (ruled_read is_column WireType (number 1 45) s at e)).place, λ ix o. refl)

types_fit : (s : List ℕ) (at n : ℕ) → 0 < n → (ts : List ℕ) (next : ℕ) → (each third 0 (replicate n (column_type 45))).read s at ≡ ok (ts, next) → at + n ≤ length s
unfolding each
types_fit s at zero h ts next e = absurd (omega arith)
types_fit s at (suc n) h ts next e =
    let r = bound ((column_type 45).read s at) e in
    let one = (took 1 45 s at r.0.0 r.0.1 (ruled_read is_column WireType (number 1 45) s at r.1)).fit in
    (types_are third 0 (suc n) 45 s at (omega arith) ts next e).1

module _ (s : List ℕ) (tally : Tally) (n : ℕ) where
  pub tallied_no_types : n ≡ 0 → Tallied (each third 0 (replicate n (column_type 45))) s tally tally
  unfolding each
  tallied_no_types is = rw is (record { walks = λ ix. walked_nothing s (counting tally) [] [] })

  pub tallied_short : {after : Tally} → 0 < n → length s < tally.at + n → Tallied (each third 0 (replicate n (column_type 45))) s tally after
  tallied_short h over = record { walks = λ ix. record { goes = λ a next e. absurd (omega (arith, types_fit s tally.at n h a next e)) } }

  pub tallied_types : Bytes s → {seen : ℕ} → 0 < n → seen ≡ (tally.seen + n) % 2 ^ 64 → Tallied (each third 0 (replicate n (column_type 45))) s tally (record { at = tally.at + n; seen = seen })
  tallied_types by h told = record {
    walks = λ ix.
        let f = column_type 45 in
        let first = round_first third (λ m. f) s ix n (counting tally) [] in
        let last = rounds_even third (lawful_ruled is_column WireType (lawful_number 1 45)) s by 1 1 (even_type s) n 0 (counting tally) {out = []} (omega arith) (inl (omega arith)) first in
        let one : n * 1 ≡ n = omega arith in
        let same = seen_told tally.seen n h told in
        all_same third s f n (round_last third (λ m. f) s ix n (counting tally) [] (omega arith) (rw (one, same) at last));
  }
