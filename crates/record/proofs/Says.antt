-- What the code finds at the places of an accepted reading's parts.
use Rattle.record.specs.declared.Field.{Field}
use Prim.Native.Nat.{ℕ, ◌+◌}
use mathlib.Core.Path.{◌≡◌, refl, sym, ◌∙◌, ap, subst}
use mathlib.Core.Bool.{Bool, true, false}
use mathlib.Core.List.{List}
use mathlib.Core.Option.{Option, some, none, get_or}
use lib.ListN.{length, take, drop, replicate, length-replicate}
use lib.Dec.{leb}
use native.Mathlib.Nat.{add-zero}
use Rattle.format.specs.declared.Fault.{Fault}
use Rattle.format.specs.declared.Fault.TheVariants.{Short}
use Rattle.format.specs.Result.{ok, no, pick}
use Rattle.format.specs.Number.{num_at}
use Rattle.format.specs.Format.{Format, Index, Verdict, number, block, ruled, both, present, nothing, each}
use Rattle.format.specs.Value.{string, anything, most_bytes}
use Rattle.format.specs.Message.{Message, content_of, read_message, list, binary, noted, trip}
use Rattle.format.proofs.Results.{passed, ok_same}
use Rattle.format.proofs.Texts.{counted_unruled}
use Rattle.scan.proofs.Answers.{took}
use Rattle.places.specs.Places.{after_text, after_note, after_number, trip_size}
use Rattle.places.proofs.Readings.{both_parts, into_parts, ruled_part, each_length, block_held, text_ends}
use Rattle.places.proofs.Contents.{content_read}
use Rattle.record.specs.declared.Noted.{Noted}
use Rattle.record.specs.Spans.{span_of, note_of}
use Rattle.record.specs.Peeks.{num_in, spot_in, block_in, number_at, text_at, note_at, block_at, noted_at}
use Rattle.record.proofs.Holds.{Holds, HoldsNote, text_held}
use Rattle.record.proofs.Fields.{spot, note_absent, note_there}

-- ---- what the code finds
module _ (s : List ℕ) (at : ℕ) where
  pub number_says : (k field n next : ℕ) → (number k field).read s at ≡ ok (n, next) → (number_at s at k ≡ record { value = n; next = at + k }) × (next ≡ at + k)
  unfolding number_at number
  number_says k field n next e =
      let t = took k field s at n next e in
      (ap (num_in at) (e ∙ ap (λ (m : ℕ). ok (n, m)) t.place), t.place)

  pub block_says : (field : ℕ) (bs : List ℕ) (next : ℕ) → (block 8 field).read s at ≡ ok (bs, next) → (block_at s at ≡ record { value = bs; next = at + 8 }) × (next ≡ at + 8)
  unfolding block_at block
  block_says field bs next e =
      let far : at + 8 ≡ next = ap (λ (w : List ℕ × ℕ). w.1) (ok_same (passed (leb (at + 8) (length s)) _ _ e).1) in
      (ap (block_in at) (e ∙ ap (λ (m : ℕ). ok (bs, m)) (sym far)), sym far)

  pub text_says : (nullable : Bool) (rule : List ℕ → Verdict) (l b : ℕ) (o : Option (List ℕ)) (next : ℕ) → (string nullable rule l b).read s at ≡ ok (o, next)
      → (text_at s at nullable ≡ spot (span_of at o) (after_text at o)) × (next ≡ after_text at o)
  unfolding text_at
  text_says nullable rule l b o next e =
      let plain = counted_unruled nullable most_bytes rule l b 0 0 s at (o, next) e in
      let far = text_ends s at nullable 0 0 o next plain in
      (ap (spot_in at) (plain ∙ ap (λ (m : ℕ). ok (o, m)) far), far)

  pub note_says : (there nullable : Bool) (rule : List ℕ → Verdict) (l b : ℕ) (o : Option (Option (List ℕ))) (next : ℕ) → (present there none (string nullable rule l b)).read s at ≡ ok (o, next)
      → (note_at s at there nullable ≡ spot (note_of at o) (after_note at o)) × (next ≡ after_note at o)
  unfolding present nothing
  note_says true nullable rule l b o next e =
      let p = into_parts s some _ (string nullable rule l b) at o next e in
      let t = text_says nullable rule l b p.0 next p.1 in
      (sym (note_there s at true nullable refl) ∙ t.0 ∙ ap (λ (x : Option (Option (List ℕ))). spot (note_of at x) (after_note at x)) p.2, t.1 ∙ ap (after_note at) p.2)
  note_says false nullable rule l b o next e =
      let same = ok_same e in
      let gone : none ≡ o = ap (λ (w : Option (Option (List ℕ)) × ℕ). w.0) same in
      (sym (note_absent s at false nullable refl) ∙ ap (λ (x : Option (Option (List ℕ))). spot (note_of at x) (after_note at x)) gone, sym (ap (λ (w : Option (Option (List ℕ)) × ℕ). w.1) same) ∙ ap (after_note at) gone)

  pub note_held : (there nullable : Bool) (rule : List ℕ → Verdict) (l b : ℕ) (o : Option (Option (List ℕ))) (next : ℕ) → (present there none (string nullable rule l b)).read s at ≡ ok (o, next) → HoldsNote s (note_of at o) o
  unfolding present nothing
  note_held true nullable rule l b o next e =
      let p = into_parts s some _ (string nullable rule l b) at o next e in
      subst (λ (x : Option (Option (List ℕ))). HoldsNote s (note_of at x) x) p.2 (text_held s at nullable rule l b p.0 next p.1)
  note_held false nullable rule l b o next e =
      subst (λ (x : Option (Option (List ℕ))). HoldsNote s (note_of at x) x) (ap (λ (w : Option (Option (List ℕ)) × ℕ). w.0) (ok_same e)) refl

  module _ {A : Type 0} (most field : ℕ) (ix : ℕ → Index → Index) (f : Format A) where
    -- a count, and so many values
    pub list_says : (l : List A) (next : ℕ) → (list 2 most field ix f).read s at ≡ ok (l, next) → number_at s at 2 ≡ record { value = length l; next = at + 2 }
    unfolding list
    list_says l next e =
        let p = into_parts s (λ v. v.1) _ (both _ (λ n. each ix 0 (replicate n f))) at l next e in
        let q = both_parts s _ (λ n. each ix 0 (replicate n f)) at p.0 next p.1 in
        let c = ruled_part s _ _ (number 2 field) at p.0.0 q.0 (ruled_part s _ _ _ at p.0.0 q.0 q.1) in
        let size : p.0.0 ≡ length l = sym (each_length s ix 0 (replicate p.0.0 f) q.0 p.0.1 next q.2 ∙ length-replicate p.0.0 f) ∙ ap length p.2 in
        (number_says 2 field p.0.0 q.0 c).0 ∙ ap (λ (n : ℕ). record { value = n; next = at + 2 }) size

-- ---- a number, and the string after it
abbrev pub notice : ℕ → ℕ → Option (Option (List ℕ)) → Noted
notice n from o = record { number = n; span = note_of from o; next = after_note from o }

module _ (s : List ℕ) (at : ℕ) where
  pub noted_says : (k field : ℕ) (there nullable : Bool) (rule : List ℕ → Verdict) (l b : ℕ) (v : ℕ × Option (Option (List ℕ))) (next : ℕ) → (noted (number k field) there none (string nullable rule l b)).read s at ≡ ok (v, next)
      → (noted_at s at k there nullable ≡ notice v.0 (at + k) v.1) × (next ≡ after_note (at + k) v.1) × HoldsNote s (note_of (at + k) v.1) v.1
  noted_says k field there nullable rule l b v next e =
      let q = both_parts s (number k field) (λ n. present there none (string nullable rule l b)) at v next e in
      let n = number_says s at k field v.0 q.0 q.1 in
      let rest = ap (λ (p : ℕ). (present there none (string nullable rule l b)).read s p) (sym n.1) ∙ q.2 in
      let t = note_says s (at + k) there nullable rule l b v.1 next rest in
      (rw (n.0, t.0), t.1, note_held s (at + k) there nullable rule l b v.1 next rest)

  -- the round trip, which is a number of 0 bytes where there is none
  no_number : number_at s at 0 ≡ record { value = 0; next = at }
  unfolding number_at number num_at
  no_number = by_room (leb (at + 0) (length s))
    where
      by_room : (t : Bool) → num_in at (pick t (ok (0, at + 0)) (no Short at)) ≡ record { value = 0; next = at }
      by_room true = rw (add-zero at)
      by_room false = refl

  abbrev maybe : Option ℕ → (Field ℕ)
  maybe o = record { value = get_or o 0; next = after_number 4 at o }

  maybe_says : (timed : Bool) (o : Option ℕ) (next : ℕ) → (trip timed).read s at ≡ ok (o, next) → (number_at s at (trip_size timed) ≡ maybe o) × (next ≡ after_number 4 at o)
  unfolding present nothing
  maybe_says true o next e =
      let p = into_parts s some _ (number 4 37) at o next e in
      let t = number_says s at 4 37 p.0 next p.1 in
      (t.0 ∙ ap maybe p.2, t.1 ∙ ap (after_number 4 at) p.2)
  maybe_says false o next e =
      let same = ok_same e in
      let gone : none ≡ o = ap (λ (w : Option ℕ × ℕ). w.0) same in
      (no_number ∙ ap maybe gone, sym (ap (λ (w : Option ℕ × ℕ). w.1) same) ∙ ap (after_number 4 at) gone)

  -- with the exception after it
  pub trip_says : (timed there : Bool) (v : Option ℕ × Option (Option (List ℕ))) (next : ℕ) → (noted (trip timed) there none (binary 38 39)).read s at ≡ ok (v, next)
      → (noted_at s at (trip_size timed) there false ≡ notice (get_or v.0 0) (after_number 4 at v.0) v.1) × (next ≡ after_note (after_number 4 at v.0) v.1)
      × HoldsNote s (note_of (after_number 4 at v.0) v.1) v.1
  trip_says timed there v next e =
      let q = both_parts s (trip timed) (λ n. present there none (binary 38 39)) at v next e in
      let n = maybe_says timed v.0 q.0 q.1 in
      let rest = ap (λ (p : ℕ). (present there none (binary 38 39)).read s p) (sym n.1) ∙ q.2 in
      let t = note_says s (after_number 4 at v.0) there false anything 38 39 v.1 next rest in
      (rw (n.0, t.0), t.1, note_held s (after_number 4 at v.0) there false anything 38 39 v.1 next rest)

-- ---- a field, and what follows it
module _ {B : Type 0} (s : List ℕ) (at : ℕ) where
  pub number_both : (k field : ℕ) (g : ℕ → Format B) (v : ℕ × B) (next : ℕ) → (both (number k field) g).read s at ≡ ok (v, next)
      → (number_at s at k ≡ record { value = v.0; next = at + k }) × ((g v.0).read s (at + k) ≡ ok (v.1, next))
  number_both k field g v next e =
      let q = both_parts s (number k field) g at v next e in
      let t = number_says s at k field v.0 q.0 q.1 in
      (t.0, ap (λ (p : ℕ). (g v.0).read s p) (sym t.1) ∙ q.2)

  pub ruled_both : (test : ℕ → Bool) (fault : Fault) (k field : ℕ) (g : ℕ → Format B) (v : ℕ × B) (next : ℕ) → (both (ruled test fault (number k field)) g).read s at ≡ ok (v, next)
      → (number_at s at k ≡ record { value = v.0; next = at + k }) × ((g v.0).read s (at + k) ≡ ok (v.1, next))
  ruled_both test fault k field g v next e =
      let q = both_parts s (ruled test fault (number k field)) g at v next e in
      let t = number_says s at k field v.0 q.0 (ruled_part s test fault (number k field) at v.0 q.0 q.1) in
      (t.0, ap (λ (p : ℕ). (g v.0).read s p) (sym t.1) ∙ q.2)

  pub block_both : (field : ℕ) (g : List ℕ → Format B) (v : List ℕ × B) (next : ℕ) → (both (block 8 field) g).read s at ≡ ok (v, next)
      → (block_at s at ≡ record { value = v.0; next = at + 8 }) × ((g v.0).read s (at + 8) ≡ ok (v.1, next)) × (take (length v.0) (drop at s) ≡ v.0)
  block_both field g v next e =
      let q = both_parts s (block 8 field) g at v next e in
      let t = block_says s at field v.0 q.0 q.1 in
      (t.0, ap (λ (p : ℕ). (g v.0).read s p) (sym t.1) ∙ q.2, block_held s at 8 field v.0 q.0 q.1)

  pub text_both : (nullable : Bool) (rule : List ℕ → Verdict) (l b : ℕ) (g : Option (List ℕ) → Format B) (v : Option (List ℕ) × B) (next : ℕ) → (both (string nullable rule l b) g).read s at ≡ ok (v, next)
      → (text_at s at nullable ≡ spot (span_of at v.0) (after_text at v.0)) × ((g v.0).read s (after_text at v.0) ≡ ok (v.1, next)) × Holds s (span_of at v.0) v.0
  text_both nullable rule l b g v next e =
      let q = both_parts s (string nullable rule l b) g at v next e in
      let t = text_says s at nullable rule l b v.0 q.0 q.1 in
      (t.0, ap (λ (p : ℕ). (g v.0).read s p) (sym t.1) ∙ q.2, text_held s at nullable rule l b v.0 q.0 q.1)

  pub noted_both : (k field : ℕ) (there nullable : Bool) (rule : List ℕ → Verdict) (l b : ℕ) (g : ℕ × Option (Option (List ℕ)) → Format B) (v : (ℕ × Option (Option (List ℕ))) × B) (next : ℕ)
      → (both (noted (number k field) there none (string nullable rule l b)) g).read s at ≡ ok (v, next)
      → (noted_at s at k there nullable ≡ notice v.0.0 (at + k) v.0.1) × ((g v.0).read s (after_note (at + k) v.0.1) ≡ ok (v.1, next)) × HoldsNote s (note_of (at + k) v.0.1) v.0.1
  noted_both k field there nullable rule l b g v next e =
      let q = both_parts s (noted (number k field) there none (string nullable rule l b)) g at v next e in
      let t = noted_says s at k field there nullable rule l b v.0 q.0 q.1 in
      (t.0, ap (λ (p : ℕ). (g v.0).read s p) (sym t.1) ∙ q.2, t.2)

-- ---- the whole message
pub record Said (kind : ℕ) (m : List ℕ) (r : Message) : Type 0 where
  pub version : number_at m 4 1 ≡ record { value = r.version; next = 5 }
  pub content : (content_of kind r.version).read m 5 ≡ ok (r.content, length m)

pub said : (kind : ℕ) (m : List ℕ) (r : Message) → read_message kind m ≡ ok r → Said kind m r
said kind m r e =
    let w = content_read kind m r e in
    record { version = (number_says m 4 1 2 r.version 5 w.0).0; content = w.1 }
