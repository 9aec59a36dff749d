-- Readings that are plainly fine: a number that fits, a counted body or a null, a body that is no null's, and a number of 16 bytes that passes its rule.
use Rattle.std.specs.Prelude.{Ok, Some, None}
use Prim.Native.Nat.{ℕ, ◌+◌, ◌*◌, ◌-◌, ◌^◌, ◌<◌, ◌≤◌}
use mathlib.Core.Path.{◌≡◌, refl, sym, ◌∙◌, ap, subst}
use mathlib.Core.Bool.{Bool, true, false}
use mathlib.Core.List.{List}
use mathlib.Core.Option.{some}
use lib.ListN.{length, take, drop, length-drop}
use lib.Seq.{length-take-le}
use lib.Dec.{leb, eqb}
use native.Mathlib.Omega.{arith}
use borrow.Author.Tests.{le-leb, ne_eqb}
use Rattle.format.specs.declared.Fault.{Fault}
use Rattle.format.specs.Result.{Res, ok, pick}
use Rattle.format.specs.Number.{num_at, null4, half}
use Rattle.format.specs.Format.{number, ruled, counted, Verdict, fine, judged}
use Rattle.format.specs.Value.{most_bytes, not_empty, anything, ascii, string, value, width_of}
use Rattle.format.specs.Message.{unlimited}
use Rattle.format.specs.Text.{utf8_from, utf8}
use Rattle.text.specs.Shown.{Found, shown_at}
use Rattle.text.proofs.Finds.{finds_texts}
use Rattle.scan.specs.Shown.{shown_next, shown_span}
use Rattle.scan.proofs.Counted.{null_body, whole, some_fine}
use Rattle.scan.proofs.Steps.{ruled_go}
use Rattle.scan.proofs.Sixteen.{num_at_split}
use Rattle.scan.proofs.Values.{plain_ends}
use Rattle.quick.specs.Past.{Past, PastBody, SureBody, most_value, plain_of}

module _ (s : List ℕ) (at : ℕ) where
  pub number_reads : (k : ℕ) → at + k ≤ length s → (number k 0).read s at ≡ ok (num_at k s at, at + k)
  unfolding number
  number_reads k h = rw (le-leb (at + k) (length s) h)

  pub number_past : (k : ℕ) → k ≤ most_value → Past s at ((number k 0).read s at) (at + k)
  number_past k small there = (omega arith, omega arith, λ h. ap shown_next (number_reads k h))

  -- a counted body or a null whose bytes its rule permits
  pub body_past : (rule : List ℕ → Verdict) (r : ℕ) → PastBody s at r
      → (r ≤ length s → r ≡ at + 4 + num_at 4 s at → rule (take (num_at 4 s at) (drop (at + 4) s)) ≡ fine)
      → Past s at ((string true rule 0 0).read s at) r
  body_past rule r is fit there = by_test (eqb n null4) refl (is there)
    where
      n : ℕ
      n = num_at 4 s at

      Known : Bool → Type 0
      Known t = (at + 4 ≤ length s) × (pick t 0 n ≤ most_bytes) × (r ≡ at + 4 + pick t 0 n)

      by_test : (t : Bool) → eqb n null4 ≡ t → Known t → (at ≤ r) × (r ≤ at + most_value) × (r ≤ length s → shown_next ((counted true most_bytes rule 0 0).read s at) ≡ Ok r)
      by_test true e known =
          let place : r ≡ at + 4 = omega (arith, known.2) in
          let read = null_body true most_bytes rule 0 0 s at n (at + 4) (number_reads 4 known.0) e in
          (omega arith, omega arith, λ h. ap shown_next read ∙ ap Ok (sym place))
      by_test false e known =
          let place : r ≡ at + 4 + n = known.2 in
          let few : n ≤ most_bytes = known.1 in (
            omega arith,
            omega arith,
            λ h.
                let room : leb (at + 4 + n) (length s) ≡ true = le-leb (at + 4 + n) (length s) (omega arith) in
                let read = whole true most_bytes rule 0 0 s at n (at + 4) (number_reads 4 known.0) e (omega arith) few room in
                ap shown_next read.0 ∙ ap (λ (v : Verdict). shown_next (judged v (take n (drop (at + 4) s), at + 4 + n) at)) (fit h place) ∙ ap Ok (sym place),
          )

  pub string_past : (r : ℕ) → PastBody s at r → Past s at ((string true anything 0 0).read s at) r
  string_past r is = body_past anything r is (λ h e. refl)

  -- a text whose bytes were looked at and none of which tears it
  pub text_past : (r : ℕ) → PastBody s at r → at + 4 ≤ r → {found : Found} → found ≡ shown_at (utf8_from 0 0 (take (r - (at + 4)) (drop (at + 4) s))) → found ≡ None
      → Past s at ((string true utf8 0 0).read s at) r
  text_past r is after {found} e none = body_past utf8 r is (λ h place.
      let size : r - (at + 4) ≡ num_at 4 s at = omega arith in
      finds_texts.passes (take (num_at 4 s at) (drop (at + 4) s)) (sym (ap (λ (n : ℕ). shown_at (utf8_from 0 0 (take n (drop (at + 4) s)))) size) ∙ sym e ∙ none))

  pub geography_past : (r : ℕ) → 0 < num_at 4 s at → PastBody s at r → Past s at ((string true not_empty 0 0).read s at) r
  geography_past r filled is = body_past not_empty r is (λ h e.
      let room : num_at 4 s at ≤ length (drop (at + 4) s) = simp length-drop (omega arith) in
      let size = length-take-le (num_at 4 s at) (drop (at + 4) s) room in
      some_fine (take (num_at 4 s at) (drop (at + 4) s)) (omega (arith, size)))

  -- a number of 16 bytes by its halves
  pub sixteen_past : (test : ℕ → Bool) (fault : Fault) → test (num_at 8 s at * 2 ^ 64 + num_at 8 s (at + 8)) ≡ true → Past s at ((ruled test fault (number 16 0)).read s at) (at + 16)
  sixteen_past test fault is there = (omega arith, omega arith, λ h. ap shown_next (ruled_go test fault (number 16 0) s at (number_reads 16 h) (ap test (num_at_split 8 8 s at) ∙ is)))

  -- a value whose type has one size and no rule
  module _ (t : ℕ) (plain : 0 < plain_of t) where
    other : (u : ℕ) → plain_of u ≡ 0 → t ≡ u → ⊥
    other u zero e = omega (arith, plain, ap plain_of e, zero)

    width : plain_of t ≡ width_of t
    width = rw (ne_eqb t 22 (other 22 refl), ne_eqb t 26 (other 26 refl))

    pub plain_reads : at + plain_of t ≤ length s → shown_next ((value 0 0 t).read s at) ≡ Ok (at + plain_of t)
    plain_reads h =
        sym (plain_ends s at t (other 9 refl) (other 25 refl) (other 27 refl) (other 22 refl) (other 26 refl))
        ∙ ap (λ (k : ℕ). shown_next ((number k 0).read s at)) (sym width) ∙ ap shown_next (number_reads (plain_of t) h)

  pub plain_past : (t k : ℕ) → plain_of t ≡ k → 0 < k → k ≤ most_value → Past s at ((value 0 0 t).read s at) (at + k)
  plain_past t k is there small far =
      let plain : 0 < plain_of t = omega (arith, is) in
      let same : at + plain_of t ≡ at + k = ap (λ (n : ℕ). at + n) is in
      (omega arith, omega arith, λ h. plain_reads t plain (omega (arith, is)) ∙ ap Ok same)

-- a counted body that fits and whose bytes its rule permits, whatever its limit
module _ (s : List ℕ) (at end : ℕ) (place : end ≡ at + 4 + num_at 4 s at) (fit : end ≤ length s) where
  pub counted_reads : (limit : ℕ) (rule : List ℕ → Verdict) (l b : ℕ) → num_at 4 s at ≤ limit → limit < half 4 → rule (take (num_at 4 s at) (drop (at + 4) s)) ≡ fine
      → (counted false limit rule l b).read s at ≡ ok (some (take (num_at 4 s at) (drop (at + 4) s)), end)
  counted_reads limit rule l b few unsigned permits =
      let n = num_at 4 s at in
      let bs = take n (drop (at + 4) s) in
      let room : leb (at + 4 + n) (length s) ≡ true = le-leb (at + 4 + n) (length s) (omega arith) in
      let read = whole false limit rule l b s at n (at + 4) (number_reads s at 4 (omega arith)) refl (omega arith) few room in
      read.0 ∙ ap (λ (v : Verdict). judged v (bs, at + 4 + n) at) permits ∙ ap (λ (p : ℕ). ok (some bs, p)) (sym place)

module _ (s : List ℕ) (at most : ℕ) {start end : ℕ} {b : _} (is : SureBody s at most b) (told : b ≡ Some (start, end)) where
  -- what is known of a body that surely is one
  pub sure : SureBody s at most (Some (start, end))
  sure = subst (SureBody s at most) told is

  pub room_reads : most ≤ unlimited → Ok (start, end) ≡ shown_span at ((counted false unlimited anything 0 0).read s at)
  room_reads few =
      let read = counted_reads s at end sure.1 sure.3 unlimited anything 0 0 (omega (arith, sure.2)) (omega arith) refl in
      ap (λ (p : ℕ). Ok (p, end)) sure.0 ∙ sym (ap (shown_span at) read)

  pub name_reads : most ≤ most_bytes → ascii (take (end - start) (drop start s)) ≡ fine → shown_next ((string false ascii 46 47).read s at) ≡ Ok end
  name_reads few permits =
      let size : end - start ≡ num_at 4 s at = omega (arith, sure.0, sure.1) in
      let same = ap (λ (p : ℕ). ascii (take (end - start) (drop p s))) (sym sure.0) ∙ permits in
      let bytes : ascii (take (num_at 4 s at) (drop (at + 4) s)) ≡ fine = sym (ap (λ (n : ℕ). ascii (take n (drop (at + 4) s))) size) ∙ same in
      ap shown_next (counted_reads s at end sure.1 sure.3 most_bytes ascii 46 47 (omega (arith, sure.2)) (omega arith) bytes)

module _ {A B : Type 0} (s : List ℕ) (at r : ℕ) (x : Res (A × ℕ)) (y : Res (B × ℕ)) where
  -- two readings that end alike
  pub past_as : shown_next x ≡ shown_next y → Past s at x r → Past s at y r
  past_as same is there = let w = is there in (w.0, w.1, λ h. sym same ∙ w.2 h)
