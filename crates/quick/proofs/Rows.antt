-- Readings by one format, one after another: where those end that are left.
use Rattle.std.specs.Prelude.{Result, Ok, Err}
use Prim.Native.Nat.{ℕ, ◌+◌, ◌-◌, ◌<◌, ◌≤◌}
use mathlib.Core.Path.{◌≡◌, refl, sym, ◌∙◌, ap}
use mathlib.Core.List.{List, [], ◌∷◌, map}
use lib.ListN.{length, replicate, take}
use lib.Seq.{length-take-le}
use native.Mathlib.Omega.{arith}
use Rattle.format.specs.declared.Refusal.{Refusal}
use Rattle.format.specs.Result.{Res, ok, no, bind}
use Rattle.format.specs.Format.{Format, Index, nothing, each}
use Rattle.format.specs.Number.{num_at}
use Rattle.format.specs.Value.{value, anything}
use Rattle.format.specs.Message.{second, third, row, most_row}
use Rattle.scan.specs.Shown.{shown_next, shown_span}
use Rattle.scan.proofs.Answers.{next_go}
use Rattle.scan.proofs.Counted.{span_here, room_full}
use Rattle.scan.proofs.Loops.{Rest, replicate-formats, loop_done, loop_turn, loop_stop}
use Rattle.quick.specs.declared.Run.{Run}
use Rattle.quick.specs.Past.{Ends, PlainRow, RunBy, Surely, most_plain}
use Rattle.quick.proofs.Bodies.{counted_reads}

module _ {A : Type 0} (s : List ℕ) where
  -- the index plays no part in a reading
  index_free : (an-index other : ℕ → Index → Index) (fs : List (Format A)) (k l at : ℕ) → (each an-index k fs).read s at ≡ (each other l fs).read s at
  unfolding each nothing
  index_free an-index other [] k l at = refl
  index_free an-index other (f ∷ fs) k l at = by_result (f.read s at) (index_free an-index other fs (k + 1) (l + 1))
    where
      by_result : (r : Res (A × ℕ)) → ((next : ℕ) → (each an-index (k + 1) fs).read s next ≡ (each other (l + 1) fs).read s next)
          → bind {B = List A × ℕ} r (λ p. bind {B = List A × ℕ} ((each an-index (k + 1) fs).read s p.1) (λ q. ok (p.0 ∷ q.0, q.1)))
          ≡ bind {B = List A × ℕ} r (λ p. bind {B = List A × ℕ} ((each other (l + 1) fs).read s p.1) (λ q. ok (p.0 ∷ q.0, q.1)))
      by_result (ok p) same = ap (λ (w : Res (List A × ℕ)). bind {B = List A × ℕ} w (λ q. ok (p.0 ∷ q.0, q.1))) (same p.1)
      by_result (no g q) same = refl

module _ {A : Type 0} (f : Format A) (s : List ℕ) (n i at : ℕ) where
  left : Rest second (λ j. f) s n i at ≡ Ends f s (n - i) at
  left = ap shown_next (ap (λ (l : List (Format A)). (each second i l).read s at) (replicate-formats f i (n - i)) ∙ index_free s second second (replicate (n - i) f) i 0 at)

  pub ends_done : n ≤ i → Ends f s (n - i) at ≡ Ok at
  ends_done h = sym left ∙ loop_done second (λ j. f) s n i at h

-- readings that are numbered otherwise end alike
pub names_end : {A : Type 0} (f : Format A) (s : List ℕ) (n at : ℕ) → shown_next ((each third 0 (replicate n f)).read s at) ≡ Ends f s n at
names_end f s n at = ap shown_next (index_free s third second (replicate n f) 0 0 at)

module _ {A : Type 0} (f : Format A) (s : List ℕ) (n i at : ℕ) (h : i < n) {a : Result ℕ Refusal} (e : a ≡ shown_next (f.read s at)) where
  pub ends_turn : {next : ℕ} → a ≡ Ok next → Ends f s (n - (i + 1)) next ≡ Ends f s (n - i) at
  ends_turn {next} told = sym (left f s n (i + 1) next) ∙ loop_turn second (λ j. f) s n i at h e told ∙ left f s n i at

  pub ends_stop : {x : Refusal} → a ≡ Err x → Ends f s (n - i) at ≡ Err x
  ends_stop told = sym (left f s n i at) ∙ loop_stop second (λ j. f) s n i at h e told

-- after a run whose steps pass readings of one format
module _ {A : Type 0} (f : Format A) (s : List ℕ) {steps : ℕ → ℕ → Type 0} (sure : (at next : ℕ) → steps at next → Surely (f.read s at) next) where
  pub run_ends : {from n : ℕ} {r : Run} → RunBy steps from n r → Ends f s (n - r.passed) r.at ≡ Ends f s n from
  run_ends run =
      run.1 (Ends f s) (λ k at next there some.
      let one : k + 1 - (0 + 1) ≡ k = omega arith in
      let all : k + 1 - 0 ≡ k + 1 = omega arith in
      ap (λ (j : ℕ). Ends f s j next) (sym one) ∙ ends_turn f s (k + 1) 0 at (omega arith) refl (sure at next there some) ∙ ap (λ (j : ℕ). Ends f s j at) all)

  pub ends_run : (from n i at : ℕ) (r : Run) → RunBy steps at (n - i) r → Ends f s (n - i) at ≡ Ends f s n from → Ends f s (n - (i + r.passed)) r.at ≡ Ends f s n from
  ends_run from n i at r run all =
      let same : n - (i + r.passed) ≡ n - i - r.passed = omega arith in
      ap (λ (k : ℕ). Ends f s k r.at) same ∙ run_ends run ∙ all

-- a row whose cells end where its length says
module _ (types : List ℕ) (s : List ℕ) (at end : ℕ) (few : num_at 4 s at ≤ most_row) (place : end ≡ at + 4 + num_at 4 s at) (fit : end ≤ length s) where
  pub row_reads : shown_next ((each third 0 (map (value 50 51) types)).read (take end s) (at + 4)) ≡ Ok end → shown_next ((row types).read s at) ≡ Ok end
  unfolding row
  row_reads told =
      let body = counted_reads s at end place fit most_row anything 0 0 few (omega arith) refl in
      let h = span_here most_row s at (sym (ap (shown_span at) body)) refl in
      let go = next_go ((each third 0 (map (value 50 51) types)).read (take end s) (at + 4)) refl told in
      ap shown_next (room_full most_row 49 (each third 0 (map (value 50 51) types)) s at h go.1 refl)

pub plain_row_reads : (types : List ℕ) (plain : ℕ) (s : List ℕ) (at : ℕ) → PlainRow types plain → 0 < plain → plain ≤ most_plain → at + (4 + plain) ≤ length s → num_at 4 s at ≡ plain
    → shown_next ((row types).read s at) ≡ Ok (at + (4 + plain))
plain_row_reads types plain s at is there small fit size =
    let end = at + (4 + plain) in
    let room : length (take end s) ≡ end = length-take-le end s fit in
    let place : at + 4 + plain ≡ end = omega arith in
    row_reads types s at end (omega (arith, size)) (omega (arith, size)) fit (is there (take end s) (at + 4) (omega (arith, room)) ∙ ap Ok place)
