-- A ring, part by part; and what a loop over rings keeps: where those that are left end, and where the one that is sought stands, is so for all.
use Rattle.std.specs.Prelude.{Result, Ok, Err}
use Rattle.std.proofs.Common.{◌≡◌, ℕ, zero, suc, ◌+◌, ◌-◌, ◌<◌, ◌≤◌, true, false, ltb, leb, List, [], ◌∷◌, length, take, replicate, refl, ap, ◌∙◌, arith, le-ltb, lt-ltb}
use native.Mathlib.Decide.{dec_lt}
use Rattle.format.specs.declared.Fault.TheVariants.{Short}
use Rattle.format.specs.declared.Refusal.{Refusal}
use Rattle.format.specs.Result.{Res, ok, no as refused, bind, pick}
use Rattle.format.specs.Number.{num_at, Bytes}
use Rattle.format.specs.Format.{Format, number, block, nothing, both, each}
use Rattle.format.specs.Message.{first, second}
use Rattle.format.specs.Geography.{Vertex, Ring, vertex, ring, at_least, fewest_vertices, ring_kept}
use Rattle.format.proofs.Geography.{lawful_ring}
use Rattle.scan.specs.Shown.{shown_next, refusal}
use Rattle.scan.proofs.Answers.{next_go, next_stop}
use Rattle.scan.proofs.Steps.{into_ends, both_ends, both_stop}
use Rattle.places.proofs.Lists.{total, length-total}
use Rattle.areas.specs.Passes.{shown_rings}

-- a ring's vertices and what it keeps, and before them its vertex count
abbrev pub after_count : ℕ → Format (List Vertex × List ℕ)
after_count n = both (each second 0 (replicate n vertex)) (λ vs. block ring_kept 67)

abbrev pub after_mark : Format (ℕ × (List Vertex × List ℕ))
after_mark = both (at_least fewest_vertices 65) after_count

module _ (s : List ℕ) (at : ℕ) where
  pub ring_short : leb (at + 1) (length s) ≡ false → shown_next (ring.read s at) ≡ Err (refusal Short at)
  unfolding ring number
  ring_short e = into_ends _ _ (both (number 1 64) (λ m. after_mark)) s at ∙ ap shown_next (both_stop (number 1 64) (λ m. after_mark) s at (rw e))

  pub ring_marked : leb (at + 1) (length s) ≡ true → shown_next (ring.read s at) ≡ shown_next (after_mark.read s (at + 1))
  unfolding ring number
  ring_marked e =
      let one : (number 1 64).read s at ≡ ok (num_at 1 s at, at + 1) = rw e in
      into_ends _ _ (both (number 1 64) (λ m. after_mark)) s at ∙ both_ends (number 1 64) (λ m. after_mark) s at one

-- the rings from i to n: where they end, and where the ring that is sought stands, if found is where it stands so far
module _ (s : List ℕ) (sought : ℕ) where
  abbrev ended : ℕ → ℕ → Res (List Ring × ℕ) → Result (ℕ × ℕ) Refusal
  ended i found (ok q) = Ok (q.1, found + total ring (take (sought - i) q.0))
  ended i found (refused f p) = Err (refusal f p)

  abbrev pub Rest : ℕ → ℕ → ℕ → ℕ → Result (ℕ × ℕ) Refusal
  Rest n i at found = ended i found ((each first i (replicate (n - i) ring)).read s at)

  pub rings_start : (n from : ℕ) → Rest n 0 from from ≡ shown_rings from sought ((each first 0 (replicate n ring)).read s from)
  rings_start n from = let all : n - 0 ≡ n = omega arith in rw all (same ((each first 0 (replicate n ring)).read s from))
    where
      same : (r : Res (List Ring × ℕ)) → ended 0 from r ≡ shown_rings from sought r
      same (ok q) =
          let l = take sought q.0 in
          let none : sought - 0 ≡ sought = omega arith in
          rw (none, length-total first 0 (length l) ring l (omega arith))
      same (refused f p) = refl

  pub rings_done : (n i at found : ℕ) → n ≤ i → Rest n i at found ≡ Ok (at, found)
  unfolding each nothing total
  rings_done n i at found h =
      let none : n - i ≡ 0 = omega arith in
      let nothing_left : (k : ℕ) → found + total ring (take k []) ≡ found = elim [ zero ↦ omega arith | suc k ↦ omega arith ] in
      rw (none, nothing_left (sought - i))

  module _ (by : Bytes s) (n i at found : ℕ) (h : i < n) {a : Result ℕ Refusal} (e : a ≡ shown_next (ring.read s at)) where
    left : n - i ≡ suc (n - (i + 1))
    left = omega arith

    -- one ring more: the sought one stands after it, or where it was found before
    pub rings_turn : {next : ℕ} → a ≡ Ok next → (i ≤ sought → found ≡ at) → Rest n (i + 1) next (pick (ltb i sought) next found) ≡ Rest n i at found
    unfolding each total
    rings_turn {next} told here =
        let go = next_go (ring.read s at) e told in
        let far = (lawful_ring.sound s by at go.0 next go.1).1.far in
        rw (left, go.1) (same go.0 far (dec_lt i sought) ((each first (i + 1) (replicate (n - (i + 1)) ring)).read s next))
      where
        place : (r : Ring) (rs : List Ring) → next ≡ at + length (ring.bytes r) → Dec (i < sought)
            → pick (ltb i sought) next found + total ring (take (sought - (i + 1)) rs) ≡ found + total ring (take (sought - i) (r ∷ rs))
        place r rs far (yes low) =
            let more : sought - i ≡ suc (sought - (i + 1)) = omega arith in
            let found_here : found ≡ at = here (omega arith) in
            rw (lt-ltb i sought low, more) (omega arith)
        place r rs far (no high) =
            let none : sought - i ≡ 0 = omega arith in
            let still : sought - (i + 1) ≡ 0 = omega arith in
            rw (le-ltb i sought (omega arith), none, still)

        same : (r : Ring) → next ≡ at + length (ring.bytes r) → Dec (i < sought) → (q : Res (List Ring × ℕ))
            → ended (i + 1) (pick (ltb i sought) next found) q ≡ ended i found (bind q (λ w. ok (r ∷ w.0, w.1)))
        same r far d (ok w) = ap (λ (x : ℕ). Ok (w.1, x)) (place r w.0 far d)
        same r far d (refused f p) = refl

    pub rings_stop : {x : Refusal} → a ≡ Err x → Rest n i at found ≡ Err x
    unfolding each
    rings_stop {x} told = rw (left, next_stop (ring.read s at) e told)
