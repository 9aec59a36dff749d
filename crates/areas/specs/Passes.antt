-- What the passes over a body are held to.
use Rattle.std.specs.Prelude.{ℕ, ◌+◌, List, length, take, replicate, Result, Ok, Err}
use Rattle.format.specs.declared.Refusal.{Refusal}
use Rattle.format.specs.Result.{Res, ok, no}
use Rattle.format.specs.Format.{Format, number, both, each}
use Rattle.format.specs.Message.{first}
use Rattle.format.specs.Geography.{Ring, ring, Polygon, ringed}
use Rattle.scan.specs.Shown.{refusal}
use Rattle.areas.specs.declared.Seen.{Seen}
use Rattle.areas.specs.Answers.{ring_state}

-- all that stands before the first ring
unfoldable pub head : Format (ℕ × (ℕ × (ℕ × ℕ)))
head = both (number 1 60) (λ e. both (number 1 61) (λ i. ringed))

-- how many rings follow, and where they begin
abbrev pub shown_head : Res ((ℕ × (ℕ × (ℕ × ℕ))) × ℕ) → Result (ℕ × ℕ) Refusal
shown_head (ok q) = Ok (q.0.1.1.1, q.1)
shown_head (no f p) = Err (refusal f p)

-- how many bytes some rings have
abbrev pub rings_size : List Ring → ℕ
rings_size l = length ((each first 0 (replicate (length l) ring)).bytes l)

-- where some rings from a place on end, and where the one of a number stands: after those before it
abbrev pub shown_rings : ℕ → ℕ → Res (List Ring × ℕ) → Result (ℕ × ℕ) Refusal
shown_rings from sought (ok q) = Ok (q.1, from + rings_size (take sought q.0))
shown_rings from sought (no f p) = Err (refusal f p)

abbrev pub survey_of : ℕ → Polygon → Seen
survey_of sought p = record { rings = length p.rings; found = ring_state p sought; end = ring_state p (length p.rings) }

abbrev pub shown_survey : ℕ → Res Polygon → Result Seen Refusal
shown_survey sought (ok p) = Ok (survey_of sought p)
shown_survey sought (no f p) = Err (refusal f p)
