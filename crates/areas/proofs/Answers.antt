-- What an answer says of the reading that it shows: the value that was read, or the refusal.
use Rattle.std.specs.Prelude.{Result, Ok, Err}
use Rattle.std.proofs.Common.{◌≡◌, ℕ, ◌+◌, List, take, sym, refl, ap, arith}
use Rattle.format.specs.declared.Refusal.{Refusal}
use Rattle.format.specs.Result.{Res, ok, no}
use Rattle.format.specs.Geography.{Ring, Polygon}
use Rattle.areas.specs.declared.Seen.{Seen}
use Rattle.areas.specs.Passes.{shown_head, rings_size, shown_rings, survey_of, shown_survey}

abbrev Lead : Type 0
Lead = ℕ × (ℕ × (ℕ × ℕ))

pub head_go : (r : Res (Lead × ℕ)) {a : Result (ℕ × ℕ) Refusal} {n next : ℕ} → a ≡ shown_head r → a ≡ Ok (n, next) → (v : Lead) × (n ≡ v.1.1.1) × (r ≡ ok (v, next))
head_go (ok q) {n = n} {next = next} e told =
    let same : ◌≡◌ {A = ℕ × ℕ} (q.0.1.1.1, q.1) (n, next) = cc in
    (q.0, sym (ap (λ (p : ℕ × ℕ). p.0) same), ap (λ (p : ℕ × ℕ). ok (q.0, p.1)) same)
head_go (no f p) e told = absurd (let z : ◌≡◌ {A = ℕ} 0 1 = cc in omega arith)

pub head_halt : (r : Res (Lead × ℕ)) {a : Result (ℕ × ℕ) Refusal} {x : Refusal} → a ≡ shown_head r → a ≡ Err x → r ≡ no x.fault x.place
head_halt (ok q) e told = absurd (let z : ◌≡◌ {A = ℕ} 0 1 = cc in omega arith)
head_halt (no f p) e told = cc

module _ (from sought : ℕ) where
  pub rings_go : (r : Res (List Ring × ℕ)) {a : Result (ℕ × ℕ) Refusal} {end found : ℕ} → a ≡ shown_rings from sought r → a ≡ Ok (end, found)
      → (rs : List Ring) × (r ≡ ok (rs, end)) × (found ≡ from + rings_size (take sought rs))
  rings_go (ok q) {end = end} {found = found} e told =
      let same : ◌≡◌ {A = ℕ × ℕ} (q.1, from + rings_size (take sought q.0)) (end, found) = cc in
      (q.0, ap (λ (p : ℕ × ℕ). ok (q.0, p.0)) same, sym (ap (λ (p : ℕ × ℕ). p.1) same))
  rings_go (no f p) e told = absurd (let z : ◌≡◌ {A = ℕ} 0 1 = cc in omega arith)

  pub rings_halt : (r : Res (List Ring × ℕ)) {a : Result (ℕ × ℕ) Refusal} {x : Refusal} → a ≡ shown_rings from sought r → a ≡ Err x → r ≡ no x.fault x.place
  rings_halt (ok q) e told = absurd (let z : ◌≡◌ {A = ℕ} 0 1 = cc in omega arith)
  rings_halt (no f p) e told = cc

pub survey_go : (sought : ℕ) (r : Res Polygon) {a : Result Seen Refusal} {s : Seen} → a ≡ shown_survey sought r → a ≡ Ok s → (p : Polygon) × (r ≡ ok p) × (s ≡ survey_of sought p)
survey_go sought (ok p) e told = (p, refl, cc)
survey_go sought (no f p) e told = absurd (let z : ◌≡◌ {A = ℕ} 0 1 = cc in omega arith)

pub survey_halt : (sought : ℕ) (r : Res Polygon) {a : Result Seen Refusal} {x : Refusal} → a ≡ shown_survey sought r → a ≡ Err x → r ≡ no x.fault x.place
survey_halt sought (ok p) e told = absurd (let z : ◌≡◌ {A = ℕ} 0 1 = cc in omega arith)
survey_halt sought (no f p) e told = cc
