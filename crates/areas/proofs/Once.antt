-- No two answers tell the same, so each contract decides its answer.
use Rattle.std.specs.Prelude.{Result, Ok, Err}
use Rattle.std.proofs.Common.{◌≡◌, ℕ, List, get_or, refl}
use Rattle.format.specs.declared.Refusal.{Refusal}
use Rattle.format.specs.Result.{told}
use Rattle.format.specs.Geography.{Vertex}
use Rattle.format.proofs.Decides.{once, answer, answer_once}
use Rattle.show.specs.declared.Cell.{Cell}
use Rattle.areas.specs.declared.RingLayout.{RingLayout}
use Rattle.areas.specs.Answers.{told_bits, told_vertex}

pub ring_once : (a b : Result RingLayout Refusal) → told a ≡ told b → a ≡ b
ring_once = answer_once

pub bits_once : (a b : Result (ℕ × ℕ × ℕ) Refusal) → told_bits a ≡ told_bits b → a ≡ b
bits_once = once told_bits (answer (λ (v : Vertex). Ok (get_or v 0 0, get_or v 1 0, get_or v 2 0)) Err) (elim [ Ok (x, y, z) ↦ refl | Err r ↦ refl ])

pub vertex_once : (a b : Result (Cell × Cell × Cell) Refusal) → told_vertex a ≡ told_vertex b → a ≡ b
vertex_once = once told_vertex (answer (λ (v : List Cell). Ok (get_or v 0 Cell.NullText, get_or v 1 Cell.NullText, get_or v 2 Cell.NullText)) Err)
    (elim [ Ok (x, y, z) ↦ refl | Err r ↦ refl ])
