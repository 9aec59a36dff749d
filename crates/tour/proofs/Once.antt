-- No two answers of a tour tell the same, so its contract decides the answer.
use Rattle.std.specs.Prelude.{◌≡◌, Result}
use Rattle.format.specs.declared.Refusal.{Refusal}
use Rattle.format.specs.Result.{told}
use Rattle.format.proofs.Decides.{answer_once}
use Rattle.tally.specs.declared.Task.{Task}

pub toured_once : (a b : Result Task Refusal) → told a ≡ told b → a ≡ b
toured_once = answer_once
