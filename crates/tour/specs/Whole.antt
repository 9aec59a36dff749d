-- What the walk over a whole message is held to.
use Rattle.std.specs.Prelude.{◌≡◌, ℕ, List, length}
use Rattle.format.specs.Result.{ok}
use Rattle.format.specs.Message.{Message, read_message, message_fields}
use Rattle.tally.specs.declared.Task.{Task}
use Rattle.tally.specs.declared.Tour.{Tour}
use Rattle.tally.specs.Task.{doing, visited}
use Rattle.tally.specs.Walks.{state_of}

-- where a message is accepted, the tour over it goes to its end and the task meets its fields
pub record Whole (layout : ℕ) (m : List ℕ) (task : Task) (out : List ℕ) (after : Tour) (written : List ℕ) : Type 0 where
  pub goes : (r : Message) → read_message layout m ≡ ok r → (after.at ≡ length m) × (state_of after written ≡ visited (doing task out) (message_fields layout r))
