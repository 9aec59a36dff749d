-- What makes the fields of a run unwanted, and how a tour goes on past them.
use Rattle.std.specs.Prelude.{◌≡◌, ℕ, ◌+◌, ◌-◌, ◌*◌, ◌<◌, ◌≤◌, Bool, true, List, length}
use Rattle.format.specs.Result.{ok}
use Rattle.format.specs.Format.{number}
use Rattle.tally.specs.declared.Task.{Task}
use Rattle.tally.specs.declared.Tour.{Tour}
use Rattle.tally.specs.declared.Tally.{Tally}
use Rattle.tally.specs.Task.{seen_to, Calm}
use Rattle.tally.specs.Tallies.{Standing}

-- the tour goes on where a count of its fields ended
abbrev pub tally_of : Tour → Tally
tally_of t = record { at = t.at; seen = t.task.seen }

abbrev pub resumed : Tour → Tally → Tour
resumed t c = record { at = c.at; task = seen_to t.task c.seen }

-- the room whose length stands at a tour's place is calm
abbrev pub CalmRoom : List ℕ → ℕ → Tour → Bool → Type 0
CalmRoom s room t r = r ≡ true → (n next : ℕ) → (number 4 0).read s t.at ≡ ok (n, next) → next + n ≤ length s → Calm t.task room (next + n) (next + n - t.at)

-- so many of n rows, each of so many bytes and so many fields, aren't wanted from a place on
abbrev pub CalmRows : Task → ℕ → ℕ → ℕ → ℕ → ℕ → ℕ → Type 0
CalmRows t room at size fields n r = (r ≤ n) × (0 < r → Calm t room (at + r * size) (r * fields))

-- and they stand there
pub record CalmRun (s : List ℕ) (room : ℕ) (t : Tour) (size fields n : ℕ) (r : ℕ) : Type 0 where
  pub few : r ≤ n
  pub calm : 0 < r → Standing s t.at size r × Calm t.task room (t.at + r * size) (r * fields)
