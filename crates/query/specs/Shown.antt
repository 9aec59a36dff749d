-- What a reading that can't fail gives, and what the code keeps of a cell on its way: nothing here is promised to a caller.
use Rattle.std.specs.Result.{result_unwrap_or}
use Rattle.format.specs.declared.Refusal.{Refusal}
use Rattle.std.specs.Prelude.{ℕ, Result, Ok, Err}
use Rattle.show.specs.declared.Cell.{Cell}
use Rattle.places.specs.Entries.{Here}
use Rattle.query.specs.declared.Spot.{Spot}
use Rattle.query.specs.declared.ShownCell.{ShownCell}
use Rattle.query.specs.Answers.{shown_here}

-- where a reading ended; after an acceptance no reading here is refused, and what stands for a refusal is never used
abbrev pub past_of : Result ℕ Refusal → ℕ
past_of r = result_unwrap_or r 0

abbrev pub cell_in : Result (Cell × ℕ) Refusal → Cell
cell_in (Ok (c, next)) = c
cell_in (Err r) = Cell.NullText

-- a cell's type, the place of that, and the cell's place or what it is shown as
abbrev pub spot_of : Here → Spot
spot_of h = record { wire_type = h.type; type_at = h.type_at; at = h.at }

abbrev pub shown_of : Here → ShownCell
shown_of h = record { cell = shown_here h; type_at = h.type_at }
