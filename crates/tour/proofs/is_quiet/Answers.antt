-- `tour::is_quiet` meets its contract: a room's end, by its length. Assumes nothing.
use Rattle.std.proofs.Common.{◌≡◌, ℕ, arith}
use Rattle.tour.proofs.is_quiet.Goals as goal

pub returns-then-is_wanted : goal.returns-then-is_wanted
returns-then-is_wanted c = λ is. absurd (let z : ◌≡◌ {A = ℕ} 0 1 = cc in omega arith)

pub returns-then-end-at : goal.returns-then-end-at
returns-then-end-at c = λ is. absurd (let z : ◌≡◌ {A = ℕ} 0 1 = cc in omega arith)

pub returns : goal.returns
returns c = λ is n next e fit. rw (c.room_end-end.ensures n next e fit) at (c.is_calm.ensures is)
