-- `query::pass_front` meets its contract: the types are a part of the message.
use native.Mathlib.Nat.{add-sub_cancel_left}
use Rattle.query.proofs.pass_front.Goals as goal

pub returns : goal.returns
returns c = simp add-sub_cancel_left at c.pass_cells.ensures
