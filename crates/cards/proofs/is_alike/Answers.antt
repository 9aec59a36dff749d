-- `cards::is_alike` meets its contract: the types differ, or the names decide. Assumes nothing.
use native.Mathlib.Nat.{add-sub_cancel_left}
use borrow.Author.Tests.{eq-eqb, ne_eqb}
use Rattle.cards.proofs.is_alike.Goals as goal

pub returns-then-column-wire_type : goal.returns-then-column-wire_type
returns-then-column-wire_type c = rw (ne_eqb _ _ c.if-column-wire_type.true)

pub returns : goal.returns
returns c = rw (eq-eqb _ _ c.if-column-wire_type.false, ← add-sub_cancel_left c.args.column.name c.args.column.name_length) c.same_bytes.ensures
