-- `show::part_cell` meets its contract: type by type.
use mathlib.Core.Path.{sym, ap}
use borrow.Author.Tests.{ne_eqb}
use Prim.Native.Nat.{ℕ}
use Rattle.show.specs.Cells.{part_cell}
use Rattle.show.proofs.part_cell.Goals as goal

pub returns-in-9 : goal.returns-in-9
returns-in-9 c = sym (ap (λ (t : ℕ). part_cell t c.args.start c.args.size) c.in-9.is)

pub returns-in-25 : goal.returns-in-25
returns-in-25 c = sym (ap (λ (t : ℕ). part_cell t c.args.start c.args.size) c.in-25.is)

pub returns-in_default : goal.returns-in_default
returns-in_default c = let n = c.in_default.in_default-own.rest in simp (ne_eqb _ 9 n.0.1, ne_eqb _ 25 n.1)
