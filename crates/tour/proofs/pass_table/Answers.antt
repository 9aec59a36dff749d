-- `tour::pass_table` meets its contract: walked, or counted where it is quiet. Assumes nothing.
use borrow.Author.Tests.{not-false}
use Rattle.format.proofs.Formats.{lawful_table}
use Rattle.tally.proofs.Tours.{bytes_all}
use Rattle.tally.proofs.Tables.{table_ended}
use Rattle.tour.proofs.Calms.{walked_quiet}
use Rattle.tour.proofs.pass_table.Goals as goal

pub returns : goal.returns
returns c =
    let a = c.args in
    let s = a.s.now in
    let by = bytes_all s c.type_inv.s in
    let counted = rw c.tally_of.ensures at c.tally_table-tally.ensures in
    rw c.resume.ensures (walked_quiet (lawful_table) s by a.tour a.out.now c.is_quiet.ensures (not-false _ c.if-not-is_quiet.false-raw) (table_ended s by a.tour.at) counted)
