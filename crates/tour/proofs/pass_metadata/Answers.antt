-- `tour::pass_metadata` meets its contract: walked, or counted where it is quiet. Assumes nothing.
use borrow.Author.Tests.{not-false}
use Rattle.format.proofs.Formats.{lawful_metadata}
use Rattle.tally.proofs.Tours.{bytes_all}
use Rattle.tally.proofs.Tables.{metadata_ended}
use Rattle.tour.proofs.Calms.{walked_quiet}
use Rattle.tour.proofs.pass_metadata.Goals as goal

pub returns : goal.returns
returns c =
    let a = c.args in
    let s = a.s.now in
    let by = bytes_all s c.type_inv.s in
    let counted = rw c.tally_of.ensures at c.tally_metadata-tally.ensures in
    rw c.resume.ensures (walked_quiet (lawful_metadata) s by a.tour a.out.now c.is_quiet.ensures (not-false _ c.if-not-is_quiet.false-raw) (metadata_ended s by a.tour.at) counted)
