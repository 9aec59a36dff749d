-- `tour::walk_head` meets its contract: client data, the flags, and what they decide. Assumes nothing.
use Rattle.std.proofs.Common.{◌%◌, eqb}
use Rattle.format.specs.declared.Fault.TheVariants.{Flags}
use Rattle.format.specs.Message.{after_flags}
use Rattle.format.proofs.Laws.{lawful_block}
use Rattle.scan.proofs.Answers.{number_stands}
use Rattle.tally.proofs.Tours.{bytes_all, walked_block, walked_then}
use Rattle.tally.proofs.Values.{walked_typed}
use Rattle.tally.proofs.Tables.{walked_head}
use Rattle.tour.proofs.walk_head.Goals as goal

pub returns : goal.returns
returns c =
    let a = c.args in
    let s = a.s.now in
    let b = bytes_all s c.type_inv.s in
    walked_head s b a.timed (walked_then s b (lawful_block 8 22) (walked_block s 8 22 c.walk_fixed-client.ensures)
    (walked_typed (λ n. eqb (n % 32) 0) Flags 30 (after_flags a.timed) s b (number_stands c.byte_at-flags.ensures) c.walk_fixed-status.ensures c.walk_flagged.ensures))
