-- `tally::tally_name` meets its contract: a length, and as many bytes as it says. Assumes nothing.
use Rattle.std.proofs.Common.{false, refl}
use Rattle.format.specs.Value.{most_bytes, ascii}
use Rattle.tally.proofs.Tours.{walked_there}
use Rattle.tally.proofs.tally_name.Goals as goal

pub returns : goal.returns
returns c =
    let a = c.args in
    record { walks = λ ix. walked_there a.s.now false most_bytes ascii 46 47 _ c.length_at-n.ensures ((c.tally_fixed-start.ensures 46).walks ix) refl ((c.tally_fixed.ensures 47).walks ix) }
