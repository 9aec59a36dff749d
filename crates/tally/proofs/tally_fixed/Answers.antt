-- `tally::tally_fixed` meets its contract: a field to the place past its bytes. Assumes nothing.
use Rattle.tally.proofs.Tours.{walked_number}
use Rattle.tally.proofs.tally_fixed.Goals as goal

pub returns : goal.returns
returns c =
    let a = c.args in
    λ field. record { walks = λ ix. walked_number a.s.now a.width field c.bytes_on-end.ensures (c.tally_to.ensures field (record { i = ix.i; j = ix.j; k = ix.k })) }
