-- `tally::tally_body` meets its contract: a length, and as many bytes as follow it. Assumes nothing.
use Rattle.format.specs.Value.{most_bytes}
use Rattle.tally.proofs.Tours.{walked_sized}
use Rattle.tally.proofs.tally_body.Goals as goal

pub returns : goal.returns
returns c =
    let a = c.args in
    λ nullable rule prefix body. record {
      walks = λ ix. walked_sized a.s.now nullable most_bytes rule prefix body _ c.length_at-n.ensures ((c.tally_fixed-start.ensures prefix).walks ix) c.body_size.ensures ((c.tally_fixed.ensures body).walks ix);
    }
