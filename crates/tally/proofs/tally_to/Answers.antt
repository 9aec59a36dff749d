-- `tally::tally_to` meets its contract: no field, or one that is counted. Assumes nothing.
use Rattle.std.proofs.Common.{[], refl}
use Rattle.tally.specs.Walks.{state_of, index_of}
use Rattle.tally.proofs.Visits.{visit_none, visit_one}
use Rattle.tally.specs.Tallies.{counting}
use Rattle.tally.proofs.Counts.{count_one}
use Rattle.tally.proofs.tally_to.Goals as goal

pub returns-then-end-at : goal.returns-then-end-at
returns-then-end-at c =
    let a = c.args in
    λ field ix. record { place = refl; state = visit_none (state_of (counting a.tally) []) a.tally.at a.end field (index_of ix) c.if-end-at.true }

pub returns : goal.returns
returns c =
    let a = c.args in
    λ field ix. record {
      place = refl;
      state = visit_one (state_of (counting a.tally) []) a.tally.at a.end field (index_of ix) c.if-end-at.false (count_one a.tally _ c.wrapping_add_usize.ensures.value);
    }
