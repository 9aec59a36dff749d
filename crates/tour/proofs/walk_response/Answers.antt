-- `tour::walk_response` meets its contract: its head, and then its tables. Assumes nothing.
use Rattle.format.specs.Message.{most_items, first}
use Rattle.format.proofs.Formats.{lawful_head, lawful_table}
use Rattle.scan.proofs.Answers.{number_stands}
use Rattle.tally.proofs.Tours.{bytes_all, walked_then}
use Rattle.tally.proofs.Values.{walked_list}
use Rattle.tally.proofs.Tables.{walked_reply}
use Rattle.tour.proofs.walk_response.Goals as goal

pub returns : goal.returns
returns c =
    let a = c.args in
    let s = a.s.now in
    let b = bytes_all s c.type_inv.s in
    walked_reply s b a.timed (walked_then s b (lawful_head a.timed) c.walk_head-count.ensures
    (walked_list 2 most_items 40 first lawful_table s b (number_stands c.number_at-n.ensures) c.walk_fixed-tables.ensures c.walk_tables.ensures))
