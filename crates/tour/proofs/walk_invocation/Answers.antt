-- `tour::walk_invocation` meets its contract: field after field. Assumes nothing.
use Rattle.std.proofs.Common.{false}
use Rattle.format.specs.Text.{utf8}
use Rattle.format.specs.Message.{most_items, first}
use Rattle.format.proofs.Laws.{lawful_block}
use Rattle.format.proofs.Formats.{lawful_param}
use Rattle.scan.proofs.Answers.{number_stands}
use Rattle.tally.proofs.Tours.{bytes_all, walked_block, walked_then}
use Rattle.tally.proofs.Values.{lawful_string, walked_list}
use Rattle.tour.proofs.Contents.{walked_invocation}
use Rattle.tour.proofs.walk_invocation.Goals as goal

pub returns : goal.returns
returns c =
    let a = c.args in
    let s = a.s.now in
    let b = bytes_all a.s.now c.type_inv.s in
    walked_invocation s b (walked_then s b (lawful_string false utf8 20 21) (c.walk_body-client.ensures false utf8) (walked_then s b (lawful_block 8 22) (walked_block s 8 22 c.walk_fixed-count.ensures)
    (walked_list 2 most_items 23 first lawful_param s b (number_stands c.number_at-n.ensures) c.walk_fixed-params.ensures c.walk_params.ensures)))
