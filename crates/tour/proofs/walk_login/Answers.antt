-- `tour::walk_login` meets its contract: field after field. Assumes nothing.
use Rattle.std.proofs.Common.{false}
use Rattle.format.specs.Text.{utf8}
use Rattle.tally.proofs.Tours.{bytes_all, walked_block, walked_then}
use Rattle.tally.proofs.Values.{lawful_string}
use Rattle.tour.proofs.walk_login.Goals as goal

pub returns : goal.returns
returns c =
    let a = c.args in
    let b = bytes_all a.s.now c.type_inv.s in
    walked_then a.s.now b (lawful_string false utf8 4 5) (c.walk_body-user.ensures false utf8)
    (walked_then a.s.now b (lawful_string false utf8 6 7) (c.walk_body-hash.ensures false utf8) (walked_block a.s.now a.size 8 c.walk_fixed.ensures))
