-- `tour::walk_content` meets its contract, layout by layout. Assumes nothing.
use Rattle.tally.proofs.Tours.{bytes_all}
use Rattle.tour.proofs.Messages.{walked_1, walked_2, walked_3, walked_4}
use Rattle.tour.proofs.walk_content.Goals as goal

pub returns-in-1 : goal.returns-in-1
returns-in-1 c = let a = c.args in walked_1 a.s.now (bytes_all a.s.now c.type_inv.s) a.layout a.version c.in-1.is c.walk_login_request.ensures

pub returns-in-2 : goal.returns-in-2
returns-in-2 c = let a = c.args in walked_2 a.s.now (bytes_all a.s.now c.type_inv.s) a.layout a.version c.in-2.is c.walk_login_response.ensures

pub returns-in-3 : goal.returns-in-3
returns-in-3 c = let a = c.args in walked_3 a.s.now (bytes_all a.s.now c.type_inv.s) a.layout a.version c.in-3.is c.walk_invocation.ensures

pub returns-in_default : goal.returns-in_default
returns-in_default c =
    let a = c.args in
    let n = c.in_default.in_default-own.rest in
    walked_4 a.s.now (bytes_all a.s.now c.type_inv.s) a.layout a.version n.0.0.1 n.0.1 n.1 c.walk_response.ensures
