-- `tour::walk_login_response` meets its contract: a result, and a server after a result of 0. Assumes nothing.
use Rattle.std.proofs.Common.{eq-eqb, ne_eqb}
use Rattle.format.specs.Message.{server, no_server}
use Rattle.format.proofs.Laws.{lawful_number}
use Rattle.format.proofs.Formats.{lawful_server}
use Rattle.scan.proofs.Answers.{number_stands}
use Rattle.tally.proofs.Tours.{bytes_all, walked_by}
use Rattle.tour.proofs.Contents.{served, walked_present, walked_absent, walked_response, number_told}
use Rattle.tour.proofs.walk_login_response.Goals as goal

pub returns-then-result-ne0 : goal.returns-then-result-ne0
returns-then-result-ne0 c =
    let a = c.args in
    let s = a.s.now in
    let b = bytes_all a.s.now c.type_inv.s in
    walked_response s b (walked_by s b served (lawful_number 1 10) (number_told s 1 10 _ (number_stands c.byte_at-result.ensures)) c.walk_fixed-server.ensures (walked_absent no_server server s _ (ne_eqb _ 0 c.if-result-ne0.true) _ _))

pub returns : goal.returns
returns c =
    let a = c.args in
    let s = a.s.now in
    let b = bytes_all a.s.now c.type_inv.s in
    walked_response s b (walked_by s b served (lawful_number 1 10) (number_told s 1 10 _ (number_stands c.byte_at-result.ensures)) c.walk_fixed-server.ensures (walked_present no_server server s _ (eq-eqb _ 0 c.if-result-ne0.false) b lawful_server c.walk_server.ensures))
