-- `tour::walk_login_request` meets its contract: a hash version in version 1 alone, and the rest by it. Assumes nothing.
use Rattle.scan.proofs.Answers.{number_stands}
use Rattle.tally.proofs.Tours.{bytes_all}
use Rattle.tour.proofs.Contents.{walked_old, walked_new, hash_long, hash_short}
use Rattle.tour.proofs.walk_login_request.Goals as goal

pub returns-then-version-ne1 : goal.returns-then-version-ne1
returns-then-version-ne1 c = let a = c.args in walked_old a.s.now (bytes_all a.s.now c.type_inv.s) a.version c.if-version-ne1.true c.walk_login.ensures

pub returns-then-h-eq1 : goal.returns-then-h-eq1
returns-then-h-eq1 c = let a = c.args in walked_new a.s.now (bytes_all a.s.now c.type_inv.s) a.version c.if-version-ne1.false (number_stands c.byte_at-h.ensures) c.walk_fixed-login.ensures (rw (hash_long _ c.if-h-eq1.true) c.walk_login-then-h-eq1.ensures)

pub returns : goal.returns
returns c = let a = c.args in walked_new a.s.now (bytes_all a.s.now c.type_inv.s) a.version c.if-version-ne1.false (number_stands c.byte_at-h.ensures) c.walk_fixed-login.ensures (rw (hash_short _ c.if-h-eq1.false) c.walk_login-2.ensures)
