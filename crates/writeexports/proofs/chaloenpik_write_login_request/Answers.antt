-- `writeexports::chaloenpik_write_login_request` meets its contract: what the login answers, packed. Assumes nothing.
use Rattle.steps.specs.Logins.{login_request}
use Rattle.numbers.proofs.Kept.{wrote_login}
use Rattle.writeexports.proofs.chaloenpik_write_login_request.Goals as goal

pub returns : goal.returns
returns c =
    let a = c.args in
    wrote_login (login_request a.version a.hashing a.service.now a.user.now a.hash.now a.out.now) c.login_request.ensures c.pack_answer.ensures
