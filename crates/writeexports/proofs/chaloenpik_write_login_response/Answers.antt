-- `writeexports::chaloenpik_write_login_response` meets its contract: what the login answers, packed. Assumes nothing.
use Rattle.steps.specs.Logins.{login_response}
use Rattle.login.specs.Parts.{welcome}
use Rattle.numbers.proofs.Kept.{wrote_login}
use Rattle.writeexports.proofs.chaloenpik_write_login_response.Goals as goal

pub returns : goal.returns
returns c =
    let a = c.args in
    wrote_login (login_response a.version a.res (welcome a.host a.connection a.start a.leader a.build.now) a.out.now) c.login_response.ensures c.pack_answer.ensures
