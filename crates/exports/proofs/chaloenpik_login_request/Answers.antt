-- `exports::chaloenpik_login_request` meets its contract: the record that is shown, in the lent list. Assumes nothing.
use Rattle.numbers.specs.Records.{login_request_numbers}
use Rattle.numbers.proofs.Lent.{lent_answer}
use Rattle.exports.proofs.chaloenpik_login_request.Goals as goal

pub returns : goal.returns
returns c = lent_answer login_request_numbers c.args.list.now c.login_request.ensures c.lend_login_request.ensures
