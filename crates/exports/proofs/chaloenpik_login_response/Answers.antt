-- `exports::chaloenpik_login_response` meets its contract: the record that is shown, in the lent list. Assumes nothing.
use Rattle.numbers.specs.Records.{login_response_numbers}
use Rattle.numbers.proofs.Lent.{lent_answer}
use Rattle.exports.proofs.chaloenpik_login_response.Goals as goal

pub returns : goal.returns
returns c = lent_answer login_response_numbers c.args.list.now c.login_response.ensures c.lend_login_response.ensures
