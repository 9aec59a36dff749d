-- `login::ask_request` meets its contract: its tests are those of the plan; its size is asked only where no argument is wrong. Assumes nothing.
use mathlib.Core.Path.{refl, sym, ◌∙◌}
use Rattle.format.specs.Message.{a_login_request, message_bytes}
use Rattle.steps.specs.Steps.{says}
use Rattle.steps.specs.Logins.{request_fault, written_request, login_plan}
use Rattle.write.proofs.Taken.{answered}
use Rattle.login.proofs.Parts.{is_fine, request_limits, request_length-by}
use Rattle.login.proofs.ask_request.Goals as goal

pub request_size-bytes-requires : goal.request_size-bytes-requires
request_size-bytes-requires c = request_limits c.args.version c.args.hashing c.args.service.now c.args.user.now c.args.hash.now (is_fine c.in_ok-request_fault.was c.request_fault.ensures)

pub returns : goal.returns
returns c =
    answered (login_plan (request_fault c.args.version c.args.hashing c.args.service.now c.args.user.now c.args.hash.now) (message_bytes 1 (says c.args.version (a_login_request (written_request c.args.version c.args.hashing c.args.service.now c.args.user.now c.args.hash.now))))) c.args.size
    c.judge.ensures refl (sym (is_fine c.in_ok-request_fault.was c.request_fault.ensures)) (λ u w. (refl, c.request_size-bytes.ensures ∙ sym (request_length-by c.args.version c.args.hashing c.args.service.now c.args.user.now c.args.hash.now)))
