-- `login::login_request` meets its contract: a refusal writes nothing; else each part is written behind the last one. Assumes nothing.
use Prim.Native.Nat.{ℕ, ◌+◌, ◌-◌}
use native.Mathlib.Omega.{arith}
use mathlib.Core.Path.{ap, ◌∙◌}
use mathlib.Core.List.{List}
use mathlib.Core.Option.{some}
use lib.ListN.{length}
use Rattle.format.specs.Message.{a_login_request, message_bytes}
use Rattle.format.proofs.Results.{handed_on}
use Rattle.put.specs.Put.{put, sized}
use Rattle.put.proofs.Laws.{puts_number, puts_both, sized_some}
use Rattle.steps.specs.Steps.{says}
use Rattle.steps.specs.Logins.{request_fault, written_request, login_plan, login_request}
use Rattle.login.specs.Parts.{hash_part}
use Rattle.login.proofs.Parts.{whole, refused, taken, puts_whole, request_length, request_whole}
use Rattle.login.proofs.login_request.Goals as goal

pub returns-in_err-n : goal.returns-in_err-n
unfolding login_request
returns-in_err-n c = refused (login_plan (request_fault c.args.version c.args.hashing c.args.service.now c.args.user.now c.args.hash.now) (message_bytes 1 (says c.args.version (a_login_request (written_request c.args.version c.args.hashing c.args.service.now c.args.user.now c.args.hash.now))))) c.args.out.now c.ask_request.ensures c.in_err-n.was (handed_on c.from_residual.ensures)

pub overflow_sub-n : goal.overflow_sub-n
overflow_sub-n c =
    let w = whole (request_fault c.args.version c.args.hashing c.args.service.now c.args.user.now c.args.hash.now) (message_bytes 1 (says c.args.version (a_login_request (written_request c.args.version c.args.hashing c.args.service.now c.args.user.now c.args.hash.now)))) c.args.out.now (5 + (length (hash_part c.args.version c.args.hashing) + (4 + length c.args.service.now + (4 + length c.args.user.now + length c.args.hash.now)))) (request_length c.args.version c.args.hashing c.args.service.now c.args.user.now c.args.hash.now) c.ask_request.ensures c.in_ok-n.was in
    omega arith

pub number_at-front-requires : goal.number_at-front-requires
number_at-front-requires c =
    let w = whole (request_fault c.args.version c.args.hashing c.args.service.now c.args.user.now c.args.hash.now) (message_bytes 1 (says c.args.version (a_login_request (written_request c.args.version c.args.hashing c.args.service.now c.args.user.now c.args.hash.now)))) c.args.out.now (5 + (length (hash_part c.args.version c.args.hashing) + (4 + length c.args.service.now + (4 + length c.args.user.now + length c.args.hash.now)))) (request_length c.args.version c.args.hashing c.args.service.now c.args.user.now c.args.hash.now) c.ask_request.ensures c.in_ok-n.was in
    omega arith

pub number_at-edition-requires : goal.number_at-edition-requires
number_at-edition-requires c =
    let w = whole (request_fault c.args.version c.args.hashing c.args.service.now c.args.user.now c.args.hash.now) (message_bytes 1 (says c.args.version (a_login_request (written_request c.args.version c.args.hashing c.args.service.now c.args.user.now c.args.hash.now)))) c.args.out.now (5 + (length (hash_part c.args.version c.args.hashing) + (4 + length c.args.service.now + (4 + length c.args.user.now + length c.args.hash.now)))) (request_length c.args.version c.args.hashing c.args.service.now c.args.user.now c.args.hash.now) c.ask_request.ensures c.in_ok-n.was in
    let p = puts_number c.args.out.now 0 4 (c.in_ok-n.n - 4) (omega arith) c.number_at-front.ensures in
    omega arith

pub hash_version_at-names-requires : goal.hash_version_at-names-requires
hash_version_at-names-requires c =
    let w = whole (request_fault c.args.version c.args.hashing c.args.service.now c.args.user.now c.args.hash.now) (message_bytes 1 (says c.args.version (a_login_request (written_request c.args.version c.args.hashing c.args.service.now c.args.user.now c.args.hash.now)))) c.args.out.now (5 + (length (hash_part c.args.version c.args.hashing) + (4 + length c.args.service.now + (4 + length c.args.user.now + length c.args.hash.now)))) (request_length c.args.version c.args.hashing c.args.service.now c.args.user.now c.args.hash.now) c.ask_request.ensures c.in_ok-n.was in
    let p = puts_number c.args.out.now 0 4 (c.in_ok-n.n - 4) (omega arith) c.number_at-front.ensures in
    let q = puts_number c.number_at-front.new.out c.number_at-front.result 1 c.args.version (omega arith) c.number_at-edition.ensures in
    omega arith

pub text_at-middle-requires : goal.text_at-middle-requires
text_at-middle-requires c =
    let w = whole (request_fault c.args.version c.args.hashing c.args.service.now c.args.user.now c.args.hash.now) (message_bytes 1 (says c.args.version (a_login_request (written_request c.args.version c.args.hashing c.args.service.now c.args.user.now c.args.hash.now)))) c.args.out.now (5 + (length (hash_part c.args.version c.args.hashing) + (4 + length c.args.service.now + (4 + length c.args.user.now + length c.args.hash.now)))) (request_length c.args.version c.args.hashing c.args.service.now c.args.user.now c.args.hash.now) c.ask_request.ensures c.in_ok-n.was in
    let l = sized_some c.args.service.now in
    let m = sized_some c.args.user.now in
    let p = puts_number c.args.out.now 0 4 (c.in_ok-n.n - 4) (omega arith) c.number_at-front.ensures in
    let q = puts_number c.number_at-front.new.out c.number_at-front.result 1 c.args.version (omega arith) c.number_at-edition.ensures in
    let r = puts_whole c.number_at-edition.new.out c.number_at-edition.result (hash_part c.args.version c.args.hashing) (omega arith) c.hash_version_at-names.ensures in
    omega arith

pub text_at-last-requires : goal.text_at-last-requires
text_at-last-requires c =
    let w = whole (request_fault c.args.version c.args.hashing c.args.service.now c.args.user.now c.args.hash.now) (message_bytes 1 (says c.args.version (a_login_request (written_request c.args.version c.args.hashing c.args.service.now c.args.user.now c.args.hash.now)))) c.args.out.now (5 + (length (hash_part c.args.version c.args.hashing) + (4 + length c.args.service.now + (4 + length c.args.user.now + length c.args.hash.now)))) (request_length c.args.version c.args.hashing c.args.service.now c.args.user.now c.args.hash.now) c.ask_request.ensures c.in_ok-n.was in
    let l = sized_some c.args.service.now in
    let m = sized_some c.args.user.now in
    let p = puts_number c.args.out.now 0 4 (c.in_ok-n.n - 4) (omega arith) c.number_at-front.ensures in
    let q = puts_number c.number_at-front.new.out c.number_at-front.result 1 c.args.version (omega arith) c.number_at-edition.ensures in
    let r = puts_whole c.number_at-edition.new.out c.number_at-edition.result (hash_part c.args.version c.args.hashing) (omega arith) c.hash_version_at-names.ensures in
    let s = puts_whole c.hash_version_at-names.new.out c.hash_version_at-names.result (sized (some c.args.service.now)) (omega arith) c.text_at-middle.ensures in
    omega arith

pub bytes_at-requires : goal.bytes_at-requires
bytes_at-requires c =
    let w = whole (request_fault c.args.version c.args.hashing c.args.service.now c.args.user.now c.args.hash.now) (message_bytes 1 (says c.args.version (a_login_request (written_request c.args.version c.args.hashing c.args.service.now c.args.user.now c.args.hash.now)))) c.args.out.now (5 + (length (hash_part c.args.version c.args.hashing) + (4 + length c.args.service.now + (4 + length c.args.user.now + length c.args.hash.now)))) (request_length c.args.version c.args.hashing c.args.service.now c.args.user.now c.args.hash.now) c.ask_request.ensures c.in_ok-n.was in
    let l = sized_some c.args.service.now in
    let m = sized_some c.args.user.now in
    let p = puts_number c.args.out.now 0 4 (c.in_ok-n.n - 4) (omega arith) c.number_at-front.ensures in
    let q = puts_number c.number_at-front.new.out c.number_at-front.result 1 c.args.version (omega arith) c.number_at-edition.ensures in
    let r = puts_whole c.number_at-edition.new.out c.number_at-edition.result (hash_part c.args.version c.args.hashing) (omega arith) c.hash_version_at-names.ensures in
    let s = puts_whole c.hash_version_at-names.new.out c.hash_version_at-names.result (sized (some c.args.service.now)) (omega arith) c.text_at-middle.ensures in
    let t = puts_whole c.text_at-middle.new.out c.text_at-middle.result (sized (some c.args.user.now)) (omega arith) c.text_at-last.ensures in
    omega arith

pub returns : goal.returns
unfolding login_request
returns c =
    let w = whole (request_fault c.args.version c.args.hashing c.args.service.now c.args.user.now c.args.hash.now) (message_bytes 1 (says c.args.version (a_login_request (written_request c.args.version c.args.hashing c.args.service.now c.args.user.now c.args.hash.now)))) c.args.out.now (5 + (length (hash_part c.args.version c.args.hashing) + (4 + length c.args.service.now + (4 + length c.args.user.now + length c.args.hash.now)))) (request_length c.args.version c.args.hashing c.args.service.now c.args.user.now c.args.hash.now) c.ask_request.ensures c.in_ok-n.was in
    let l = sized_some c.args.service.now in
    let m = sized_some c.args.user.now in
    let p = puts_number c.args.out.now 0 4 (c.in_ok-n.n - 4) (omega arith) c.number_at-front.ensures in
    let q = puts_number c.number_at-front.new.out c.number_at-front.result 1 c.args.version (omega arith) c.number_at-edition.ensures in
    let r = puts_whole c.number_at-edition.new.out c.number_at-edition.result (hash_part c.args.version c.args.hashing) (omega arith) c.hash_version_at-names.ensures in
    let s = puts_whole c.hash_version_at-names.new.out c.hash_version_at-names.result (sized (some c.args.service.now)) (omega arith) c.text_at-middle.ensures in
    let t = puts_whole c.text_at-middle.new.out c.text_at-middle.result (sized (some c.args.user.now)) (omega arith) c.text_at-last.ensures in
    let u = puts_whole c.text_at-last.new.out c.text_at-last.result c.args.hash.now (omega arith) c.bytes_at.ensures in
    taken (login_plan (request_fault c.args.version c.args.hashing c.args.service.now c.args.user.now c.args.hash.now) (message_bytes 1 (says c.args.version (a_login_request (written_request c.args.version c.args.hashing c.args.service.now c.args.user.now c.args.hash.now))))) c.args.out.now c.ask_request.ensures c.in_ok-n.was
    ((puts_both p (puts_both q (puts_both r (puts_both s (puts_both t u))))).is ∙ ap (λ (bs : List ℕ). put c.args.out.now 0 bs) (request_whole c.args.version c.args.hashing c.args.service.now c.args.user.now c.args.hash.now c.in_ok-n.n w.is))
