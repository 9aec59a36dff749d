-- `login::login_response` meets its contract: a refusal writes nothing; else each part is written behind the last one. Assumes nothing.
use Prim.Native.Nat.{ℕ, ◌+◌, ◌-◌}
use native.Mathlib.Omega.{arith}
use mathlib.Core.Path.{◌≡◌, refl, ap, ◌∙◌}
use mathlib.Core.List.{List}
use lib.ListN.{length}
use lib.Dec.{eqb}
use borrow.Author.Tests.{eq-eqb}
use Rattle.format.specs.Result.{pick}
use Rattle.format.specs.Message.{a_login_response, message_bytes, server}
use Rattle.format.proofs.Results.{handed_on}
use Rattle.put.specs.Put.{put}
use Rattle.put.proofs.Laws.{puts_number, puts_both}
use Rattle.steps.specs.Steps.{says}
use Rattle.steps.specs.Logins.{response_fault, written_response, login_plan, login_response}
use Rattle.write.specs.Shown.{shown_answer}
use Rattle.login.specs.Parts.{welcome, server_of}
use Rattle.login.proofs.Parts.{whole, refused, taken, puts_whole, same_answer, server_length, response_length, response_whole_none, response_whole_some}
use Rattle.login.proofs.login_response.Goals as goal

pub returns-in_err-n : goal.returns-in_err-n
unfolding login_response
returns-in_err-n c = refused (login_plan (response_fault c.args.version c.args.res (welcome c.args.host c.args.connection c.args.start c.args.leader c.args.build.now)) (message_bytes 2 (says c.args.version (a_login_response (written_response c.args.res (welcome c.args.host c.args.connection c.args.start c.args.leader c.args.build.now)))))) c.args.out.now (c.ask_response.ensures ∙ ap shown_answer (same_answer c.args.version c.args.res (length c.args.out.now) (welcome 0 0 0 0 c.args.build.now) (welcome c.args.host c.args.connection c.args.start c.args.leader c.args.build.now) refl)) c.in_err-n.was (handed_on c.from_residual.ensures)

pub overflow_sub-n : goal.overflow_sub-n
overflow_sub-n c =
    let w = whole (response_fault c.args.version c.args.res (welcome c.args.host c.args.connection c.args.start c.args.leader c.args.build.now)) (message_bytes 2 (says c.args.version (a_login_response (written_response c.args.res (welcome c.args.host c.args.connection c.args.start c.args.leader c.args.build.now))))) c.args.out.now (6 + pick (eqb c.args.res 0) (28 + length c.args.build.now) 0) (response_length c.args.version c.args.res (welcome c.args.host c.args.connection c.args.start c.args.leader c.args.build.now)) (c.ask_response.ensures ∙ ap shown_answer (same_answer c.args.version c.args.res (length c.args.out.now) (welcome 0 0 0 0 c.args.build.now) (welcome c.args.host c.args.connection c.args.start c.args.leader c.args.build.now) refl)) c.in_ok-n.was in
    omega arith

pub number_at-front-requires : goal.number_at-front-requires
number_at-front-requires c =
    let w = whole (response_fault c.args.version c.args.res (welcome c.args.host c.args.connection c.args.start c.args.leader c.args.build.now)) (message_bytes 2 (says c.args.version (a_login_response (written_response c.args.res (welcome c.args.host c.args.connection c.args.start c.args.leader c.args.build.now))))) c.args.out.now (6 + pick (eqb c.args.res 0) (28 + length c.args.build.now) 0) (response_length c.args.version c.args.res (welcome c.args.host c.args.connection c.args.start c.args.leader c.args.build.now)) (c.ask_response.ensures ∙ ap shown_answer (same_answer c.args.version c.args.res (length c.args.out.now) (welcome 0 0 0 0 c.args.build.now) (welcome c.args.host c.args.connection c.args.start c.args.leader c.args.build.now) refl)) c.in_ok-n.was in
    omega arith

pub number_at-edition-requires : goal.number_at-edition-requires
number_at-edition-requires c =
    let w = whole (response_fault c.args.version c.args.res (welcome c.args.host c.args.connection c.args.start c.args.leader c.args.build.now)) (message_bytes 2 (says c.args.version (a_login_response (written_response c.args.res (welcome c.args.host c.args.connection c.args.start c.args.leader c.args.build.now))))) c.args.out.now (6 + pick (eqb c.args.res 0) (28 + length c.args.build.now) 0) (response_length c.args.version c.args.res (welcome c.args.host c.args.connection c.args.start c.args.leader c.args.build.now)) (c.ask_response.ensures ∙ ap shown_answer (same_answer c.args.version c.args.res (length c.args.out.now) (welcome 0 0 0 0 c.args.build.now) (welcome c.args.host c.args.connection c.args.start c.args.leader c.args.build.now) refl)) c.in_ok-n.was in
    let p = puts_number c.args.out.now 0 4 (c.in_ok-n.n - 4) (omega arith) c.number_at-front.ensures in
    omega arith

pub number_at-rest-requires : goal.number_at-rest-requires
number_at-rest-requires c =
    let w = whole (response_fault c.args.version c.args.res (welcome c.args.host c.args.connection c.args.start c.args.leader c.args.build.now)) (message_bytes 2 (says c.args.version (a_login_response (written_response c.args.res (welcome c.args.host c.args.connection c.args.start c.args.leader c.args.build.now))))) c.args.out.now (6 + pick (eqb c.args.res 0) (28 + length c.args.build.now) 0) (response_length c.args.version c.args.res (welcome c.args.host c.args.connection c.args.start c.args.leader c.args.build.now)) (c.ask_response.ensures ∙ ap shown_answer (same_answer c.args.version c.args.res (length c.args.out.now) (welcome 0 0 0 0 c.args.build.now) (welcome c.args.host c.args.connection c.args.start c.args.leader c.args.build.now) refl)) c.in_ok-n.was in
    let p = puts_number c.args.out.now 0 4 (c.in_ok-n.n - 4) (omega arith) c.number_at-front.ensures in
    let q = puts_number c.number_at-front.new.out c.number_at-front.result 1 c.args.version (omega arith) c.number_at-edition.ensures in
    omega arith

pub returns-then-res-ne0 : goal.returns-then-res-ne0
unfolding login_response
returns-then-res-ne0 c =
    let w = whole (response_fault c.args.version c.args.res (welcome c.args.host c.args.connection c.args.start c.args.leader c.args.build.now)) (message_bytes 2 (says c.args.version (a_login_response (written_response c.args.res (welcome c.args.host c.args.connection c.args.start c.args.leader c.args.build.now))))) c.args.out.now (6 + pick (eqb c.args.res 0) (28 + length c.args.build.now) 0) (response_length c.args.version c.args.res (welcome c.args.host c.args.connection c.args.start c.args.leader c.args.build.now)) (c.ask_response.ensures ∙ ap shown_answer (same_answer c.args.version c.args.res (length c.args.out.now) (welcome 0 0 0 0 c.args.build.now) (welcome c.args.host c.args.connection c.args.start c.args.leader c.args.build.now) refl)) c.in_ok-n.was in
    let p = puts_number c.args.out.now 0 4 (c.in_ok-n.n - 4) (omega arith) c.number_at-front.ensures in
    let q = puts_number c.number_at-front.new.out c.number_at-front.result 1 c.args.version (omega arith) c.number_at-edition.ensures in
    let r = puts_number c.number_at-edition.new.out c.number_at-edition.result 1 c.args.res (omega arith) c.number_at-rest.ensures in
    taken (login_plan (response_fault c.args.version c.args.res (welcome c.args.host c.args.connection c.args.start c.args.leader c.args.build.now)) (message_bytes 2 (says c.args.version (a_login_response (written_response c.args.res (welcome c.args.host c.args.connection c.args.start c.args.leader c.args.build.now)))))) c.args.out.now (c.ask_response.ensures ∙ ap shown_answer (same_answer c.args.version c.args.res (length c.args.out.now) (welcome 0 0 0 0 c.args.build.now) (welcome c.args.host c.args.connection c.args.start c.args.leader c.args.build.now) refl)) c.in_ok-n.was
    ((puts_both p (puts_both q r)).is ∙ ap (λ (bs : List ℕ). put c.args.out.now 0 bs) (response_whole_none c.args.version c.args.res (welcome c.args.host c.args.connection c.args.start c.args.leader c.args.build.now) c.in_ok-n.n c.if-res-ne0.true w.is))

pub server_at-requires : goal.server_at-requires
server_at-requires c =
    let w = whole (response_fault c.args.version c.args.res (welcome c.args.host c.args.connection c.args.start c.args.leader c.args.build.now)) (message_bytes 2 (says c.args.version (a_login_response (written_response c.args.res (welcome c.args.host c.args.connection c.args.start c.args.leader c.args.build.now))))) c.args.out.now (6 + pick (eqb c.args.res 0) (28 + length c.args.build.now) 0) (response_length c.args.version c.args.res (welcome c.args.host c.args.connection c.args.start c.args.leader c.args.build.now)) (c.ask_response.ensures ∙ ap shown_answer (same_answer c.args.version c.args.res (length c.args.out.now) (welcome 0 0 0 0 c.args.build.now) (welcome c.args.host c.args.connection c.args.start c.args.leader c.args.build.now) refl)) c.in_ok-n.was in
    let zero : pick (eqb c.args.res 0) (28 + length c.args.build.now) 0 ≡ 28 + length c.args.build.now = rw (eq-eqb c.args.res 0 c.if-res-ne0.false) in
    let p = puts_number c.args.out.now 0 4 (c.in_ok-n.n - 4) (omega arith) c.number_at-front.ensures in
    let q = puts_number c.number_at-front.new.out c.number_at-front.result 1 c.args.version (omega arith) c.number_at-edition.ensures in
    let r = puts_number c.number_at-edition.new.out c.number_at-edition.result 1 c.args.res (omega arith) c.number_at-rest.ensures in
    omega arith

pub returns : goal.returns
unfolding login_response
returns c =
    let w = whole (response_fault c.args.version c.args.res (welcome c.args.host c.args.connection c.args.start c.args.leader c.args.build.now)) (message_bytes 2 (says c.args.version (a_login_response (written_response c.args.res (welcome c.args.host c.args.connection c.args.start c.args.leader c.args.build.now))))) c.args.out.now (6 + pick (eqb c.args.res 0) (28 + length c.args.build.now) 0) (response_length c.args.version c.args.res (welcome c.args.host c.args.connection c.args.start c.args.leader c.args.build.now)) (c.ask_response.ensures ∙ ap shown_answer (same_answer c.args.version c.args.res (length c.args.out.now) (welcome 0 0 0 0 c.args.build.now) (welcome c.args.host c.args.connection c.args.start c.args.leader c.args.build.now) refl)) c.in_ok-n.was in
    let zero : pick (eqb c.args.res 0) (28 + length c.args.build.now) 0 ≡ 28 + length c.args.build.now = rw (eq-eqb c.args.res 0 c.if-res-ne0.false) in
    let l = server_length (welcome c.args.host c.args.connection c.args.start c.args.leader c.args.build.now) in
    let p = puts_number c.args.out.now 0 4 (c.in_ok-n.n - 4) (omega arith) c.number_at-front.ensures in
    let q = puts_number c.number_at-front.new.out c.number_at-front.result 1 c.args.version (omega arith) c.number_at-edition.ensures in
    let r = puts_number c.number_at-edition.new.out c.number_at-edition.result 1 c.args.res (omega arith) c.number_at-rest.ensures in
    let s = puts_whole c.number_at-rest.new.out c.number_at-rest.result (server.bytes (server_of (welcome c.args.host c.args.connection c.args.start c.args.leader c.args.build.now))) (omega arith) ((refl, c.server_at.ensures)) in
    taken (login_plan (response_fault c.args.version c.args.res (welcome c.args.host c.args.connection c.args.start c.args.leader c.args.build.now)) (message_bytes 2 (says c.args.version (a_login_response (written_response c.args.res (welcome c.args.host c.args.connection c.args.start c.args.leader c.args.build.now)))))) c.args.out.now (c.ask_response.ensures ∙ ap shown_answer (same_answer c.args.version c.args.res (length c.args.out.now) (welcome 0 0 0 0 c.args.build.now) (welcome c.args.host c.args.connection c.args.start c.args.leader c.args.build.now) refl)) c.in_ok-n.was
    ((puts_both p (puts_both q (puts_both r s))).is ∙ ap (λ (bs : List ℕ). put c.args.out.now 0 bs) (response_whole_some c.args.version c.args.res (welcome c.args.host c.args.connection c.args.start c.args.leader c.args.build.now) c.in_ok-n.n c.if-res-ne0.false w.is))
