-- `message::skip_login_request` meets its contract: the hash version, if there is one, decides the hash's size. Assumes nothing.
use Rattle.format.proofs.Results.{handed_on}
use mathlib.Core.Path.{◌≡◌, sym, ap, ◌∙◌}
use Prim.Native.Nat.{ℕ}
use mathlib.Core.Option.{some}
use lib.Dec.{leb}
use borrow.Author.Tests.{eq-eqb, ne_eqb, le-leb, lt-leb}
use Rattle.format.specs.declared.Fault.TheVariants.{Version}
use Rattle.format.specs.Format.{number}
use Rattle.format.specs.Message.{hash_size}
use Rattle.scan.specs.Shown.{shown_next}
use Rattle.scan.proofs.Answers.{shown_go, shown_stop}
use Rattle.scan.proofs.Steps.{ruled_go, ruled_bad, ruled_stop}
use Rattle.scan.proofs.Params.{number_fields}
use Rattle.message.specs.Login.{login}
use Rattle.message.proofs.Runs.{request_old, request_stop, request_new}
use Rattle.message.proofs.skip_login_request.Goals as goal

pub returns-then-version-ne1 : goal.returns-then-version-ne1
returns-then-version-ne1 c = c.skip_login.ensures ∙ sym (request_old _ _ _ c.if-version-ne1.true)

pub returns-in_err-h : goal.returns-in_err-h
returns-in_err-h c =
    let stop = shown_stop _ c.read_byte.ensures c.in_err-h.was in
    handed_on c.from_residual.ensures ∙ sym (request_stop _ _ _ c.if-version-ne1.false (ruled_stop (λ n. leb n 1) Version (number 1 3) _ _ (number_fields _ _ 1 3 ∙ stop)))

pub returns-then-h-gt1 : goal.returns-then-h-gt1
returns-then-h-gt1 c =
    let go = shown_go _ c.read_byte.ensures c.in_ok-h.was in
    sym (request_stop _ _ _ c.if-version-ne1.false (ruled_bad (λ n. leb n 1) Version (number 1 3) _ _ (number_fields _ _ 1 3 ∙ go) (lt-leb _ 1 c.if-h-gt1.true)))

pub returns-then-h-eq1 : goal.returns-then-h-eq1
returns-then-h-eq1 c =
    let a = c.args in
    let go = shown_go _ c.read_byte.ensures c.in_ok-h.was in
    let size : hash_size (some c.in_ok-h.h) ≡ 32 = rw (eq-eqb _ 1 c.if-h-eq1.true) in
    c.skip_login-then-h-eq1.ensures ∙ ap (λ (n : ℕ). shown_next ((login n).read a.s.now c.in_ok-h.next)) (sym size)
    ∙ sym (request_new _ _ _ c.if-version-ne1.false (ruled_go (λ n. leb n 1) Version (number 1 3) _ _ (number_fields _ _ 1 3 ∙ go) (le-leb _ 1 c.if-h-gt1.false)))

pub returns : goal.returns
returns c =
    let a = c.args in
    let go = shown_go _ c.read_byte.ensures c.in_ok-h.was in
    let size : hash_size (some c.in_ok-h.h) ≡ 20 = rw (ne_eqb _ 1 c.if-h-eq1.false) in
    c.skip_login-2.ensures ∙ ap (λ (n : ℕ). shown_next ((login n).read a.s.now c.in_ok-h.next)) (sym size)
    ∙ sym (request_new _ _ _ c.if-version-ne1.false (ruled_go (λ n. leb n 1) Version (number 1 3) _ _ (number_fields _ _ 1 3 ∙ go) (le-leb _ 1 c.if-h-gt1.false)))
