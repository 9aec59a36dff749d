-- `query::count_tables` meets its contract: the count of an accepted response is that of its tables.
use Rattle.format.proofs.Results.{handed_on}
use Prim.Native.Nat.{ℕ}
use mathlib.Core.Path.{◌∙◌, ap}
use native.Mathlib.Omega.{arith}
use Rattle.format.specs.Result.{ok, told}
use Rattle.format.specs.Message.{read_message, response_layout}
use Rattle.message.specs.Verdict.{verdict_of}
use Rattle.message.proofs.Accepted.{verdict_go, verdict_stop}
use lib.ListN.{length}
use Rattle.places.specs.Places.{tables_of}
use Rattle.query.proofs.Opened.{bytes_all, refused, admitted, tables_is}
use Rattle.query.proofs.count_tables.Goals as goal

pub returns-in_err-accept_layout : goal.returns-in_err-accept_layout
returns-in_err-accept_layout c =
    let a = c.args in
    ap told (handed_on c.from_residual.ensures) ∙ refused (response_layout a.timed) a.m.now (λ p. ok (length (tables_of p))) (verdict_stop (read_message (response_layout a.timed) a.m.now) (c.accept_layout.ensures ∙ ap (λ (n : ℕ). verdict_of (read_message n a.m.now)) c.response_layout.ensures) c.in_err-accept_layout.was)

pub returns : goal.returns
returns c =
    let a = c.args in
    let w = verdict_go (read_message (response_layout a.timed) a.m.now) (c.accept_layout.ensures ∙ ap (λ (n : ℕ). verdict_of (read_message n a.m.now)) c.response_layout.ensures) c.in_ok-accept_layout.was in
    let all = bytes_all a.m.now (λ k. omega (arith, c.type_inv.m k)) in
    admitted (response_layout a.timed) a.m.now (λ p. ok (length (tables_of p))) w.1 (ap ok (tables_is a.timed a.m.now all w.0 w.1 c.tables_counted.result c.tables_counted.ensures c.count_at.ensures))
