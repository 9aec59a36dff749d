-- `query::find_table` meets its contract: the message's own refusal, or the table of an accepted one.
use Rattle.format.proofs.Results.{handed_on}
use Prim.Native.Nat.{ℕ}
use mathlib.Core.Path.{◌∙◌, ap}
use Rattle.format.specs.Result.{ok, bind, told}
use Rattle.format.specs.Message.{read_message, response_layout}
use Rattle.message.specs.Verdict.{verdict_of}
use Rattle.message.proofs.Accepted.{verdict_stop}
use Rattle.places.specs.Places.{tables_of, table_at}
use Rattle.places.specs.Entries.{entry}
use Rattle.query.specs.Answers.{layout_of}
use Rattle.query.proofs.Opened.{refused}
use Rattle.query.proofs.find_table.Goals as goal

pub returns-in_err-accept_layout : goal.returns-in_err-accept_layout
returns-in_err-accept_layout c =
    let a = c.args in
    ap told (handed_on c.from_residual.ensures) ∙ refused (response_layout a.timed) a.m.now (λ r. bind (entry (tables_of r) a.t) (λ b. ok (layout_of (table_at a.timed r a.t) b))) (verdict_stop (read_message (response_layout a.timed) a.m.now) (c.accept_layout.ensures ∙ ap (λ (n : ℕ). verdict_of (read_message n a.m.now)) c.response_layout.ensures) c.in_err-accept_layout.was)
