-- `cards::after_message` meets its contract: the message's own refusal, or the one given. Assumes nothing.
use Prim.Native.Nat.{ℕ}
use mathlib.Core.Path.{sym, ◌∙◌, ap}
use Rattle.format.specs.Result.{Res}
use Rattle.format.specs.Message.{Message, read_message, response_layout}
use Rattle.message.specs.Verdict.{verdict_of}
use Rattle.message.proofs.Accepted.{verdict_stop}
use Rattle.cards.specs.Shown.{own_before}
use Rattle.cards.proofs.after_message.Goals as goal

pub returns-in-Err : goal.returns-in-Err
returns-in-Err c =
    let a = c.args in
    let w = verdict_stop (read_message (response_layout a.timed) a.m.now) (c.accept_layout.ensures ∙ ap (λ (n : ℕ). verdict_of (read_message n a.m.now)) c.response_layout.ensures) c.in-Err.is in
    sym (ap (λ (z : Res Message). own_before z a.r) w)
