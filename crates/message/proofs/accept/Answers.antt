-- `message::accept` meets its contract: it asks by the layout of the kind. Assumes nothing.
use Prim.Native.Nat.{ℕ}
use mathlib.Core.Path.{ap, ◌∙◌}
use Rattle.format.specs.Message.{read_message}
use Rattle.message.specs.Verdict.{verdict_of}
use Rattle.message.proofs.accept.Goals as goal

pub returns : goal.returns
returns c = c.accept_layout.ensures ∙ ap (λ (l : ℕ). verdict_of (read_message l c.args.m.now)) c.kind_layout.ensures
