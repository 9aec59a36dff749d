-- `message::read_flags` meets its contract: the byte, then its rule. Assumes nothing.
use Rattle.format.proofs.Results.{handed_on}
use mathlib.Core.Path.{◌∙◌, sym, ap}
use Prim.Native.Nat.{◌%◌}
use lib.Dec.{eqb}
use borrow.Author.Tests.{eq-eqb, ne_eqb}
use Rattle.format.specs.declared.Fault.TheVariants.{Flags}
use Rattle.format.specs.Format.{number}
use Rattle.scan.specs.Shown.{shown}
use Rattle.scan.proofs.Answers.{shown_go, shown_stop}
use Rattle.scan.proofs.Steps.{ruled_go, ruled_bad, ruled_stop}
use Rattle.message.proofs.read_flags.Goals as goal

pub returns-in_err-flags : goal.returns-in_err-flags
returns-in_err-flags c =
    let stop = shown_stop _ c.read_byte.ensures c.in_err-flags.was in
    handed_on c.from_residual.ensures ∙ sym (ap shown (ruled_stop (λ n. eqb (n % 32) 0) Flags (number 1 0) _ _ stop))

pub returns-then-flags-ne0 : goal.returns-then-flags-ne0
returns-then-flags-ne0 c =
    let go = shown_go _ c.read_byte.ensures c.in_ok-flags.was in
    sym (ap shown (ruled_bad (λ n. eqb (n % 32) 0) Flags (number 1 0) _ _ go (ne_eqb _ 0 c.if-flags-ne0.true)))

pub returns : goal.returns
returns c =
    let go = shown_go _ c.read_byte.ensures c.in_ok-flags.was in
    sym (ap shown (ruled_go (λ n. eqb (n % 32) 0) Flags (number 1 0) _ _ go (eq-eqb _ 0 c.if-flags-ne0.false)))
