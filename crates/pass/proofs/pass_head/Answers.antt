-- `pass::pass_head` meets its contract: client data, the flags, and what they decide.
use Prim.Native.Nat.{◌%◌}
use lib.Dec.{eqb}
use Rattle.format.specs.declared.Fault.TheVariants.{Flags}
use Rattle.format.specs.Message.{after_flags}
use Rattle.scan.proofs.Answers.{number_stands}
use Rattle.pass.proofs.Parts.{passes_then, passes_block}
use Rattle.pass.proofs.Values.{passes_typed, passes_head}
use Rattle.pass.proofs.pass_head.Goals as goal

pub returns : goal.returns
returns c =
    let a = c.args in
    let s = a.s.now in
    passes_head s a.timed (passes_then s (passes_block s 8 22 (c.pass_fixed-flagged.ensures 22))
    (passes_typed (λ n. eqb (n % 32) 0) Flags 30 (after_flags a.timed) s (number_stands c.byte_at-flags.ensures) (c.pass_fixed-status.ensures 30) c.pass_flagged.ensures))
