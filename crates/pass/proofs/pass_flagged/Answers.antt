-- `pass::pass_flagged` meets its contract: field after field.
use mathlib.Core.Option.{none}
use mathlib.Core.Bool.{true, false}
use Rattle.format.specs.Text.{utf8}
use Rattle.format.specs.Value.{anything}
use Rattle.format.specs.Message.{binary, null_text}
use Rattle.pass.proofs.Parts.{passes_then, passes_if}
use Rattle.pass.proofs.pass_flagged.Goals as goal

pub returns : goal.returns
returns c =
    let s = c.args.s.now in
    let stated = passes_then s (c.pass_fixed-string.ensures 31) (passes_if none (null_text 32 33) s c.has_flag.ensures (c.pass_optional-application.ensures true utf8 32 33)) in
    let application = passes_then s (c.pass_fixed-words.ensures 34) (passes_if none (null_text 35 36) s c.has_flag-2.ensures (c.pass_optional-trip.ensures true utf8 35 36)) in
    let tripped = passes_then s c.pass_trip-exception.ensures (passes_if none (binary 38 39) s c.has_flag-3.ensures (c.pass_optional.ensures false anything 38 39)) in
    passes_then s stated (passes_then s application tripped)
