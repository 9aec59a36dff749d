-- What the listing program prints for an input, which is one byte of kind and then a message: the field list, or a refusal.
use Rattle.std.specs.Prelude.{ℕ, List, length, drop, get_or, eqb, leb}
use Rattle.format.specs.declared.Fault.TheVariants.{WireType, Limit}
use Rattle.format.specs.Result.{Res, no, pick}
use Rattle.format.specs.Message.{read_message, kind_layout, is_kind}
use Rattle.message.specs.Verdict.{verdict_of}

-- the longest input: a byte of kind and a message of 65,536 bytes
abbrev pub most_input : ℕ
most_input = 65537

-- no input; then, where the message is too long, an unknown kind before that; then the message's own
unfoldable pub listing_of : List ℕ → Res Unit
listing_of input =
    pick (eqb (length input) 0) (no WireType 0)
    (pick (leb (length input) most_input) (verdict_of (read_message (kind_layout (get_or input 0 0)) (drop 1 input)))
    (pick (is_kind (get_or input 0 0)) (no Limit 0) (no WireType 0)))
