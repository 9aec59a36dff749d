-- `numbers::list_cell` meets its contract: by what the value is on the wire.
use mathlib.Core.Path.{sym, ap, ◌∙◌}
use Rattle.numbers.specs.Listed.{raw_numbers}
use Rattle.numbers.proofs.list_cell.Goals as goal

pub returns-in-Bits : goal.returns-in-Bits
returns-in-Bits c = c.list_bits.ensures ∙ ap raw_numbers (sym c.in-Bits.is ∙ c.raw_of-raw.ensures)

pub returns-in-Body : goal.returns-in-Body
returns-in-Body c = c.four.ensures ∙ ap raw_numbers (sym c.in-Body.is ∙ c.raw_of-raw.ensures)

pub returns-in-Null : goal.returns-in-Null
returns-in-Null c = c.four-in-Null.ensures ∙ ap raw_numbers (sym c.in-Null.is ∙ c.raw_of-raw.ensures)
