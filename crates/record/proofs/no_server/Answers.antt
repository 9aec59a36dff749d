-- `record::no_server` meets its contract: the two numbers, and 0 for all else.
use mathlib.Core.Path.{ap₂, ◌∙◌}
use lib.IntN.{ℤ}
use lib.ListN.{replicate}
use mir.Syntax.{w8}
use mir.ValLaws.{to_z-of_z}
use Rattle.record.specs.declared.Span.{Span}
use Rattle.scan.specs.Signed.{signed}
use Rattle.record.proofs.no_server.Goals as goal

pub returns : goal.returns
returns c =
    ap₂ (λ (v r : ℤ). record { version = v; result = r; host = signed 4 0; connection = signed 8 0; start = signed 8 0; leader = replicate 4 0; build = Span.Absent })
    (to_z-of_z w8 _ (record { sfits = c.signed8.type_inv }) ∙ c.signed8.ensures)
    (to_z-of_z w8 _ (record { sfits = c.signed8-2.type_inv }) ∙ c.signed8-2.ensures)
