-- `tally::fixed_row`: the sizes so far and those that are left are all of them.
use Rattle.std.proofs.Common.{◌≡◌, ◌+◌, ◌*◌, ◌≤◌, drop}
use Rattle.tally.specs.Tallies.{Fixed, widths}
use Rattle.tally.proofs.fixed_row.Given as goal

abbrev pub invariant-loop-t : goal.invariant-loop-t
invariant-loop-t l = (l.size ≤ 4 + 16 * l.t-index) × (l.size + widths (drop l.t-index l.types) ≡ 4 + widths l.types) × (Fixed (drop l.t-index l.types) → Fixed l.types)
