-- Each turn puts one number more where the last one ended.
use Rattle.std.proofs.Common.{◌≡◌, ◌≤◌, ◌*◌, length, take}
use Rattle.listing.specs.Text.{words_of}
use Rattle.listing.proofs.put_line.Given as goal

abbrev pub invariant-loop-i : goal.invariant-loop-i
invariant-loop-i l = (l.end ≤ 21 * l.i) × (take l.end l.line ≡ words_of l.numbers 0 l.i) × (length l.line ≡ length l.initial.line)
