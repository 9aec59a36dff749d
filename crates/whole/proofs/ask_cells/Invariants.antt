-- `whole::ask_cells`: what the cells that are left are answered is what all are.
use Prim.Native.Nat.{◌≤◌}
use mathlib.Core.Path.{◌≡◌}
use Rattle.std.specs.Slice.Iter.{chunks_exact_rest, chunks_exact_size}
use Rattle.format.specs.Message.{most_columns}
use Rattle.write.specs.Shown.{seen}
use Rattle.whole.specs.Asked.{rest_answer}
use Rattle.whole.proofs.Pairs.{Left}
use Rattle.whole.proofs.ask_cells.Given as goal

abbrev pub invariant-loop-cell : goal.invariant-loop-cell
invariant-loop-cell l =
    Left l.cells l.row.inner_count (chunks_exact_size l.cell-iterator) (chunks_exact_rest l.cell-iterator) × (l.row.columns ≤ most_columns)
    × (rest_answer l.bytes l.cells (seen l.row l.types) l.size ≡ rest_answer l.bytes l.cells (seen l.initial.row l.types) l.size)
