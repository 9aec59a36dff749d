-- `numbers::put_listed`: what was written, with the columns that are left, is what all come to.
use mathlib.Core.Path.{◌≡◌}
use lib.ListN.{length}
use Rattle.std.specs.Slice.Iter.{chunks_exact_rest, chunks_exact_size}
use Rattle.columns.specs.Walks.{FitsAll, put_all}
use Rattle.numbers.specs.Entries.{entries_of}
use Rattle.numbers.proofs.Entries.{page}
use Rattle.numbers.proofs.put_listed.Given as goal

abbrev pub invariant-loop-entry : goal.invariant-loop-entry
invariant-loop-entry l = (chunks_exact_size l.entry-iterator ≡ 3) × (length l.out ≡ length l.initial.out) × FitsAll l.names (length l.out) l.walk (entries_of (chunks_exact_rest l.entry-iterator)) × (put_all l.names (page l.out l.types l.walk) (entries_of (chunks_exact_rest l.entry-iterator)) ≡ put_all l.names (page l.initial.out l.initial.types l.initial.walk) (entries_of l.list))
