-- `numbers::survey_listed`: what was found, with the columns that are left, is what all come to.
use mathlib.Core.Path.{◌≡◌}
use Rattle.std.specs.Slice.Iter.{chunks_exact_rest, chunks_exact_size}
use Rattle.columns.specs.Walks.{add_all}
use Rattle.numbers.specs.Entries.{entries_of}
use Rattle.numbers.proofs.survey_listed.Given as goal

abbrev pub invariant-loop-entry : goal.invariant-loop-entry
invariant-loop-entry l = (chunks_exact_size l.entry-iterator ≡ 3) × (add_all l.names l.found (entries_of (chunks_exact_rest l.entry-iterator)) ≡ add_all l.names l.initial.found (entries_of l.list))
