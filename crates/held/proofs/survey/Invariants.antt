-- `held::survey`: what was found, with the columns that are left, is what all come to.
use Rattle.std.proofs.Common.{◌≡◌, drop}
use Rattle.columns.specs.Walks.{add_all}
use Rattle.held.proofs.survey.Given as goal

-- what was found, with the columns from the index on, gives what all columns give
abbrev pub invariant-loop-column : goal.invariant-loop-column
invariant-loop-column l = add_all l.names l.a (drop l.column-index l.cols) ≡ add_all l.names l.fn.s l.cols
