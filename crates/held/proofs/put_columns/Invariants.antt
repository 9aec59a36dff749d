-- `held::put_columns`: the columns that are left put what all put.
use Rattle.std.proofs.Common.{length, ◌≡◌, drop}
use Rattle.columns.specs.Walks.{FitsAll, put_all}
use Rattle.held.proofs.put_columns.Given as goal

-- what was written, with the columns from the index on, is what all columns leave
abbrev pub invariant-loop-column : goal.invariant-loop-column
invariant-loop-column l = record {
  fits : FitsAll l.names (length l.out) l.w (drop l.column-index l.cols);
  so_far : put_all l.names (record { out = l.out; types = l.types; walk = l.w }) (drop l.column-index l.cols) ≡ put_all l.names (record { out = l.fn.out; types = l.fn.types; walk = l.fn.head.walk }) l.cols;
}
