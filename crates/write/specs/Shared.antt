-- What the functions that all steps share are held to.
use Rattle.std.specs.Prelude.{ℕ, leb, Result, Ok, Err}
use Rattle.format.specs.declared.Refusal.{Refusal}
use Rattle.format.specs.Result.{pick}
use Rattle.format.specs.Format.{Verdict, fine, bad}
use Rattle.format.specs.Message.{most_columns}
use Rattle.steps.specs.declared.Stage.{Stage}
use Rattle.write.specs.declared.State.{State as Code}

-- what the code found of the arguments
abbrev pub verdict_of : Result Unit Refusal → Verdict
verdict_of (Ok u) = fine
verdict_of (Err r) = bad r.fault r.place

-- how many types are seen where a state has so many columns: as many as `types_in` gives
abbrev pub count_in : ℕ → ℕ
count_in n = pick (leb n most_columns) n 1

-- the numbers of `table_at`, whatever the types are
abbrev pub tabled : Code → Stage → ℕ → ℕ → ℕ → ℕ → Code
tabled s stage n at cells rows = record {
  stage = stage;
  position = n;
  count_at = s.count_at;
  count = s.count;
  inner_at = at;
  inner_type = 0;
  inner_count = cells;
  table_at = s.table_at;
  rows_at = s.rows_at;
  rows = rows;
  columns = count_in s.columns;
}
