-- A tour over a message's fields, in wire order: what comes of a task that meets them all.
use Rattle.std.specs.Prelude.{ℕ, List}
use Rattle.format.specs.Result.{Res, ok, no, bind}
use Rattle.format.specs.Format.{Entry}
use Rattle.format.specs.Message.{read_message, message_fields}
use Rattle.tally.specs.declared.Task.{Task}
use Rattle.tally.specs.Task.{State, visited}

-- the fields that a message of a layout has
abbrev pub fields_of : ℕ → List ℕ → Res (List Entry)
fields_of layout m = bind (read_message layout m) (λ r. ok (message_fields layout r))

-- the task after the fields of a message, and what it leaves in the lent list
abbrev pub task_after : Res (List Entry) → State → Res Task
task_after (ok es) st = ok (visited st es).task
task_after (no f p) st = no f p

abbrev pub out_after : Res (List Entry) → State → List ℕ
out_after (ok es) st = (visited st es).out
out_after (no f p) st = st.out
