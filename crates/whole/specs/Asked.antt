-- What steps are answered, by their states and by how many bytes the buffer has: what stands in it doesn't count.
use Rattle.std.specs.Prelude.{ℕ, ◌+◌, ◌-◌, ◌/◌, ◌≤◌, Bool, true, ◌&&◌, ◌≡◌, List, [], ◌∷◌, length, take, get_or, leb, eqb}
use Rattle.std.proofs.Math.Option.{Option, some, none}
use Rattle.format.specs.declared.Fault.TheVariants.{PastEnd}
use Rattle.format.specs.Result.{Res, ok, no, bind}
use Rattle.format.specs.Format.{fine}
use Rattle.format.specs.Value.{Value, value}
use Rattle.format.specs.Message.{most_items, most_columns, most_row, unlimited}
use Rattle.steps.specs.declared.Stage.TheVariants.{Table, Row}
use Rattle.steps.specs.State.{State, stage_number, all_columns}
use Rattle.write.specs.declared.State.{State as Code}
use Rattle.steps.specs.Next.{table_at}
use Rattle.steps.specs.Plans.{answer_of}
use Rattle.steps.specs.Arguments.{value_fault}
use Rattle.steps.specs.Steps.{Step, open_row, plan, message_end}
use Rattle.whole.specs.Rows.{value_in, steps_from, cell_steps}

abbrev pub asked : Option Step → State → ℕ → Res ℕ
asked none st size = no PastEnd 0
asked (some s) st size = answer_of (plan s st size) size

abbrev pub next : Option Step → State → ℕ → ℕ → State
next none st size n = st
next (some s) st size n = (plan s st size).next n

unfoldable pub answers : List (Option Step) → State → ℕ → Res ℕ
answers [] st size = ok st.position
answers (s ∷ ss) st size = bind (asked s st size) (λ n. answers ss (next s st size n) size)

-- the row that a table's next step opens: at a place, with so many cells
abbrev pub in_row : State → ℕ → ℕ → State
in_row st at cells = table_at Row at st st.position cells (st.outer.rows + 1)

-- the type of the column that the next cell is in
abbrev pub type_now : State → ℕ
type_now st = get_or st.outer.types st.inner.count 0

-- what a whole row is answered
abbrev pub row_answer : List ℕ → List ℕ → State → ℕ → Res ℕ
row_answer bytes ns st size = answers (some open_row ∷ cell_steps bytes st.outer.types ns) st size

-- a row was opened, and its first cell goes to a place
abbrev pub Opened : State → ℕ → ℕ → Type 0
Opened st size first = answer_of (plan open_row st size) size ≡ ok first

-- where it may end
pub record EndOf (first size end : ℕ) : Type 0 where
  pub behind : first ≤ end
  pub row : end ≤ first + most_row
  pub message : end ≤ message_end
  pub buffer : end ≤ size

-- what the cells that are left of an open row are answered, and the closing behind them
abbrev pub rest_answer : List ℕ → List ℕ → State → ℕ → Res ℕ
rest_answer bytes ns st size =
    let k = st.inner.count in
    answers (steps_from bytes st.outer.types ns k (length ns / 2 - k)) st size

-- of the row that a table's next step opens, from the k-th cell on, where it has come to a place
abbrev pub answers_from : List ℕ → List ℕ → State → ℕ → ℕ → ℕ → Res ℕ
answers_from bytes ns st size k at = rest_answer bytes ns (in_row st at k) size

-- whether a row can be opened in a state, if the types of its columns are columns'
abbrev pub opens : Code → ℕ → Bool
opens st size =
    eqb (stage_number st.stage) (stage_number Table)
    && ((leb st.count most_items && (leb (st.rows + 1) unlimited && leb st.columns most_columns))
    && ((leb 4 st.count_at && (leb (st.count_at + 2) st.table_at && leb (st.table_at + 4) st.rows_at))
    && (leb (st.rows_at + 4) st.position && (leb (st.position + 4) message_end && leb (st.position + 4) size))))

-- all cells of a row are taken, from a place on, and end at r: their types are columns', and the closing is asked next
pub record PastAll (bytes ns types : List ℕ) (from end r : ℕ) : Type 0 where
  pub low : from ≤ r
  pub high : r ≤ end
  pub few : length ns / 2 ≤ length types
  pub columns : all_columns (take (length ns / 2) types) ≡ true
  pub same : (st : State) (size : ℕ) → Opened st size from → EndOf from size end → st.outer.types ≡ take (length ns / 2) types
      → answers_from bytes ns st size (length ns / 2) r ≡ answers_from bytes ns st size 0 from

-- a value without a fault, of so many bytes
pub record Sure (bytes : List ℕ) (p t a b r : ℕ) : Type 0 where
  pub it : Value
  pub is : value_in bytes t a b ≡ some it
  pub faultless : value_fault p t it ≡ fine
  pub size : length ((value 50 51 t).bytes it) ≡ r
