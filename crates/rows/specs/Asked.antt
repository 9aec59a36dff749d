-- What a cell is answered, whatever its value: by what is wrong with that and by how many bytes it has.
use Rattle.std.specs.Prelude.{ℕ, ◌+◌, ◌&&◌, length, get_or, leb, ltb, eqb}
use Rattle.format.specs.declared.Fault.TheVariants.{WireType}
use Rattle.format.specs.Result.{Res}
use Rattle.format.specs.Format.{Verdict}
use Rattle.format.specs.Message.{most_row}
use Rattle.steps.specs.declared.Stage.TheVariants.{Row}
use Rattle.steps.specs.State.{State, at_stage}
use Rattle.steps.specs.Plans.{also, test}
use Rattle.steps.specs.Steps.{answer_at}

abbrev pub cell_answer : State → ℕ → Verdict → ℕ → ℕ → Res ℕ
cell_answer st t fault bytes size =
    let i = st.inner in
    answer_at (at_stage Row st size && ltb i.count (length st.outer.types))
    (also (test (eqb t (get_or st.outer.types i.count 0)) WireType st.position) fault)
    (leb (st.position + bytes) (i.at + 4 + most_row)) st.position bytes size
