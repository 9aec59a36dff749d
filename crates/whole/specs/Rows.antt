-- A whole row in one step: the run of the steps that it stands for, all of them or none. Its cells are said by numbers, two to a cell.
use Rattle.std.specs.Prelude.{ℕ, zero, suc, ◌+◌, ◌-◌, ◌*◌, ◌/◌, ◌^◌, ◌≡◌, List, [], ◌∷◌, length, take, drop, get_or, leb, eqb}
use Rattle.std.proofs.Math.Option.{Option, some, none}
use Rattle.format.specs.declared.Fault.TheVariants.{PastEnd}
use Rattle.format.specs.Result.{ok, no, pick}
use Rattle.format.specs.Value.{Value, fixed, body, is_counted}
use Rattle.steps.specs.State.{State}
use Rattle.steps.specs.Plans.{Out, after}
use Rattle.steps.specs.Steps.{Step, open_row, cell, close_row, step}
use Rattle.write.specs.declared.State.{State as Code}
use Rattle.write.specs.declared.Outcome.{Outcome}
use Rattle.write.specs.Shown.{seen, came}

-- the size that says that a text or binary cell is null: all bits set, as in the length of -1 on the wire
abbrev pub null_size : ℕ
null_size = 2 ^ 64 - 1

-- a text or binary cell, by where its bytes stand in those that are lent; none where they would end past them
abbrev pub body_in : List ℕ → ℕ → ℕ → Option Value
body_in bytes start size =
    pick (eqb size null_size) (some (body none)) (pick (leb (start + size) (length bytes)) (some (body (some (take size (drop start bytes))))) none)

-- a cell of a type by its two numbers: where its bytes stand, or its upper and lower 64 bits
unfoldable pub value_in : List ℕ → ℕ → ℕ → ℕ → Option Value
value_in bytes t a b = pick (is_counted t) (body_in bytes a b) (some (fixed (a * 2 ^ 64 + b)))

abbrev pub cell_step : ℕ → Option Value → Option Step
cell_step t none = none
cell_step t (some v) = some (cell t v)

-- the steps from the k-th cell on, of which so many are left: each cell has the type of its column, 0 where there is none
unfoldable pub steps_from : List ℕ → List ℕ → List ℕ → ℕ → ℕ → List (Option Step)
steps_from bytes types ns k zero = some close_row ∷ []
steps_from bytes types ns k (suc left) =
    let t = get_or types k 0 in
    cell_step t (value_in bytes t (get_or ns (2 * k) 0) (get_or ns (2 * k + 1) 0)) ∷ steps_from bytes types ns (k + 1) left

-- one number behind the last pair is left out
abbrev pub cell_steps : List ℕ → List ℕ → List ℕ → List (Option Step)
cell_steps bytes types ns = steps_from bytes types ns 0 (length ns / 2)

-- steps one after the other, as in `run`; where a step has no value, its bytes end past those that are lent: 11
unfoldable pub run_each : List (Option Step) → State → List ℕ → Out State
run_each [] st b = record { answer = ok st.position; state = st; buffer = b }
run_each (none ∷ ss) st b = record { answer = no PastEnd 0; state = st; buffer = b }
run_each (some s ∷ ss) st b = after (step s st b) (run_each ss)

-- all or nothing: a refusal leaves what there was before the first of them
abbrev pub at_once : Out State → State → List ℕ → Out State
at_once o st b = elim o.answer [ ok n ↦ o | no f p ↦ record { answer = no f p; state = st; buffer = b } ]

unfoldable pub whole_row : List ℕ → List ℕ → State → List ℕ → Out State
whole_row bytes ns st b = at_once (run_each (some open_row ∷ cell_steps bytes st.outer.types ns) st b) st b

-- the row that the numbers ns say, in a state with the types that are lent and on a buffer b, comes to r and leaves the buffer b'
abbrev pub WroteRow : List ℕ → List ℕ → Code → List ℕ → List ℕ → Outcome → List ℕ → Type 0
WroteRow bytes ns st types b r b' =
    let o = whole_row bytes ns (seen st types) b in
    (r ≡ came st o) × (b' ≡ o.buffer)
