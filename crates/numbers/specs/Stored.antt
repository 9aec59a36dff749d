-- The writer's state as numbers: its stage's number, then each field in turn, last how many columns; their types stand in memory of their own.
use Rattle.format.specs.declared.Refusal.{Refusal}
use Rattle.std.specs.Prelude.{ℕ, ◌≡◌, List, [], ◌∷◌, get_or, ltb, eqb, Result, Ok, Err}
use Rattle.format.specs.Result.{Res, ok, no, pick}
use Rattle.steps.specs.declared.Stage.{Stage}
use Rattle.steps.specs.declared.Stage.TheVariants.{Closed, Call, Array, Reply, Table, Row}
use Rattle.write.specs.declared.State.{State}
use Rattle.steps.specs.State as definition
use Rattle.steps.specs.State.{stage_number}
use Rattle.steps.specs.Plans.{Out}
use Rattle.steps.specs.Steps.{Step, step}
use Rattle.write.specs.Shown.{seen, shown, types_after}
use Rattle.numbers.specs.Packed.{packed, itself}

-- a number that no stage has says that nothing is open
abbrev pub stage_of : ℕ → Stage
stage_of n = pick (eqb n 1) Call (pick (eqb n 2) Array (pick (eqb n 3) Reply (pick (eqb n 4) Table (pick (eqb n 5) Row Closed))))

-- a number that is no byte is taken as 0, which is no type
abbrev pub byte_of : ℕ → ℕ
byte_of n = pick (ltb n 256) n 0

abbrev pub state_of : List ℕ → State
state_of ns = record {
  stage = stage_of (get_or ns 0 0);
  position = get_or ns 1 0;
  count_at = get_or ns 2 0;
  count = get_or ns 3 0;
  inner_at = get_or ns 4 0;
  inner_type = byte_of (get_or ns 5 0);
  inner_count = get_or ns 6 0;
  table_at = get_or ns 7 0;
  rows_at = get_or ns 8 0;
  rows = get_or ns 9 0;
  columns = get_or ns 10 0;
}

abbrev pub numbers_of : State → List ℕ
numbers_of s =
    stage_number s.stage ∷ s.position ∷ s.count_at ∷ s.count ∷ s.inner_at ∷ s.inner_type ∷ s.inner_count
    ∷ s.table_at ∷ s.rows_at ∷ s.rows ∷ s.columns ∷ []

abbrev pub kept : List ℕ → Result ℕ Refusal → State → List ℕ
kept ns (Ok n) s = numbers_of s
kept ns (Err r) s = ns

abbrev pub listed : List ℕ → Res ℕ → definition.State → List ℕ
listed ns (ok n) s = numbers_of (shown s)
listed ns (no f p) s = ns

-- a call answers r, and leaves the numbers ns' and the buffer b': all three are what the definition gives, o; a refusal leaves the numbers ns
abbrev pub Gave : Out definition.State → List ℕ → ℕ → List ℕ → List ℕ → Type 0
Gave o ns r ns' b' = (r ≡ packed itself o.answer) × (ns' ≡ listed ns o.answer o.state) × (b' ≡ o.buffer)

-- a step from a state st, with the types that are lent and on a buffer b
abbrev pub WroteFrom : Step → State → List ℕ → List ℕ → List ℕ → ℕ → List ℕ → List ℕ → Type 0
WroteFrom s st ns types b r ns' b' = Gave (step s (seen st types) b) ns r ns' b'

-- from the state that the numbers say
abbrev pub Wrote : Step → List ℕ → List ℕ → List ℕ → ℕ → List ℕ → List ℕ → Type 0
Wrote s ns types b r ns' b' = WroteFrom s (state_of ns) ns types b r ns' b'

-- the same for the step that sets the types of the columns
abbrev pub WroteAll : Step → List ℕ → List ℕ → List ℕ → ℕ → List ℕ → List ℕ → List ℕ → Type 0
WroteAll s ns types b r ns' types' b' =
    let o = step s (seen (state_of ns) []) b in
    Wrote s ns [] b r ns' b' × (types' ≡ types_after o.answer o.state.outer.types types)

-- and for a call that has no state
abbrev pub WroteLogin : Out definition.State → ℕ → List ℕ → Type 0
WroteLogin o r b = (r ≡ packed itself o.answer) × (b ≡ o.buffer)
