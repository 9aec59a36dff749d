-- The state of an area that is being written as five numbers: its stage's number, then each field in turn.
use Rattle.std.specs.Prelude.{ℕ, ◌≡◌, List, [], ◌∷◌, get_or, eqb}
use Rattle.format.specs.Result.{Res, ok, no, pick}
use Rattle.outline.specs.declared.Outline.{Outline}
use Rattle.outline.specs.declared.Outline.TheVariants.{Closed, Area, Ring}
use Rattle.outline.specs.declared.State.{State}
use Rattle.outline.specs.State.{stage_number}
use Rattle.outline.specs.Steps.{Step, step}
use Rattle.numbers.specs.Packed.{packed, itself}

-- a number that no stage has says that nothing is open
abbrev pub stage_of : ℕ → Outline
stage_of n = pick (eqb n 1) Area (pick (eqb n 2) Ring Closed)

abbrev pub state_of : List ℕ → State
state_of ns = record {
  stage = stage_of (get_or ns 0 0);
  position = get_or ns 1 0;
  rings = get_or ns 2 0;
  ring_at = get_or ns 3 0;
  vertices = get_or ns 4 0;
}

abbrev pub numbers_of : State → List ℕ
numbers_of s = stage_number s.stage ∷ s.position ∷ s.rings ∷ s.ring_at ∷ s.vertices ∷ []

-- the numbers after an answer that leaves a state; a refusal leaves them as they came
abbrev pub kept : List ℕ → Res ℕ → State → List ℕ
kept ns (ok n) s = numbers_of s
kept ns (no f p) s = ns

-- a step from a state st, on a buffer b, answers r, and leaves the numbers ns' and the buffer b': all three are what the definition gives; a refusal leaves
-- the numbers ns
abbrev pub WroteFrom : Step → State → List ℕ → List ℕ → ℕ → List ℕ → List ℕ → Type 0
WroteFrom s st ns b r ns' b' =
    let o = step s st b in
    (r ≡ packed itself o.answer) × (ns' ≡ kept ns o.answer o.state) × (b' ≡ o.buffer)

-- from the state that the numbers say
abbrev pub Wrote : Step → List ℕ → List ℕ → ℕ → List ℕ → List ℕ → Type 0
Wrote s ns b r ns' b' = WroteFrom s (state_of ns) ns b r ns' b'
