-- What a writer's refusal claims of what its step was given: a value, the flags of a response, the columns of a table; of an area, what was written so far.
use Rattle.std.specs.Prelude.{ℕ, ◌<◌, ◌≡◌, false, List, [], ◌∷◌, ◌⊎◌, length, get_or, leb, eqb}
use Rattle.std.proofs.Math.Option.{Option, some, none}
use Rattle.format.specs.declared.Fault.{Fault}
use Rattle.format.specs.declared.Fault.TheVariants.{Decimal, Point, Flags, Name, Geography}
use Rattle.format.specs.Result.{pick, number_of}
use Rattle.format.specs.Value.{Value, fixed, body, decimal_fine, point_fine, name_byte_fine, t_decimal, t_point, t_geography}
use Rattle.format.specs.Message.{flags_fine}
use Rattle.format.specs.Geography.{fewest_vertices}
use Rattle.steps.specs.Arguments.{Column}
use Rattle.steps.specs.Steps.{Step, begin_call, null_param, one_param, bytes_param, open_array, element, close_array, finish_call, begin_reply, open_table, open_row, cell, close_row, close_table, finish_reply}
use Rattle.outline.specs.declared.State.{State as Outline}
use Rattle.outline.specs.Steps as outline
use Rattle.causes.specs.Before.{is_cause}

-- what a step is given that may break a rule of its own
pub data Given : Type 0 where
  value : ℕ → Value → Given  -- of a type
  flags : ℕ → Given
  columns : List Column → Given
  nothing : Given

abbrev pub given : Step → Given
given (begin_call version procedure client) = nothing
given null_param = nothing
given (one_param t v) = value t v
given (bytes_param bs) = nothing
given (open_array t) = nothing
given (element t v) = value t v
given close_array = nothing
given finish_call = nothing
given (begin_reply version o) = flags o.flags
given (open_table status cs) = columns cs
given open_row = nothing
given (cell t v) = value t v
given close_row = nothing
given close_table = nothing
given finish_reply = nothing

-- what holds of a fault wherever it is told: a writer's refusal stands at its position
abbrev pub Anywhere : (Fault → Type 0) → Fault → ℕ → Type 0
Anywhere B f p = B f

-- the fault is no cause; or it is the cause g, and X holds
abbrev pub NoCause : Fault → Type 0
NoCause f = is_cause (number_of f) ≡ false

abbrev pub For : Fault → Type 0 → Fault → Type 0
For g X f = pick (eqb (number_of f) (number_of g)) X (NoCause f)

-- a number that is no decimal or no point of its type, and an empty geography
abbrev pub of_value : ℕ → Value → Fault → Type 0
of_value t (fixed n) f = pick (eqb (number_of f) (number_of Decimal)) ((t ≡ t_decimal) × (decimal_fine n ≡ false)) (For Point ((t ≡ t_point) × (point_fine n ≡ false)) f)
of_value t (body b) f = For Geography ((t ≡ t_geography) × (b ≡ some [])) f

-- a name that has a byte above 127
abbrev pub HighByte : Option (List ℕ) → Type 0
HighByte none = ⊥
HighByte (some bs) = (i : ℕ) × (i < length bs) × (name_byte_fine (get_or bs i 0) ≡ false)

abbrev pub SomeName : List Column → Type 0
SomeName [] = ⊥
SomeName (c ∷ cs) = HighByte c.name ⊎ SomeName cs

abbrev pub Claims : Given → Fault → Type 0
Claims (value t v) = of_value t v
Claims (flags n) = For Flags (flags_fine n ≡ false)
Claims (columns cs) = For Name (SomeName cs)
Claims nothing = NoCause

-- the same of the steps that write an area, which go by what was written so far
abbrev pub of_outline : outline.Step → Outline → Fault → Type 0
of_outline (outline.begin_area edition internal) st = NoCause
of_outline (outline.open_ring mark) st = NoCause
of_outline (outline.add_vertex x y z) st = NoCause
of_outline (outline.close_ring kept) st = For Geography (leb fewest_vertices st.vertices ≡ false)
of_outline (outline.finish_area kept) st = For Geography (leb 1 st.rings ≡ false)
