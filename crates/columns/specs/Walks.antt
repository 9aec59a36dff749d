-- The two walks over the columns of a table: they are looked at one by one, and written one by one. What comes of each column, and of a list of them.
use native.Mathlib.Omega.{arith}
use mathlib.Core.Path.{refl}
use borrow.Author.Tests.{leb-true, leb-false}
use Rattle.std.specs.Prelude.{◌≡◌, Bool, false, ℕ, ◌+◌, ◌-◌, ◌*◌, ◌<◌, ◌≤◌, true, ◌&&◌, List, [], ◌∷◌, ◌++◌, length, set, leb, eqb, Result, Ok, Err}
use Rattle.format.specs.declared.Refusal.{Refusal}
use Rattle.format.specs.declared.Fault.TheVariants.{Limit, WireType}
use Rattle.format.specs.Result.{Res, ok, no, pick}
use Rattle.format.specs.Number.{num_bytes}
use Rattle.format.specs.Format.{Verdict, fine, bad}
use Rattle.format.specs.Value.{is_column, most_bytes}
use Rattle.format.specs.Message.{most_columns, most_items}
use Rattle.put.specs.Put.{put}
use Rattle.steps.specs.declared.Stage.TheVariants.{Reply, Table}
use Rattle.write.specs.declared.State.{State as Code}
use Rattle.steps.specs.State.{at_stage}
use Rattle.steps.specs.Plans.{also, test}
use Rattle.steps.specs.Arguments.{name_fault}
use Rattle.steps.specs.Steps.{answer_at}
use Rattle.write.specs.Shown.{seen}
use Rattle.write.specs.Shared.{verdict_of}
use Rattle.columns.specs.declared.Column.{Column as Entry}
use Rattle.columns.specs.declared.survey.Survey.{Survey}
use Rattle.columns.specs.declared.Walk.{Walk}
use Rattle.columns.specs.declared.Head.{Head}
use Rattle.columns.specs.Short.{name_fine}
use Rattle.columns.specs.Entries.{name_of, type_bytes, name_bytes}

-- ---- looking at them

abbrev pub none_at : ℕ → Survey
none_at at = record { at = at; n = 0; kinds = true; fault = Ok tt; size = 0; few = omega arith; short = omega arith }

abbrev pub check_of : Verdict → Result Unit Refusal
check_of fine = Ok tt
check_of (bad f p) = Err (record { fault = f; place = p })

-- the first fault stays
abbrev pub next_fault : ℕ → List ℕ → Result Unit Refusal → Entry → Result Unit Refusal
next_fault at names (Ok u) e = check_of (name_fault at (name_of names e))
next_fault at names (Err r) e = Err r

-- a name is counted while there is no fault
abbrev pub next_size : Result Unit Refusal → ℕ → ℕ → ℕ
next_size (Ok u) size more = size + more
next_size (Err r) size more = size

-- a name that is counted is short, so the size stays bounded
pub next_short : (at : ℕ) (names : List ℕ) (x : Result Unit Refusal) (e : Entry) (size n : ℕ) → size ≤ n * (4 + most_bytes) → next_size (next_fault at names x e) size (4 + e.size) ≤ (n + 1) * (4 + most_bytes)
next_short at names (Ok u) e size n h = go (name_fault at (name_of names e)) refl
  where
    go : (v : Verdict) → name_fault at (name_of names e) ≡ v → next_size (check_of v) size (4 + e.size) ≤ (n + 1) * (4 + most_bytes)
    go fine f = let short = (name_fine at names e f).1 in omega arith
    go (bad g p) f = omega arith
next_short at names (Err r) e size n h = omega arith

-- one column more, by whether there were as many as a table may have; of one that is too many only that is kept
abbrev pub added_where : List ℕ → (s : Survey) → Entry → (full : Bool) → leb most_columns s.n ≡ full → Survey
added_where names s e true h =
    let most = leb-true most_columns s.n h in
    record { at = s.at; n = most_columns + 1; kinds = s.kinds; fault = s.fault; size = s.size; few = omega arith; short = omega (arith, s.few, s.short, most) }
added_where names s e false h =
    let f = next_fault s.at names s.fault e in
    let more = leb-false most_columns s.n h in
    record {
      at = s.at;
      n = s.n + 1;
      kinds = is_column e.wire_type && s.kinds;
      fault = f;
      size = next_size f s.size (4 + e.size);
      few = omega (arith, more);
      short = next_short s.at names s.fault e s.size s.n s.short;
    }

abbrev pub added : List ℕ → Survey → Entry → Survey
added names s e = added_where names s e (leb most_columns s.n) refl

unfoldable pub add_all : List ℕ → Survey → List Entry → Survey
add_all names s [] = s
add_all names s (e ∷ es) = add_all names (added names s e) es

-- ---- what is written around them

abbrev pub survey_fault : Survey → Verdict
survey_fault s = also (test (leb s.n most_columns) Limit s.at) (also (test s.kinds WireType s.at) (verdict_of s.fault))

abbrev pub head_answer : Code → Survey → ℕ → Res ℕ
head_answer st s size = answer_at (at_stage Reply (seen st []) size) (survey_fault s) (leb (st.count + 1) most_items) st.position (15 + (s.n + s.size)) size

abbrev pub head_bytes : ℕ → Survey → List ℕ
head_bytes status s = num_bytes 4 0 ++ (num_bytes 4 (3 + (s.n + s.size)) ++ (num_bytes 1 status ++ num_bytes 2 s.n))

-- the state after the step, at a position and with so many columns
abbrev pub opened_at : Code → ℕ → ℕ → Code
opened_at st position n = record {
  stage = Table;
  position = position;
  count_at = st.count_at;
  count = st.count + 1;
  inner_at = 0;
  inner_type = 0;
  inner_count = 0;
  table_at = st.position;
  rows_at = position - 4;
  rows = 0;
  columns = n;
}

-- types stand side by side, and the names behind them
abbrev pub head_of : Code → Survey → Res ℕ → Head
head_of st s (ok n) = record {
  step = record { answer = Ok n; state = opened_at st n s.n };
  walk = record { left = s.n; i = 0; kind_at = st.position + 11; name_at = st.position + 11 + s.n };
}
head_of st s (no f p) = record {
  step = record { answer = Err (record { fault = f; place = p }); state = st };
  walk = record { left = 0; i = 0; kind_at = 0; name_at = 0 };
}

abbrev pub head_out : Code → ℕ → Survey → Res ℕ → List ℕ → List ℕ
head_out st status s (ok n) b = put (put b st.position (head_bytes status s)) (n - 4) (num_bytes 4 0)
head_out st status s (no f p) b = b

-- ---- writing them

-- a column goes where there is room for it, if any is left
abbrev pub Fits : List ℕ → ℕ → Walk → Entry → Type 0
Fits names size w e =
    0 < w.left → (w.i < most_columns) × (w.kind_at + 1 ≤ size) × (e.start + e.size ≤ length names) × (w.name_at + length (name_bytes names e) ≤ size)

abbrev pub moved : List ℕ → Walk → Entry → Walk
moved names w e =
    pick (eqb w.left 0) w
    (record { left = w.left - 1; i = w.i + 1; kind_at = w.kind_at + 1; name_at = w.name_at + length (name_bytes names e) })

abbrev pub column_out : List ℕ → Walk → Entry → List ℕ → List ℕ
column_out names w e b = pick (eqb w.left 0) b (put (put b w.kind_at (type_bytes e)) w.name_at (name_bytes names e))

abbrev pub column_types : Walk → Entry → List ℕ → List ℕ
column_types w e types = pick (eqb w.left 0) types (set types w.i e.wire_type)

-- what is lent, and where the next column goes
pub record Page : Type 0 where
  pub out : List ℕ
  pub types : List ℕ
  pub walk : Walk

abbrev pub put_one : List ℕ → Page → Entry → Page
put_one names p e = record { out = column_out names p.walk e p.out; types = column_types p.walk e p.types; walk = moved names p.walk e }

unfoldable pub put_all : List ℕ → Page → List Entry → Page
put_all names p [] = p
put_all names p (e ∷ es) = put_all names (put_one names p e) es

unfoldable pub FitsAll : List ℕ → ℕ → Walk → List Entry → Type 0
FitsAll names size w [] = Unit
FitsAll names size w (e ∷ es) = Fits names size w e × FitsAll names size (moved names w e) es
