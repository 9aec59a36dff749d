-- The steps of a row that was opened, in turn: while no cell has a fault and the row keeps its limits, each is answered where it ends, and so is the closing behind them.
use Prim.Native.Nat.{ℕ, suc, ◌+◌, ◌-◌, ◌*◌, ◌/◌, ◌<◌, ◌≤◌}
use native.Mathlib.Omega.{arith}
use native.Mathlib.Nat.{add-zero}
use mathlib.Core.Path.{◌≡◌, refl, sym, ap, ◌∙◌, subst}
use mathlib.Core.Bool.{Bool, true, false, ◌&&◌}
use mathlib.Core.List.{List, ◌∷◌}
use mathlib.Core.Option.{Option, some, none}
use lib.ListN.{length, take, get_or, length-take}
use lib.Seq.{get_or-take, length-take-le}
use lib.Dec.{leb, eqb}
use borrow.Author.Tests.{leb-true, le-leb, lt-ltb, eq-eqb}
use Rattle.format.specs.declared.Fault.{Fault}
use Rattle.format.specs.Result.{Res, ok, no, bind}
use Rattle.format.specs.Format.{fine}
use Rattle.format.specs.Value.{Value, value}
use Rattle.format.specs.Message.{most_columns, most_items, most_row, unlimited}
use Rattle.format.proofs.Numbers.{length-num_bytes}
use Rattle.format.proofs.Results.{and_true_both, no_ok}
use Rattle.steps.specs.declared.Stage.TheVariants.{Table, Row}
use Rattle.steps.specs.State.{State, sound, message_sound, outer_sound, stage_number, all_columns, at_stage}
use Rattle.steps.specs.Next.{table_at}
use Rattle.steps.specs.Plans.{answer_of}
use Rattle.steps.specs.Arguments.{value_fault}
use Rattle.steps.specs.Steps.{Step, open_row, cell, close_row, plan, message_end}
use Rattle.steps.proofs.Plans.{answer_ok}
use Rattle.steps.proofs.Sound.{Around, around, at_stage_lem}
use Rattle.write.specs.declared.State.{State as Code}
use Rattle.write.specs.Shown.{seen, types_in}
use Rattle.write.specs.Shared.{tabled, count_in}
use Rattle.rows.proofs.Cells.{cell_counts}
use Rattle.whole.specs.Rows.{value_in, cell_step, steps_from}
use Rattle.whole.specs.Asked.{asked, type_now, answers, in_row, row_answer, rest_answer, answers_from, opens, Opened, EndOf, PastAll, Sure}

-- what is known of a row that was opened
pub record Ground (st : State) (size first : ℕ) : Type 0 where
  pub around : Around st size
  pub more : st.outer.rows + 1 ≤ unlimited
  pub first_is : first ≡ st.position + 4
  pub few : first ≤ message_end
  pub fits : first ≤ size

pub ground : (st : State) (size first : ℕ) → Opened st size first → Ground st size first
ground st size first e =
    let a = answer_ok (plan open_row st size) size first e in
    record {
      around = around st size (at_stage_lem Table st size a.fine.permitted);
      more = leb-true (st.outer.rows + 1) unlimited a.fine.limits;
      first_is = a.reached ∙ ap (λ (m : ℕ). st.position + m) (length-num_bytes 4 0);
      few = a.few;
      fits = a.fits;
    }

module _ (st : State) (size first : ℕ) (g : Ground st size first) where
  row_sound : (at k : ℕ) → first ≤ at → at ≤ size → k ≤ length st.outer.types → at_stage Row (in_row st at k) size ≡ true
  unfolding sound message_sound outer_sound
  row_sound at k lo hi few =
      let o = st.outer in
      let e = g.around.outer in
      let x = and_true_both (leb (st.count_at + 2) o.at) _ e in
      let y = and_true_both (leb (o.at + 4) o.rows_at) _ x.1 in
      let z = and_true_both (leb o.rows unlimited) _ y.1 in
      let behind : o.rows_at + 4 ≤ st.position = g.around.behind in
      let is : first ≡ st.position + 4 = g.first_is in
      let inside : st.position + 4 ≤ at = omega arith in
      simp (le-leb _ _ g.around.own.front, le-leb _ _ g.around.own.few, le-leb _ _ hi, x.0, y.0, le-leb _ _ g.more, z.1, le-leb _ _ behind, le-leb _ _ inside, le-leb _ _ few)

  -- a cell that has a column and no fault, and keeps the limits
  cell_taken : (at k end n : ℕ) (v : Value) → let t = get_or st.outer.types k 0 in EndOf first size end → first ≤ at → at + n ≤ end → k < length st.outer.types
      → value_fault at t v ≡ fine → length ((value 50 51 t).bytes v) ≡ n → answer_of (plan (cell t v) (in_row st at k) size) size ≡ ok (at + n)
  cell_taken at k end n v ends lo hi less f l =
      let t = get_or st.outer.types k 0 in
      let is : first ≡ st.position + 4 = g.first_is in
      let row : end ≤ first + most_row = ends.row in
      let message : end ≤ message_end = ends.message in
      let buffer : end ≤ size = ends.buffer in
      let keeps : at + n ≤ st.position + 4 + most_row = omega arith in
      simp (row_sound at k lo (omega arith) (omega arith), lt-ltb k (length st.outer.types) less, eq-eqb t t refl, f, l, le-leb _ _ keeps, le-leb (at + n) message_end (omega arith), le-leb (at + n) size (omega arith))

  -- the closing of a row that has all its cells
  close_taken : (at k end : ℕ) → EndOf first size end → first ≤ at → at ≤ end → k ≡ length st.outer.types → answer_of (plan close_row (in_row st at k) size) size ≡ ok at
  close_taken at k end ends lo hi all =
      let is : first ≡ st.position + 4 = g.first_is in
      let row : end ≤ first + most_row = ends.row in
      let message : end ≤ message_end = ends.message in
      let buffer : end ≤ size = ends.buffer in
      let keeps : at ≤ st.position + 4 + most_row = omega arith in
      simp (add-zero, row_sound at k lo (omega arith) (omega arith), eq-eqb k (length st.outer.types) all, le-leb _ _ keeps, le-leb at message_end (omega arith), le-leb at size (omega arith))

-- the k-th cell by its step, of the type of the next column
abbrev pub cell_of : List ℕ → List ℕ → State → ℕ → Option Step
cell_of bytes ns st k = let t = type_now st in cell_step t (value_in bytes t (get_or ns (2 * k) 0) (get_or ns (2 * k + 1) 0))

-- the state behind a cell that ends at n
abbrev pub behind : State → ℕ → State
behind st n = table_at Row n st st.inner.at (st.inner.count + 1) st.outer.rows

module _ (bytes ns : List ℕ) (st : State) (size : ℕ) where
  -- the next cell, of those that are left, and no cell left
  rest_next : let k = st.inner.count in k < length ns / 2
      → rest_answer bytes ns st size ≡ answers (cell_of bytes ns st k ∷ steps_from bytes st.outer.types ns (k + 1) (length ns / 2 - (k + 1))) st size
  unfolding steps_from
  rest_next h =
      let k = st.inner.count in
      let left : length ns / 2 - k ≡ suc (length ns / 2 - (k + 1)) = omega arith in
      ap (λ (m : ℕ). answers (steps_from bytes st.outer.types ns k m) st size) left

  pub rest_end : length ns / 2 ≤ st.inner.count → rest_answer bytes ns st size ≡ answer_of (plan close_row st size) size
  unfolding steps_from answers
  rest_end h =
      let k = st.inner.count in
      let left : length ns / 2 - k ≡ 0 = omega arith in
      ap (λ (m : ℕ). answers (steps_from bytes st.outer.types ns k m) st size) left ∙ close (answer_of (plan close_row st size) size)
    where
      close : (r : Res ℕ) → bind r (λ n. ok n) ≡ r
      close (ok n) = refl
      close (no f p) = refl

  -- a cell that is asked: if it is taken, the cells behind it are asked; if not, its refusal is all
  pub rest_taken : (k n : ℕ) → k ≡ st.inner.count → k < length ns / 2 → asked (cell_of bytes ns st k) st size ≡ ok n → rest_answer bytes ns st size ≡ rest_answer bytes ns (behind st n) size
  unfolding answers
  rest_taken k n c h e =
      let t = type_now st in
      let i = st.inner.count in
      rest_next (subst (λ (m : ℕ). m < length ns / 2) c h)
      ∙ go (value_in bytes t (get_or ns (2 * i) 0) (get_or ns (2 * i + 1) 0)) (subst (λ (m : ℕ). asked (cell_of bytes ns st m) st size ≡ ok n) c e)
    where
      go : (v : Option Value) → let i = st.inner.count in asked (cell_step (type_now st) v) st size ≡ ok n
          → answers (cell_step (type_now st) v ∷ steps_from bytes st.outer.types ns (i + 1) (length ns / 2 - (i + 1))) st size ≡ rest_answer bytes ns (behind st n) size
      go none e = absurd (no_ok e)
      go (some v) e = rw e

  pub rest_refused : (k : ℕ) (f : Fault) (p : ℕ) → k ≡ st.inner.count → k < length ns / 2 → asked (cell_of bytes ns st k) st size ≡ no f p → rest_answer bytes ns st size ≡ no f p
  unfolding answers
  rest_refused k f p c h e = rest_next (subst (λ (m : ℕ). m < length ns / 2) c h) ∙ rw (subst (λ (m : ℕ). asked (cell_of bytes ns st m) st size ≡ no f p) c e)

module _ (bytes ns : List ℕ) (st : State) (size first : ℕ) (g : Ground st size first) (end : ℕ) (ends : EndOf first size end) where
  -- a cell that is surely without a fault
  pub from_sure : (k at n : ℕ) → let t = get_or st.outer.types k 0 in k < length ns / 2 → k < length st.outer.types → first ≤ at → at + n ≤ end
      → Sure bytes at t (get_or ns (2 * k) 0) (get_or ns (2 * k + 1) 0) n → answers_from bytes ns st size (k + 1) (at + n) ≡ answers_from bytes ns st size k at
  from_sure k at n h less lo hi s =
      let t = get_or st.outer.types k 0 in
      let e : asked (cell_step t (value_in bytes t (get_or ns (2 * k) 0) (get_or ns (2 * k + 1) 0))) (in_row st at k) size ≡ ok (at + n)
      = ap (λ (v : Option Value). asked (cell_step t v) (in_row st at k) size) s.is ∙ cell_taken st size first g at k end n s.it ends lo hi less s.faultless s.size in
      sym (rest_taken bytes ns (in_row st at k) size k (at + n) refl h e)

  -- a row whose cells were all passed
  pub from_closed : (k at : ℕ) → k ≡ length ns / 2 → k ≡ length st.outer.types → first ≤ at → at ≤ end → answers_from bytes ns st size k at ≡ ok at
  from_closed k at h all lo hi = rest_end bytes ns (in_row st at k) size (omega arith) ∙ close_taken st size first g at k end ends lo hi all

-- a row that can't be opened, and one that was
pub row_refused : (bytes ns : List ℕ) (st : State) (size : ℕ) (f : Fault) (p : ℕ) → answer_of (plan open_row st size) size ≡ no f p → row_answer bytes ns st size ≡ no f p
unfolding answers
row_refused bytes ns st size f p e = rw e

pub row_opened : (bytes ns : List ℕ) (st : State) (size first : ℕ) → Opened st size first → row_answer bytes ns st size ≡ answers_from bytes ns st size 0 first
unfolding answers
row_opened bytes ns st size first e =
    let left : length ns / 2 - 0 ≡ length ns / 2 = omega arith in
    rw (e, left)

false_true : false ≡ true → ⊥
false_true e = let z : ◌≡◌ {A = ℕ} 0 1 = cc in omega arith

-- of the columns of a table that is open, at most so many are seen
pub columns_few : (st : Code) (types : List ℕ) (size first : ℕ) → Opened (seen st types) size first → st.columns ≤ most_columns
unfolding outer_sound
columns_few st types size first e = go (leb st.columns most_columns) refl
  where
    go : (t : Bool) → leb st.columns most_columns ≡ t → st.columns ≤ most_columns
    go true f = leb-true st.columns most_columns f
    go false f =
        let s = seen st types in
        let x = and_true_both (leb (s.count_at + 2) s.outer.at) _ (ground s size first e).around.outer in
        let y = and_true_both (leb (s.outer.at + 4) s.outer.rows_at) _ x.1 in
        let z = and_true_both (leb s.outer.rows unlimited) _ y.1 in
        let w : all_columns (types_in st.columns types) ≡ true = (and_true_both (leb (length s.outer.types) most_columns) _ z.1).1 in
        absurd (false_true (rw f at w))

pub types_are : (st : Code) (types : List ℕ) → st.columns ≤ most_columns → types_in st.columns types ≡ take st.columns types
types_are st types h = rw (le-leb st.columns most_columns h)

-- a state of the code behind a step in its table
pub tabled_seen : (st : Code) (types : List ℕ) (n at cells rows : ℕ) → st.columns ≤ most_columns → seen (tabled st Row n at cells rows) types ≡ table_at Row n (seen st types) at cells rows
tabled_seen st types n at cells rows h =
    let same : count_in st.columns ≡ st.columns = rw (le-leb st.columns most_columns h) in
    ap {B = State} (λ (m : ℕ). record {
      stage = Row;
      position = n;
      count_at = st.count_at;
      count = st.count;
      inner = record { at = at; type = 0; count = cells };
      outer = record { at = st.table_at; rows_at = st.rows_at; rows = rows; types = types_in m types };
    }) same

pub tabled_few : (st : Code) (n at cells rows : ℕ) → st.columns ≤ most_columns → (tabled st Row n at cells rows).columns ≤ most_columns
tabled_few st n at cells rows h = rw (le-leb st.columns most_columns h) h

-- a cell that is taken is one of the most columns
pub asked_counts : (bytes ns : List ℕ) (st : Code) (types : List ℕ) (size k : ℕ) {n : ℕ} → asked (cell_of bytes ns (seen st types) k) (seen st types) size ≡ ok n → st.inner_count + 1 ≤ most_columns
asked_counts bytes ns st types size k {n} e = go (value_in bytes (type_now (seen st types)) (get_or ns (2 * k) 0) (get_or ns (2 * k + 1) 0)) e
  where
    go : (v : Option Value) → asked (cell_step (type_now (seen st types)) v) (seen st types) size ≡ ok n → st.inner_count + 1 ≤ most_columns
    go none e = absurd (no_ok e)
    go (some v) e = let t = type_now (seen st types) in cell_counts st types size t v (answer_ok (plan (cell t v) (seen st types) size) size n e)

-- cells that are passed, one after the other, where the types that are lent are those of the columns
module _ (bytes ns types : List ℕ) (from end : ℕ) where
  -- those that are left are answered as all are
  abbrev pub Passed : ℕ → ℕ → Type 0
  Passed k at = (st : State) (size : ℕ) → Opened st size from → EndOf from size end → st.outer.types ≡ take (length ns / 2) types
      → answers_from bytes ns st size k at ≡ answers_from bytes ns st size 0 from

  pub past_turn : (k at n : ℕ) → length ns / 2 ≤ length types → k < length ns / 2 → from ≤ at → at + n ≤ end → Sure bytes at (get_or types k 0) (get_or ns (2 * k) 0) (get_or ns (2 * k + 1) 0) n
      → Passed k at → Passed (k + 1) (at + n)
  past_turn k at n few h lo hi s before st size e ends same =
      let wide : length st.outer.types ≡ length ns / 2 = ap length same ∙ length-take-le (length ns / 2) types few in
      let t : get_or types k 0 ≡ get_or st.outer.types k 0 = sym (get_or-take (length ns / 2) types k 0 h) ∙ ap (λ (l : List ℕ). get_or l k 0) (sym same) in
      from_sure bytes ns st size from (ground st size from e) end ends k at n h (omega arith) lo hi (subst (λ (t : ℕ). Sure bytes at t (get_or ns (2 * k) 0) (get_or ns (2 * k + 1) 0) n) t s)
      ∙ before st size e ends same

-- the tests of a state, one by one
record Tests (st : Code) (size : ℕ) : Type 0 where
  stage : eqb (stage_number st.stage) (stage_number Table) ≡ true
  tables : leb st.count most_items ≡ true
  more : leb (st.rows + 1) unlimited ≡ true
  columns : leb st.columns most_columns ≡ true
  front : leb 4 st.count_at ≡ true
  table : leb (st.count_at + 2) st.table_at ≡ true
  rows : leb (st.table_at + 4) st.rows_at ≡ true
  behind : leb (st.rows_at + 4) st.position ≡ true
  message : leb (st.position + 4) message_end ≡ true
  room : leb (st.position + 4) size ≡ true

tests : (st : Code) (size : ℕ) → opens st size ≡ true → Tests st size
tests st size e =
    let x = and_true_both (eqb (stage_number st.stage) (stage_number Table)) _ e in
    let y = and_true_both (leb st.count most_items && (leb (st.rows + 1) unlimited && leb st.columns most_columns)) _ x.1 in
    let counts = and_true_both (leb st.count most_items) _ y.0 in
    let more = and_true_both (leb (st.rows + 1) unlimited) _ counts.1 in
    let z = and_true_both (leb 4 st.count_at && (leb (st.count_at + 2) st.table_at && leb (st.table_at + 4) st.rows_at)) _ y.1 in
    let front = and_true_both (leb 4 st.count_at) _ z.0 in
    let table = and_true_both (leb (st.count_at + 2) st.table_at) _ front.1 in
    let row = and_true_both (leb (st.rows_at + 4) st.position) _ z.1 in
    let room = and_true_both (leb (st.position + 4) message_end) _ row.1 in
    record { stage = x.0; tables = counts.0; more = more.0; columns = more.1; front = front.0; table = table.0; rows = table.1; behind = row.0; message = room.0; room = room.1 }

-- where the first cell of a row goes, and how many columns there are
pub opens_room : (st : Code) (size : ℕ) → opens st size ≡ true → (st.position + 4 ≤ message_end) × (st.position + 4 ≤ size) × (st.columns ≤ most_columns)
opens_room st size e =
    let t = tests st size e in
    (leb-true (st.position + 4) message_end t.message, leb-true (st.position + 4) size t.room, leb-true st.columns most_columns t.columns)

-- a row can be opened in a state that is sound, and whose types are columns'
opened_so : (st : Code) (types : List ℕ) (size : ℕ) → opens st size ≡ true → all_columns (take st.columns types) ≡ true → Opened (seen st types) size (st.position + 4)
unfolding sound message_sound outer_sound
opened_so st types size e all =
    let t = tests st size e in
    let rows = leb-true (st.rows + 1) unlimited t.more in
    let room = opens_room st size e in
    let wide : length (take st.columns types) ≤ most_columns = omega (arith, length-take st.columns types, room.2) in
    simp (t.columns, t.stage, t.tables, t.more, le-leb st.rows unlimited (omega arith), le-leb _ _ wide, all, t.front, t.table, t.rows, t.behind, le-leb st.position size (omega (arith, room.1)), length-num_bytes, t.message, t.room)

-- a row of which all cells were passed is taken
pub end_sure : (bytes ns : List ℕ) (st : Code) (types : List ℕ) (size end r : ℕ) → opens st size ≡ true → st.columns ≡ length ns / 2 → EndOf (st.position + 4) size end
    → PastAll bytes ns types (st.position + 4) end r → row_answer bytes ns (seen st types) size ≡ ok r
end_sure bytes ns st types size end r e pairs ends past =
    let s = seen st types in
    let first = st.position + 4 in
    let columns : all_columns (take st.columns types) ≡ true = subst (λ (m : ℕ). all_columns (take m types) ≡ true) (sym pairs) past.columns in
    let o = opened_so st types size e columns in
    let are = types_are st types (columns_few st types size first o) in
    let same : s.outer.types ≡ take (length ns / 2) types = are ∙ ap (λ (m : ℕ). take m types) pairs in
    let wide : length ns / 2 ≡ length s.outer.types = sym (ap length same ∙ length-take-le (length ns / 2) types past.few) in
    row_opened bytes ns s size first o
    ∙ (sym (past.same s size o ends same) ∙ from_closed bytes ns s size first (ground s size first o) end ends (length ns / 2) r refl wide past.low past.high)
