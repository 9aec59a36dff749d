-- Calls of steps, each on the state, the types and the buffer that the last one left, are a run of the definitions, and a run that is accepted is one of calls that
-- are: what a step isn't lent it doesn't look at, and what it leaves is seen again as it was left.
use Prim.Native.Nat.{ℕ, ◌+◌, ◌≤◌}
use native.Mathlib.Nat.{zero-add}
use native.Mathlib.Omega.{arith}
use mathlib.Core.Path.{◌≡◌, refl, sym, ap, ◌∙◌, subst}
use mathlib.Core.Bool.{Bool, true, false, ◌&&◌}
use mathlib.Core.List.{List, [], ◌∷◌, ◌++◌}
use lib.ListN.{length, take, drop, length-map}
use lib.Seq.{sets, sets-eq, length-sets, length-take-le, take-append_seam}
use lib.Dec.{leb, eqb}
use borrow.Author.Tests.{le-leb, leb-true}
use Rattle.std.specs.Prelude.{Ok, Err}
use Rattle.format.specs.declared.Fault.TheVariants.{Limit, WireType}
use Rattle.format.specs.Result.{Res, ok, no, pick}
use Rattle.format.specs.Message.{most_columns, unlimited}
use Rattle.format.proofs.Results.{ok_same, no_ok, and_true_both}
use Rattle.put.specs.Put.{put}
use Rattle.write.specs.declared.State.{State as Code}
use Rattle.write.specs.declared.Outcome.{Outcome}
use Rattle.steps.specs.declared.Stage.TheVariants.{Table, Row}
use Rattle.steps.specs.State.{State, stage_number, all_columns, message_sound, outer_sound, sound, at_stage}
use Rattle.steps.specs.Plans.{Plan, Out, also, test, answer_of, out_of, carry, after, fill_all}
use Rattle.steps.specs.Arguments.{name_faults, types_of}
use Rattle.steps.specs.Steps.{Step, begin_call, null_param, one_param, bytes_param, open_array, element, close_array, finish_call, begin_reply, open_table, open_row, cell, close_row, close_table, finish_reply, plan, step, run}
use Rattle.write.specs.Shown.{types_in, seen, shown, answered, came, Stepped, types_after}
use Rattle.write.specs.Calls.{Left, Loan, nothing, look, whole, loan, Meets, Called, Chain, ChainTo}
use Rattle.steps.proofs.Plans.{Accepted}
use Rattle.steps.proofs.Accepted.{step_ok}
use Rattle.steps.proofs.Back.{also_fine, test_fine}
use Rattle.steps.proofs.Sound.{around, along}
use Rattle.write.proofs.Seen.{seen_shown}

-- the types that are lent, and those after a step
abbrev pub lent : Loan → List ℕ → List ℕ
lent nothing types = []
lent look types = types
lent whole types = []

abbrev left : Loan → Res ℕ → List ℕ → List ℕ → List ℕ
left nothing r new types = types
left look r new types = types
left whole r new types = types_after r new types

meets : (h : Loan) (s : Step) (st : Code) (types b : List ℕ) (l : Left) → Meets h s st types b l → let o = step s (seen st (lent h types)) b in
    Stepped s st (lent h types) b l.came l.buffer × (l.types ≡ left h o.answer o.state.outer.types types)
meets nothing s st types b l m = m
meets look s st types b l m = m
meets whole s st types b l m = m

left_length : (h : Loan) (r : Res ℕ) (new types : List ℕ) → length (left h r new types) ≡ length types
left_length nothing r new types = refl
left_length look r new types = refl
left_length whole (ok n) new types = length-sets types _ new
left_length whole (no f p) new types = refl

-- a step that is accepted in a sound table has no more columns than a table may have
few_columns : (n : ℕ) (types : List ℕ) → all_columns (types_in n types) ≡ true → n ≤ most_columns
few_columns n types = go (leb n most_columns) refl
  where
    go : (t : Bool) → leb n most_columns ≡ t → all_columns (pick t (take n types) (0 ∷ [])) ≡ true → n ≤ most_columns
    go true e f = leb-true n most_columns e
    go false e f = absurd (let z : ◌≡◌ {A = ℕ} 0 1 = cc in omega arith)

outer_few : (st : Code) (types : List ℕ) → outer_sound (seen st types) ≡ true → st.columns ≤ most_columns
unfolding outer_sound
outer_few st types e =
    let o = (seen st types).outer in
    let a = (and_true_both (leb (st.count_at + 2) o.at) _ e).1 in
    let c = (and_true_both (leb (o.at + 4) o.rows_at) _ a).1 in
    let d = (and_true_both (leb o.rows unlimited) _ c).1 in
    few_columns st.columns types (and_true_both (leb (length o.types) most_columns) _ d).1

at_table : (st : Code) (types : List ℕ) (size : ℕ) → at_stage Table (seen st types) size ≡ true → st.columns ≤ most_columns
at_table st types size e = outer_few st types (around (seen st types) size (and_true_both (eqb (stage_number st.stage) (stage_number Table)) _ e).1).outer

at_row : (st : Code) (types : List ℕ) (size : ℕ) (t : Bool) → at_stage Row (seen st types) size && t ≡ true → st.columns ≤ most_columns
at_row st types size t e =
    let here = (and_true_both (at_stage Row (seen st types) size) t e).0 in
    outer_few st types (along (seen st types) size (and_true_both (eqb (stage_number st.stage) (stage_number Row)) _ here).1).outer

-- so the types of a table that stays open are seen again
table_back : (s : State) (n : ℕ) (types : List ℕ) → length types ≡ most_columns → n ≤ most_columns → s.outer.types ≡ types_in n types → seen (shown s) types ≡ s
table_back s n types l h e =
    let is : s.outer.types ≡ take n types = e ∙ rw (le-leb n most_columns h) refl in
    let m : length (take n types) ≡ n = length-take-le n types (omega arith) in
    let k : length s.outer.types ≡ n = ap length is ∙ m in
    seen_shown s types (omega arith) (ap (λ (j : ℕ). take j types) k ∙ sym is)

-- and those of one that is opened
opened_back : (s : State) (types : List ℕ) → length types ≡ most_columns → length s.outer.types ≤ most_columns → seen (shown s) (sets types 0 s.outer.types) ≡ s
opened_back s types l h =
    let ts = s.outer.types in
    let laid : sets types 0 ts ≡ ts ++ drop (length ts) types = sets-eq ts types 0 (omega arith) ∙ ap (λ (n : ℕ). ts ++ drop n types) (zero-add (length ts)) in
    seen_shown s (sets types 0 ts) h (ap (take (length ts)) laid ∙ take-append_seam ts (drop (length ts) types))

-- what is true of each step: it doesn't look at types that it isn't lent, an accepted one is at the position that it answers, and what it leaves is seen again
abbrev Facts : Step → Code → List ℕ → ℕ → ℕ → Type 0
Facts s st types size n =
    let p = plan s (seen st types) size in
    (plan s (seen st (lent (loan s) types)) size ≡ p)
    × ((p.next n).position ≡ n)
    × (Accepted p size n → seen (shown (p.next n)) (left (loan s) (ok n) (p.next n).outer.types types) ≡ p.next n)

facts : (s : Step) (st : Code) (types : List ℕ) (size n : ℕ) → length types ≡ most_columns → Facts s st types size n
unfolding sound message_sound
facts (begin_call version procedure client) st types size n l = (refl, refl, λ a. refl)
facts null_param st types size n l = (refl, refl, λ a. refl)
facts (one_param t v) st types size n l = (refl, refl, λ a. refl)
facts (bytes_param bs) st types size n l = (refl, refl, λ a. refl)
facts (open_array t) st types size n l = (refl, refl, λ a. refl)
facts (element t v) st types size n l = (refl, refl, λ a. refl)
facts close_array st types size n l = (refl, refl, λ a. refl)
facts finish_call st types size n l = (refl, refl, λ a. refl)
facts (begin_reply version o) st types size n l = (refl, refl, λ a. refl)
facts (open_table status cs) st types size n l = (
  refl,
  refl,
  λ a.
      let at = st.position in
      let f = also_fine (test (leb (length cs) most_columns) Limit at) (also (test (all_columns (types_of cs)) WireType at) (name_faults at cs)) a.fine.faultless in
      let few = leb-true (length cs) most_columns (test_fine (leb (length cs) most_columns) Limit at f.0) in
      let m : length (types_of cs) ≡ length cs = length-map cs _ in
      opened_back ((plan (open_table status cs) (seen st types) size).next n) types l (omega (arith, few, m)),
)
facts open_row st types size n l = (refl, refl, λ a. table_back ((plan open_row (seen st types) size).next n) st.columns types l (at_table st types size a.fine.permitted) refl)
facts (cell t v) st types size n l = (refl, refl, λ a. table_back ((plan (cell t v) (seen st types) size).next n) st.columns types l (at_row st types size _ a.fine.permitted) refl)
facts close_row st types size n l = (refl, refl, λ a. table_back ((plan close_row (seen st types) size).next n) st.columns types l (at_row st types size _ a.fine.permitted) refl)
facts close_table st types size n l = (refl, refl, λ a. refl)
facts finish_reply st types size n l = (refl, refl, λ a. refl)

-- a call is accepted where its step is
pub came_ok : (old : Code) (o : Out State) (n : ℕ) → (came old o).answer ≡ Ok n → o.answer ≡ ok n
came_ok old o n = go o.answer
  where
    go : (r : Res ℕ) → (answered old r o.state).answer ≡ Ok n → r ≡ ok n
    go (ok m) e = cc
    go (no f p) e = let z : Err _ ≡ Ok n = e in cc

pub ok_came : (old : Code) (o : Out State) (n : ℕ) → o.answer ≡ ok n → (came old o).answer ≡ Ok n
ok_came old o n e = rw e refl

-- the state that a plan began in is in no answer, and in nothing of an accepted one
same_answer : {S : Type 0} (p : Plan S) (x y : S) (b : List ℕ) → (carry p x b).answer ≡ (carry p y b).answer
unfolding carry
same_answer p x y b = go (answer_of p (length b))
  where
    go : (r : Res ℕ) → (out_of r p x b).answer ≡ (out_of r p y b).answer
    go (ok m) = refl
    go (no f q) = refl

same_out : {S : Type 0} (p : Plan S) (x y : S) (b : List ℕ) (n : ℕ) → (carry p x b).answer ≡ ok n → carry p x b ≡ carry p y b
unfolding carry
same_out p x y b n = go (answer_of p (length b))
  where
    go : (r : Res ℕ) → (out_of r p x b).answer ≡ ok n → out_of r p x b ≡ out_of r p y b
    go (ok m) e = refl
    go (no f q) e = absurd (no_ok e)

-- a call and its step
module _ (s : Step) (st : Code) (types b : List ℕ) (long : length types ≡ most_columns) (l : Left) (called : Called s st types b l) where
  -- the step on the types that are lent, which is all that the contract speaks of
  looked : Out State
  looked = step s (seen st (lent (loan s) types)) b

  blind : (x : State) → carry (plan s (seen st (lent (loan s) types)) (length b)) x b ≡ carry (plan s (seen st types) (length b)) x b
  blind x = ap (λ (p : Plan State). carry p x b) (facts s st types (length b) 0 long).0

  contract : Stepped s st (lent (loan s) types) b l.came l.buffer × (l.types ≡ left (loan s) looked.answer looked.state.outer.types types)
  unfolding looked
  contract = meets (loan s) s st types b l called

  -- the call is accepted where the step is
  pub goes→accepted : (n : ℕ) → (step s (seen st types) b).answer ≡ ok n → l.came.answer ≡ Ok n
  unfolding looked step
  goes→accepted n e =
      let same : looked.answer ≡ (step s (seen st types) b).answer = same_answer _ (seen st (lent (loan s) types)) (seen st types) b ∙ ap (λ (o : Out State). o.answer) (blind (seen st types)) in
      ap (λ (o : Outcome). o.answer) contract.0.0 ∙ ok_came st looked n (same ∙ e)

  -- and an accepted call's step leaves what is seen of what the call left
  pub accepted→goes : (n : ℕ) → l.came.answer ≡ Ok n
      → (step s (seen st types) b ≡ record { answer = ok n; state = seen l.came.state l.types; buffer = l.buffer }) × (l.came.state.position ≡ n) × (length l.types ≡ most_columns)
  unfolding looked step
  accepted→goes n e =
      let p = plan s (seen st types) (length b) in
      let known = facts s st types (length b) n long in
      let said : looked.answer ≡ ok n = came_ok st looked n (sym (ap (λ (o : Outcome). o.answer) contract.0.0) ∙ e) in
      let same : looked ≡ step s (seen st types) b = same_out _ (seen st (lent (loan s) types)) (seen st types) b n said ∙ blind (seen st types) in
      let w = step_ok s (seen st types) b n (sym (ap (λ (o : Out State). o.answer) same) ∙ said) in
      let is = same ∙ w.1 in
      let numbers : l.came.state ≡ shown (p.next n) = ap (λ (o : Outcome). o.state) (contract.0.0 ∙ ap (came st) is) in
      let memory : l.types ≡ left (loan s) (ok n) (p.next n).outer.types types = contract.1 ∙ ap (λ (o : Out State). left (loan s) o.answer o.state.outer.types types) is in
      let back : seen l.came.state l.types ≡ p.next n = rw (numbers, memory) (known.2 w.0) in
      let buffer : l.buffer ≡ fill_all p.fills (put b p.at p.bytes) = contract.0.1 ∙ ap (λ (o : Out State). o.buffer) is in (
        w.1 ∙ sym (rw (back, buffer) refl),
        ap (λ (x : Code). x.position) numbers ∙ known.1,
        ap length memory ∙ left_length (loan s) (ok n) (p.next n).outer.types types ∙ long,
      )

  -- so the steps behind it go on from there
  pub goes_on : (ss : List Step) (n : ℕ) → l.came.answer ≡ Ok n → run (s ∷ ss) (seen st types) b ≡ run ss (seen l.came.state l.types) l.buffer
  unfolding run
  goes_on ss n e = ap (λ (o : Out State). after o (run ss)) (accepted→goes n e).0

-- an accepted run's first step is accepted
abbrev Answers : ℕ → Out State → Type 0
Answers n o = o.answer ≡ ok n

pub first_ok : (o : Out State) (k : State → List ℕ → Out State) (n : ℕ) → (after o k).answer ≡ ok n → (m : ℕ) × (o.answer ≡ ok m)
first_ok o k n = go o.answer refl
  where
    go : (r : Res ℕ) → o.answer ≡ r → Answers n (elim r [ ok n ↦ k o.state o.buffer | no f p ↦ o ]) → (m : ℕ) × (o.answer ≡ ok m)
    go (ok m) i e = (m, i)
    go (no f p) i e = absurd (no_ok (sym i ∙ e))

-- a run to a position and a buffer
abbrev pub RunsTo : Out State → ℕ → List ℕ → Type 0
RunsTo o n b = (o.answer ≡ ok n) × (o.buffer ≡ b)

-- where a step and those behind it run to the end, so do their calls
pub run→chain : (s : Step) (ss : List Step) (st : Code) (types b : List ℕ) (n : ℕ) (b' : List ℕ) → length types ≡ most_columns → RunsTo (run (s ∷ ss) (seen st types) b) n b'
    → (l : Left) → Called s st types b l → (c : Chain ss l) → ChainTo ss l c n b'
unfolding run
run→chain s [] st types b n b' long e l called c =
    let m = first_ok (step s (seen st types) b) (run []) n e.0 in
    let a = goes→accepted s st types b long l called m.0 m.1 in
    let on = goes_on s st types b long l called [] m.0 a in
    let here = (accepted→goes s st types b long l called m.0 a).1 in
    (a ∙ ap Ok (sym here ∙ ok_same (sym (ap (λ (o : Out State). o.answer) on) ∙ e.0)), sym (ap (λ (o : Out State). o.buffer) on) ∙ e.1)
run→chain s (t ∷ ss) st types b n b' long e l called c =
    let m = first_ok (step s (seen st types) b) (run (t ∷ ss)) n e.0 in
    let a = goes→accepted s st types b long l called m.0 m.1 in
    let on = goes_on s st types b long l called (t ∷ ss) m.0 a in
    let kept = (accepted→goes s st types b long l called m.0 a).2 in
    ((m.0, a), run→chain t ss l.came.state l.types l.buffer n b' kept (subst (λ (o : Out State). RunsTo o n b') on e) c.1 c.2 c.3)

-- and where the calls do, so do the steps
pub chain→run : (s : Step) (ss : List Step) (st : Code) (types b : List ℕ) (n : ℕ) (b' : List ℕ) → length types ≡ most_columns
    → (l : Left) → Called s st types b l → (c : Chain ss l) → ChainTo ss l c n b' → RunsTo (run (s ∷ ss) (seen st types) b) n b'
unfolding run
chain→run s [] st types b n b' long l called c to =
    let on = goes_on s st types b long l called [] n to.0 in
    let here = (accepted→goes s st types b long l called n to.0).1 in
    (ap (λ (o : Out State). o.answer) on ∙ ap ok here, ap (λ (o : Out State). o.buffer) on ∙ to.1)
chain→run s (t ∷ ss) st types b n b' long l called c to =
    let m = to.0 in
    let on = goes_on s st types b long l called (t ∷ ss) m.0 m.1 in
    let kept = (accepted→goes s st types b long l called m.0 m.1).2 in
    subst (λ (o : Out State). RunsTo o n b') (sym on) (chain→run t ss l.came.state l.types l.buffer n b' kept c.1 c.2 c.3 to.1)
