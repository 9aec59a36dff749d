-- The demand on the writer, of calls of its functions. The calls that a good polygon spells are all accepted and write it (good_calls); and calls that are accepted,
-- from a begin to a finish, have written a good polygon, which they spell and which the reader reads (calls_wrote). A contract gives the definition's own state, so calls
-- one after the other are a run of the steps.
use Prim.Native.Nat.{ℕ, ◌≤◌}
use mathlib.Core.Path.{◌≡◌, refl, sym, ap, ◌∙◌, subst}
use mathlib.Core.List.{List, [], ◌∷◌, ◌++◌}
use lib.ListN.{length, take}
use Rattle.std.specs.Prelude.{Ok}
use Rattle.format.specs.Result.{ok}
use Rattle.format.specs.Geography.{Polygon, polygon, read_polygon}
use Rattle.format.proofs.Results.{ok_same}
use Rattle.steps.specs.Plans.{Out, after}
use Rattle.steps.specs.Writings.{overlaid}
use Rattle.write.specs.Shown.{shown_answer}
use Rattle.outline.specs.declared.State.{State}
use Rattle.outline.specs.declared.Outcome.{Outcome}
use Rattle.outline.specs.State.{closed, stage_number}
use Rattle.outline.specs.Steps.{Step, begin_area, open_ring, add_vertex, close_ring, finish_area, plan, step, run}
use Rattle.outline.specs.Spells.{AllHeld, polygon_rest}
use Rattle.outline.specs.Shown.{came, Stepped}
use Rattle.outline.specs.Calls.{Left, Chain, ChainTo, Calls, CallsTo, Finished, Wrote}
use Rattle.outline.proofs.Taken.{shown_ok}
use Rattle.outline.proofs.Frame.{step_ok}
use Rattle.outline.proofs.Writes.{polygon_writes}
use Rattle.outline.proofs.Back.{first_ok}
use Rattle.outline.proofs.RoundTrip.{read_written}
use Rattle.outline.proofs.Typed.{good_held}

-- a run to a position and a buffer
abbrev RunsTo : Out State → ℕ → List ℕ → Type 0
RunsTo o n b = (o.answer ≡ ok n) × (o.buffer ≡ b)

-- an accepted step is at the position that it answers
next_position : (s : Step) (st : State) (size n : ℕ) → ((plan s st size).next n).position ≡ n
next_position (begin_area i j) st size n = refl
next_position (open_ring m) st size n = refl
next_position (add_vertex x y z) st size n = refl
next_position (close_ring k) st size n = refl
next_position (finish_area k) st size n = refl

module _ (s : Step) (st : State) (b : List ℕ) (l : Left) (called : Stepped s st b l.came l.buffer) where
  -- a call is accepted where its step is
  goes→accepted : (n : ℕ) → (step s st b).answer ≡ ok n → l.came.answer ≡ Ok n
  goes→accepted n e = ap (λ (o : Outcome). o.answer) called.0 ∙ ap shown_answer e

  -- and the steps behind an accepted one go on from what it left
  accepted→goes : (n : ℕ) → l.came.answer ≡ Ok n → (step s st b ≡ record { answer = ok n; state = l.came.state; buffer = l.buffer }) × (l.came.state.position ≡ n)
  accepted→goes n e =
      let said : (step s st b).answer ≡ ok n = shown_ok (step s st b).answer (ap (λ (o : Outcome). o.answer) called.0) e in
      let state : l.came.state ≡ (step s st b).state = ap (λ (o : Outcome). o.state) called.0 in
      let next = ap (λ (o : Out State). o.state) (step_ok s st b n said).1 in
      (sym (rw (state, called.1, ← said)), ap (λ (x : State). x.position) (state ∙ next) ∙ next_position s st (length b) n)

  goes_on : (ss : List Step) (n : ℕ) → l.came.answer ≡ Ok n → run (s ∷ ss) st b ≡ run ss l.came.state l.buffer
  unfolding run
  goes_on ss n e = ap (λ (o : Out State). after o (run ss)) (accepted→goes n e).0

-- where a step and those behind it run to the end, so do their calls
run→chain : (s : Step) (ss : List Step) (st : State) (b : List ℕ) (n : ℕ) (b' : List ℕ) → RunsTo (run (s ∷ ss) st b) n b'
    → (l : Left) → Stepped s st b l.came l.buffer → (c : Chain ss l) → ChainTo ss l c n b'
unfolding run
run→chain s [] st b n b' e l called c =
    let m = first_ok (step s st b) (run []) n e.0 in
    let a = goes→accepted s st b l called m.0 m.1 in
    let on = goes_on s st b l called [] m.0 a in
    let here = (accepted→goes s st b l called m.0 a).1 in
    (a ∙ ap Ok (sym here ∙ ok_same (sym (ap (λ (o : Out State). o.answer) on) ∙ e.0)), sym (ap (λ (o : Out State). o.buffer) on) ∙ e.1)
run→chain s (t ∷ ss) st b n b' e l called c =
    let m = first_ok (step s st b) (run (t ∷ ss)) n e.0 in
    let a = goes→accepted s st b l called m.0 m.1 in
    let on = goes_on s st b l called (t ∷ ss) m.0 a in
    ((m.0, a), run→chain t ss l.came.state l.buffer n b' (subst (λ (o : Out State). RunsTo o n b') on e) c.1 c.2 c.3)

-- and where the calls do, so do the steps
chain→run : (s : Step) (ss : List Step) (st : State) (b : List ℕ) (n : ℕ) (b' : List ℕ)
    → (l : Left) → Stepped s st b l.came l.buffer → (c : Chain ss l) → ChainTo ss l c n b' → RunsTo (run (s ∷ ss) st b) n b'
unfolding run
chain→run s [] st b n b' l called c to =
    let on = goes_on s st b l called [] n to.0 in
    let here = (accepted→goes s st b l called n to.0).1 in
    (ap (λ (o : Out State). o.answer) on ∙ ap ok here, ap (λ (o : Out State). o.buffer) on ∙ to.1)
chain→run s (t ∷ ss) st b n b' l called c to =
    let on = goes_on s st b l called (t ∷ ss) to.0.0 to.0.1 in
    subst (λ (o : Out State). RunsTo o n b') (sym on) (chain→run t ss l.came.state l.buffer n b' c.1 c.2 c.3 to.1)

-- ---- there are such calls: a function answers every input, by its contract, and what a good polygon spells is of the functions' types
called : (s : Step) (st : State) (b : List ℕ) → (l : Left) × Stepped s st b l.came l.buffer
called s st b = let o = step s st b in (record { came = came o; buffer = o.buffer }, (refl, refl))

chained : (ss : List Step) → AllHeld ss → (l : Left) → Chain ss l
chained [] h l = tt
chained (s ∷ ss) h l = let n = called s l.came.state l.buffer in (h.0, n.0, n.1, chained ss h.1 n.0)

pub spelled_calls : (p : Polygon) → polygon.Good p → (b : List ℕ) → Calls p.edition p.internal (polygon_rest p) b
spelled_calls p g b =
    let h = good_held p g in
    let n = called (begin_area p.edition p.internal) (closed 0) b in
    (h.0, h.1, n.0, n.1, chained (polygon_rest p) h.2 n.0)

-- the calls that a good polygon spells, on a buffer with room for it: whatever they answer by their contracts, each is accepted, the last answers the body's length, and
-- the body stands in front of the buffer, with all behind it as it was
pub good_calls : (p : Polygon) → polygon.Good p → (b : List ℕ) → let m = polygon.bytes p in length m ≤ length b → (c : Calls p.edition p.internal (polygon_rest p) b)
    → CallsTo p.edition p.internal (polygon_rest p) b c (length m) (overlaid b m)
good_calls p g b room c =
    let e = polygon_writes p g (closed 0) b room in
    run→chain (begin_area p.edition p.internal) (polygon_rest p) (closed 0) b _ _ (ap (λ (o : Out State). o.answer) e, ap (λ (o : Out State). o.buffer) e) c.2 c.3 c.4

-- what the arguments of all calls say, from what those of each say
all_held : (ss : List Step) (l : Left) → Chain ss l → AllHeld ss
all_held [] l c = tt
all_held (s ∷ ss) l c = (c.0, all_held ss c.1 c.3)

-- steps that a finish ends leave nothing open
run_closes : (k : List ℕ) (ss : List Step) (st : State) (b : List ℕ) (n : ℕ) → (run (ss ++ (finish_area k ∷ [])) st b).answer ≡ ok n → stage_number (run (ss ++ (finish_area k ∷ [])) st b).state.stage ≡ 0
unfolding run
run_closes k [] st b n e =
    let m = first_ok (step (finish_area k) st b) (run []) n e in
    rw m.1 (ap (λ (o : Out State). stage_number o.state.stage) (step_ok (finish_area k) st b m.0 m.1).1)
run_closes k (s ∷ ss) st b n e =
    let m = first_ok (step s st b) (run (ss ++ (finish_area k ∷ []))) n e in
    rw m.1 (run_closes k ss (step s st b).state (step s st b).buffer n (rw m.1 at e))

-- calls that are accepted from a begin on, the last of them a finish, have written a good polygon
pub calls_wrote : (i j : ℕ) (ss : List Step) (b : List ℕ) (c : Calls i j ss b) (n : ℕ) (b' : List ℕ) → CallsTo i j ss b c n b' → Finished ss → Wrote (begin_area i j ∷ ss) b n b'
calls_wrote i j ss b c n b' to f =
    let e = chain→run (begin_area i j) ss (closed 0) b n b' c.2 c.3 c.4 to in
    let same : run (begin_area i j ∷ (f.0 ++ (finish_area f.1 ∷ []))) (closed 0) b ≡ run (begin_area i j ∷ ss) (closed 0) b = ap (λ (l : List Step). run (begin_area i j ∷ l) (closed 0) b) (sym f.2) in
    let shut : stage_number (run (begin_area i j ∷ ss) (closed 0) b).state.stage ≡ 0
    = sym (ap (λ (o : Out State). stage_number o.state.stage) same) ∙ run_closes f.1 (begin_area i j ∷ f.0) (closed 0) b n (ap (λ (o : Out State). o.answer) same ∙ e.0) in
    let r = read_written i j c.0 c.1 ss (all_held ss c.2 c.4) (closed 0) b (n, e.0, shut) in
    record {
      area = r.area;
      good = r.good;
      spelled = r.spelled;
      size = ok_same (sym e.0 ∙ ap (λ (o : Out State). o.answer) r.wrote);
      buffer = sym e.1 ∙ ap (λ (o : Out State). o.buffer) r.wrote;
      read = subst (λ (x : List ℕ). read_polygon (take n x) ≡ ok r.area) e.1 r.read;
    }
