-- A whole row is the run of the steps that it stands for, at once: so what is proved of runs holds of it.
use Prim.Native.Nat.{ℕ}
use mathlib.Core.Path.{◌≡◌, refl, ap, ◌∙◌}
use mathlib.Core.List.{List, [], ◌∷◌, map}
use mathlib.Core.Option.{Option, some, none}
use Rattle.format.specs.Result.{Res, ok, no}
use Rattle.format.proofs.Results.{no_ok}
use Rattle.steps.specs.State.{State}
use Rattle.steps.specs.Plans.{Out, after}
use Rattle.steps.specs.Steps.{Step, open_row, step, run}
use Rattle.whole.specs.Rows.{cell_steps, run_each, at_once, whole_row}

-- steps that all have their values run as steps do
runs_each : (ts : List Step) (st : State) (b : List ℕ) → run_each (map some ts) st b ≡ run ts st b
unfolding run_each run
runs_each [] st b = refl
runs_each (s ∷ ts) st b = go (λ st c. runs_each ts st c) (step s st b) (step s st b).answer refl
  where
    go : ((st : State) (c : List ℕ) → run_each (map some ts) st c ≡ run ts st c) → (o : Out State) (r : Res ℕ) → o.answer ≡ r → after o (run_each (map some ts)) ≡ after o (run ts)
    go more o (ok n) e = rw e (more o.state o.buffer)
    go more o (no f p) e = rw e

-- a row whose bodies all stand among the lent bytes: refused as its steps are, and else what they come to
pub as_steps : (bytes ns : List ℕ) (st : State) (b : List ℕ) (ts : List Step) → some open_row ∷ cell_steps bytes st.outer.types ns ≡ map some ts → whole_row bytes ns st b ≡ at_once (run ts st b) st b
unfolding whole_row
as_steps bytes ns st b ts e = ap (λ (ss : List (Option Step)). at_once (run_each ss st b) st b) e ∙ ap (λ (o : Out State). at_once o st b) (runs_each ts st b)

-- steps of which the last was accepted have their values
all_there : (ss : List (Option Step)) (st : State) (b : List ℕ) (n : ℕ) → (run_each ss st b).answer ≡ ok n → (ts : List Step) × (ss ≡ map some ts)
unfolding run_each
all_there [] st b n e = ([], refl)
all_there (none ∷ ss) st b n e = absurd (no_ok e)
all_there (some s ∷ ss) st b n e = go (λ st c f. all_there ss st c n f) (step s st b) (step s st b).answer refl e
  where
    go : ((st : State) (c : List ℕ) → (run_each ss st c).answer ≡ ok n → (ts : List Step) × (ss ≡ map some ts)) → (o : Out State) (r : Res ℕ) → o.answer ≡ r → (after o (run_each ss)).answer ≡ ok n
        → (ts : List Step) × (some s ∷ ss ≡ map some ts)
    go more o (ok m) q e = let w = more o.state o.buffer (rw q at e) in (s ∷ w.0, ap (λ (l : List (Option Step)). some s ∷ l) w.1)
    go more o (no f p) q e = absurd (no_ok (rw q at e))

at_once_lem : (o : Out State) (st : State) (b : List ℕ) (m : ℕ) → o.answer ≡ ok m → at_once o st b ≡ o
at_once_lem o st b m e = ap (λ (r : Res ℕ). chosen r) e
  where
    chosen : Res ℕ → Out State
    chosen (ok n) = o
    chosen (no f p) = record { answer = no f p; state = st; buffer = b }

-- a row that was accepted is a run of steps that was
pub row_is_run : (bytes ns : List ℕ) (st : State) (b : List ℕ) (n : ℕ) → (whole_row bytes ns st b).answer ≡ ok n
    → (ts : List Step) × (some open_row ∷ cell_steps bytes st.outer.types ns ≡ map some ts) × (whole_row bytes ns st b ≡ run ts st b)
unfolding whole_row
row_is_run bytes ns st b n e = go (run_each ss st b).answer refl e
  where
    ss : List (Option Step)
    ss = some open_row ∷ cell_steps bytes st.outer.types ns

    go : (r : Res ℕ) → (run_each ss st b).answer ≡ r → (at_once (run_each ss st b) st b).answer ≡ ok n
        → (ts : List Step) × (ss ≡ map some ts) × (whole_row bytes ns st b ≡ run ts st b)
    go (ok m) q f =
        let w = all_there ss st b m q in
        (w.0, w.1, at_once_lem (run_each ss st b) st b m q ∙ (ap (λ (l : List (Option Step)). run_each l st b) w.1 ∙ runs_each w.0 st b))
    go (no f p) q g = absurd (no_ok (rw q at g))
