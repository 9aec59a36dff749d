-- Steps that are accepted, one after the other, on a buffer that is written from the front: each lays its bytes behind what is there.
use Prim.Native.Nat.{ℕ, suc, ◌+◌, ◌<◌, ◌≤◌}
use mathlib.Core.Path.{◌≡◌, refl, sym, ◌∙◌, ap}
use mathlib.Core.List.{List, [], ◌∷◌, ◌++◌, append_assoc, append-nil, flat_map}
use lib.ListN.{length, replicate, length-append}
use native.Mathlib.Omega.{arith}
use native.Mathlib.Nat.{add-zero}
use Rattle.format.specs.Result.{ok}
use Rattle.format.specs.Format.{Format, Index, each, nothing}
use Rattle.steps.specs.Plans.{Out, fill_all, carry, after}
use Rattle.steps.specs.Writings.{overlaid}
use Rattle.steps.proofs.Plans.{Fine}
use Rattle.steps.proofs.Buffers.{overlaid_length}
use Rattle.steps.proofs.Goes.{carried}
use Rattle.outline.specs.declared.State.{State}
use Rattle.outline.specs.State.{closed}
use Rattle.outline.specs.Steps.{Step, plan, step, run}
use Rattle.outline.proofs.Answers.{no_limit}

-- from one state to another, with w written before and w' after
pub record Goes (b : List ℕ) (ss : List Step) (st : State) (w : List ℕ) (st' : State) (w' : List ℕ) : Type 0 where
  pub go : (rest : List Step) → run (ss ++ rest) st (overlaid b w) ≡ run rest st' (overlaid b w')

pub goes_none : (b : List ℕ) (st : State) (w : List ℕ) → Goes b [] st w st w
goes_none b st w = record { go = λ rest. refl }

pub goes_both : {b : List ℕ} {ss ts : List Step} {st : State} {w : List ℕ} {st' : State} {w' : List ℕ} {st'' : State} {w'' : List ℕ}
    → Goes b ss st w st' w' → Goes b ts st' w' st'' w'' → Goes b (ss ++ ts) st w st'' w''
goes_both {ts} g h = record { go = λ rest. rw append_assoc (g.go (ts ++ rest) ∙ h.go rest) }

-- steps that write a whole area, run from any state
pub goes_whole : {b : List ℕ} {ss : List Step} {st : State} {n : ℕ} {m : List ℕ} → Goes b ss st [] (closed n) m → run ss st b ≡ record { answer = ok n; state = closed n; buffer = overlaid b m }
unfolding run
goes_whole {b} {ss} {st} g = ap (λ (l : List Step). run l st b) (sym (append-nil ss)) ∙ g.go []

module _ (b : List ℕ) (high : ℕ) (fits : high ≤ length b) where
  -- one step
  pub goes_one : (s : Step) (st : State) (w w' : List ℕ) → let p = plan s st (length b) in Fine p → p.at ≡ length w → length (w ++ p.bytes) ≤ high
      → fill_all p.fills (overlaid b (w ++ p.bytes)) ≡ overlaid b w' → Goes b (s ∷ []) st w (p.next (length (w ++ p.bytes))) w'
  unfolding run step
  goes_one s st w w' f at h e =
      let p = plan s st (length b) in
      let sum = length-append w p.bytes in
      let wide = overlaid_length b w (omega arith) in
      let n = length (w ++ p.bytes) in
      let far : n ≤ p.most = omega (arith, no_limit s st (length b)) in
      let same : step s st (overlaid b w) ≡ record { answer = ok n; state = p.next n; buffer = overlaid b w' }
      = ap (λ (k : ℕ). carry (plan s st k) st (overlaid b w)) wide ∙ carried p st b w w' f at (omega arith) far e in
      record { go = λ rest. ap (λ (o : Out State). after o (run rest)) same }

  module _ {A : Type 0} (f : Format A) (steps : A → List Step) (S : ℕ → ℕ → State) (low most : ℕ)
      (item : (a : A) → f.Good a → (c : ℕ) (w : List ℕ) → c < most → low ≤ length w → length (w ++ f.bytes a) ≤ high
      → Goes b (steps a) (S c (length w)) w (S (c + 1) (length (w ++ f.bytes a))) (w ++ f.bytes a)) where
    -- the steps of each value of a list, where those of one value are known to go, and count it
    pub goes_list : (ix : ℕ → Index → Index) (k : ℕ) (l : List A) → let bs = (each ix k (replicate (length l) f)).bytes l in (each ix k (replicate (length l) f)).Good l
        → (c : ℕ) (w : List ℕ) → c + length l ≤ most → low ≤ length w → length (w ++ bs) ≤ high
        → Goes b (flat_map steps l) (S c (length w)) w (S (c + length l) (length (w ++ bs))) (w ++ bs)
    unfolding each nothing flat_map
    goes_list ix k [] g c w m lo hi = rw (append-nil, add-zero) (goes_none b _ w)
    goes_list ix k (a ∷ l) g c w m lo hi =
        let p = f.bytes a in
        let q = (each ix (k + 1) (replicate (length l) f)).bytes l in
        let sum = length-append w p in
        let sum' = length-append (w ++ p) q in
        let hi' : length ((w ++ p) ++ q) ≤ high = rw append_assoc hi in
        let one = item a g.0 c w (omega arith) lo (omega arith) in
        let more = goes_list ix (k + 1) l g.1 (c + 1) (w ++ p) (omega arith) (omega arith) hi' in
        let count : c + 1 + length l ≡ c + suc (length l) = omega arith in
        goes_both one (rw (append_assoc, count) at more)
