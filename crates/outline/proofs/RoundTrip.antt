-- Writer and reader undo each other: what accepted steps wrote reads as the polygon that they spell, and the steps of a polygon that was read write its body.
use Prim.Native.Nat.{ℕ, ◌<◌, ◌≤◌}
use mathlib.Core.Path.{◌≡◌, sym, ◌∙◌, ap, subst}
use mathlib.Core.List.{List, ◌∷◌, ◌++◌}
use lib.ListN.{length, take, drop, length-append}
use lib.Seq.{take-append_seam, drop-append_seam}
use native.Mathlib.Omega.{arith}
use Rattle.format.specs.Result.{ok}
use Rattle.format.specs.Number.{Bytes}
use Rattle.format.specs.Geography.{Polygon, polygon, read_polygon}
use Rattle.format.proofs.Results.{ok_same}
use Rattle.format.proofs.Geography.{body→encodes, encodes→body, polygon_once}
use Rattle.steps.specs.Plans.{Out}
use Rattle.steps.specs.Writings.{overlaid}
use Rattle.outline.specs.declared.State.{State}
use Rattle.outline.specs.State.{closed}
use Rattle.outline.specs.Steps.{Step, begin_area, run}
use Rattle.outline.specs.Spells.{polygon_steps, AllHeld, in_front}
use Rattle.outline.proofs.Writes.{polygon_writes}
use Rattle.outline.proofs.Back.{Ends, steps_wrote}

-- steps that were accepted up to n have written a good polygon, whose steps they are: what stands before n reads as it, and what stands behind n is as it was
pub record ReadBack (ss : List Step) (st : State) (b : List ℕ) (n : ℕ) : Type 0 where
  pub area : Polygon
  pub good : polygon.Good area
  pub spelled : ss ≡ polygon_steps area
  pub wrote : run ss st b ≡ in_front b (polygon.bytes area)
  pub read : read_polygon (take n (run ss st b).buffer) ≡ ok area
  pub kept : drop n (run ss st b).buffer ≡ drop n b

read_back : (ss : List Step) (st : State) (b : List ℕ) (n : ℕ) (p : Polygon) → (run ss st b).answer ≡ ok n → polygon.Good p → ss ≡ polygon_steps p → run ss st b ≡ in_front b (polygon.bytes p)
    → ReadBack ss st b n
read_back ss st b n p e g s w =
    let m = polygon.bytes p in
    let same : n ≡ length m = ok_same (sym e ∙ ap (λ (o : Out State). o.answer) w) in
    let buffer = ap (λ (o : Out State). o.buffer) w in
    record {
      area = p;
      good = g;
      spelled = s;
      wrote = w;
      read = rw (buffer, same) (rw take-append_seam (encodes→body p g));
      kept = rw (buffer, same) (drop-append_seam m (drop (length m) b));
    }

pub read_written : (e i : ℕ) → e < 256 → i < 256 → (ss : List Step) → AllHeld ss → (st : State) (b : List ℕ) → (ended : Ends (run (begin_area e i ∷ ss) st b)) → ReadBack (begin_area e i ∷ ss) st b ended.0
read_written e i h j ss held st b ended =
    let w = steps_wrote e i h j ss held st b ended in
    read_back (begin_area e i ∷ ss) st b ended.0 w.0.area ended.1 w.0.good w.0.spelled w.1

-- and it is the only one: no two good polygons spell the same steps
pub spells_once : (p q : Polygon) → polygon.Good p → polygon.Good q → polygon_steps p ≡ polygon_steps q → p ≡ q
spells_once p q g h e =
    let x = polygon.bytes p in
    let y = polygon.bytes q in
    let b = x ++ y in
    let l = length-append x y in
    let same : in_front b x ≡ in_front b y
    = sym (polygon_writes p g (closed 0) b (omega arith)) ∙ (ap (λ (ss : List Step). run ss (closed 0) b) e ∙ polygon_writes q h (closed 0) b (omega arith)) in
    let n : length x ≡ length y = ok_same (ap (λ (o : Out State). o.answer) same) in
    let bytes : take (length x) (overlaid b x) ≡ take (length x) (overlaid b y) = ap (λ (o : Out State). take (length x) o.buffer) same in
    polygon_once p q g h (sym (take-append_seam x _) ∙ (bytes ∙ rw n (take-append_seam y _)))

-- the steps that the polygon of an accepted body spells put the body in front of any buffer that is long enough, and change no other byte
pub written_read : (m : List ℕ) → Bytes m → (p : Polygon) → read_polygon m ≡ ok p → (st : State) (b : List ℕ) → length m ≤ length b → run (polygon_steps p) st b ≡ in_front b m
written_read m bytes p e st b room =
    let z = body→encodes m bytes p e in
    subst (λ (x : List ℕ). length x ≤ length b → run (polygon_steps p) st b ≡ in_front b x) z.1 (polygon_writes p z.0 st b) room
