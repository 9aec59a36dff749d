-- What a step asks and does, whatever its state is: a plan, and what comes of carrying it out.
use Rattle.std.specs.Prelude.{ℕ, ◌+◌, Bool, ◌&&◌, List, [], ◌∷◌, length, leb}
use Rattle.format.specs.declared.Fault.{Fault}
use Rattle.format.specs.declared.Fault.TheVariants.{Limit, Output, Stage as WrongStage}
use Rattle.format.specs.Result.{Res, ok, no, pick}
use Rattle.format.specs.Number.{num_bytes}
use Rattle.format.specs.Format.{Verdict, fine, bad}
use Rattle.put.specs.Put.{put}

-- a length or a count that is filled when its thing is closed: its place, its width in bytes, its number
pub record Fill : Type 0 where
  pub at : ℕ
  pub width : ℕ
  pub number : ℕ

abbrev pub fill_all : List Fill → List ℕ → List ℕ
fill_all [] b = b
fill_all (f ∷ fs) b = fill_all fs (put b f.at (num_bytes f.width f.number))

-- what a step asks and does, with the state after it
pub record Plan (S : Type 0) : Type 0 where
  pub permitted : Bool  -- the stage permits it and the state is sound, or 13
  pub faults : Verdict  -- the first fault of its arguments, and that one's place
  pub limits : Bool  -- a count or row limit, or 3
  pub most : ℕ  -- the position that it may reach, or 3
  pub at : ℕ  -- where it writes
  pub bytes : List ℕ  -- what it writes
  pub fills : List Fill  -- what it fills
  pub next : ℕ → S  -- the state after it, at the position that it reaches

-- what comes of a step: its answer (the position reached, or a refusal), the state and the buffer after it
pub record Out (S : Type 0) : Type 0 where
  pub answer : Res ℕ
  pub state : S
  pub buffer : List ℕ

abbrev pub judged : Verdict → Res ℕ → Res ℕ
judged fine r = r
judged (bad f p) r = no f p

-- 13, the argument's faults, the limits, then 8, for so many bytes at a place, where a position may be reached at most
abbrev pub answer_within : ℕ → Bool → Verdict → Bool → ℕ → ℕ → ℕ → Res ℕ
answer_within most permitted faults limits at taken size =
    let reached = at + taken in
    pick permitted
    (judged faults
    (pick (limits && leb reached most)
    (pick (leb reached size) (ok reached) (no Output reached))
    (no Limit at)))
    (no WrongStage at)

abbrev pub answer_of : {S : Type 0} → Plan S → ℕ → Res ℕ
answer_of p size = answer_within p.most p.permitted p.faults p.limits p.at (length p.bytes) size

-- a refusal leaves state and buffer as they were
abbrev pub out_of : {S : Type 0} → Res ℕ → Plan S → S → List ℕ → Out S
out_of (ok n) p st b = record { answer = ok n; state = p.next n; buffer = fill_all p.fills (put b p.at p.bytes) }
out_of (no f n) p st b = record { answer = no f n; state = st; buffer = b }

unfoldable pub carry : {S : Type 0} → Plan S → S → List ℕ → Out S
carry p st b = out_of (answer_of p (length b)) p st b

-- one step after the other, on what that one left, unless it was refused
abbrev pub after : {S : Type 0} → Out S → (S → List ℕ → Out S) → Out S
after o k = elim o.answer [ ok n ↦ k o.state o.buffer | no f p ↦ o ]

-- faults of arguments, in wire order; a writer's refusal stands at its position
abbrev pub also : Verdict → Verdict → Verdict
also fine v = v
also (bad f p) v = bad f p

abbrev pub test : Bool → Fault → ℕ → Verdict
test t f p = pick t fine (bad f p)

abbrev pub placed : ℕ → Verdict → Verdict
placed p fine = fine
placed p (bad f n) = bad f p
