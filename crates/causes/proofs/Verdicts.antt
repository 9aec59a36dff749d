-- What holds of each fault that the parts of a verdict blame holds of the first of them; and every refusal of a plan is 13, a fault of its arguments, 3 or 8.
use Prim.Native.Nat.{ℕ, ◌+◌}
use mathlib.Core.Path.{◌≡◌, refl, sym, subst}
use mathlib.Core.Bool.{Bool, true, false, ◌&&◌}
use mathlib.Core.List.{List}
use mathlib.Core.Option.{Option, some, none}
use lib.ListN.{length}
use lib.Dec.{leb}
use native.Mathlib.Omega.{arith}
use Rattle.format.specs.declared.Fault.{Fault}
use Rattle.format.specs.declared.Fault.TheVariants.{Limit, Output, Text, Stage as WrongStage}
use Rattle.format.specs.Result.{Res, ok, no, pick}
use Rattle.format.specs.Format.{Verdict, fine, bad}
use Rattle.format.specs.Text.{utf8}
use Rattle.format.specs.Value.{most_bytes}
use Rattle.format.proofs.Texts.{utf8_bad}
use Rattle.steps.specs.Plans.{Plan, judged, answer_of, out_of, carry, also, test, placed}
use Rattle.steps.specs.Arguments.{text_fault, null_text_fault}
use Rattle.causes.specs.Causes.{Rightly}
use Rattle.causes.specs.Given.{Anywhere}
use Rattle.causes.proofs.Rightly.{rightly_ok, rightly_no, rightly_pick}

-- what a verdict refuses for
pub record Blames (B : Fault → Type 0) (v : Verdict) : Type 0 where
  pub blames : (f : Fault) (p : ℕ) → v ≡ bad f p → B f

module _ {B : Fault → Type 0} where
  pub blames_fine : Blames B fine
  blames_fine = record { blames = λ f p e. absurd (let z : ◌≡◌ {A = ℕ} 0 1 = cc in omega arith) }

  pub blames_bad : (f : Fault) (p : ℕ) → B f → Blames B (bad f p)
  blames_bad f p b = record { blames = λ g q e. let same : f ≡ g = cc in subst B same b }

  pub blames_test : (t : Bool) (f : Fault) (p : ℕ) → (t ≡ false → B f) → Blames B (test t f p)
  blames_test true f p b = blames_fine
  blames_test false f p b = blames_bad f p (b refl)

  pub blames_also : (v : Verdict) {w : Verdict} → Blames B v → Blames B w → Blames B (also v w)
  blames_also fine b c = c
  blames_also (bad f p) b c = b

  blames_placed : (p : ℕ) (v : Verdict) → Blames B v → Blames B (placed p v)
  blames_placed p fine b = blames_fine
  blames_placed p (bad f n) b = blames_bad f p (b.blames f n refl)

  pub blames_pick : (t : Bool) {v w : Verdict} → Blames B v → Blames B w → Blames B (pick t v w)
  blames_pick true b c = b
  blames_pick false b c = c

  pub blames_text : (rule : List ℕ → Verdict) (p : ℕ) (bs : List ℕ) → B Limit → Blames B (rule bs) → Blames B (text_fault rule p bs)
  blames_text rule p bs limit b = blames_also (test (leb (length bs) most_bytes) Limit p) (blames_test (leb (length bs) most_bytes) Limit p (λ t. limit)) (blames_placed p (rule bs) b)

  pub blames_note : (rule : List ℕ → Verdict) (p : ℕ) (b : Option (List ℕ)) → B Limit → ((bs : List ℕ) → b ≡ some bs → Blames B (rule bs)) → Blames B (null_text_fault rule p b)
  blames_note rule p none limit r = blames_fine
  blames_note rule p (some bs) limit r = blames_text rule p bs limit (r bs refl)

  pub blames_utf8 : B Text → (bs : List ℕ) → Blames B (utf8 bs)
  blames_utf8 text bs = record { blames = λ f p e. subst B (sym (utf8_bad 4 0 bs f p e).0) text }

-- an answer refuses for 13, the arguments' faults, 3 or 8
module _ {B : Fault → Type 0} where
  rightly_judged : (v : Verdict) {r : Res ℕ} → Blames B v → Rightly (Anywhere B) r → Rightly (Anywhere B) (judged v r)
  rightly_judged fine b c = c
  rightly_judged (bad f p) b c = rightly_no f p (b.blames f p refl)

  rightly_answer : {S : Type 0} (p : Plan S) (size : ℕ) → B WrongStage → B Limit → B Output → Blames B p.faults → Rightly (Anywhere B) (answer_of p size)
  rightly_answer p size stage limit output b =
      let reached = p.at + length p.bytes in
      rightly_pick p.permitted
      (λ t. rightly_judged p.faults b
      (rightly_pick (p.limits && leb reached p.most)
      (λ t. rightly_pick (leb reached size) (λ t. rightly_ok) (λ t. rightly_no Output reached output))
      (λ t. rightly_no Limit p.at limit)))
      (λ t. rightly_no WrongStage p.at stage)

  rightly_out : {S : Type 0} (r : Res ℕ) (p : Plan S) (st : S) (b : List ℕ) → Rightly (Anywhere B) r → Rightly (Anywhere B) (out_of r p st b).answer
  rightly_out (ok n) p st b h = h
  rightly_out (no f n) p st b h = h

  pub rightly_carry : {S : Type 0} (p : Plan S) (st : S) (b : List ℕ) → B WrongStage → B Limit → B Output → Blames B p.faults → Rightly (Anywhere B) (carry p st b).answer
  unfolding carry
  rightly_carry p st b stage limit output h = rightly_out (answer_of p (length b)) p st b (rightly_answer p (length b) stage limit output h)
