-- An accepted step leaves a sound state: 13 tells a step at the wrong stage, or a forged state.
use Prim.Native.Nat.{ℕ, ◌+◌}
use mathlib.Core.Path.{◌≡◌, refl, sym, ap, subst}
use mathlib.Core.Bool.{true}
use mathlib.Core.List.{List}
use lib.ListN.{length}
use native.Mathlib.Omega.{arith}
use borrow.Author.Tests.{leb-true}
use Rattle.format.specs.Result.{ok}
use Rattle.format.specs.Message.{unlimited}
use Rattle.steps.specs.Plans.{Out}
use Rattle.steps.proofs.Plans.{Accepted}
use Rattle.outline.specs.declared.State.{State}
use Rattle.outline.specs.State.{sound}
use Rattle.outline.specs.Steps.{Step, begin_area, open_ring, add_vertex, close_ring, finish_area, plan, step}
use Rattle.outline.proofs.Bytes.{begun_size, opened_size}
use Rattle.outline.proofs.Taken.{in_area, in_ring}
use Rattle.outline.proofs.Writes.{area_sound, ring_sound}
use Rattle.outline.proofs.Frame.{step_ok}

next_sound : (size n : ℕ) (s : Step) (st : State) → Accepted (plan s st size) size n → sound ((plan s st size).next n).stage ((plan s st size).next n) size ≡ true
unfolding sound
next_sound size n (begin_area i j) st a = area_sound n 0 size (omega (arith, a.reached, begun_size i j)) a.fits (omega arith)
next_sound size n (open_ring m) st a =
    let o = in_area st size a.fine.permitted in
    ring_sound n (st.rings + 1) st.position 0 size (leb-true (st.rings + 1) unlimited a.fine.limits) o.behind (omega (arith, a.reached, opened_size m)) a.fits (omega arith)
next_sound size n (add_vertex x y z) st a =
    let o = in_ring st size a.fine.permitted in
    ring_sound n st.rings st.ring_at (st.vertices + 1) size o.rings o.behind (omega (arith, a.reached, o.begun)) a.fits (leb-true (st.vertices + 1) unlimited a.fine.limits)
next_sound size n (close_ring k) st a =
    let o = in_ring st size a.fine.permitted in
    area_sound n st.rings size (omega (arith, a.reached, o.begun, o.behind)) a.fits o.rings
next_sound size n (finish_area k) st a = refl

-- a state that a step gives back is sound
pub step_sound : (s : Step) (st : State) (b : List ℕ) (n : ℕ) → (step s st b).answer ≡ ok n → sound (step s st b).state.stage (step s st b).state (length b) ≡ true
step_sound s st b n e =
    let a = step_ok s st b n e in
    subst (λ (z : State). sound z.stage z (length b) ≡ true) (sym (ap (λ (o : Out State). o.state) a.1)) (next_sound (length b) n s st a.0)
