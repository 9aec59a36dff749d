-- Where the step that finishes a response fills: in front of the position, and so in the buffer.
use Prim.Native.Nat.{ℕ, ◌+◌, ◌≤◌}
use native.Mathlib.Omega.{arith}
use Rattle.steps.specs.declared.Stage.TheVariants.{Reply}
use Rattle.steps.specs.State.{State}
use Rattle.steps.specs.Steps.{plan, finish_reply}
use Rattle.steps.proofs.Plans.{Accepted}
use Rattle.write.proofs.Filled.{Fills, fills}
use Rattle.steps.proofs.Sound.{at_stage_lem, between_reply}

module _ (st : State) (size n : ℕ) where
  pub reply_fills : Accepted (plan finish_reply st size) size n → Fills 0 4 st.position size × Fills st.count_at 2 st.position size
  reply_fills a =
      let o = between_reply st size (at_stage_lem Reply st size a.fine.permitted) in
      let front : 4 ≤ st.count_at = o.own.front in
      let behind : st.count_at + 2 ≤ st.position = o.behind in
      (fills 0 4 st.position size n a.reached a.few a.fits (omega arith), fills st.count_at 2 st.position size n a.reached a.few a.fits behind)
