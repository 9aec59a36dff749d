-- Where the steps that close a row or a table fill: in front of the position, and so in the buffer.
use Prim.Native.Nat.{ℕ, ◌+◌, ◌≤◌}
use native.Mathlib.Omega.{arith}
use Rattle.format.proofs.Results.{and_true_both}
use Rattle.steps.specs.declared.Stage.TheVariants.{Table, Row}
use Rattle.steps.specs.State.{State, at_stage}
use Rattle.steps.specs.Steps.{plan, close_row, close_table}
use Rattle.steps.proofs.Plans.{Accepted}
use Rattle.write.proofs.Filled.{Fills, fills}
use Rattle.steps.proofs.Sound.{at_stage_lem, around, along, outer_places}

module _ (st : State) (size n : ℕ) where
  pub row_fills : Accepted (plan close_row st size) size n → Fills st.inner.at 4 st.position size
  row_fills a =
      let o = along st size (at_stage_lem Row st size (and_true_both (at_stage Row st size) _ a.fine.permitted).0) in
      fills st.inner.at 4 st.position size n a.reached a.few a.fits o.inside

  pub table_fills : Accepted (plan close_table st size) size n → Fills st.outer.at 4 st.position size × Fills st.outer.rows_at 4 st.position size
  table_fills a =
      let o = around st size (at_stage_lem Table st size a.fine.permitted) in
      let places = outer_places st o.outer in
      let behind : st.outer.rows_at + 4 ≤ st.position = o.behind in (
        fills st.outer.at 4 st.position size n a.reached a.few a.fits (omega (arith, places.1)),
        fills st.outer.rows_at 4 st.position size n a.reached a.few a.fits behind,
      )
