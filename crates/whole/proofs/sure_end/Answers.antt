-- `whole::sure_end` meets its contract: the state is asked, then each cell. Assumes nothing.
use Prim.Native.Nat.{◌/◌}
use native.Mathlib.Omega.{arith}
use mathlib.Core.Path.{◌≡◌, sym, ◌∙◌}
use lib.ListN.{length}
use borrow.Author.Tests.{not-false}
use Rattle.whole.proofs.Answers.{end_sure}
use Rattle.whole.proofs.sure_end.Goals as goal

pub returns : goal.returns
returns c =
    let a = c.args in
    let opened = sym c.opens.ensures ∙ not-false _ c.if-not-opens.false-raw in
    let pairs : a.st.columns ≡ length a.cells.now / 2 = omega (arith, c.if-st-cells.false) in
    λ h. end_sure a.bytes.now a.cells.now a.st a.types.now a.size _ _ opened pairs c.row_end.ensures (c.past_cells.ensures h)
