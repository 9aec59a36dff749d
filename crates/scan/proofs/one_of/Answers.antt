-- `scan::one_of` meets its contract: test by test. Assumes nothing.
use mathlib.Core.Path.{ap, ◌∙◌}
use mathlib.Core.Bool.{Bool, ◌||◌}
use lib.Dec.{eqb}
use Rattle.scan.proofs.one_of.Goals as goal

pub returns : goal.returns
returns c =
    let a = c.args in
    c.either-2.ensures ∙ ap (λ (b : Bool). eqb a.t a.a || b) c.either.ensures
