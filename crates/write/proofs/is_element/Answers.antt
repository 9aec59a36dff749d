-- `write::is_element` meets its contract: tinyint is told apart first. Assumes nothing.
use mathlib.Core.Path.{◌≡◌, refl, sym, ap, ◌∙◌}
use mathlib.Core.Bool.{Bool, true, false, not, ◌&&◌}
use borrow.Author.Tests.{ne_eqb}
use Rattle.format.specs.Value.{is_column}
use Rattle.steps.specs.State.{is_element}
use Rattle.write.proofs.is_element.Goals as goal

pub returns-then-t-eq-TINYINT : goal.returns-then-t-eq-TINYINT
returns-then-t-eq-TINYINT c = sym (ap is_element c.if-t-eq-TINYINT.true)

pub returns : goal.returns
returns c =
    let t = c.args.t in
    c.is_column.ensures ∙ sym (ap (λ (b : Bool). is_column t && not b) (ne_eqb t 3 c.if-t-eq-TINYINT.false) ∙ right (is_column t))
  where
    right : (b : Bool) → b && true ≡ b
    right true = refl
    right false = refl
