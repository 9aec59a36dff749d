-- `scan::is_parameter` meets its contract. Assumes nothing.
use mathlib.Core.Path.{sym, ◌∙◌}
use mathlib.Core.Logic.{⊎_elim, inl, inr}
use mathlib.Core.Bool.{or-false}
use borrow.Author.Tests.{ne_eqb}
use Rattle.format.specs.Value.{is_column}
use Rattle.scan.proofs.is_parameter.Goals as goal

pub returns-in-1 : goal.returns-in-1
returns-in-1 c = ⊎_elim (λ e. rw e) (λ e. rw e) c.in-1.is

pub returns-in_default : goal.returns-in_default
returns-in_default c =
    let t = c.args.t in
    let n = c.in_default.in_default-own.rest in
    c.is_column.ensures ∙ sym (rw (ne_eqb t 1 (λ e. n.1 (inl e)), ne_eqb t 157 (λ e. n.1 (inr e))) (or-false (is_column t)))
