-- `write::is_counted` meets its contract: type by type. Assumes nothing.
use mathlib.Core.Path.{sym, ap}
use mathlib.Core.Logic.{⊎_elim, inl, inr}
use borrow.Author.Tests.{ne_eqb}
use Rattle.format.specs.Value.{is_counted}
use Rattle.write.proofs.is_counted.Goals as goal

pub returns-in-9 : goal.returns-in-9
returns-in-9 c = ⊎_elim (λ e. sym (ap is_counted e)) (λ w. ⊎_elim (λ e. sym (ap is_counted e)) (λ e. sym (ap is_counted e)) w) c.in-9.is

pub returns-in_default : goal.returns-in_default
returns-in_default c = let t = c.args.t in let n = c.in_default.in_default-own.rest in sym (rw (ne_eqb t 9 (λ e. n.1 (inl e)), ne_eqb t 25 (λ e. n.1 (inr (inl e))), ne_eqb t 27 (λ e. n.1 (inr (inr e)))))
