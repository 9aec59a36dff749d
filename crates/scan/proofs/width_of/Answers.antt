-- `scan::width_of` meets its contract. Assumes nothing.
use mathlib.Core.Path.{sym, ap}
use mathlib.Core.Logic.{⊎_elim, inl, inr}
use borrow.Author.Tests.{ne_eqb}
use Rattle.format.specs.Value.{width_of}
use Rattle.scan.proofs.width_of.Goals as goal

pub returns-in-3 : goal.returns-in-3
returns-in-3 c = sym (ap width_of c.in-3.is)

pub returns-in-4 : goal.returns-in-4
returns-in-4 c = sym (ap width_of c.in-4.is)

pub returns-in-5 : goal.returns-in-5
returns-in-5 c = sym (ap width_of c.in-5.is)

pub returns-in-6 : goal.returns-in-6
returns-in-6 c = ⊎_elim (λ e. sym (ap width_of e)) (λ w. ⊎_elim (λ e. sym (ap width_of e)) (λ e. sym (ap width_of e)) w) c.in-6.is

pub returns-in-22 : goal.returns-in-22
returns-in-22 c = ⊎_elim (λ e. sym (ap width_of e)) (λ e. sym (ap width_of e)) c.in-22.is

pub returns-in_default : goal.returns-in_default
returns-in_default c =
    let t = c.args.t in
    let n = c.in_default.in_default-own.rest in
    simp (
      ne_eqb t 3 n.0.0.0.0.1,
      ne_eqb t 4 n.0.0.0.1,
      ne_eqb t 5 n.0.0.1,
      ne_eqb t 6 (λ e. n.0.1 (inl e)),
      ne_eqb t 8 (λ e. n.0.1 (inr (inl e))),
      ne_eqb t 11 (λ e. n.0.1 (inr (inr e))),
      ne_eqb t 22 (λ e. n.1 (inl e)),
      ne_eqb t 26 (λ e. n.1 (inr e)),
    )
