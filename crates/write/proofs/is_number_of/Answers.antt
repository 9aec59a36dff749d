-- `write::is_number_of` meets its contract: width by width. Assumes nothing.
use mathlib.Core.Path.{sym, ◌∙◌}
use native.Mathlib.Omega.{arith}
use borrow.Author.Tests.{ne_eqb}
use Rattle.write.proofs.Fits.{asked_of}
use Rattle.write.proofs.is_number_of.Goals as goal

pub returns-in-1 : goal.returns-in-1
returns-in-1 c = let a = c.args in c.both.ensures ∙ asked_of a.upper a.lower (omega arith) (omega arith) a.t 1 (sym c.width_of.ensures ∙ c.in-1.is)

pub returns-in-2 : goal.returns-in-2
returns-in-2 c = let a = c.args in c.both-in-2.ensures ∙ asked_of a.upper a.lower (omega arith) (omega arith) a.t 2 (sym c.width_of.ensures ∙ c.in-2.is)

pub returns-in-4 : goal.returns-in-4
returns-in-4 c = let a = c.args in c.both-in-4.ensures ∙ asked_of a.upper a.lower (omega arith) (omega arith) a.t 4 (sym c.width_of.ensures ∙ c.in-4.is)

pub returns-in-8 : goal.returns-in-8
returns-in-8 c = let a = c.args in asked_of a.upper a.lower (omega arith) (omega arith) a.t 8 (sym c.width_of.ensures ∙ c.in-8.is)

pub returns-in-16 : goal.returns-in-16
returns-in-16 c = let a = c.args in asked_of a.upper a.lower (omega arith) (omega arith) a.t 16 (sym c.width_of.ensures ∙ c.in-16.is)

pub returns-in_default : goal.returns-in_default
returns-in_default c =
    let a = c.args in
    let w = c.width_of.result in
    let n = c.in_default.in_default-own.rest in
    sym (simp (ne_eqb w 1 n.0.0.0.0.1, ne_eqb w 2 n.0.0.0.1, ne_eqb w 4 n.0.0.1, ne_eqb w 8 n.0.1, ne_eqb w 16 n.1))
    ∙ asked_of a.upper a.lower (omega arith) (omega arith) a.t w (sym c.width_of.ensures)
