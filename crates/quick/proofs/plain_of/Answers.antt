-- `quick::plain_of` meets its contract, type by type. Assumes nothing.
use mathlib.Core.Path.{◌≡◌, refl, sym, ap}
use Prim.Native.Nat.{ℕ}
use mathlib.Core.Bool.{Bool, true, false, ◌||◌}
use mathlib.Core.Logic.{⊎_elim, inl, inr}
use native.Mathlib.Omega.{arith}
use lib.Dec.{eqb}
use borrow.Author.Tests.{ne_eqb}
use Rattle.format.specs.Result.{pick}
use Rattle.quick.specs.Past.{plain_of}
use Rattle.quick.proofs.plain_of.Goals as goal

-- the two other types of one size have a rule
ruled_out : (a b : Bool) → pick {A = ℕ} a 0 (pick b 0 (pick (a || b) 16 0)) ≡ 0
ruled_out true b = refl
ruled_out false true = refl
ruled_out false false = refl

pub returns-in-3 : goal.returns-in-3
returns-in-3 c = (sym (ap plain_of c.in-3.is), omega arith)

pub returns-in-4 : goal.returns-in-4
returns-in-4 c = (sym (ap plain_of c.in-4.is), omega arith)

pub returns-in-5 : goal.returns-in-5
returns-in-5 c = (sym (ap plain_of c.in-5.is), omega arith)

pub returns-in-6 : goal.returns-in-6
returns-in-6 c = (⊎_elim (λ e. sym (ap plain_of e)) (λ w. ⊎_elim (λ e. sym (ap plain_of e)) (λ e. sym (ap plain_of e)) w) c.in-6.is, omega arith)

pub returns-in_default : goal.returns-in_default
returns-in_default c =
    let t = c.args.t in
    let n = c.in_default.in_default-own.rest in
    (rw (ne_eqb t 3 n.0.0.0.1, ne_eqb t 4 n.0.0.1, ne_eqb t 5 n.0.1, ne_eqb t 6 (λ e. n.1 (inl e)), ne_eqb t 8 (λ e. n.1 (inr (inl e))), ne_eqb t 11 (λ e. n.1 (inr (inr e)))) (sym (ruled_out (eqb t 22) (eqb t 26))), omega arith)
