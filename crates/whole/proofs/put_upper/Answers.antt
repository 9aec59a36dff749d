-- `whole::put_upper` meets its contract: type by type. Assumes nothing.
use mathlib.Core.Logic.{inl, inr}
use Rattle.whole.specs.Laid.{upper_of}
use Rattle.whole.proofs.Lays.{none_put}
use Rattle.whole.proofs.Halves.{narrow_type}
use Rattle.whole.proofs.put_upper.Goals as goal

pub returns-in_default : goal.returns-in_default
returns-in_default c =
    let a = c.args in
    none_put a.out.now a.at a.upper (upper_of a.t) (narrow_type a.t (λ e. c.in_default.in_default-own.rest.1 (inl e)) (λ e. c.in_default.in_default-own.rest.1 (inr e)))
