-- `write::one_more` meets its contract: a number below another is at most it with one more. Assumes nothing.
use mathlib.Core.Path.{sym, ap}
use Prim.Native.Nat.{ℕ}
use lib.Dec.{leb}
use native.Mathlib.Numerals.{add-one}
use Rattle.write.proofs.one_more.Goals as goal

pub returns : goal.returns
returns c = ap (λ (k : ℕ). leb k c.args.most) (sym (add-one c.args.n))
