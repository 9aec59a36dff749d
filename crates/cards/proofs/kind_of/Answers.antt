-- `cards::kind_of` meets its contract: the test is the definition's. Assumes nothing.
use Prim.Native.Nat.{ℕ}
use mathlib.Core.Path.{ap}
use borrow.Author.Tests.{lt-leb, le-leb}
use Rattle.cards.specs.Card.{near, far}
use Rattle.cards.proofs.Forms.{same_kind}
use Rattle.cards.proofs.kind_of.Goals.{then-position, else-position}
use Rattle.cards.proofs.kind_of.Goals as goal

abbrev numbers : ℕ × (ℕ × (ℕ × (ℕ × Unit {0}))) → ℕ × (ℕ × (ℕ × ℕ))
numbers v = (v.0, (v.1.0, (v.1.1.0, v.1.1.1.0)))

pub returns : goal.returns
returns c = elim c.if-position.branch [
  | then-position w ↦ rw (le-leb _ _ w.if-position.true) (same_kind near (ap numbers w.result-is) _)
  | else-position w ↦ rw (lt-leb _ _ w.if-position.false) (same_kind far (ap numbers w.result-is) _)
]
