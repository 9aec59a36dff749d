-- `cards::write_front` meets its contract: the position is put at its place, and then the first byte. Assumes nothing.
use Prim.Native.Nat.{ℕ}
use mathlib.Core.Path.{◌∙◌, ap}
use mathlib.Core.List.{List}
use lib.ListN.{set}
use Rattle.cards.proofs.Loops.{front_put}
use Rattle.cards.proofs.write_front.Goals as goal

pub returns : goal.returns
returns c =
    ap (λ (bs : List ℕ). set bs 0 c.args.kind.number) c.number_at.ensures.1 ∙ front_put c.args.out.now c.args.kind c.args.position c.requires
