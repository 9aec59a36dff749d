-- `show::body_at` meets its contract: both ends are cut where the message ends, and what lies past that is nothing.
use mathlib.Core.Path.{refl}
use Rattle.show.proofs.Parts.{cut}
use Rattle.show.proofs.body_at.Goals as goal

pub returns : goal.returns
returns c = cut c.args.m _ _ _ _ _ c.least-from.ensures c.least.ensures refl refl
