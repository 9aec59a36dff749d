-- `columns::name_at` meets its contract: the name's part of its buffer is written. Assumes nothing.
use mathlib.Core.Path.{sym, ap, ◌∙◌, subst}
use Prim.Native.Nat.{ℕ, ◌+◌, ◌≤◌}
use mathlib.Core.List.{List}
use mathlib.Core.Option.{Option}
use lib.ListN.{length}
use Rattle.put.specs.Put.{put, sized}
use Rattle.columns.proofs.Metadata.{part_is}
use Rattle.columns.proofs.name_at.Goals as goal

pub text_at-requires : goal.text_at-requires
text_at-requires c =
    subst (λ (o : Option (List ℕ)). c.args.at + length (sized o) ≤ length c.args.out.now) (sym (part_is c.args.names.now c.args.c c.requires.0)) c.requires.1

pub returns : goal.returns
returns c =
    let e = part_is c.args.names.now c.args.c c.requires.0 in
    let w = c.text_at.ensures in
    (w.0 ∙ ap (λ (o : Option (List ℕ)). c.args.at + length (sized o)) e, w.1 ∙ ap (λ (o : Option (List ℕ)). put c.args.out.now c.args.at (sized o)) e)
