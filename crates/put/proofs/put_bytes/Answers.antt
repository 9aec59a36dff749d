-- `put::put_bytes` meets its contract: after each turn the first i bytes are copied, and the last eight may lie over some of them. Assumes nothing.
use Prim.Native.Nat.{ℕ, ◌+◌, ◌-◌}
use mathlib.Core.Path.{◌∙◌, ap}
use native.Mathlib.Omega.{arith}
use mathlib.Core.List.{List}
use lib.ListN.{length, take, drop}
use borrow.Author.Rules.{rules}
use Rattle.put.specs.Put.{put}
use Rattle.put.proofs.Laws.{copied_eight, copied_all}
use Rattle.put.proofs.put_bytes.Goals as goal

pub loop-i-preserved : goal.loop-i-preserved
loop-i-preserved c =
    let l = c.loop-i in
    let s = c.args.s.now in (
      search rules,
      search rules,
      c.copy_eight.ensures ∙ ap (λ (zs : List ℕ). put zs l.i (take 8 (drop l.i s))) l.invariant.2 ∙ copied_eight _ s l.i l.i (omega arith) (omega arith) (omega arith) c.requires,
    )

pub returns : goal.returns
returns c =
    let l = c.loop-i in
    let s = c.args.s.now in
    let last = length s - 8 in
    c.copy_eight-2.ensures
    ∙ ap (λ (zs : List ℕ). put zs last (take 8 (drop last s))) l.invariant.2
    ∙ copied_eight _ s l.i last (omega arith) (omega arith) (omega arith) c.requires
    ∙ copied_all _ s (last + 8) (omega arith)
