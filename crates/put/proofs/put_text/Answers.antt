-- `put::put_text` meets its contract: a null is a length alone, and else the bytes stand behind the length. Assumes nothing.
use Prim.Native.Nat.{◌+◌, ◌≤◌}
use mathlib.Core.Path.{refl, sym, ◌∙◌}
use native.Mathlib.Omega.{arith}
use lib.ListN.{length}
use Rattle.format.specs.Number.{num_bytes}
use Rattle.format.proofs.Numbers.{length-num_bytes}
use Rattle.put.proofs.Laws.{front_two, sized_null, sized_some}
use Rattle.put.proofs.put_text.Goals as goal

pub put_number-requires : goal.put_number-requires
put_number-requires c =
    let h : 4 + length c.in-Some.s.now ≤ length c.args.out.now = rw (c.in-Some.is, sized_some) at c.requires in
    omega arith

pub slice_bounds-put_bytes-count : goal.slice_bounds-put_bytes-count
slice_bounds-put_bytes-count c =
    let h : 4 + length c.in-Some.s.now ≤ length c.args.out.now = rw (c.in-Some.is, sized_some) at c.requires in
    omega (arith, c.put_number.auto.out)

pub slice_bounds-put_bytes-start : goal.slice_bounds-put_bytes-start
slice_bounds-put_bytes-start c =
    let h : 4 + length c.in-Some.s.now ≤ length c.args.out.now = rw (c.in-Some.is, sized_some) at c.requires in
    omega (arith, c.put_number.auto.out)

pub put_number-requires-in-None : goal.put_number-requires-in-None
put_number-requires-in-None c =
    let h : 4 ≤ length c.args.out.now = rw (c.in-None.is, sized_null) at c.requires in
    h

pub returns-in-Some : goal.returns-in-Some
returns-in-Some c =
    let s = c.in-Some.s.now in
    let h : 4 + length s ≤ length c.args.out.now = rw (c.in-Some.is, sized_some) at c.requires in
    front_two c.args.out.now (num_bytes 4 (length s)) s _ _ 4 (length s) (length-num_bytes 4 (length s)) refl h c.put_number.ensures c.put_bytes.ensures
    ∙ sym (rw (c.in-Some.is, sized_some))
