-- `put::put_fixed` meets its contract: a value of 16 bytes is its halves, and a shorter one is in the lower half. Assumes nothing.
use Prim.Native.Nat.{ℕ, ◌≤◌}
use mathlib.Core.Path.{◌≡◌, sym, ap, ◌∙◌}
use mathlib.Core.List.{List, ◌++◌}
use native.Mathlib.Omega.{arith}
use lib.ListN.{length, drop, length-take, length-drop}
use Rattle.format.specs.Number.{num_bytes}
use Rattle.format.specs.Value.{width_of}
use Rattle.format.proofs.Numbers.{length-num_bytes}
use Rattle.put.proofs.Laws.{halves, lower_half, narrow, front_two}
use borrow.Author.Rules.{rules}
use Rattle.put.proofs.put_fixed.Goals as goal

pub put_number-requires : goal.put_number-requires
put_number-requires c =
    let e : 16 ≤ length c.args.out.now = rw (sym c.width_of-width.ensures ∙ c.if-width-eq16.true) at c.requires in
    search rules

pub put_number-requires-then-width-eq16 : goal.put_number-requires-then-width-eq16
put_number-requires-then-width-eq16 c =
    let e : 16 ≤ length c.args.out.now = rw (sym c.width_of-width.ensures ∙ c.if-width-eq16.true) at c.requires in
    simp (length-take, length-drop) (omega (arith, c.put_number.auto.out))

pub returns-then-width-eq16 : goal.returns-then-width-eq16
returns-then-width-eq16 c =
    let w : width_of c.args.t ≡ 16 = sym c.width_of-width.ensures ∙ c.if-width-eq16.true in
    let e : 16 ≤ length c.args.out.now = rw w at c.requires in
    let small = c.ranges.lower.fits in
    front_two c.args.out.now (num_bytes 8 c.args.upper) (num_bytes 8 c.args.lower) _ _ 8 8 (length-num_bytes 8 c.args.upper) (length-num_bytes 8 c.args.lower) e c.put_number.ensures c.put_number-then-width-eq16.ensures
    ∙ sym (rw w (ap (λ (bs : List ℕ). bs ++ drop 16 c.args.out.now) (halves c.args.upper c.args.lower small)))

pub put_number-requires-2 : goal.put_number-requires-2
put_number-requires-2 c = rw c.width_of-width.ensures c.requires

pub returns : goal.returns
returns c =
    let t = c.args.t in
    let w : width_of t ≡ 16 → ⊥ = λ e. c.if-width-eq16.false (c.width_of-width.ensures ∙ e) in
    c.put_number-2.ensures ∙ rw c.width_of-width.ensures (ap (λ (bs : List ℕ). bs ++ drop (width_of t) c.args.out.now) (sym (lower_half (width_of t) c.args.upper c.args.lower (narrow t w))))
