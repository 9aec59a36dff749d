-- `tally::fixed_row` meets its contract: the sizes so far and those that are left are all of them. Assumes nothing.
use Rattle.std.proofs.Common.{◌≡◌, ◌+◌, ◌<◌, [], ◌∷◌, get_or, drop, add-one, arith, drop_of_length-le, drop-cons}
use Rattle.format.specs.Value.{width_of}
use Rattle.tally.proofs.Evens.{width_most}
use Rattle.tally.proofs.fixed_row.Goals as goal

pub loop-t-preserved : goal.loop-t-preserved
loop-t-preserved c =
    let types = c.args.types.now in
    let l = c.loop-t in
    let t = get_or types l.t-index 0 in
    let told = c.width_of-width.ensures in
    let some_bytes : 0 < width_of t = omega (arith, c.if-width-eq0.false) in
    let here : drop l.t-index types ≡ t ∷ drop (l.t-index + 1) types = rw add-one (drop-cons types l.t-index 0 c.loop-t-test.true) in
    let sizes = rw here at l.invariant.1 in (
      omega (arith, width_most t, l.invariant.0),
      omega arith,
      λ g. l.invariant.2 (rw here (some_bytes, g)),
    )

pub returns : goal.returns
returns c =
    let types = c.args.types.now in
    let l = c.loop-t in
    let none : drop l.t-index types ≡ [] = drop_of_length-le types {i = l.t-index} c.loop-t-test.false in
    let sizes = rw none at l.invariant.1 in
    record { few = omega (arith, l.invariant.0); sizes = λ h. (omega arith, l.invariant.2 (rw none tt), omega arith) }
