-- `tour::walk_rows` meets its contract: what is left, after what was met or passed, is the whole. Assumes nothing.
use Rattle.std.proofs.Common.{◌+◌, ◌≤◌, refl, arith}
use Rattle.format.specs.Message.{second, row}
use Rattle.format.proofs.Formats.{lawful_row}
use Rattle.tally.specs.Walks.{index_of}
use Rattle.tally.proofs.Tours.{bytes_all}
use Rattle.tally.proofs.Rounds.{round_first, round_next, round_last, all_same}
use Rattle.tally.proofs.Evens.{rounds_rows}
use Rattle.tour.proofs.walk_rows.Goals as goal

pub loop-j-init : goal.loop-j-init
loop-j-init c =
    let a = c.args in
    round_first second (λ m. row a.types.now) _ _ _ _ _

pub calm_run-k-requires : goal.calm_run-k-requires
calm_run-k-requires c =
    let f = c.fixed_row-size.ensures in
    (f.few, λ some_bytes. (f.sizes some_bytes).0)

pub pass_even-tour-requires : goal.pass_even-tour-requires
pass_even-tour-requires c =
    let run = (c.calm_run-k.ensures.calm c.if-k-gt0.true).0 in
    let few = (c.fixed_row-size.ensures.sizes run.some_bytes).0 in
    (run.few, few, omega arith)

pub loop-j-preserved-then-k-gt0 : goal.loop-j-preserved-then-k-gt0
loop-j-preserved-then-k-gt0 c =
    let a = c.args in
    let l = c.loop-j in
    let k = c.calm_run-k in
    let more = c.loop-j-test.true in
    let few = k.ensures.few in
    let run = k.ensures.calm c.if-k-gt0.true in
    let sizes = c.fixed_row-size.ensures.sizes run.0.some_bytes in
    let by = bytes_all a.s.now c.type_inv.s in
    let left : l.j + k.result ≤ a.n = omega arith in
    rw c.pass_even-tour.ensures (rounds_rows a.types.now sizes.1 a.s.now by _ sizes.2 k.result l.j l.tour run.0.some_rows left run.1 refl l.invariant)

pub loop-j-preserved : goal.loop-j-preserved
loop-j-preserved c =
    let a = c.args in
    let l = c.loop-j in
    let by = bytes_all a.s.now c.type_inv.s in
    round_next second (λ m. row a.types.now) (λ m. lawful_row a.types.now) a.s.now by (index_of a.ix) a.n l.j c.loop-j-test.true l.invariant c.pass_row-tour.ensures

pub returns : goal.returns
returns c =
    let a = c.args in
    all_same second a.s.now (row a.types.now) a.n (round_last second (λ m. row a.types.now) _ _ _ _ _ c.loop-j-test.false c.loop-j.invariant)
