-- `tally::tally_rows` meets its contract: one by one, or by products. Assumes nothing.
use Rattle.std.proofs.Common.{◌+◌, ◌≤◌, length, mul-le-mul, arith}
use borrow.Author.Tests.{not-false}
use Rattle.format.specs.Message.{most_columns}
use Rattle.tally.proofs.Tours.{bytes_all}
use Rattle.tally.proofs.Evens.{tallied_rows}
use Rattle.tally.proofs.tally_rows.Goals as goal

pub overflow_mul-result : goal.overflow_mul-result
overflow_mul-result c =
    let r = c.rows_stand.ensures (not-false _ c.if-not-rows_stand.false-raw) in
    omega arith

pub overflow_add-result : goal.overflow_add-result
overflow_add-result c =
    let r = c.rows_stand.ensures (not-false _ c.if-not-rows_stand.false-raw) in
    omega arith

pub overflow_add-types : goal.overflow_add-types
overflow_add-types c =
    let r = c.rows_stand.ensures (not-false _ c.if-not-rows_stand.false-raw) in
    let few = (c.fixed_row-size.ensures.sizes r.some_bytes).0 in
    omega arith

pub overflow_mul-n : goal.overflow_mul-n
overflow_mul-n c =
    let r = c.rows_stand.ensures (not-false _ c.if-not-rows_stand.false-raw) in
    let few = (c.fixed_row-size.ensures.sizes r.some_bytes).0 in
    let fields : 1 + length c.args.types.now ≤ 1 + most_columns = omega arith in
    omega (arith, mul-le-mul r.few fields)

pub returns : goal.returns
returns c =
    let a = c.args in
    let r = c.rows_stand.ensures (not-false _ c.if-not-rows_stand.false-raw) in
    let sizes = c.fixed_row-size.ensures.sizes r.some_bytes in
    tallied_rows a.types.now sizes.1 a.s.now (bytes_all a.s.now c.type_inv.s) _ sizes.2 a.tally a.n r.some_rows c.wrapping_add_usize.ensures.value
