-- `tour::act` meets its contract: a field that isn't wanted, and one that is listed. Assumes nothing.
use Rattle.std.proofs.Common.{arith}
use borrow.Author.Tests.{not-true, not-false}
use Rattle.tally.specs.Walks.{index_of}
use Rattle.tour.proofs.Acts.{act_room, act_skip, act_take}
use Rattle.tour.proofs.act.Goals as goal

pub returns-then-not-is_wanted : goal.returns-then-not-is_wanted
returns-then-not-is_wanted c =
    let a = c.args in
    act_skip a.task a.out.now a.at a.end a.field (index_of a.ix) c.requires c.wrapping_add_usize-seen.ensures.value c.is_wanted.ensures (not-true _ c.if-not-is_wanted.true-raw)

pub overflow_sub-end : goal.overflow_sub-end
overflow_sub-end c = let some = c.requires in omega arith

pub write_six-requires : goal.write_six-requires
write_six-requires c =
    let a = c.args in
    act_room a.task a.out.now a.at a.end a.field (index_of a.ix) c.requires c.wrapping_add_usize-seen.ensures.value c.is_wanted.ensures (not-false _ c.if-not-is_wanted.false-raw)

pub overflow_add-result : goal.overflow_add-result
overflow_add-result c =
    let a = c.args in
    let room = act_room a.task a.out.now a.at a.end a.field (index_of a.ix) c.requires c.wrapping_add_usize-seen.ensures.value c.is_wanted.ensures (not-false _ c.if-not-is_wanted.false-raw) in
    omega arith

pub returns : goal.returns
returns c =
    let a = c.args in
    act_take a.task a.out.now a.at a.end a.field (index_of a.ix) c.requires c.wrapping_add_usize-seen.ensures.value c.is_wanted.ensures (not-false _ c.if-not-is_wanted.false-raw) c.write_six.ensures
