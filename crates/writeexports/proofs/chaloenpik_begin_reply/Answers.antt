-- `writeexports::chaloenpik_begin_reply` meets its contract: what the step leaves is kept in the numbers. Assumes nothing.
use mathlib.Core.List.{[]}
use Rattle.steps.specs.Steps.{begin_reply}
use Rattle.write.specs.Shown.{zero}
use Rattle.numbers.proofs.Kept.{wrote_from}
use Rattle.writeexports.specs.Given.{opening}
use Rattle.writeexports.proofs.chaloenpik_begin_reply.Goals as goal

pub returns : goal.returns
returns c =
    let a = c.args in
    let fields = opening a.client.now a.flags a.status a.statusnull a.statustext.now a.appstatus a.appnull a.apptext.now a.roundtrip a.exception.now in
    wrote_from (begin_reply a.version fields) zero a.state.now [] a.out.now _ _ (rw (c.text_of.ensures, c.text_of-2.ensures) at c.begin_reply-step.ensures) c.keep.ensures
