-- `areas::read_head` meets its contract: the three bytes, the count by its own tests, then the third byte by the count. Assumes nothing.
use Rattle.std.proofs.Common.{◌<◌, ◌≤◌, sym, ap, ◌∙◌}
use borrow.Author.Tests.{not-true, not-false}
use Rattle.format.proofs.Results.{handed_on}
use Rattle.format.specs.Number.{num_at}
use Rattle.format.specs.Geography.{at_least}
use Rattle.scan.specs.Shown.{shown}
use Rattle.scan.proofs.Answers.{shown_go, shown_stop}
use Rattle.scan.proofs.Params.{byte_is}
use Rattle.areas.specs.Passes.{shown_head}
use Rattle.areas.proofs.Heads.{any_field, head_short, head_bad, head_stop, head_other, head_fine}
use Rattle.areas.proofs.read_head.Goals as goal

pub returns-then-b-lt3 : goal.returns-then-b-lt3
returns-then-b-lt3 c =
    let a = c.args in
    sym (ap shown_head (head_short a.b.now c.if-b-lt3.true))

pub returns-then-holes-gt1 : goal.returns-then-holes-gt1
returns-then-holes-gt1 c =
    let a = c.args in
    let bad : 1 < num_at 1 a.b.now 2 = rw (byte_is a.b.now 2) c.if-holes-gt1.true in
    sym (ap shown_head (head_bad a.b.now c.if-b-lt3.false bad))

pub returns-in_err-n : goal.returns-in_err-n
returns-in_err-n c =
    let a = c.args in
    let fine : num_at 1 a.b.now 2 ≤ 1 = rw (byte_is a.b.now 2) c.if-holes-gt1.false in
    let stop = shown_stop ((at_least 1 63).read a.b.now 3) (c.read_count.ensures ∙ ap shown (any_field 1 63 a.b.now 3)) c.in_err-n.was in
    handed_on c.from_residual.ensures ∙ sym (ap shown_head (head_stop a.b.now c.if-b-lt3.false fine stop))

pub returns-then-not-says_holes : goal.returns-then-not-says_holes
returns-then-not-says_holes c =
    let a = c.args in
    let fine : num_at 1 a.b.now 2 ≤ 1 = rw (byte_is a.b.now 2) c.if-holes-gt1.false in
    let go = shown_go ((at_least 1 63).read a.b.now 3) (c.read_count.ensures ∙ ap shown (any_field 1 63 a.b.now 3)) c.in_ok-n.was in
    let other = sym c.says_holes.ensures ∙ not-true _ c.if-not-says_holes.true-raw in
    sym (ap shown_head (head_other a.b.now c.if-b-lt3.false fine go (rw (byte_is a.b.now 2) other)))

pub returns : goal.returns
returns c =
    let a = c.args in
    let fine : num_at 1 a.b.now 2 ≤ 1 = rw (byte_is a.b.now 2) c.if-holes-gt1.false in
    let go = shown_go ((at_least 1 63).read a.b.now 3) (c.read_count.ensures ∙ ap shown (any_field 1 63 a.b.now 3)) c.in_ok-n.was in
    let same = sym c.says_holes.ensures ∙ not-false _ c.if-not-says_holes.false-raw in
    sym (ap shown_head (head_fine a.b.now c.if-b-lt3.false fine go (rw (byte_is a.b.now 2) same)))
