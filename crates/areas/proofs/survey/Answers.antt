-- `areas::survey` meets its contract: the head, the rings, what is kept, and no byte more, in this order. Assumes nothing.
use Rattle.format.proofs.Results.{handed_on}
use Rattle.std.proofs.Common.{replicate, sym, ap, ◌∙◌}
use Rattle.format.specs.Format.{each, block}
use Rattle.format.specs.Message.{first}
use Rattle.format.specs.Geography.{ring, body_kept}
use Rattle.scan.proofs.Answers.{next_go, next_stop}
use Rattle.scan.proofs.Steps.{block_ends}
use Rattle.message.proofs.Parts.{bytes_all}
use Rattle.areas.specs.Passes.{head, shown_survey}
use Rattle.areas.proofs.Answers.{head_go, head_halt, rings_go, rings_halt}
use Rattle.areas.proofs.Surveys.{head_refuses, rings_refuse, kept_refuses, left_over, surveyed}
use Rattle.areas.proofs.survey.Goals as goal

pub returns-in_err-n : goal.returns-in_err-n
returns-in_err-n c =
    let a = c.args in
    let stop = head_halt (head.read a.b.now 0) c.read_head.ensures c.in_err-n.was in
    handed_on c.from_residual.ensures ∙ sym (ap (shown_survey a.sought) (head_refuses a.b.now stop))

pub returns-in_err-end : goal.returns-in_err-end
returns-in_err-end c =
    let a = c.args in
    let h = head_go (head.read a.b.now 0) c.read_head.ensures c.in_ok-n.was in
    let stop = rings_halt _ a.sought ((each first 0 (replicate h.0.1.1.1 ring)).read a.b.now _) (rw h.1 at c.pass_rings.ensures) c.in_err-end.was in
    handed_on c.from_residual-in_err-end.ensures ∙ sym (ap (shown_survey a.sought) (rings_refuse a.b.now h.0 _ h.2 stop))

pub returns-in_err-last : goal.returns-in_err-last
returns-in_err-last c =
    let a = c.args in
    let h = head_go (head.read a.b.now 0) c.read_head.ensures c.in_ok-n.was in
    let r = rings_go _ a.sought ((each first 0 (replicate h.0.1.1.1 ring)).read a.b.now _) (rw h.1 at c.pass_rings.ensures) c.in_ok-end.was in
    let stop = next_stop ((block body_kept 68).read a.b.now _) (c.skip_fixed.ensures ∙ sym (block_ends body_kept 68 a.b.now _)) c.in_err-last.was in
    handed_on c.from_residual-in_err-last.ensures ∙ sym (ap (shown_survey a.sought) (kept_refuses a.b.now h.0 _ h.2 r.0 _ r.1 stop))

pub returns-then-last-b : goal.returns-then-last-b
returns-then-last-b c =
    let a = c.args in
    let h = head_go (head.read a.b.now 0) c.read_head.ensures c.in_ok-n.was in
    let r = rings_go _ a.sought ((each first 0 (replicate h.0.1.1.1 ring)).read a.b.now _) (rw h.1 at c.pass_rings.ensures) c.in_ok-end.was in
    let k = next_go ((block body_kept 68).read a.b.now _) (c.skip_fixed.ensures ∙ sym (block_ends body_kept 68 a.b.now _)) c.in_ok-last.was in
    sym (ap (shown_survey a.sought) (left_over a.b.now h.0 _ h.2 r.0 _ r.1 k.0 _ k.1 c.if-last-b.true))

pub returns : goal.returns
returns c =
    let a = c.args in
    let by = bytes_all a.b.now (λ k. (c.type_inv.b k).fits) in
    let h = head_go (head.read a.b.now 0) c.read_head.ensures c.in_ok-n.was in
    let r = rings_go _ a.sought ((each first 0 (replicate h.0.1.1.1 ring)).read a.b.now _) (rw h.1 at c.pass_rings.ensures) c.in_ok-end.was in
    let k = next_go ((block body_kept 68).read a.b.now _) (c.skip_fixed.ensures ∙ sym (block_ends body_kept 68 a.b.now _)) c.in_ok-last.was in
    rw (h.1, r.2) (sym (surveyed a.b.now h.0 _ h.2 r.0 _ r.1 k.0 _ k.1 by c.if-last-b.false a.sought))
