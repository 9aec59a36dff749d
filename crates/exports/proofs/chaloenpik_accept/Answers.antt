-- `exports::chaloenpik_accept` meets its contract: the answer of `accept`, packed. Assumes nothing.
use mathlib.Core.Path.{◌∙◌}
use Rattle.format.specs.Message.{kind_layout}
use Rattle.exports.proofs.Packs.{packs_fine, packs_refusal}
use Rattle.exports.proofs.chaloenpik_accept.Goals as goal

pub returns-in-Ok : goal.returns-in-Ok
returns-in-Ok c =
    let a = c.args in
    packs_fine (kind_layout a.kind) a.m.now c.accept.ensures c.in-Ok.is

pub returns-in-Err : goal.returns-in-Err
returns-in-Err c =
    let a = c.args in
    c.refused.ensures ∙ packs_refusal (kind_layout a.kind) a.m.now c.accept.ensures c.in-Err.is
