-- `record::text_at` meets its contract: a body, null, or none.
use mathlib.Core.Path.{◌∙◌, ap}
use Rattle.std.specs.Prelude.{Ok}
use Rattle.format.specs.Value.{string, anything, most_bytes}
use Rattle.scan.proofs.Counted.{here}
use Rattle.scan.proofs.Answers.{body_stop}
use Rattle.show.proofs.Bodies.{body_null}
use Rattle.record.proofs.Fields.{text_is, text_null, text_none}
use Rattle.record.proofs.text_at.Goals as goal

pub overflow_sub-result : goal.overflow_sub-result
overflow_sub-result c =
    let a = c.args in
    (here a.nullable most_bytes a.s.now a.at c.read_body.ensures c.in-Ok-Is.is c.in-Ok-Is.field-0-is).order

pub returns-in-Ok-Is : goal.returns-in-Ok-Is
returns-in-Ok-Is c =
    let a = c.args in
    text_is a.s.now a.at a.nullable (here a.nullable most_bytes a.s.now a.at c.read_body.ensures c.in-Ok-Is.is c.in-Ok-Is.field-0-is)

pub returns-in-Ok-Null : goal.returns-in-Ok-Null
returns-in-Ok-Null c =
    let a = c.args in
    text_null a.s.now a.at a.nullable (body_null a.at ((string a.nullable anything 0 0).read a.s.now a.at) c.read_body.ensures (c.in-Ok-Null.is ∙ ap Ok c.in-Ok-Null.field-0-is))

pub returns-in-Err : goal.returns-in-Err
returns-in-Err c =
    let a = c.args in
    text_none a.s.now a.at a.nullable (body_stop a.at ((string a.nullable anything 0 0).read a.s.now a.at) c.read_body.ensures c.in-Err.is)
