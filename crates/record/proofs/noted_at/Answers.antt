-- `record::noted_at` meets its contract: a number, then a string.
use Rattle.record.proofs.Fields.{noted_is}
use Rattle.record.proofs.noted_at.Goals as goal

pub returns : goal.returns
returns c = noted_is c.args.s.now c.args.at _ _ _ c.number_at-number.result c.note_at-note.result c.number_at-number.ensures c.note_at-note.ensures
