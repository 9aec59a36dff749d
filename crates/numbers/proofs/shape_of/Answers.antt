-- `numbers::shape_of` meets its contract, case by case. Assumes nothing.
use mathlib.Core.Path.{sym, ap}
use Rattle.record.specs.declared.Span.{Span}
use Rattle.numbers.specs.declared.Shape.{Shape}
use Rattle.numbers.specs.Records.{form, start_of, size_of}
use Rattle.numbers.proofs.shape_of.Goals as goal

pub returns-in-Absent : goal.returns-in-Absent
returns-in-Absent c = sym (ap {B = Shape} (λ (s : Span). record { form = form s; start = start_of s; size = size_of s }) c.in-Absent.is)

pub returns-in-Null : goal.returns-in-Null
returns-in-Null c = sym (ap {B = Shape} (λ (s : Span). record { form = form s; start = start_of s; size = size_of s }) c.in-Null.is)

pub returns-in-At : goal.returns-in-At
returns-in-At c = sym (ap {B = Shape} (λ (s : Span). record { form = form s; start = start_of s; size = size_of s }) c.in-At.is)
