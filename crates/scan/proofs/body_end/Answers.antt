-- `scan::body_end` meets its contract. Assumes nothing.
use mathlib.Core.Path.{sym, ap}
use Rattle.scan.specs.Shown.{body_end}
use Rattle.scan.proofs.body_end.Goals as goal

pub returns-in-Is : goal.returns-in-Is
returns-in-Is c = sym (ap body_end c.in-Is.is)

pub returns-in-Null : goal.returns-in-Null
returns-in-Null c = sym (ap body_end c.in-Null.is)
