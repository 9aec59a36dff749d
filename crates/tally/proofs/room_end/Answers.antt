-- `tally::room_end` meets its contract. Assumes nothing.
use Rattle.std.proofs.Common.{◌≡◌, ◌+◌, ◌∙◌, arith}
use Rattle.scan.proofs.Answers.{took}
use Rattle.tally.proofs.room_end.Goals as goal

pub returns : goal.returns
returns c =
    λ n next e fit.
    let a = c.args in
    let t = took 4 0 a.s.now a.at n next e in
    let place = t.place in
    let start : c.bytes_on-start.result ≡ a.at + 4 = c.bytes_on-start.ensures t.fit in
    let size : c.length_at-n.result ≡ n = c.length_at-n.ensures n next e in
    c.bytes_on.ensures (omega arith) ∙ omega arith
