-- `areas::pass_vertices` meets its contract: vertices are floats side by side, so where they fit they are passed by their size. Assumes nothing.
use Rattle.std.proofs.Common.{◌≡◌, ◌+◌, ◌*◌, ◌<◌, ◌≤◌, length, sym, ap, arith}
use Rattle.scan.specs.Shown.{shown_next}
use Rattle.areas.proofs.Runs.{vertices_run}
use Rattle.areas.proofs.pass_vertices.Goals as goal

pub returns-then-room-size : goal.returns-then-room-size
returns-then-room-size c =
    let a = c.args in
    let low = c.requires.0 in
    let over : length a.b.now < a.at + 24 * a.n = omega (arith, c.if-room-size.true) in
    sym (ap shown_next ((vertices_run a.n).short a.b.now a.at low over))

pub returns : goal.returns
returns c =
    let a = c.args in
    let low = c.requires.0 in
    let fit : a.at + 24 * a.n ≤ length a.b.now = omega (arith, c.if-room-size.false) in
    let end : a.at + a.n * 24 ≡ a.at + 24 * a.n = omega arith in
    rw end (sym (ap shown_next ((vertices_run a.n).fits a.b.now a.at fit).1))
