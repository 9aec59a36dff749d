-- `turn::turn_holes` meets its contract: the rings behind the first are turned, and with them the body is. Assumes nothing.
use mathlib.Core.Path.{ap}
use native.Mathlib.Omega.{arith}
use Rattle.format.specs.Result.{ok}
use Rattle.format.specs.Geography.{polygon, turned, read_polygon}
use Rattle.message.proofs.Parts.{bytes_all}
use Rattle.areas.specs.declared.Seen.{Seen}
use Rattle.areas.proofs.Answers.{survey_go}
use Rattle.turn.proofs.Turns.{holes_seen, some_rings}
use Rattle.turn.proofs.turn_holes.Goals as goal

pub overflow_sub-rings : goal.overflow_sub-rings
overflow_sub-rings c =
    let a = c.args in
    let by = bytes_all a.b.now (λ k. (c.slice_known-1.given k).fits) in
    let go = survey_go 1 (read_polygon a.b.now) c.survey.ensures c.in_ok-s.was in
    let rings = ap (λ (s : Seen). s.rings) go.2 in
    omega (arith, some_rings a.b.now by go.0 go.1, rings)

pub turn_rings-requires : goal.turn_rings-requires
turn_rings-requires c =
    let a = c.args in
    let by = bytes_all a.b.now (λ k. (c.slice_known-1.given k).fits) in
    let go = survey_go 1 (read_polygon a.b.now) c.survey.ensures c.in_ok-s.was in
    let rings = ap (λ (s : Seen). s.rings) go.2 in
    (polygon.bytes (turned go.0), holes_seen a.b.now by go.0 go.1 go.2)

pub returns : goal.returns
returns c =
    let a = c.args in
    let by = bytes_all a.b.now (λ k. (c.slice_known-1.given k).fits) in
    let go = survey_go 1 (read_polygon a.b.now) c.survey.ensures c.in_ok-s.was in
    let rings = ap (λ (s : Seen). s.rings) go.2 in
    let left = holes_seen a.b.now by go.0 go.1 go.2 in
    rw go.1 (ap ok rings, c.turn_rings.ensures (polygon.bytes (turned go.0)) left)
