-- `areas::ring` meets its contract: one pass says where it stands, and its bytes the rest. Assumes nothing.
use Rattle.std.proofs.Common.{◌<◌, ◌≤◌, length, ap, ◌∙◌, arith}
use Rattle.format.specs.Result.{ok}
use Rattle.format.specs.Geography.{read_polygon}
use Rattle.message.proofs.Parts.{bytes_all}
use Rattle.places.proofs.Stands.{stands_fits}
use Rattle.places.proofs.Lists.{entry_in, entry_past}
use Rattle.places.proofs.Layouts.{length-number}
use Rattle.areas.specs.declared.Seen.{Seen}
use Rattle.areas.specs.Answers.{ring_in}
use Rattle.areas.proofs.Answers.{survey_go}
use Rattle.areas.proofs.Stands.{ring_stands, count_stands, ring_read, past_told}
use Rattle.areas.proofs.ring.Goals as goal

pub returns-then-s-n : goal.returns-then-s-n
returns-then-s-n c =
    let a = c.args in
    let go = survey_go a.n (read_polygon a.b.now) c.survey.ensures c.in_ok-s.was in
    let past : length go.0.rings ≤ a.n = rw (← ap (λ (s : Seen). s.rings) go.2) c.if-s-n.true in
    rw (go.1, entry_past go.0.rings a.n past) (past_told c.past_end.ensures)

pub ring_at-requires : goal.ring_at-requires
ring_at-requires c =
    let a = c.args in
    let by = bytes_all a.b.now (λ k. (c.type_inv.b k).fits) in
    let go = survey_go a.n (read_polygon a.b.now) c.survey.ensures c.in_ok-s.was in
    let low : a.n < length go.0.rings = rw (← ap (λ (s : Seen). s.rings) go.2) c.if-s-n.false in
    let r = entry_in go.0.rings a.n low in
    let d = ring_stands a.b.now by go.0 go.1 a.n r.1 in
    let fit = rw (length-number 4 65) at (stands_fits (count_stands d)) in
    rw (ap (λ (s : Seen). s.found) go.2) (omega (arith, fit))

pub returns : goal.returns
returns c =
    let a = c.args in
    let by = bytes_all a.b.now (λ k. (c.type_inv.b k).fits) in
    let go = survey_go a.n (read_polygon a.b.now) c.survey.ensures c.in_ok-s.was in
    let low : a.n < length go.0.rings = rw (← ap (λ (s : Seen). s.rings) go.2) c.if-s-n.false in
    let r = entry_in go.0.rings a.n low in
    let d = ring_stands a.b.now by go.0 go.1 a.n r.1 in
    rw (go.1, r.1) (ap ok (c.ring_at.ensures ∙ ap (λ (s : Seen). ring_in a.b.now s.found) go.2 ∙ ring_read d))
