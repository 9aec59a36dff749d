-- What a tour over a body comes to: it is refused as the body is, and else it has met the body's fields, which tile it.
use Rattle.std.specs.Prelude.{Result, Ok, Err}
use Prim.Native.Nat.{ℕ, ◌^◌, ◌<◌}
use mathlib.Core.Path.{◌≡◌, refl, sym, ◌∙◌, ap, ap₂}
use mathlib.Core.List.{List}
use lib.ListN.{length}
use lib.Dec.{eqb}
use Rattle.format.specs.declared.Fault.{Fault}
use Rattle.format.specs.declared.Refusal.{Refusal}
use Rattle.format.specs.Result.{Res, ok, no, bind, told}
use Rattle.format.specs.Number.{Bytes}
use Rattle.format.specs.Message.{no_index}
use Rattle.format.specs.Geography.{Polygon, polygon, read_polygon, polygon_fields, fields_inside}
use Rattle.format.proofs.Results.{ok_same, no_ok, passed, bound}
use Rattle.format.proofs.Geography.{inside_tiles}
use Rattle.tally.specs.declared.Task.{Task}
use Rattle.tally.specs.declared.Tour.{Tour}
use Rattle.tally.specs.Task.{State, doing}
use Rattle.tally.specs.Walks.{Walked}
use Rattle.tour.proofs.Messages.{tour_met}
use Rattle.fields.proofs.Calls.{Tiled, After}

-- what is answered of a body, for one that is refused and one that is accepted
refused_by : (x : Res Polygon) (st : State) {v : Result ℕ Refusal} {given : Refusal} → told v ≡ bind x (λ p. ok (length p.rings)) → v ≡ Err given
    → After (bind x (λ p. ok (polygon_fields p))) st (no given.fault given.place) st.out
refused_by (ok p) st e is = absurd (no_ok (sym (ap told is) ∙ e))
refused_by (no f k) st {given = g} e is =
    let same : ◌≡◌ {A = Res ℕ} (no g.fault g.place) (no f k) = sym (ap told is) ∙ e in
    (ap₂ (λ (h : Fault) (q : ℕ). no h q) (cc) (cc), refl)

accepted_by : (x : Res Polygon) {v : Result ℕ Refusal} {n : ℕ} → told v ≡ bind x (λ p. ok (length p.rings)) → v ≡ Ok n → (p : Polygon) × (x ≡ ok p)
accepted_by (ok p) e is = (p, refl)
accepted_by (no f k) e is = absurd (no_ok (sym e ∙ ap told is))

module _ (b : List ℕ) where
  pub body_refused : (st : State) {v : Result ℕ Refusal} {given : Refusal} → told v ≡ bind (read_polygon b) (λ p. ok (length p.rings)) → v ≡ Err given
      → After (fields_inside b) st (no given.fault given.place) st.out
  body_refused st e is = refused_by (read_polygon b) st e is

  pub body_accepted : (task : Task) (out : List ℕ) {v : Result ℕ Refusal} {n : ℕ} {after : Tour} {written : List ℕ} → told v ≡ bind (read_polygon b) (λ p. ok (length p.rings)) → v ≡ Ok n
      → Walked polygon b no_index (record { at = 0; task = task }) out after written → After (fields_inside b) (doing task out) (ok after.task) written
  body_accepted task out e is w =
      let go = accepted_by (read_polygon b) e is in
      let r = bound (polygon.read b 0) go.1 in
      let end = passed (eqb r.0.1 (length b)) _ _ r.2 in
      let same : r.0.0 ≡ go.0 = ok_same end.1 in
      let met = (w.goes r.0.0 r.0.1 r.1).1 in
      tour_met (doing task out) (ap (λ (x : Res Polygon). bind x (λ p. ok (polygon_fields p))) go.1) (rw same at met)

  pub inside_tiled : Bytes b → length b < 2 ^ 64 → Tiled (fields_inside b) (length b)
  inside_tiled by small = record {
    tile = λ es e. let q = bound (read_polygon b) e in rw (ok_same q.2) at (inside_tiles b by q.0 q.1);
    small = small;
  }
