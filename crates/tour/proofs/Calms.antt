-- A walk over fields that its task doesn't want, by a count of them.
use Rattle.std.proofs.Common.{◌≡◌, ℕ, ◌+◌, ◌-◌, ◌*◌, ◌<◌, ◌≤◌, Bool, true, List, [], length, sym, ap, ◌∙◌, inl, mul-le-mul_right, mul-pos, arith}
use Rattle.format.specs.Result.{ok}
use Rattle.format.specs.Number.{Bytes}
use Rattle.format.specs.Format.{Format, Index}
use Rattle.format.proofs.Laws.{Lawful}
use Rattle.tally.specs.declared.Tour.{Tour}
use Rattle.tally.specs.declared.Tally.{Tally}
use Rattle.tally.specs.Task.{State, Calm}
use Rattle.tally.specs.Walks.{Walked}
use Rattle.tally.specs.Tallies.{counting, Tallied}
use Rattle.tally.proofs.Tables.{Ended}
use Rattle.tally.proofs.Counts.{seen_after, tiles_few, calm_fewer, visited_calm, fields_tile}
use Rattle.tour.specs.Calms.{tally_of, resumed, CalmRoom}

module _ {A : Type 0} {f : Format A} (l : Lawful f) (s : List ℕ) (by : Bytes s) {ix : Index} (tour : Tour) (out : List ℕ) where
  -- a walk whose fields aren't wanted, by a count of them
  pub walked_calm : {after : Tally} → Tallied f s (tally_of tour) after → ((a : A) (next : ℕ) → f.read s tour.at ≡ ok (a, next) → Calm tour.task (length out) next (next - tour.at))
      → Walked f s ix tour out (resumed tour after) out
  walked_calm {after} counted calm = record {
    goes = λ a next e.
        let es = f.fields ix tour.at a in
        let tiles = fields_tile l s by ix tour.at a next e in
        let few = tiles_few es tour.at next tiles in
        let w = (counted.walks ix).goes a next e in
        let full : Calm (counting (tally_of tour)).task 0 next (length es) = inl (omega arith) in
        let count = visited_calm es tour.at next (counting (tally_of tour)).task [] tiles full in
        let same : after.seen ≡ seen_after tour.task.seen (length es) = ap (λ (st : State). st.task.seen) (w.1 ∙ count) in
        let none = visited_calm es tour.at next tour.task out tiles (calm_fewer tour.task (length out) (calm a next e) (omega arith) (omega arith)) in
        (w.0, rw same (sym none));
  }

  -- the same of a room that is quiet by its length
  pub walked_quiet : {r : Bool} {after : Tally} → CalmRoom s (length out) tour r → r ≡ true → ((a : A) (next : ℕ) → f.read s tour.at ≡ ok (a, next) → Ended s tour.at next)
      → Tallied f s (tally_of tour) after → Walked f s ix tour out (resumed tour after) out
  walked_quiet quiet is ends counted = walked_calm counted (λ a next e.
      let d = ends a next e in
      rw d.end (quiet is d.n (tour.at + 4) d.length-read d.fit))

-- some of so many wholes fit where all of them do
pub wholes_fit : (from to unit : ℕ) {r k : ℕ} → 0 < r → 0 < unit → r ≤ k → k * unit ≤ to - from → from + r * unit ≤ to
wholes_fit from to unit some-wholes some-unit few fit = omega (arith, mul-pos some-wholes some-unit, mul-le-mul_right unit few)
