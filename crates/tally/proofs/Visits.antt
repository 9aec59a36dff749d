-- What a task has met after a run of fields and another, and after one piece of a message. What it does with a field plays no part.
use Rattle.std.proofs.Common.{◌≡◌, ℕ, zero, suc, ◌-◌, ◌<◌, ◌≤◌, List, [], ◌∷◌, ◌++◌, refl, arith}
use Rattle.format.specs.Format.{Index, Entry, piece}
use Rattle.tally.specs.Task.{State, acted, visited}

-- one run of fields and then another
pub visited_both : (st : State) (es fs : List Entry) → visited st (es ++ fs) ≡ visited (visited st es) fs
unfolding visited
visited_both st [] fs = refl
visited_both st (e ∷ es) fs = visited_both (acted st e) es fs

piece_some : (n at field : ℕ) (ix : Index) → 0 < n → piece n at field ix ≡ record { at = at; size = n; field = field; index = ix } ∷ []
piece_some zero at field ix h = absurd (omega arith)
piece_some (suc n) at field ix h = refl

-- a piece that has no byte is no field, and one that has some is one
module _ (st : State) (at end field : ℕ) (ix : Index) where
  pub visit_none : end ≤ at → st ≡ visited st (piece (end - at) at field ix)
  unfolding visited
  visit_none h = let none : end - at ≡ 0 = omega arith in rw none

  pub visit_one : {after : State} → at < end → after ≡ acted st (record { at = at; size = end - at; field = field; index = ix })
      → after ≡ visited st (piece (end - at) at field ix)
  unfolding visited
  visit_one h done = rw (piece_some (end - at) at field ix (omega arith)) done
