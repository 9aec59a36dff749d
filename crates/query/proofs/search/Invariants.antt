-- `query::search`: the names that are left decide the search as all of them do; and the last bytes of a name, as far as they were seen, are equal.
use Prim.Native.Nat.{ℕ, ◌+◌}
use mathlib.Core.List.{List}
use mathlib.Core.Option.{Option}
use lib.ListN.{get_or, replicate}
use Rattle.format.specs.Format.{each}
use Rattle.format.specs.Message.{third}
use Rattle.places.specs.Stands.{Stands}
use Rattle.places.proofs.Layouts.{name}
use Rattle.query.specs.Answers.{first_named}
use Rattle.query.proofs.Ends.{EqualFrom}
use Rattle.query.proofs.Names.{Left}
use Rattle.query.proofs.search.Given as goal

abbrev pub invariant-loop-last : goal.invariant-loop-last
invariant-loop-last l = EqualFrom (λ k. get_or l.m (l.start + k) 0) l.name l.last

abbrev pub invariant-columns : goal.invariant-columns
invariant-columns l = (names : List (Option (List ℕ))) → Stands (each third 0 (replicate l.count name)) l.m l.from names → Left l.m l.count l.name l.i l.at (first_named l.name names 0)
