-- What is done with the fields of a message: a task, the lent list that it works on, and what comes of one field more. All that is known of a task stands here.
use Rattle.std.specs.Prelude.{ℕ, ◌+◌, ◌*◌, ◌/◌, ◌%◌, ◌^◌, ◌≤◌, Bool, ◌&&◌, ◌⊎◌, List, [], ◌∷◌, length, nat_le, nat_lt}
use Rattle.std.proofs.lemmas.List.Edits.{sets}
use Rattle.format.specs.Result.{pick}
use Rattle.format.specs.Format.{Entry}
use Rattle.tally.specs.declared.Task.{Task}

-- a task, and the lent list
pub record State : Type 0 where
  pub task : Task
  pub out : List ℕ

abbrev pub doing : Task → List ℕ → State
doing task out = record { task = task; out = out }

-- the task that lists the fields from the first-th on that end past an offset, before any field
abbrev pub list_task : ℕ → ℕ → Task
list_task first offset = record { first = first; offset = offset; seen = 0; taken = 0; last = 0 }

-- whether a field that ends at a place is listed, in a list of so many numbers
abbrev pub wanted : Task → ℕ → ℕ → Bool
wanted t end room = nat_le t.first t.seen && (nat_lt t.offset end && nat_lt t.taken (room / 6))

-- the numbers of an entry, as they are written
abbrev pub six : Entry → List ℕ
six e = e.at ∷ e.size ∷ e.field ∷ e.index.i ∷ e.index.j ∷ e.index.k ∷ []

-- one field more: it is counted, and listed where it is wanted. Another action is another case here.
unfoldable pub acted : State → Entry → State
acted st e =
    let t = st.task in
    let w = wanted t (e.at + e.size) (length st.out) in
    record {
      task = record {
        first = t.first;
        offset = t.offset;
        seen = (t.seen + 1) % 2 ^ 64;
        taken = pick w (t.taken + 1) t.taken;
        last = pick w t.seen t.last;
      };
      out = pick w (sets st.out (6 * t.taken) (six e)) st.out;
    }

-- some fields more, one by one
unfoldable pub visited : State → List Entry → State
visited st [] = st
visited st (e ∷ es) = visited (acted st e) es

-- a task after so many fields in all, if none more was listed
abbrev pub seen_to : Task → ℕ → Task
seen_to t n = record { first = t.first; offset = t.offset; seen = n; taken = t.taken; last = t.last }

-- no field up to end is wanted, of which there are at most n: the list is full, or each ends too early, or has too low a number
abbrev pub Calm : Task → ℕ → ℕ → ℕ → Type 0
Calm t room end n = (room / 6 ≤ t.taken) ⊎ ((end ≤ t.offset) ⊎ (t.seen + n ≤ t.first))
