-- What the end of a tour tells of each question: its task, and the six numbers that it left where it was to list one field.
use Rattle.std.specs.Prelude.{ℕ, List, leb, eqb}
use Rattle.format.specs.declared.Fault.TheVariants.{PastEnd}
use Rattle.format.specs.Result.{Res, ok, no, bind, pick}
use Rattle.format.specs.Format.{Entry}
use Rattle.tally.specs.declared.Task.{Task}
use Rattle.fields.specs.Questions.{entry_at}

abbrev pub count_met : Res Task → Res ℕ
count_met told = bind told (λ t. ok t.seen)

abbrev pub field_met : Res Task → ℕ → List ℕ → Res Entry
field_met told n numbers = bind told (λ t. pick (leb t.seen n) (no PastEnd 0) (ok (entry_at numbers)))

abbrev pub owner_met : Res Task → List ℕ → Res (Entry × ℕ)
owner_met told numbers = bind told (λ t. pick (eqb t.taken 0) (no PastEnd 0) (ok (entry_at numbers, t.last)))

abbrev pub window_met : Res Task → ℕ → Res ℕ
window_met told first = bind told (λ t. pick (leb t.seen first) (no PastEnd 0) (ok t.taken))
