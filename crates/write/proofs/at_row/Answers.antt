-- `write::at_row` meets its contract: part by part. Assumes nothing.
use Prim.Native.Nat.{ℕ}
use mathlib.Core.Path.{◌≡◌, sym, ap, ap₂, ◌∙◌}
use native.Mathlib.Omega.{arith}
use mathlib.Core.Bool.{◌&&◌}
use lib.ListN.{length}
use lib.Dec.{leb}
use Rattle.format.specs.Message.{most_columns}
use Rattle.steps.specs.State.{message_sound, sound}
use Rattle.write.proofs.Seen.{counted}
use Rattle.write.proofs.at_row.Goals as goal

pub returns : goal.returns
unfolding sound message_sound
returns c =
    let a = c.args in
    let h : length a.types.now ≡ most_columns = omega arith in
    let few = c.at_most-few.ensures ∙ ap (λ (n : ℕ). leb a.st.inner_count n) (c.columns_seen.ensures ∙ sym (counted a.st.columns a.types.now h)) in
    c.both-5.ensures ∙ ap₂ ◌&&◌ c.is_at.ensures
    (c.both-4.ensures ∙ ap₂ ◌&&◌ c.message_sound-own.ensures
    (c.both-3.ensures ∙ ap₂ ◌&&◌ c.outer_sound-table.ensures
    (c.both-2.ensures ∙ ap₂ ◌&&◌ c.ends_by-rows.ensures
    (c.both.ensures ∙ ap₂ ◌&&◌ c.ends_by-place.ensures few))))
