-- `write::at_table` meets its contract: part by part. Assumes nothing.
use mathlib.Core.Path.{ap₂, ◌∙◌}
use mathlib.Core.Bool.{◌&&◌}
use Rattle.steps.specs.State.{message_sound, sound}
use Rattle.write.proofs.at_table.Goals as goal

pub returns : goal.returns
unfolding sound message_sound
returns c =
    c.both-3.ensures ∙ ap₂ ◌&&◌ c.is_at.ensures
    (c.both-2.ensures ∙ ap₂ ◌&&◌ c.message_sound-own.ensures (c.both.ensures ∙ ap₂ ◌&&◌ c.outer_sound-table.ensures c.ends_by-rows.ensures))
