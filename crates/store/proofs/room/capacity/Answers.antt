-- `capacity` meets its contract: one length, so the least of four. Assumes nothing.
use mathlib.Core.Path.{◌∙◌}
use Rattle.store.proofs.Rows.{room_is}
use Rattle.store.proofs.room.capacity.Goals as goal

pub returns : goal.returns
returns c = c.min.ensures ∙ room_is _
