-- `shows` meets its contract. Assumes nothing.
use mathlib.Core.Path.{sym, ap, ◌∙◌}
use Rattle.commands.specs.Words.{shows}
use Rattle.commands.proofs.words.shows.Goals as goal

pub returns-in-Whole : goal.returns-in-Whole
unfolding shows
returns-in-Whole c = ap shows (sym c.in-Whole.is)

pub returns-in-Parted : goal.returns-in-Parted
unfolding shows
returns-in-Parted c = c.parted_shows.ensures ∙ ap shows (sym c.in-Parted.is)
