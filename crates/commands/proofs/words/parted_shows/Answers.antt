-- `parted_shows` meets its contract. Assumes nothing.
use mathlib.Core.Path.{sym, ap}
use Rattle.commands.specs.Words.{parted_shows}
use Rattle.commands.proofs.words.parted_shows.Goals as goal

pub returns-in-Evaluate : goal.returns-in-Evaluate
unfolding parted_shows
returns-in-Evaluate c = ap parted_shows (sym c.in-Evaluate.is)

pub returns-in-Simplify : goal.returns-in-Simplify
unfolding parted_shows
returns-in-Simplify c = ap parted_shows (sym c.in-Simplify.is)

pub returns-in-Played : goal.returns-in-Played
unfolding parted_shows
returns-in-Played c = ap parted_shows (sym c.in-Played.is)

pub returns-in-Play : goal.returns-in-Play
unfolding parted_shows
returns-in-Play c = ap parted_shows (sym c.in-Play.is)
