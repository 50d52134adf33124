-- `parted_stores_little` meets its contract. Assumes nothing.
use mathlib.Core.Path.{sym, subst}
use Rattle.commands.specs.Needing.{PartedAlike}
use Rattle.commands.proofs.Choosing.{never}
use Rattle.commands.proofs.Rooms.{evaluate_little, play_little}
use Rattle.commands.proofs.running.parted_stores_little.Goals as goal

pub returns-in-Evaluate : goal.returns-in-Evaluate
returns-in-Evaluate c = λ e. subst PartedAlike (sym c.in-Evaluate.is) (evaluate_little _)

pub returns-in-Simplify : goal.returns-in-Simplify
returns-in-Simplify c = λ e. never e

pub returns-in-Played : goal.returns-in-Played
returns-in-Played c = λ e. never e

pub returns-in-Play : goal.returns-in-Play
returns-in-Play c = λ e. subst PartedAlike (sym c.in-Play.is) (play_little _)
