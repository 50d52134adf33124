-- `parted_traces` meets its contract. Assumes nothing.
use mathlib.Core.Path.{sym, ap}
use Rattle.commands.specs.Words.{parted_traces}
use Rattle.commands.proofs.words.parted_traces.Goals as goal

pub returns-in-Evaluate : goal.returns-in-Evaluate
unfolding parted_traces
returns-in-Evaluate c = ap parted_traces (sym c.in-Evaluate.is)

pub returns-in-Simplify : goal.returns-in-Simplify
unfolding parted_traces
returns-in-Simplify c = ap parted_traces (sym c.in-Simplify.is)

pub returns-in-Played : goal.returns-in-Played
unfolding parted_traces
returns-in-Played c = ap parted_traces (sym c.in-Played.is)

pub returns-in-Play : goal.returns-in-Play
unfolding parted_traces
returns-in-Play c = ap parted_traces (sym c.in-Play.is)
