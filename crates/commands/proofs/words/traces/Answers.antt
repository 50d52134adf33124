-- `traces` meets its contract. Assumes nothing.
use mathlib.Core.Path.{sym, ap, ◌∙◌}
use Rattle.commands.specs.Words.{traces}
use Rattle.commands.proofs.words.traces.Goals as goal

pub returns-in-Whole : goal.returns-in-Whole
unfolding traces
returns-in-Whole c = c.whole_traces.ensures ∙ ap traces (sym c.in-Whole.is)

pub returns-in-Parted : goal.returns-in-Parted
unfolding traces
returns-in-Parted c = c.parted_traces.ensures ∙ ap traces (sym c.in-Parted.is)
