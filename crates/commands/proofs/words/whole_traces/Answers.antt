-- `whole_traces` meets its contract. Assumes nothing.
use mathlib.Core.Path.{sym, ap}
use Rattle.commands.specs.Words.{whole_traces}
use Rattle.commands.proofs.words.whole_traces.Goals as goal

pub returns-in-Substitute : goal.returns-in-Substitute
unfolding whole_traces
returns-in-Substitute c = ap whole_traces (sym c.in-Substitute.is)

pub returns-in-Real : goal.returns-in-Real
unfolding whole_traces
returns-in-Real c = ap whole_traces (sym c.in-Real.is)

pub returns-in-Compile : goal.returns-in-Compile
unfolding whole_traces
returns-in-Compile c = ap whole_traces (sym c.in-Compile.is)

pub returns-in-Show : goal.returns-in-Show
unfolding whole_traces
returns-in-Show c = ap whole_traces (sym c.in-Show.is)

pub returns-in-Check : goal.returns-in-Check
unfolding whole_traces
returns-in-Check c = ap whole_traces (sym c.in-Check.is)
