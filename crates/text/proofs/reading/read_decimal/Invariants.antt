-- `read_decimal` meets its contract. The invariant is `Going`; the measure is what is left of the text. Assumes nothing.
use Rattle.std.proofs.Common.{◌-◌, length}
use Rattle.text.proofs.Running.{Going}
use Rattle.text.proofs.reading.read_decimal.Given as goal

abbrev pub invariant-loop-d : goal.invariant-loop-d
invariant-loop-d l = Going l.s l.limit l.first l.d l.v l.i

abbrev pub decreases-loop-d : goal.decreases-loop-d
decreases-loop-d l = length l.s - l.i
