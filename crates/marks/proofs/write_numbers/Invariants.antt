-- `write_numbers` meets its contract: the numbers of the marks that were passed stand. Assumes nothing.
use Rattle.marks.proofs.Numbering.{Numbering}
use Rattle.marks.proofs.write_numbers.Given as goal

abbrev pub invariant-loop-k : goal.invariant-loop-k
invariant-loop-k l = Numbering l.initial.out l.at l.separator l.marks l.out l.next l.k
