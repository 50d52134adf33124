-- `write_line` meets its contract. Assumes nothing.
use Rattle.sentences.proofs.Filling.{Filling}
use Rattle.sentences.proofs.write_line.Given as goal

abbrev pub invariant-loop-i : goal.invariant-loop-i
invariant-loop-i l = Filling l.initial.out l.table l.from l.first l.second l.out l.i l.at
