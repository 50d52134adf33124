-- `write_lines` meets its contract. Assumes nothing.
use Rattle.store.specs.Memory.{memory}
use Rattle.text.specs.Put.{Put}
use Rattle.writing.specs.Ordering.{all_text}
use Rattle.writing.proofs.lines.write_lines.Given as goal

abbrev pub invariant-loop-i : goal.invariant-loop-i
invariant-loop-i g l = Put l.initial.out 0 (all_text (g.L.Lines.bytes (memory l.store) l.table) l.i) l.at l.out
