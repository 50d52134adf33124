-- `write_lines_wide` meets its contract. Assumes nothing.
use Prim.Native.Nat.{◌*◌, ◌≤◌}
use Rattle.store.specs.Memory.{memory}
use Rattle.text.specs.Put.{Put}
use Rattle.writing.specs.Ordering.{lines_text}
use Rattle.writing.proofs.write_lines_wide.Given as goal

abbrev pub invariant-loop-i : goal.invariant-loop-i
invariant-loop-i l = Put l.initial.out 0 (lines_text (memory l.store) l.table l.i) l.at l.out × (l.at ≤ 64 * l.i)
