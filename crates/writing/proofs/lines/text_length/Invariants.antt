-- `text_length` meets its contract. Assumes nothing.
use mathlib.Core.Path.{◌≡◌}
use Prim.Native.Nat.{◌*◌, ◌≤◌}
use lib.ListN.{length}
use Rattle.store.specs.Memory.{memory}
use Rattle.writing.specs.Ordering.{all_text}
use Rattle.writing.proofs.lines.text_length.Given as goal

abbrev pub invariant-loop-i : goal.invariant-loop-i
invariant-loop-i g l = (l.total ≡ length (all_text (g.L.Lines.bytes (memory l.store) l.table) l.i)) × (l.total ≤ 70 * l.i)
