-- `read_sheet` meets its contract. The invariant is `Reading`: what is left of the text, from these rows on, is the whole. Assumes nothing.
use Prim.Native.Nat.{◌-◌}
use Rattle.sheet.specs.Table.{line_of}
use Rattle.sheet.proofs.Sheets.{Reading}
use Rattle.sheet.proofs.read_sheet.Given as goal

abbrev pub invariant-loop-first : goal.invariant-loop-first
invariant-loop-first l = Reading l.text l.initial.table l.table l.rest l.counts

abbrev pub decreases-loop-first : goal.decreases-loop-first
decreases-loop-first l = 1537 - line_of l.counts
