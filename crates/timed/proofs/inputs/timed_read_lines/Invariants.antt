-- `timed_read_lines` meets its contract: what is answered from the place on is answered from the start. Assumes nothing.
use mathlib.Core.Path.{◌≡◌}
use Prim.Native.Nat.{ℕ, ◌-◌, ◌≤◌}
use mathlib.Core.List.{List}
use lib.ListN.{length}
use Rattle.timed.specs.Reading.{AnsweredBy}
use Rattle.timed.proofs.inputs.timed_read_lines.Given as goal

abbrev pub invariant-loop-first : goal.invariant-loop-first
invariant-loop-first l =
    (l.lines ≤ 1024) × (length l.table ≡ length l.initial.table) × ((r : ℕ) (table' : List ℕ) → AnsweredBy (1025 - l.lines) l.rest l.lines l.table r table' → AnsweredBy 1025 l.text 0 l.initial.table r table')

abbrev pub decreases-loop-first : goal.decreases-loop-first
decreases-loop-first l = 1024 - l.lines
