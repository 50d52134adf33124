-- `walk` meets its contract. The invariant: from here on the walk comes to the first row that matches. Assumes nothing.
use mathlib.Core.Path.{◌≡◌}
use Prim.Native.Nat.{◌≤◌}
use Rattle.sheet.specs.Index.{link_of, bucket_of, head_for}
use Rattle.sheet.specs.Table.{row_matches, next_at, Indexed}
use Rattle.sheet.proofs.Seeking.{Walking}
use Rattle.sheet.proofs.search.walk.Given as goal

abbrev pub invariant-loop : goal.invariant-loop
invariant-loop l =
    (link_of l.at ≤ l.count)
    × (Indexed l.table l.count → link_of l.fn.head ≡ head_for l.table l.count (bucket_of l.name l.x l.y) → Walking (next_at l.table) (row_matches l.table l.name l.x l.y) l.count (link_of l.at))
