-- What the code's answers and the lent table say, as trees. Only connecting.
use Rattle.std.specs.Prelude.{◌≡◌, ℕ, ◌+◌, ◌-◌, ◌*◌, ◌≤◌, ◌<◌, List, [], Option, Some, None, Result, Ok, Err, Bool, cond, length, get_or, eqb}
use Rattle.std.specs.Borrow.{Bor}
use Rattle.expression.specs.declared.refusal.Refusal.{Refusal}
use Rattle.expression.specs.Trees.{Tree, leaf, pi}
use Rattle.expression.specs.declared.node.Expression.{Expression}
use Rattle.expression.specs.declared.node.Operands.{Operands}
use Rattle.expression.specs.Nodes.{operands_of, with_operands}
use Rattle.store.specs.Memory.{Memory, tree_at, room}
use Rattle.store.specs.Storing.{fresh}
use Rattle.store.specs.Desk.{count}
use Rattle.store.specs.Held.{Lent, tree_in, state_in, Sound}
use Rattle.store.specs.Tracing.{Traced}
use Rattle.memory.specs.Layout.{table_words, swaps_from}
use Rattle.memory.specs.Keys.{up_to, key_at, Ascends}
use Rattle.text.specs.Letters.{letter}
use Rattle.text.specs.Reading.{Read, is, bad}
use Rattle.text.specs.Lines as Lines
use Rattle.text.specs.Lines.{goes, stops, above_last}
use Rattle.listing.specs.declared.Listed as Code
use Rattle.listing.specs.declared.Progress.{Progress}
use Rattle.listing.specs.Listings as Spec
use Rattle.listing.specs.Listings.{Known, known, accepted, swap, names, nothing, swap_for, above_variable, swap_fields, swap_line, listing_line, listing, given}

-- a node with other numbers for its operands, those that stand for them in a list: the node of a line, or the line of a node
unfoldable pub moved_to : List ℕ → Expression → Operands → Expression
moved_to table e Operands.Nothing = e
moved_to table e (Operands.One a) = with_operands e 0 (get_or table a 0)
moved_to table e (Operands.Two a b) = with_operands e (get_or table a 0) (get_or table b 0)

abbrev pub moved : List ℕ → Expression → Expression
moved table e = moved_to table e (operands_of e)

-- ---- the table: word i is the node of node line i; the s lines stand from `swaps_from` on, two words each

abbrev pub line_trees : (m : Memory) (table : List ℕ) → ℕ → List Tree
line_trees m table i = up_to i (λ k. tree_at m (get_or table k 0))

abbrev pub swap_trees : (m : Memory) (table : List ℕ) → ℕ → List Spec.Swap
swap_trees m table j = up_to j (λ k. swap (get_or table (swaps_from + 2 * k) 0) (tree_at m (get_or table (swaps_from + 2 * k + 1) 0)))

-- what is known after some lines
abbrev pub known_at : (l : Lent) (table : List ℕ) → Progress → Known
known_at l table p = known (line_trees l.rows table p.lines) (swap_trees l.rows table p.swaps) (state_in l)

-- the nodes that a table names stand, and the variables of its s lines ascend
pub record Lists (l : Lent) (table : List ℕ) (lines swaps : ℕ) : Type 0 where
  pub sound : Sound l
  pub nodes : (k : ℕ) → k < lines → get_or table k 0 < count l.desk
  pub named : (k : ℕ) → k < swaps → get_or table (swaps_from + 2 * k + 1) 0 < count l.desk
  pub ascends : Ascends (key_at table swaps_from 2) swaps

-- and the origins of the nodes are the lines of the table
pub record Listed (l : Lent) (table : List ℕ) (lines swaps : ℕ) : Type 0 where
  pub lists : Lists l table lines swaps
  pub traced : Traced (line_trees l.rows table lines) l

-- ---- one line

-- there is room for a line in the table
pub record Ready (table : List ℕ) (p : Progress) : Type 0 where
  pub lines : p.lines ≤ 1024
  pub swaps : p.swaps ≤ 256
  pub long : table_words ≤ length table

-- how far reading is after a line, and the bytes after it, or why it is refused
abbrev pub Step : Type 0
Step = Result (Progress × Bor (List ℕ)) Refusal

-- what a step of the code says, as one on trees
abbrev pub step_seen : (l : Lent) (table : List ℕ) → Step → Lines.Line Known Refusal
step_seen l table (Ok (q, rest)) = goes (known_at l table q) rest.now
step_seen l table (Err why) = stops why

pub record Advanced (l : Lent) (table : List ℕ) (p q : Progress) : Type 0 where
  pub listed : Listed l table q.lines q.swaps
  pub count : q.lines + q.swaps ≡ p.lines + p.swaps + 1
  pub lines : q.lines ≤ 1024
  pub swaps : q.swaps ≤ 256

abbrev pub StepAfter : (l : Lent) (table : List ℕ) → Progress → Step → Type 0
StepAfter l table p (Ok (q, rest)) = Advanced l table p q
StepAfter l table p (Err why) = Unit {0}

pub record Takes (want : Lines.Line Known Refusal) (p : Progress) (r : Step) (l : Lent) (table : List ℕ) : Type 0 where
  pub answer : step_seen l table r ≡ want
  pub after : StepAfter l table p r

-- a line with this first byte and these bytes after it
abbrev pub TakesLine : (want : Known → ℕ → List ℕ → Lines.Line Known Refusal) (first : ℕ) (s table : List ℕ) (p : Progress) (r : Step) (l l' : Lent) (table' : List ℕ) → Type 0
TakesLine want first s table p r l l' table' = Listed l table p.lines p.swaps → Takes (want (known_at l table p) first s) p r l' table'

-- an s line changes the table alone, whatever rows and desk are
abbrev pub TakesSwap : (substituting : Bool) (s table : List ℕ) (p : Progress) (r : Step) (table' : List ℕ) → Type 0
TakesSwap substituting s table p r table' = (l : Lent) → TakesLine (swap_line substituting) (letter "s") s table p r l l table'

-- an s line of the code
abbrev pub swap_line_seen : (nodes : List Tree) → Option (ℕ × ℕ × Bor (List ℕ)) → Read Spec.Swap
swap_line_seen nodes (Some (v, line, rest)) = is (swap v (get_or nodes line (leaf pi))) rest.now
swap_line_seen nodes None = bad

abbrev pub SwapWithin : ℕ → Option (ℕ × ℕ × Bor (List ℕ)) → Type 0
SwapWithin lines (Some (v, line, rest)) = line < lines
SwapWithin lines None = Unit {0}

pub record FindsSwap (s : List ℕ) (lines : ℕ) (r : Option (ℕ × ℕ × Bor (List ℕ))) : Type 0 where
  pub seen : (nodes : List Tree) → length nodes ≡ lines → swap_line_seen nodes r ≡ swap_fields nodes (letter "s") s
  pub within : SwapWithin lines r

-- whether a variable is above those of the s lines in the table, whatever trees they name
abbrev pub Above : (table : List ℕ) (swaps variable : ℕ) → Bool → Type 0
Above table swaps variable r = (m : Memory) (t : Tree) → r ≡ above_last above_variable (swap_trees m table swaps) (swap variable t)

-- ---- all lines

abbrev pub lines_seen : (l : Lent) (table : List ℕ) → Result Progress Refusal → Lines.Whole Known Refusal
lines_seen l table (Ok q) = Lines.read (known_at l table q)
lines_seen l table (Err why) = Lines.refused why

pub record Ended (l : Lent) (table : List ℕ) (q : Progress) : Type 0 where
  pub listed : Listed l table q.lines q.swaps
  pub lines : q.lines ≤ 1024
  pub swaps : q.swaps ≤ 256

abbrev pub LinesAfter : (l : Lent) (table : List ℕ) → Result Progress Refusal → Type 0
LinesAfter l table (Ok q) = Ended l table q
LinesAfter l table (Err why) = Unit {0}

pub record ReadsLines (substituting : Bool) (text : List ℕ) (r : Result Progress Refusal) (l l' : Lent) (table : List ℕ) : Type 0 where
  pub answer : lines_seen l' table r ≡ Lines.lines (listing_line substituting) (known [] [] (state_in l)) text
  pub after : LinesAfter l' table r

-- ---- a listing

-- an answer of the code, as one on trees
abbrev pub listing_seen : (l : Lent) (table : List ℕ) → Result Code.Listed Refusal → Spec.Listing
listing_seen l table (Ok a) = accepted (tree_in l a.root) (swap_trees l.rows table a.swaps) (state_in l)
listing_seen l table (Err why) = Spec.refused why

abbrev pub ListsAfter : (l : Lent) (table : List ℕ) → Result Code.Listed Refusal → Type 0
ListsAfter l table (Ok a) = (a.root < count l.desk) × (a.swaps ≤ 256) × Lists l table 0 a.swaps
ListsAfter l table (Err why) = Unit {0}

abbrev pub TracedAfter : (given : List Tree) (l : Lent) → Result Code.Listed Refusal → Type 0
TracedAfter given l (Ok a) = Traced given l
TracedAfter given l (Err why) = Unit {0}

-- the root's node is that of the last line
unfoldable pub root_of : (table : List ℕ) → Progress → Result Code.Listed Refusal
root_of table p =
    cond (eqb p.lines 0) (Err (Refusal.BadList 0)) (Ok (record { root = get_or table (p.lines - 1) 0; swaps = p.swaps }))

-- reading a listing, from what is lent, l, to l'
pub record Reads (substituting : Bool) (text : List ℕ) (r : Result Code.Listed Refusal) (l l' : Lent) (table : List ℕ) : Type 0 where
  pub answer : listing_seen l' table r ≡ listing substituting text (fresh (room l.rows) 0)
  pub after : ListsAfter l' table r
  pub traced : TracedAfter (given substituting text (fresh (room l.rows) 0)) l' r

-- the node that an s line names
abbrev pub swap_seen : Memory → Option ℕ → Spec.Named
swap_seen m (Some i) = names (tree_at m i)
swap_seen m None = nothing

abbrev pub NodeWithin : ℕ → Option ℕ → Type 0
NodeWithin n (Some i) = i < n
NodeWithin n None = Unit {0}

-- looking up a variable among the s lines that reading a listing has left in the table, whatever the store
abbrev pub LooksUp : (table : List ℕ) (swaps variable : ℕ) → Option ℕ → Type 0
LooksUp table swaps variable r =
    (l : Lent) → swaps ≤ 256 → Lists l table 0 swaps → (swap_seen l.rows r ≡ swap_for variable (swap_trees l.rows table swaps)) × NodeWithin (count l.desk) r
