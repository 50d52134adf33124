-- A listing, on bytes and trees: which trees its lines give, in order, and when a line is refused. What a node line says is defined in
-- `node_lines`. Definitions only.
use Rattle.std.specs.Prelude.{ℕ, ◌+◌, List, [], ◌∷◌, ◌++◌, Bool, cond, ◌&&◌, length, ltb, eqb}
use Rattle.expression.specs.declared.refusal.Refusal.{Refusal}
use Rattle.expression.specs.Trees.{Tree}
use Rattle.expression.specs.Limits.{numbers}
use Rattle.store.specs.Storing as Storing
use Rattle.store.specs.Storing.{State, Answer, intern}
use Rattle.text.specs.Letters.{letter}
use Rattle.text.specs.Reading.{Read, is, bad, then, tab, lf, ended, decimal_field}
use Rattle.node_lines.specs.NodeLines.{child_field, node_fields}
use Rattle.text.specs.Lines as Lines
use Rattle.text.specs.Lines.{Line, goes, stops, Whole, lines, none, above_last}

-- ---- a line after the lines so far

-- `s·variable·node`
pub data Swap : Type 0 where
  swap : (variable : ℕ) (tree : Tree) → Swap

-- the tree of each node line, the s lines, and the store
pub record Known : Type 0 where
  pub nodes : List Tree
  pub swaps : List Swap
  pub store : State

abbrev pub known : List Tree → List Swap → State → Known
known nodes swaps store = record { nodes = nodes; swaps = swaps; store = store }

-- the line that comes next, from 0
abbrev pub line_number : Known → ℕ
line_number k = length k.nodes + length k.swaps

-- 6, 7, 8 as the node is stored
unfoldable pub stored : Known → List ℕ → Answer → Line Known Refusal
stored k rest (Storing.gives t store) = goes (known (k.nodes ++ (t ∷ [])) k.swaps store) rest
stored k rest (Storing.refused why s) = stops why

-- 1 before that, with its "line from 0"
unfoldable pub formed : Known → Read Tree → Line Known Refusal
formed k bad = stops (Refusal.BadList (line_number k))
formed k (is t rest) = stored k rest (intern t k.store)

-- "1025th node line or 257th s line"
abbrev pub most_nodes : ℕ
most_nodes = 1024

abbrev pub most_swaps : ℕ
most_swaps = 256

-- "2 LONG_LIST: 1025th node line", before the form (1); nodes stand before the s lines
unfoldable pub node_line : Known → (first : ℕ) → List ℕ → Line Known Refusal
node_line k first bs =
    cond (ltb (length k.nodes) most_nodes)
    (formed k (cond (none k.swaps) (node_fields k.nodes first bs) bad))
    (stops (Refusal.LongList (line_number k)))

unfoldable pub swap_fields : (nodes : List Tree) → (first : ℕ) → List ℕ → Read Swap
swap_fields nodes first bs =
    then (ended tab (is first bs)) λ _ bs.
    then (decimal_field tab numbers bs) λ v bs.
    then (child_field lf nodes bs) λ t bs.
    is (swap v t) bs

-- "variables ascending"
unfoldable pub above_variable : Swap → Swap → Bool
above_variable (swap v t) (swap v' t') = ltb v v'

unfoldable pub swapped : (substituting : Bool) → Known → Read Swap → Line Known Refusal
swapped substituting k bad = stops (Refusal.BadList (line_number k))
swapped substituting k (is s rest) =
    cond (substituting && above_last above_variable k.swaps s) (goes (known k.nodes (k.swaps ++ (s ∷ [])) k.store) rest)
    (stops (Refusal.BadList (line_number k)))

-- "or 257th s line"; "For substituting only"
unfoldable pub swap_line : (substituting : Bool) → Known → (first : ℕ) → List ℕ → Line Known Refusal
swap_line substituting k first bs =
    cond (ltb (length k.swaps) most_swaps)
    (swapped substituting k (swap_fields k.nodes first bs))
    (stops (Refusal.LongList (line_number k)))

-- "A line's first byte decides its count; in a listing all but s lines are node lines"
unfoldable pub listing_line : (substituting : Bool) → Known → (first : ℕ) → List ℕ → Line Known Refusal
listing_line substituting k first bs = cond (eqb first (letter "s")) (swap_line substituting k first bs) (node_line k first bs)

-- ---- a listing

-- what it gives: "the last node line is the root", the trees that the s lines name, and the store
pub data Listing : Type 0 where
  accepted : (root : Tree) (swaps : List Swap) (store : State) → Listing
  refused : Refusal → Listing

unfoldable pub last : Tree → List Tree → Tree
last t [] = t
last t (u ∷ us) = last u us

-- "or no node line": "An empty listing is BAD_LIST at 0"
unfoldable pub rooted : List Tree → List Swap → State → Listing
rooted [] swaps store = refused (Refusal.BadList 0)
rooted (t ∷ ts) swaps store = accepted (last t ts) swaps store

unfoldable pub whole : Whole Known Refusal → Listing
whole (Lines.read k) = rooted k.nodes k.swaps k.store
whole (Lines.refused why) = refused why

unfoldable pub listing : (substituting : Bool) → List ℕ → State → Listing
listing substituting bs store = whole (lines (listing_line substituting) (known [] [] store) bs)

-- the trees of its node lines in order, line by line, of a listing that is not refused
unfoldable pub lines_of : Whole Known Refusal → List Tree
lines_of (Lines.read k) = k.nodes
lines_of (Lines.refused why) = []

abbrev pub given : (substituting : Bool) → List ℕ → State → List Tree
given substituting bs store = lines_of (lines (listing_line substituting) (known [] [] store) bs)

-- the tree that the s line of a variable names
pub data Named : Type 0 where
  names : Tree → Named
  nothing : Named

unfoldable pub swap_for : ℕ → List Swap → Named
swap_for v [] = nothing
swap_for v (swap v' t ∷ ss) = cond (eqb v v') (names t) (swap_for v ss)
