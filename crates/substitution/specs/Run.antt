-- What the functions on nodes ensure where rows and desk hold a store and the table s lines. Only connecting.
use Rattle.std.specs.Prelude.{◌≡◌, ℕ, zero, suc, ◌+◌, ◌%◌, ◌≤◌, ◌<◌, List, Option, Some, None, Result, Ok, Err, IfOk, OnOk, get_or, set}
use Rattle.memory.specs.Layout.{results_from}
use Rattle.expression.specs.Trees.{Tree}
use Rattle.expression.specs.declared.node.Expression.{Expression}
use Rattle.expression.specs.declared.node.Operands.{Operands}
use Rattle.expression.specs.Nodes.{operands_of, with_operands}
use Rattle.store.specs.Storing.{State, gives}
use Rattle.store.specs.Memory.{tree_of}
use Rattle.store.specs.declared.desk.Refused.{Refused}
use Rattle.store.specs.Desk.{count}
use Rattle.store.specs.Held.{Lent, tree_in, state_in, Step, Adds, Built}
use Rattle.listing.specs.Listings.{Swap}
use Rattle.listing.specs.Tables.{Lists, swap_trees}
use Rattle.substitution.specs.Substituting.{substitute}

-- the node that is put in for a leaf
abbrev pub PutsIn : (table : List ℕ) (swaps : ℕ) (e : Expression) (node r : ℕ) → Type 0
PutsIn table swaps e node r =
    (l : Lent) → swaps ≤ 256 → Lists l table 0 swaps → node < count l.desk → tree_of l.rows e ≡ tree_in l node → operands_of e ≡ Operands.Nothing
    → (r < count l.desk) × ((s : State) → gives (tree_in l r) s ≡ substitute (swap_trees l.rows table swaps) (tree_in l node) s)

-- ---- what nodes became, in the table

-- the word of a node
abbrev pub word_of : ℕ → ℕ
word_of node = results_from + node % 4096

-- nothing is known of the first nodes, and what stands before these words stays
pub record Forgets (nodes : ℕ) (table table' : List ℕ) : Type 0 where
  pub nothing : (k : ℕ) → k < nodes → get_or table' (word_of k) 0 ≡ 0
  pub alike : (j : ℕ) → j < results_from → get_or table' j 0 ≡ get_or table j 0

-- a node by its number plus one, as a word has it; 0 says none
abbrev pub numbered : ℕ → Option ℕ
numbered zero = None
numbered (suc k) = Some k

-- r is what a node became, and nodes are fewer than 65536; a refusal is not remembered
abbrev pub Remembers : (node : ℕ) (r : Result ℕ Refused) (table table' : List ℕ) → Type 0
Remembers node (Ok k) table table' = k < 65536 → table' ≡ set table (word_of node) (k + 1)
Remembers node (Err e) table table' = table' ≡ table

-- from l on, substituting into the tree t gives u and stores nothing
pub record Settled (given : List Swap) (l : Lent) (t u : Tree) : Type 0 where
  pub again : (l' : Lent) → Step l l' → substitute given t (state_in l') ≡ gives u (state_in l')

-- the table has the s lines, and for each of the first nodes nothing or what it became
pub record Knows (given : List Swap) (nodes swaps : ℕ) (l : Lent) (table : List ℕ) : Type 0 where
  pub few : swaps ≤ 256
  pub lists : Lists l table 0 swaps
  pub same : swap_trees l.rows table swaps ≡ given
  pub stand : nodes ≤ count l.desk
  pub results : (k r : ℕ) → k < nodes → get_or table (word_of k) 0 ≡ r + 1 → (r < count l.desk) × Settled given l (tree_in l k) (tree_in l r)

-- ---- substituting

-- the operation on what its operands became
pub record Rebuilds (node : ℕ) (e : Expression) (left last : ℕ) (r : Result ℕ Refused) (l l' : Lent) (table table' : List ℕ) : Type 0 where
  pub added : Adds (with_operands e left last) r l l'
  pub noted : Remembers node r table table'

-- the tree of a node is substituted into; after a refusal nothing more is done
pub record Replaced (given : List Swap) (nodes swaps node : ℕ) (r : Result ℕ Refused) (l l' : Lent) (table' : List ℕ) : Type 0 where
  pub built : Built (substitute given (tree_in l node) (state_in l)) r l l'
  pub settled : IfOk r λ k. Settled given l' (tree_in l node) (tree_in l' k)
  pub knows : OnOk r (Knows given nodes swaps l' table')

abbrev pub Replaces : (table : List ℕ) (swaps node below : ℕ) (r : Result ℕ Refused) (l l' : Lent) (table' : List ℕ) → Type 0
Replaces table swaps node below r l l' table' =
    (given : List Swap) (nodes : ℕ) → Knows given nodes swaps l table → node < nodes → node < below → Replaced given nodes swaps node r l l' table'

-- the same of any table that has s lines
abbrev pub Substitutes : (table : List ℕ) (swaps node : ℕ) (r : Result ℕ Refused) (l l' : Lent) → Type 0
Substitutes table swaps node r l l' =
    swaps ≤ 256 → Lists l table 0 swaps → node < count l.desk → Built (substitute (swap_trees l.rows table swaps) (tree_in l node) (state_in l)) r l l'
