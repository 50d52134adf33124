-- Substituting, on trees: what the s lines of a listing make of its root, in a store. Definitions only.
use Rattle.std.specs.Prelude.{ℕ, List}
use Rattle.expression.specs.Trees.{Tree, Leaf, number, pi, variable, cell, leaf, function_call, prefixed, infixed}
use Rattle.store.specs.Storing.{State, Answer, gives, and_then, intern}
use Rattle.listing.specs.Listings.{Swap, Named, names, nothing, swap_for}

-- the tree that is put in for a variable; without an s line it stays
unfoldable pub put_in : ℕ → Named → Tree
put_in v (names t) = t
put_in v nothing = leaf (variable v)

unfoldable pub put_in_leaf : List Swap → Leaf → Tree
put_in_leaf swaps (number z) = leaf (number z)
put_in_leaf swaps pi = leaf pi
put_in_leaf swaps (variable v) = put_in v (swap_for v swaps)
put_in_leaf swaps (cell region index) = leaf (cell region index)

-- "Substitution replaces all variables at once, in evaluation's order; what is put in is not searched again"; new nodes are refused by 6, 7, 8
-- as they are stored
unfoldable pub substitute : List Swap → Tree → State → Answer
substitute swaps (leaf l) s = gives (put_in_leaf swaps l) s
substitute swaps (function_call f t) s = and_then (substitute swaps t s) λ t s. intern (function_call f t) s
substitute swaps (prefixed o t) s = and_then (substitute swaps t s) λ t s. intern (prefixed o t) s
substitute swaps (infixed o l r) s = and_then (substitute swaps l s) λ l s. and_then (substitute swaps r s) λ r s. intern (infixed o l r) s
