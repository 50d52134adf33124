-- An example of the definition, computed: two variables that are exchanged at once. Assumes nothing.
use mathlib.Core.Path.{◌≡◌, refl}
use mathlib.Core.List.{[], ◌∷◌}
use Rattle.expression.specs.Trees.{Tree, leaf, variable}
use Rattle.store.specs.Storing.{gives, fresh}
use Rattle.listing.specs.Listings.{swap, swap_for}
use Rattle.substitution.specs.Substituting.{put_in, put_in_leaf, substitute}

a : Tree
a = leaf (variable 0)

b : Tree
b = leaf (variable 1)

-- all variables at once: a for b and b for a, and what is put in is not searched again
swapped_at_once : substitute (swap 0 b ∷ swap 1 a ∷ []) a (fresh 8 0) ≡ gives b (fresh 8 0)
unfolding substitute put_in_leaf put_in swap_for a b
swapped_at_once = refl
