-- Where a tree came from: "the number of the first input line that gave it, or none". Definitions only.
use Rattle.std.specs.Prelude.{ℕ, suc, List, cond}
use Rattle.expression.specs.Trees.{Tree}
use Rattle.expression.specs.Alike.{identical}
use Rattle.store.specs.Storing.{among, place}

-- the first of the lines whose tree is this one, plus one; 0 says none. All lines are read before anything is built, so that a node "that comes up
-- again keeps its first origin", and what simplifying or substituting made has none
unfoldable pub origin_of : (given : List Tree) → Tree → ℕ
origin_of given t = cond (among given t) (suc (place (identical t) given)) 0
