-- What the lent rows hold, read as numbered nodes and as trees. Only connecting: no definition on trees rests on this page.
use Rattle.std.specs.Prelude.{ℕ, zero, suc, ◌/◌, min, List, [], ◌∷◌, ◌++◌, map, Option, Some, None, cond, length, get_or, set, ltb}
use Rattle.expression.specs.Trees.{Tree, leaf, pi}
use Rattle.origins.specs.Words.{origin_in}
use Rattle.expression.specs.Alike.{equal}
use Rattle.expression.specs.declared.node.Expression.{Expression}
use Rattle.store.specs.declared.node.Fields.{Fields}
use Rattle.store.specs.Words.{code_in, size_in, depth_in, home_in, head_in, class_in, kept_in, next_in}
use Rattle.store.specs.Nodes.{fields, expression_of}
use Rattle.expression.specs.Nodes.{grown}
use Rattle.store.specs.Storing.{Kept, nothing, result, Tally, State, state, place}

-- the nodes, a list for each of the four words of a row
pub record Memory : Type 0 where
  pub tag : List ℕ
  pub first : List ℕ
  pub second : List ℕ
  pub link : List ℕ

abbrev pub columns : (tag first second link : List ℕ) → Memory
columns tag first second link = record { tag = tag; first = first; second = second; link = link }

-- word k of each row
unfoldable pub column : ℕ → List (List ℕ) → List ℕ
column k rows = map (λ row. get_or row k 0) rows

-- the lent rows as nodes: a row has its link first. It stays shut: only the laws of proofs/Rows open it, and one of proofs/OneAnswer
unfoldable pub memory : (rows : List (List ℕ)) → Memory
memory rows = columns (column 1 rows) (column 2 rows) (column 3 rows) (column 0 rows)

-- node i becomes these words, or its link this one; past the end nothing does
abbrev pub with_row : Memory → (i tag first second link : ℕ) → Memory
with_row m i tag first second link = columns (set m.tag i tag) (set m.first i first) (set m.second i second) (set m.link i link)

abbrev pub with_link : Memory → (i link : ℕ) → Memory
with_link m i link = columns m.tag m.first m.second (set m.link i link)

-- the fields of node k, each from the word that has it
unfoldable pub fields_on : (tag first second : List ℕ) → ℕ → Fields
fields_on tag first second k = fields (code_in (get_or tag k 0)) (get_or first k 0) (get_or second k 0)

unfoldable pub size_on : (tag : List ℕ) → ℕ → ℕ
size_on tag k = size_in (get_or tag k 0)

unfoldable pub depth_on : (tag : List ℕ) → ℕ → ℕ
depth_on tag k = depth_in (get_or tag k 0)

unfoldable pub home_on : (tag : List ℕ) → ℕ → ℕ
home_on tag k = home_in (get_or tag k 0)

-- the number of the line that a node came from, plus one; 0 says none
unfoldable pub origin_on : (tag : List ℕ) → ℕ → ℕ
origin_on tag k = origin_in (get_or tag k 0)

unfoldable pub head_on : (link : List ℕ) → ℕ → ℕ
head_on link b = head_in b (get_or link (b / 2) 0)

unfoldable pub class_on : (link : List ℕ) → ℕ → ℕ
class_on link k = class_in (get_or link k 0)

unfoldable pub kept_on : (link : List ℕ) → ℕ → ℕ
kept_on link k = kept_in (get_or link k 0)

unfoldable pub next_on : (link : List ℕ) → ℕ → ℕ
next_on link k = next_in (get_or link k 0)

module _ (m : Memory) where
  -- how many nodes there is room for
  unfoldable pub room : ℕ
  room = min (min (min (length m.tag) (length m.first)) (min (length m.second) (length m.link))) 4096

  abbrev pub fields_at : ℕ → Fields
  fields_at = fields_on m.tag m.first m.second

  abbrev pub size_at : ℕ → ℕ
  size_at = size_on m.tag

  abbrev pub depth_at : ℕ → ℕ
  depth_at = depth_on m.tag

  abbrev pub home_at : ℕ → ℕ
  home_at = home_on m.tag

  abbrev pub origin_at : ℕ → ℕ
  origin_at = origin_on m.tag

  abbrev pub head_at : ℕ → ℕ
  head_at = head_on m.link

  abbrev pub class_at : ℕ → ℕ
  class_at = class_on m.link

  abbrev pub kept_at : ℕ → ℕ
  kept_at = kept_on m.link

  abbrev pub next_at : ℕ → ℕ
  next_at = next_on m.link

  -- node k
  unfoldable pub expression_at : ℕ → Expression
  expression_at k = expression_of (fields_at k)

  -- the trees of the nodes 0 .. n - 1, in order
  unfoldable pub trees : ℕ → List Tree
  trees zero = []
  trees (suc k) = trees k ++ (grown (λ i. get_or (trees k) i (leaf pi)) (expression_at k) ∷ [])

  unfoldable pub tree_at : ℕ → Tree
  tree_at k = grown (λ i. get_or (trees k) i (leaf pi)) (expression_at k)

  -- the tree of a node whose operands are among these
  abbrev pub tree_of : Expression → Tree
  tree_of e = grown tree_at e

  -- a kept result's number, plus one
  unfoldable pub linked : ℕ → Kept
  linked zero = nothing
  linked (suc k) = result (tree_at k)

  -- a kept result by its node
  abbrev pub kept_as : Option ℕ → Kept
  kept_as None = nothing
  kept_as (Some k) = result (tree_at k)

  -- the result kept for a tree: it stands with the first node whose tree is equal
  unfoldable pub kept_for : ℕ → Tree → Kept
  kept_for n t = cond (ltb (place (equal t) (trees n)) n) (linked (kept_at (place (equal t) (trees n)))) nothing

  abbrev pub state_of : (n : ℕ) → Tally → State
  state_of n tally = state room (trees n) (kept_for n) tally
