-- What the tags say of where the nodes came from. Only connecting.
use Rattle.std.specs.Prelude.{◌≡◌, ℕ, ◌%◌, ◌≤◌, ◌<◌, List, length, get_or, set}
use Rattle.expression.specs.Trees.{Tree, leaf, pi}
use Rattle.origins.specs.Words.{origin_unit, first_kept}
use Rattle.store.specs.Origins.{origin_of}
use Rattle.store.specs.Memory.{Memory, columns, origin_at}
use Rattle.store.specs.Held.{Lent, tree_in}
use Rattle.store.specs.Desk.{count}

-- node i came from this line, if it has no origin; past the end nothing does
abbrev pub with_mark : Memory → (i line : ℕ) → Memory
with_mark m i line = columns (set m.tag i (first_kept (get_or m.tag i 0) line)) m.first m.second m.link

-- words that differ in the origins alone
pub record Relabelled (m m' : Memory) : Type 0 where
  pub tags : length m'.tag ≡ length m.tag
  pub low : (k : ℕ) → get_or m'.tag k 0 % origin_unit ≡ get_or m.tag k 0 % origin_unit
  pub first : m'.first ≡ m.first
  pub second : m'.second ≡ m.second
  pub link : m'.link ≡ m.link

-- a tree has a node
pub record Stands (l : Lent) (t : Tree) : Type 0 where
  pub node : ℕ
  pub inside : node < count l.desk
  pub is : tree_in l node ≡ t

-- the origin of each node is that of its tree, and each line has a node
pub record Traced (given : List Tree) (l : Lent) : Type 0 where
  pub few : length given ≤ 1024
  pub origins : (k : ℕ) → k < count l.desk → origin_at l.rows k ≡ origin_of given (tree_in l k)
  pub stands : (i : ℕ) → i < length given → Stands l (get_or given i (leaf pi))
