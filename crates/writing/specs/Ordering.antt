-- What the table and the links say while the nodes of a tree are put in order. Only connecting.
use Rattle.std.specs.Prelude.{◌≡◌, ℕ, zero, suc, ◌+◌, ◌≤◌, ◌<◌, List, [], ◌∷◌, ◌++◌, Bool, true, false, cond, length, get_or, set, ltb, eqb, Result}
use Rattle.expression.specs.declared.refusal.Refusal.{Refusal}
use Rattle.expression.specs.Trees.{Tree, leaf, number, pi, variable, cell, function_call, prefixed, infixed}
use Rattle.expression.specs.Limits.{Limited, Proper}
use Rattle.store.specs.Storing.{among}
use Rattle.expression.specs.declared.node.Expression.{Expression}
use Rattle.origins.specs.Fields.{origin_text}
use Rattle.store.specs.Memory.{Memory, columns, with_link, expression_at, origin_at, tree_at}
use Rattle.store.specs.Desk.{count}
use Rattle.store.specs.Held.{Holds, Sound}
use Rattle.store.specs.Tracing.{Traced}
use Rattle.expression.specs.declared.node.Operands.{Operands}
use Rattle.expression.specs.Nodes.{operands_of}
use Rattle.memory.specs.Layout.{table_words}
use Rattle.writing.specs.Order.{finished, leaf_fields, written}
use Rattle.writing.specs.Origins.{written_traced}
use Rattle.spelling.specs.Names.{function_name, prefix_name, infix_name}
use Rattle.text.specs.Reading.{tab, lf}
use Rattle.text.specs.Writing.{in_decimal, line}
use Rattle.listing.specs.Tables.{line_trees, moved}

-- ---- lists of trees

abbrev pub AllIn : List Tree → Tree → Type 0
AllIn done (leaf l) = among done (leaf l) ≡ true
AllIn done (function_call f t) = (among done (function_call f t) ≡ true) × AllIn done t
AllIn done (prefixed o t) = (among done (prefixed o t) ≡ true) × AllIn done t
AllIn done (infixed o l r) = (among done (infixed o l r) ≡ true) × (AllIn done l × AllIn done r)

-- all below it
abbrev pub KidsIn : List Tree → Tree → Type 0
KidsIn done (leaf l) = Unit {0}
KidsIn done (function_call f t) = AllIn done t
KidsIn done (prefixed o t) = AllIn done t
KidsIn done (infixed o l r) = AllIn done l × AllIn done r

-- each tree stands once, after all below it
pub data Laid : List Tree → Type 0 where
  empty : Laid []
  more : {ts : List Tree} (t : Tree) → Laid ts → KidsIn ts t → among ts t ≡ false → Proper t → Limited t → Laid (ts ++ (t ∷ []))

-- ---- nodes

-- above all nodes
abbrev pub above_all : ℕ
above_all = 18446744073709551615

-- a store has at most so many nodes
abbrev pub most_rows : ℕ
most_rows = 4096

-- whether the node of a node's line is that node
abbrev pub Tells : (rows : Memory) (table : List ℕ) (node count : ℕ) → Bool → Type 0
Tells rows table node count r = r ≡ cond (ltb (get_or rows.link node 0) count) (eqb (get_or table (get_or rows.link node 0) 0) node) false

-- a node is put at the end
pub record Entered (rows : Memory) (table : List ℕ) (node count r : ℕ) (rows' : Memory) (table' : List ℕ) : Type 0 where
  pub next : r ≡ count + 1
  pub marked : rows' ≡ with_link rows node count
  pub put : table' ≡ set table count node

abbrev pub Enters : (rows : Memory) (table : List ℕ) (node count r : ℕ) (rows' : Memory) (table' : List ℕ) → Type 0
Enters rows table node count r rows' table' = count < most_rows → Entered rows table node count r rows' table'

-- the rows are those of a store, but for the links; the first `count` nodes of the table are such as a listing has them, and the link of each
-- is its line
pub record Listed (m : Memory) (n : ℕ) (rows : Memory) (table : List ℕ) (count : ℕ) : Type 0 where
  pub same : rows ≡ columns m.tag m.first m.second rows.link
  pub links : n ≤ length rows.link
  pub long : table_words ≤ length table
  pub nodes : (k : ℕ) → k < count → get_or table k 0 < n
  pub laid : Laid (line_trees m table count)
  pub marks : (k : ℕ) → k < count → get_or rows.link (get_or table k 0) 0 ≡ k

-- the trees that are done after a node
unfoldable pub visited : (m : Memory) (node below : ℕ) (done : List Tree) → List Tree
visited m node below done = cond (ltb node below) (finished (tree_at m node) done) done

-- and after its operands, left before right
unfoldable pub visited_in : (m : Memory) (node : ℕ) (done : List Tree) → Operands → List Tree
visited_in m node done Operands.Nothing = done
visited_in m node done (Operands.One a) = visited m a node done
visited_in m node done (Operands.Two a b) = visited m b node (visited m a node done)

-- from a table to the next
pub record Visited (m : Memory) (n : ℕ) (table : List ℕ) (node below count r : ℕ) (rows' : Memory) (table' : List ℕ) : Type 0 where
  pub listed : Listed m n rows' table' r
  pub done : line_trees m table' r ≡ visited m node below (line_trees m table count)

-- of each store that has these rows, but for the links
abbrev pub Visits : (rows : Memory) (table : List ℕ) (node below count r : ℕ) (rows' : Memory) (table' : List ℕ) → Type 0
Visits rows table node below count r rows' table' =
    (m : Memory) (n : ℕ) → Holds m n → (node < below → node < n) → Listed m n rows table count → Visited m n table node below count r rows' table'

-- the same of a node's operands
pub record VisitedIn (m : Memory) (n : ℕ) (table : List ℕ) (node count r : ℕ) (o : Operands) (rows' : Memory) (table' : List ℕ) : Type 0 where
  pub listed : Listed m n rows' table' r
  pub done : line_trees m table' r ≡ visited_in m node (line_trees m table count) o

abbrev pub VisitsOperands : (rows : Memory) (table : List ℕ) (node count r : ℕ) (rows' : Memory) (table' : List ℕ) → Type 0
VisitsOperands rows table node count r rows' table' =
    (m : Memory) (n : ℕ) → Holds m n → node < n → Listed m n rows table count → VisitedIn m n table node count r (operands_of (expression_at rows node)) rows' table'

-- ---- a line whose operands are numbers of lines

unfoldable pub text_fields : Expression → List (List ℕ)
text_fields (Expression.Number z) = leaf_fields (number z)
text_fields Expression.PiConstant = leaf_fields pi
text_fields (Expression.Variable v) = leaf_fields (variable v)
text_fields (Expression.Address region index) = leaf_fields (cell region index)
text_fields (Expression.FunctionCall f a) = (102 ∷ []) ∷ function_name f ∷ in_decimal a ∷ []
text_fields (Expression.Prefix o a) = (117 ∷ []) ∷ prefix_name o ∷ in_decimal a ∷ []
text_fields (Expression.Infix o a b) = (98 ∷ []) ∷ infix_name o ∷ in_decimal a ∷ in_decimal b ∷ []

unfoldable pub line_text : Expression → List ℕ
line_text e = line (text_fields e)

-- line i of the order in a table: the node with the lines of its operands, which are their links
unfoldable pub line_at : (rows : Memory) (table : List ℕ) → ℕ → Expression
line_at rows table i = moved rows.link (expression_at rows (get_or table i 0))

-- the first lines one after the other, where `bytes` are those of each
unfoldable pub all_text : (bytes : ℕ → List ℕ) → ℕ → List ℕ
all_text bytes zero = []
all_text bytes (suc i) = all_text bytes i ++ bytes i

abbrev pub lines_text : (rows : Memory) (table : List ℕ) → ℕ → List ℕ
lines_text rows table = all_text (λ i. line_text (line_at rows table i))

-- the tree of a node is written as the definition says, and a refusal leaves the output as it was
abbrev pub Writes : (m : Memory) (root : ℕ) (r : Result ℕ Refusal) (out out' : List ℕ) → Type 0
Writes m root r out out' = (n : ℕ) → Holds m n → root < n → (r, out') ≡ written (tree_at m root) out

-- and leaves the rows as they were, but for the links
abbrev pub KeepsRows : (m : Memory) (root : ℕ) (m' : Memory) → Type 0
KeepsRows m root m' = (n : ℕ) → Holds m n → root < n → m' ≡ columns m.tag m.first m.second m'.link

-- ---- the same with origins, which stand in the tags

-- what stands in place of a line's LF
abbrev pub origin_end : ℕ → List ℕ
origin_end origin = tab ∷ (origin_text origin ++ (lf ∷ []))

unfoldable pub traced_text : (origin : ℕ) → Expression → List ℕ
traced_text origin e = line (text_fields e ++ (origin_text origin ∷ []))

abbrev pub traced_lines_text : (rows : Memory) (table : List ℕ) → ℕ → List ℕ
traced_lines_text rows table = all_text (λ i. traced_text (origin_at rows (get_or table i 0)) (line_at rows table i))

abbrev pub WritesTraced : (m : Memory) (root : ℕ) (r : Result ℕ Refusal) (out out' : List ℕ) → Type 0
WritesTraced m root r out out' =
    (given : List Tree) (desk : List ℕ) → Sound (record { rows = m; desk = desk }) → Traced given (record { rows = m; desk = desk }) → root < count desk
    → (r, out') ≡ written_traced given (tree_at m root) out
