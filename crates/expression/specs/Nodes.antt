-- A node and the tree that grows from it, where the trees of its operands are known. Only connecting.
use Rattle.std.specs.Prelude.{ℕ, ◌+◌, ◌<◌}
use Rattle.expression.specs.declared.node.Expression.{Expression}
use Rattle.expression.specs.declared.node.Operands.{Operands}
use Rattle.expression.specs.Trees.{Tree, leaf, number, pi, variable, cell, function_call, prefixed, infixed}
use Rattle.expression.specs.Limits.{ProperLeaf}

-- the nodes under a node
unfoldable pub operands_of : Expression → Operands
operands_of (Expression.Number z) = Operands.Nothing
operands_of Expression.PiConstant = Operands.Nothing
operands_of (Expression.Variable v) = Operands.Nothing
operands_of (Expression.Address region index) = Operands.Nothing
operands_of (Expression.FunctionCall f a) = Operands.One a
operands_of (Expression.Prefix o a) = Operands.One a
operands_of (Expression.Infix o a b) = Operands.Two a b

-- the same operation on other operands
unfoldable pub with_operands : Expression → (left last : ℕ) → Expression
with_operands (Expression.Number z) left last = Expression.Number z
with_operands Expression.PiConstant left last = Expression.PiConstant
with_operands (Expression.Variable v) left last = Expression.Variable v
with_operands (Expression.Address region index) left last = Expression.Address region index
with_operands (Expression.FunctionCall f a) left last = Expression.FunctionCall f last
with_operands (Expression.Prefix o a) left last = Expression.Prefix o last
with_operands (Expression.Infix o a b) left last = Expression.Infix o left last

-- the same operation on what `look` gives for its operands
unfoldable pub mapped_to : (look : ℕ → ℕ) → Expression → Operands → Expression
mapped_to look e Operands.Nothing = e
mapped_to look e (Operands.One a) = with_operands e 0 (look a)
mapped_to look e (Operands.Two a b) = with_operands e (look a) (look b)

abbrev pub mapped : (look : ℕ → ℕ) → Expression → Expression
mapped look e = mapped_to look e (operands_of e)

-- the tree of a node, where `tree` gives the tree of each operand
unfoldable pub grown : (ℕ → Tree) → Expression → Tree
grown tree (Expression.Number z) = leaf (number z)
grown tree Expression.PiConstant = leaf pi
grown tree (Expression.Variable v) = leaf (variable v)
grown tree (Expression.Address region index) = leaf (cell region index)
grown tree (Expression.FunctionCall f a) = function_call f (tree a)
grown tree (Expression.Prefix o a) = prefixed o (tree a)
grown tree (Expression.Infix o a b) = infixed o (tree a) (tree b)

-- the operands of a node are among the first n
abbrev pub Within : ℕ → Expression → Type 0
Within n (Expression.Number z) = Unit {0}
Within n Expression.PiConstant = Unit {0}
Within n (Expression.Variable v) = Unit {0}
Within n (Expression.Address region index) = Unit {0}
Within n (Expression.FunctionCall f a) = a < n
Within n (Expression.Prefix o a) = a < n
Within n (Expression.Infix o a b) = (a < n) × (b < n)

-- its leaf is such as a text can say, as that of every `Expression` that a program holds is
abbrev pub Sound : Expression → Type 0
Sound (Expression.Number z) = ProperLeaf (number z)
Sound Expression.PiConstant = Unit {0}
Sound (Expression.Variable v) = ProperLeaf (variable v)
Sound (Expression.Address region index) = ProperLeaf (cell region index)
Sound (Expression.FunctionCall f a) = Unit {0}
Sound (Expression.Prefix o a) = Unit {0}
Sound (Expression.Infix o a b) = Unit {0}

-- size and depth as one: `both` is + for size and the greater for depth (proofs/Sizes.antt, `size_is`, `depth_is`)
unfoldable pub measure : (both : ℕ → ℕ → ℕ) → Tree → ℕ
measure both (leaf l) = 1
measure both (function_call f t) = 1 + measure both t
measure both (prefixed o t) = 1 + measure both t
measure both (infixed o l r) = 1 + both (measure both l) (measure both r)

-- size or depth of a node's tree, from those of its operands'
unfoldable pub measure_from : (both : ℕ → ℕ → ℕ) (of : ℕ → ℕ) → Expression → ℕ
measure_from both of (Expression.Number z) = 1
measure_from both of Expression.PiConstant = 1
measure_from both of (Expression.Variable v) = 1
measure_from both of (Expression.Address region index) = 1
measure_from both of (Expression.FunctionCall f a) = 1 + of a
measure_from both of (Expression.Prefix o a) = 1 + of a
measure_from both of (Expression.Infix o a b) = 1 + both (of a) (of b)
