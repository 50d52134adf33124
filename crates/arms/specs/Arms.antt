-- What 01's arms want, as plans: on trees, whose operands are simplified, and the parts of plans that 01 writes in words; and the arms of a function
-- and of a prefix. When each arm of an infix operation matches is in Ordered. Definitions only.
use Rattle.std.specs.Prelude.{Bool, cond, ltb}
use Rattle.complex.specs.declared.Complex.{Complex}
use Rattle.complex.specs.Arithmetic.{negated}
use Rattle.expression.specs.declared.InfixOperator.{InfixOperator}
use Rattle.expression.specs.declared.PrefixOperator.{PrefixOperator}
use Rattle.expression.specs.declared.ExpressionFunction.{ExpressionFunction}
use Rattle.expression.specs.Trees.{Tree, number, leaf, function_call, prefixed, infixed, size}
use Rattle.expression.specs.Alike.{equal}
use Rattle.arms.specs.Looks.{is_number, number_in, is_negation, under, left, right}

-- What an arm wants. It is carried out from left to right, operands before their node, each node just before its own S call.
pub data Plan : Type 0 where
  the : Tree → Plan  -- a tree that is stored
  new : Tree → Plan  -- a tree whose operands are stored; it is stored now
  folded : InfixOperator → (x y : Complex) → Plan  -- the number that the operator gives for two numbers
  called : ExpressionFunction → (x : Complex) → Plan  -- the number that the function gives for a number
  negation : Plan → Plan  -- -e
  combined : InfixOperator → Plan → Plan → Plan  -- b op c
  S : Plan → Plan  -- simplified again
  lesser : Plan → Plan → Plan  -- min
  affine : (a x b : Tree) → Plan  -- S(S(S(a)*x)+S(b)), for new trees a and b; S(a) and S(b) first

-- an arm if its test holds, or else the arms after it
unfoldable pub arm_if : Bool → (arm rest : Plan) → Plan
arm_if test arm rest = cond test arm rest

-- min is `smaller`; "a `min_by_key` tie keeps the first"
unfoldable pub smaller : Tree → Tree → Tree
smaller t u = cond (ltb (size u) (size t)) u t

-- ---- what the arms write

abbrev pub constant : Complex → Plan
constant z = new (leaf (number z))

abbrev pub minus : Tree → Tree
minus t = prefixed PrefixOperator.Minus t

abbrev pub sum : Tree → Tree → Tree
sum = infixed InfixOperator.Plus

abbrev pub difference : Tree → Tree → Tree
difference = infixed InfixOperator.Minus

abbrev pub product : Tree → Tree → Tree
product = infixed InfixOperator.Star

abbrev pub quotient : Tree → Tree → Tree
quotient = infixed InfixOperator.Slash

-- ---- what the arms want, where it takes more than a line

-- 17. Two numbers: fold
abbrev pub folding : InfixOperator → Tree → Tree → Plan
folding op l r = folded op (number_in l) (number_in r)

-- inv of arm 31 and op' of arm 32: "+ for -, * for /, else op"
unfoldable pub uninverted : InfixOperator → InfixOperator
uninverted InfixOperator.Plus = InfixOperator.Plus
uninverted InfixOperator.Minus = InfixOperator.Plus
uninverted InfixOperator.Star = InfixOperator.Star
uninverted InfixOperator.Slash = InfixOperator.Star
uninverted InfixOperator.Caret = InfixOperator.Caret

-- 27. (p*q+b)+(p'*q'+b') with a shared factor, "tried as p=p', p=q', q=p', q=q'", "taken as p, p, q, q' in the four cases":
-- S(S(S(a+a')*x)+S(b+b')), "sums first"
unfoldable pub sharing : (p q p' q' bs : Tree) → Plan
sharing p q p' q' bs =
    arm_if (equal p p') (affine (sum q q') p bs)
    (arm_if (equal p q') (affine (sum q p') p bs)
    (arm_if (equal q p') (affine (sum p q') q bs)
    (affine (sum p p') q' bs)))

abbrev pub shared : Tree → Tree → Plan
shared l r = sharing (left (left l)) (right (left l)) (left (left r)) (right (left r)) (sum (right l) (right r))

-- ---- functions and prefixes

-- "Function: a number is folded, else rebuilt"
unfoldable pub function_plan : ExpressionFunction → Tree → Plan
function_plan f x = arm_if (is_number x) (called f (number_in x)) (new (function_call f x))

-- "Prefix + gives the child. Prefix - negates a number, strips an inner -, else rebuilds"
unfoldable pub minus_plan : Tree → Plan
minus_plan x = arm_if (is_number x) (constant (negated (number_in x))) (arm_if (is_negation x) (the (under x)) (new (minus x)))

unfoldable pub prefix_plan : PrefixOperator → Tree → Plan
prefix_plan PrefixOperator.Plus x = the x
prefix_plan PrefixOperator.Minus x = minus_plan x
