-- How a node stands in its row: its fields, and the node that fields are. Only connecting.
use Rattle.std.specs.Prelude.{ℕ, zero, suc, ◌%◌, ◌/◌}
use Rattle.complex.specs.Bits.{bits_of}
use Rattle.complex.specs.Constants.{of_parts}
use Rattle.expression.specs.Codes.{infix_code, prefix_code, function_code, infix_of, prefix_of, function_of}
use Rattle.expression.specs.declared.node.Expression.{Expression}
use Rattle.store.specs.declared.node.Fields.{Fields}
use Rattle.store.specs.Words.{code_of}

abbrev pub fields : ℕ → ℕ → ℕ → Fields
fields code first second = record { code = code; first = first; second = second }

abbrev pub fields_of : Expression → Fields
fields_of (Expression.Number z) = fields 1 (bits_of z.re) (bits_of z.im)
fields_of Expression.PiConstant = fields 2 0 0
fields_of (Expression.Variable v) = fields 3 v 0
fields_of (Expression.Address region index) = fields 4 region index
fields_of (Expression.FunctionCall f a) = fields (code_of 5 (function_code f)) a 0
fields_of (Expression.Prefix o a) = fields (code_of 6 (prefix_code o)) a 0
fields_of (Expression.Infix o a b) = fields (code_of 7 (infix_code o)) a b

-- by kind; the last stands for any other too
unfoldable pub expression_as : (kind operator first second : ℕ) → Expression
expression_as zero o a b = Expression.Infix (infix_of o) a b
expression_as (suc zero) o a b = Expression.Number (of_parts a b)
expression_as (suc (suc zero)) o a b = Expression.PiConstant
expression_as (suc (suc (suc zero))) o a b = Expression.Variable (a % 65536)
expression_as (suc (suc (suc (suc zero)))) o a b = Expression.Address (a % 65536) (b % 4294967296)
expression_as (suc (suc (suc (suc (suc zero))))) o a b = Expression.FunctionCall (function_of o) a
expression_as (suc (suc (suc (suc (suc (suc zero)))))) o a b = Expression.Prefix (prefix_of o) a
expression_as (suc (suc (suc (suc (suc (suc (suc k))))))) o a b = Expression.Infix (infix_of o) a b

unfoldable pub expression_of : Fields → Expression
expression_of f = expression_as (f.code % 8) (f.code / 8) f.first f.second
