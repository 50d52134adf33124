-- The bytes of each kind of line, in the pieces in which they are written, and their lengths; and which line is that of a row. Assumes nothing.
use mathlib.Core.Path.{◌≡◌, refl, sym, ◌∙◌}
use mathlib.Core.List.{List, [], ◌∷◌, ◌++◌, append_assoc}
use Prim.Native.Nat.{ℕ, zero, suc, ◌+◌, ◌%◌, ◌/◌, ◌≤◌, ◌<◌}
use native.Mathlib.Omega.{arith}
use lib.ListN.{length, get_or, length-append}
use Rattle.complex.specs.declared.Complex.{Complex}
use Rattle.complex.specs.Bits.{bits_of}
use Rattle.complex.specs.Constants.{of_parts}
use Rattle.expression.specs.declared.InfixOperator.{InfixOperator}
use Rattle.expression.specs.declared.PrefixOperator.{PrefixOperator}
use Rattle.expression.specs.declared.ExpressionFunction.{ExpressionFunction}
use Rattle.expression.specs.Codes.{infix_code, prefix_code, function_code, infix_of, prefix_of, function_of}
use Rattle.expression.specs.declared.node.Expression.{Expression}
use Rattle.expression.specs.Nodes.{operands_of, with_operands}
use Rattle.store.specs.declared.node.Fields.{Fields}
use Rattle.store.specs.Nodes.{expression_as, expression_of}
use Rattle.store.specs.Memory.{Memory, fields_at, expression_at}
use Rattle.listing.specs.Tables.{moved_to, moved}
use Rattle.text.specs.Writing.{in_decimal, in_hex, line}
use Rattle.text.specs.Put.{Put}
use Rattle.text.proofs.Putting.{hex_length, few_digits}
use Rattle.spelling.specs.Names.{function_names, prefix_names, infix_names, named}
use Rattle.writing.specs.Order.{leaf_fields}
use Rattle.writing.specs.Ordering.{text_fields, line_text, line_at}

-- a field and the byte that ends it
abbrev pub ending : List ℕ → ℕ → List ℕ
ending field stop = field ++ (stop ∷ [])

then_rest : (a : List ℕ) (x : ℕ) (b : List ℕ) → a ++ (x ∷ b) ≡ ending a x ++ b
then_rest a x b = sym (append_assoc a (x ∷ []) b)

ending_length : (a : List ℕ) (x : ℕ) → length (ending a x) ≡ length a + 1
ending_length a x = length-append a (x ∷ [])

two_fields : (a b : List ℕ) → length (ending a 9 ++ ending b 10) ≡ length a + length b + 2
two_fields a b = length-append (ending a 9) (ending b 10) ∙ omega (arith, ending_length a 9, ending_length b 10)

pub number_text : (z : Complex) → line_text (Expression.Number z) ≡ (110 ∷ 9 ∷ []) ++ (ending (in_hex (bits_of z.re)) 9 ++ ending (in_hex (bits_of z.im)) 10)
unfolding line_text text_fields leaf_fields line
number_text z = rw (then_rest (in_hex (bits_of z.re)) 9 (ending (in_hex (bits_of z.im)) 10))

pub number_length : (z : Complex) → length (line_text (Expression.Number z)) ≡ 36
number_length z = rw (number_text z) (omega (arith, two_fields (in_hex (bits_of z.re)) (in_hex (bits_of z.im)), hex_length (bits_of z.re), hex_length (bits_of z.im)))

pub pi_text : line_text Expression.PiConstant ≡ (112 ∷ []) ++ (10 ∷ [])
unfolding line_text text_fields leaf_fields line
pi_text = refl

pub pi_length : length (line_text Expression.PiConstant) ≡ 2
pi_length = rw pi_text

pub variable_text : (v : ℕ) → line_text (Expression.Variable v) ≡ (118 ∷ 9 ∷ []) ++ ending (in_decimal v) 10
unfolding line_text text_fields leaf_fields line
variable_text v = refl

pub variable_length : (v : ℕ) → length (line_text (Expression.Variable v)) ≡ length (in_decimal v) + 3
variable_length v = rw (variable_text v) (omega (arith, ending_length (in_decimal v) 10))

pub cell_text : (r i : ℕ) → line_text (Expression.Address r i) ≡ (109 ∷ 9 ∷ []) ++ (ending (in_decimal r) 9 ++ ending (in_decimal i) 10)
unfolding line_text text_fields leaf_fields line
cell_text r i = rw (then_rest (in_decimal r) 9 (ending (in_decimal i) 10))

pub cell_length : (r i : ℕ) → length (line_text (Expression.Address r i)) ≡ length (in_decimal r) + length (in_decimal i) + 4
cell_length r i = rw (cell_text r i) (omega (arith, two_fields (in_decimal r) (in_decimal i)))

pub call_text : (f : ExpressionFunction) (a : ℕ) → line_text (Expression.FunctionCall f a) ≡ (102 ∷ 9 ∷ []) ++ (ending (named function_names (function_code f)) 9 ++ ending (in_decimal a) 10)
unfolding line_text text_fields line
call_text f a = rw (then_rest (named function_names (function_code f)) 9 (ending (in_decimal a) 10))

pub call_length : (f : ExpressionFunction) (a : ℕ) → length (line_text (Expression.FunctionCall f a)) ≡ length (named function_names (function_code f)) + length (in_decimal a) + 4
call_length f a = rw (call_text f a) (omega (arith, two_fields (named function_names (function_code f)) (in_decimal a)))

pub name_room : (f : ExpressionFunction) → length (ending (named function_names (function_code f)) 9) ≡ length (named function_names (function_code f)) + 1
name_room f = ending_length (named function_names (function_code f)) 9

pub field_room : (n x : ℕ) → length (ending (in_decimal n) x) ≡ length (in_decimal n) + 1
field_room n x = ending_length (in_decimal n) x

pub prefix_text : (o : PrefixOperator) (b a : ℕ) → named prefix_names (prefix_code o) ≡ b ∷ [] → line_text (Expression.Prefix o a) ≡ (117 ∷ 9 ∷ []) ++ ((b ∷ 9 ∷ []) ++ ending (in_decimal a) 10)
unfolding line_text text_fields line
prefix_text o b a e = rw e

prefix_letter : (o : PrefixOperator) → length (named prefix_names (prefix_code o)) ≡ 1
prefix_letter PrefixOperator.Plus = refl
prefix_letter PrefixOperator.Minus = refl

pub prefix_length : (o : PrefixOperator) (a : ℕ) → length (line_text (Expression.Prefix o a)) ≡ length (in_decimal a) + 5
unfolding line_text text_fields line
prefix_length o a = rw (then_rest (named prefix_names (prefix_code o)) 9 (ending (in_decimal a) 10)) (omega (arith, two_fields (named prefix_names (prefix_code o)) (in_decimal a), prefix_letter o))

pub infix_text : (o : InfixOperator) (x a b : ℕ) → named infix_names (infix_code o) ≡ x ∷ []
    → line_text (Expression.Infix o a b) ≡ (98 ∷ 9 ∷ []) ++ ((x ∷ 9 ∷ []) ++ (ending (in_decimal a) 9 ++ ending (in_decimal b) 10))
unfolding line_text text_fields line
infix_text o x a b e = rw (e, then_rest (in_decimal a) 9 (ending (in_decimal b) 10))

infix_letter : (o : InfixOperator) → length (named infix_names (infix_code o)) ≡ 1
infix_letter InfixOperator.Plus = refl
infix_letter InfixOperator.Minus = refl
infix_letter InfixOperator.Star = refl
infix_letter InfixOperator.Slash = refl
infix_letter InfixOperator.Caret = refl

pub infix_length : (o : InfixOperator) (a b : ℕ) → length (line_text (Expression.Infix o a b)) ≡ length (in_decimal a) + length (in_decimal b) + 6
unfolding line_text text_fields line
infix_length o a b =
    rw (then_rest (named infix_names (infix_code o)) 9 (in_decimal a ++ (9 ∷ ending (in_decimal b) 10)), then_rest (in_decimal a) 9 (ending (in_decimal b) 10))
    (omega (arith, length-append (ending (named infix_names (infix_code o)) 9) (ending (in_decimal a) 9 ++ ending (in_decimal b) 10), ending_length (named infix_names (infix_code o)) 9, two_fields (in_decimal a) (in_decimal b), infix_letter o))

-- ---- no line is long

pub name_short : (f : ExpressionFunction) → length (named function_names (function_code f)) ≤ 4
name_short ExpressionFunction.Sine = omega arith
name_short ExpressionFunction.Cosine = omega arith
name_short ExpressionFunction.Exponent = omega arith
name_short ExpressionFunction.SquareRoot = omega arith
name_short ExpressionFunction.Cis = omega arith

pub decimal_short : (n : ℕ) → n < 18446744073709551616 → length (in_decimal n) ≤ 20
decimal_short n h = few_digits 19 n (omega (arith, h))

pub number_short : (z : Complex) → length (line_text (Expression.Number z)) ≤ 64
number_short z = omega (arith, number_length z)

pub pi_short : length (line_text Expression.PiConstant) ≤ 64
pi_short = omega (arith, pi_length)

pub variable_short : (v : ℕ) → v < 18446744073709551616 → length (line_text (Expression.Variable v)) ≤ 64
variable_short v h = omega (arith, variable_length v, decimal_short v h)

pub cell_short : (r i : ℕ) → r < 18446744073709551616 → i < 18446744073709551616 → length (line_text (Expression.Address r i)) ≤ 64
cell_short r i h o = omega (arith, cell_length r i, decimal_short r h, decimal_short i o)

pub call_short : (f : ExpressionFunction) (a : ℕ) → a < 18446744073709551616 → length (line_text (Expression.FunctionCall f a)) ≤ 64
call_short f a h = omega (arith, call_length f a, decimal_short a h, name_short f)

pub prefix_short : (o : PrefixOperator) (a : ℕ) → a < 18446744073709551616 → length (line_text (Expression.Prefix o a)) ≤ 64
prefix_short o a h = omega (arith, prefix_length o a, decimal_short a h)

pub infix_short : (o : InfixOperator) (a b : ℕ) → a < 18446744073709551616 → b < 18446744073709551616 → length (line_text (Expression.Infix o a b)) ≤ 64
infix_short o a b h k = omega (arith, infix_length o a b, decimal_short a h, decimal_short b k)

pub short_room : (e : Expression) (at : ℕ) {room : ℕ} → length (line_text e) ≤ 64 → at + 64 ≤ room → at + length (line_text e) ≤ room
short_room e at s h = omega (arith, s, h)

-- for an operator's line by the lengths of its numbers: each operator is one byte
pub prefix_room : (a at : ℕ) {room : ℕ} → a < 18446744073709551616 → at + 64 ≤ room → at + (length (in_decimal a) + 5) ≤ room
prefix_room a at h k = omega (arith, decimal_short a h, k)

pub infix_room : (a b at : ℕ) {room : ℕ} → a < 18446744073709551616 → b < 18446744073709551616 → at + 64 ≤ room → at + (length (in_decimal a) + length (in_decimal b) + 6) ≤ room
infix_room a b at h i k = omega (arith, decimal_short a h, decimal_short b i, k)

-- ---- the line of a row, by its kind

module _ (links : List ℕ) (f : Fields) where
  pub row_number : {z : Complex} → f.code % 8 ≡ 1 → z ≡ of_parts f.first f.second → Expression.Number z ≡ moved links (expression_of f)
  unfolding expression_of expression_as moved_to operands_of
  row_number k q = rw (k, q) refl

  pub row_pi : f.code % 8 ≡ 2 → Expression.PiConstant ≡ moved links (expression_of f)
  unfolding expression_of expression_as moved_to operands_of
  row_pi k = rw k refl

  pub row_variable : f.code % 8 ≡ 3 → Expression.Variable (f.first % 65536) ≡ moved links (expression_of f)
  unfolding expression_of expression_as moved_to operands_of
  row_variable k = rw k refl

  pub row_cell : f.code % 8 ≡ 4 → Expression.Address (f.first % 65536) (f.second % 4294967296) ≡ moved links (expression_of f)
  unfolding expression_of expression_as moved_to operands_of
  row_cell k = rw k refl

  pub row_call : {g : ExpressionFunction} {a : ℕ} → f.code % 8 ≡ 5 → g ≡ function_of (f.code / 8) → a ≡ get_or links f.first 0 → Expression.FunctionCall g a ≡ moved links (expression_of f)
  unfolding expression_of expression_as moved_to operands_of with_operands
  row_call k q p = rw (k, q, p) refl

  pub row_prefix : {o : PrefixOperator} {a : ℕ} → f.code % 8 ≡ 6 → o ≡ prefix_of (f.code / 8) → a ≡ get_or links f.first 0 → Expression.Prefix o a ≡ moved links (expression_of f)
  unfolding expression_of expression_as moved_to operands_of with_operands
  row_prefix k q p = rw (k, q, p) refl

  -- the last stands for any other too
  moved_infix : (k o a b : ℕ)
      → ((((((Unit {0} × (k ≡ 1 → ⊥)) × (k ≡ 2 → ⊥)) × (k ≡ 3 → ⊥)) × (k ≡ 4 → ⊥)) × (k ≡ 5 → ⊥)) × (k ≡ 6 → ⊥))
      → Expression.Infix (infix_of o) (get_or links a 0) (get_or links b 0) ≡ moved links (expression_as k o a b)
  unfolding expression_as moved_to operands_of with_operands
  moved_infix zero o a b h = refl
  moved_infix (suc zero) o a b h = absurd (h.0.0.0.0.0.1 refl)
  moved_infix (suc (suc zero)) o a b h = absurd (h.0.0.0.0.1 refl)
  moved_infix (suc (suc (suc zero))) o a b h = absurd (h.0.0.0.1 refl)
  moved_infix (suc (suc (suc (suc zero)))) o a b h = absurd (h.0.0.1 refl)
  moved_infix (suc (suc (suc (suc (suc zero))))) o a b h = absurd (h.0.1 refl)
  moved_infix (suc (suc (suc (suc (suc (suc zero)))))) o a b h = absurd (h.1 refl)
  moved_infix (suc (suc (suc (suc (suc (suc (suc k))))))) o a b h = refl

  pub row_infix : {o : InfixOperator} {a b : ℕ}
      → ((((((Unit {0} × (f.code % 8 ≡ 1 → ⊥)) × (f.code % 8 ≡ 2 → ⊥)) × (f.code % 8 ≡ 3 → ⊥)) × (f.code % 8 ≡ 4 → ⊥)) × (f.code % 8 ≡ 5 → ⊥)) × (f.code % 8 ≡ 6 → ⊥))
      → o ≡ infix_of (f.code / 8) → a ≡ get_or links f.first 0 → b ≡ get_or links f.second 0 → Expression.Infix o a b ≡ moved links (expression_of f)
  unfolding expression_of
  row_infix h q p p' = rw (q, p, p') (moved_infix (f.code % 8) (f.code / 8) f.first f.second h)

  pub row_written : {e : Expression} {out out' : List ℕ} {at next : ℕ} → e ≡ moved links (expression_of f) → length (line_text e) ≤ 64 → Put out at (line_text e) next out'
      → Put out at (line_text (moved links (expression_of f))) next out' × (next ≤ at + 64)
  row_written q s p = (rw (← q) p, omega (arith, s, p.place))

-- and it is short
pub row_short : (e : Expression) {out out' : List ℕ} {at next : ℕ} → length (line_text e) ≤ 64 → Put out at (line_text e) next out' → next ≤ at + 64
row_short e s p = omega (arith, s, p.place)

-- and of the row of a line
pub row_line : (rows : Memory) (table : List ℕ) (i : ℕ) {f : Fields} {node : ℕ} → f ≡ fields_at rows node → node ≡ get_or table i 0 → moved rows.link (expression_of f) ≡ line_at rows table i
unfolding line_at expression_at
row_line rows table i p q = rw (p, q) refl
