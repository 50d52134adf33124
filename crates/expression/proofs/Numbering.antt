-- Operators and functions by number: there and back, and so the same number is the same operator. Assumes nothing.
use mathlib.Core.Path.{◌≡◌, refl, sym, ap, ◌∙◌}
use Prim.Native.Nat.{ℕ, ◌≤◌}
use mathlib.Core.List.{List, [], ◌∷◌}
use native.Mathlib.Omega.{arith}
use native.Mathlib.Decide.{ℕ_discrete}
use borrow.Author.Tests.{eq-eqb, ne_eqb}
use Rattle.expression.specs.declared.InfixOperator.{InfixOperator}
use Rattle.expression.specs.declared.PrefixOperator.{PrefixOperator}
use Rattle.expression.specs.declared.ExpressionFunction.{ExpressionFunction}
use Rattle.expression.specs.declared.refusal.Operation.{Operation}
use Rattle.expression.specs.Codes.{infix_code, prefix_code, function_code, operation_code, numbered, infix_of, prefix_of, function_of, operation_of}

-- a number that is none of these
abbrev pub Missed : {A : Type 0} → (code : A → ℕ) → List A → ℕ → Type 0
Missed code [] k = Unit {0}
Missed code (x ∷ xs) k = (k ≡ code x → ⊥) × Missed code xs k

-- what has a number has that number, if the last has it where the others have not
pub found_back : {A : Type 0} (code : A → ℕ) (xs : List A) (last : A) (k : ℕ) → (Missed code xs k → code last ≡ k) → code (numbered code xs last k) ≡ k
unfolding numbered
found_back code [] last k h = h tt
found_back code (x ∷ xs) last k h = elim (ℕ_discrete k (code x)) [
  | yes e ↦ rw (eq-eqb k (code x) e) (sym e)
  | no p ↦ rw (ne_eqb k (code x) p) (found_back code xs last k λ m. h (p, m))
]

-- ---- a number of each, and each by its number

pub infix_back : (o : InfixOperator) → infix_of (infix_code o) ≡ o
unfolding numbered
infix_back InfixOperator.Plus = refl
infix_back InfixOperator.Minus = refl
infix_back InfixOperator.Star = refl
infix_back InfixOperator.Slash = refl
infix_back InfixOperator.Caret = refl

pub prefix_back : (o : PrefixOperator) → prefix_of (prefix_code o) ≡ o
unfolding numbered
prefix_back PrefixOperator.Plus = refl
prefix_back PrefixOperator.Minus = refl

pub function_back : (f : ExpressionFunction) → function_of (function_code f) ≡ f
unfolding numbered
function_back ExpressionFunction.Sine = refl
function_back ExpressionFunction.Cosine = refl
function_back ExpressionFunction.Exponent = refl
function_back ExpressionFunction.SquareRoot = refl
function_back ExpressionFunction.Cis = refl

pub operation_back : (o : Operation) → operation_of (operation_code o) ≡ o
unfolding numbered
operation_back Operation.Sine = refl
operation_back Operation.Cosine = refl
operation_back Operation.Exponent = refl
operation_back Operation.SquareRoot = refl
operation_back Operation.Power = refl

pub same_infix : (o p : InfixOperator) → infix_code o ≡ infix_code p → o ≡ p
same_infix o p e = sym (infix_back o) ∙ ap infix_of e ∙ infix_back p

pub same_prefix : (o p : PrefixOperator) → prefix_code o ≡ prefix_code p → o ≡ p
same_prefix o p e = sym (prefix_back o) ∙ ap prefix_of e ∙ prefix_back p

pub same_function : (f g : ExpressionFunction) → function_code f ≡ function_code g → f ≡ g
same_function f g e = sym (function_back f) ∙ ap function_of e ∙ function_back g

-- ---- the numbers are 1 to 5, of prefixes 1 to 2, and each of these is one's

pub record Known (last c : ℕ) : Type 0 where
  pub least : 1 ≤ c
  pub most : c ≤ last

pub infix_known : (o : InfixOperator) → Known 5 (infix_code o)
infix_known InfixOperator.Plus = record { least = omega arith; most = omega arith }
infix_known InfixOperator.Minus = record { least = omega arith; most = omega arith }
infix_known InfixOperator.Star = record { least = omega arith; most = omega arith }
infix_known InfixOperator.Slash = record { least = omega arith; most = omega arith }
infix_known InfixOperator.Caret = record { least = omega arith; most = omega arith }

pub prefix_known : (o : PrefixOperator) → Known 2 (prefix_code o)
prefix_known PrefixOperator.Plus = record { least = omega arith; most = omega arith }
prefix_known PrefixOperator.Minus = record { least = omega arith; most = omega arith }

pub function_known : (f : ExpressionFunction) → Known 5 (function_code f)
function_known ExpressionFunction.Sine = record { least = omega arith; most = omega arith }
function_known ExpressionFunction.Cosine = record { least = omega arith; most = omega arith }
function_known ExpressionFunction.Exponent = record { least = omega arith; most = omega arith }
function_known ExpressionFunction.SquareRoot = record { least = omega arith; most = omega arith }
function_known ExpressionFunction.Cis = record { least = omega arith; most = omega arith }

pub operation_known : (o : Operation) → Known 5 (operation_code o)
operation_known Operation.Sine = record { least = omega arith; most = omega arith }
operation_known Operation.Cosine = record { least = omega arith; most = omega arith }
operation_known Operation.Exponent = record { least = omega arith; most = omega arith }
operation_known Operation.SquareRoot = record { least = omega arith; most = omega arith }
operation_known Operation.Power = record { least = omega arith; most = omega arith }

pub infix_code_back : (k : ℕ) → Known 5 k → infix_code (infix_of k) ≡ k
infix_code_back k h = found_back infix_code _ _ k λ m. omega (arith, h.least, h.most, m.0, m.1.0, m.1.1.0, m.1.1.1.0)

pub operation_code_back : (k : ℕ) → Known 5 k → operation_code (operation_of k) ≡ k
operation_code_back k h = found_back operation_code _ _ k λ m. omega (arith, h.least, h.most, m.0, m.1.0, m.1.1.0, m.1.1.1.0)

pub function_code_back : (k : ℕ) → Known 5 k → function_code (function_of k) ≡ k
function_code_back k h = found_back function_code _ _ k λ m. omega (arith, h.least, h.most, m.0, m.1.0, m.1.1.0, m.1.1.1.0)

pub prefix_code_back : (k : ℕ) → Known 2 k → prefix_code (prefix_of k) ≡ k
prefix_code_back k h = found_back prefix_code _ _ k λ m. omega (arith, h.least, h.most, m.0)
