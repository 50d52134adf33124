-- What every arm's plan has: at most four S calls, and no trees but those that the operands are made of. Assumes nothing.
use Prim.Native.Nat.{ℕ, ◌+◌, ◌≤◌}
use mathlib.Core.Path.{◌≡◌, refl, sym, subst}
use mathlib.Core.Bool.{Bool, true, false}
use native.Mathlib.Omega.{arith}
use Rattle.complex.specs.declared.Complex.{Complex}
use Rattle.complex.specs.Arithmetic.{negated}
use Rattle.complex.specs.Constants.{of_parts}
use Rattle.expression.specs.declared.InfixOperator.{InfixOperator}
use Rattle.expression.specs.declared.PrefixOperator.{PrefixOperator}
use Rattle.expression.specs.declared.ExpressionFunction.{ExpressionFunction}
use Rattle.expression.specs.Trees.{Tree, number, pi, variable, cell, leaf, function_call, prefixed, infixed}
use Rattle.arms.specs.Looks.{is_number_of, is_number, number_in, under, left, right}
use Rattle.arms.specs.Arms.{Plan, arm_if, uninverted, sharing, function_plan, minus_plan, prefix_plan, the, new, folded, called, negation, combined, S, lesser, affine, minus}
use Rattle.arms.specs.Ordered.{infix_plan}
use Rattle.arms.specs.Tables.{grouped_right, grouped, moved, affine_sum, sum_plan, signed_difference, difference_plan, signed_product, distributed, product_plan, signed_quotient, split, cancelled, quotient_plan, power_plan, table_plan}
use Rattle.arms.proofs.Looking.{never}
use Rattle.arms.proofs.Ordered.{by_tables}

-- how many S calls a plan has
unfoldable pub weight : Plan → ℕ
weight (the t) = 0
weight (new t) = 0
weight (folded op x y) = 0
weight (called f x) = 0
weight (negation p) = weight p
weight (combined op p q) = weight p + weight q
weight (S p) = weight p + 1
weight (lesser p q) = weight p + weight q
weight (affine a x b) = 4

-- the trees of a plan that are taken as they are are such as P says, those that it stores such as Q says
unfoldable pub Over : (P Q : Tree → Type 0) → Plan → Type 0
Over P Q (the t) = P t
Over P Q (new t) = Q t
Over P Q (folded op x y) = Unit {0}
Over P Q (called f x) = Unit {0}
Over P Q (negation p) = Over P Q p
Over P Q (combined op p q) = Over P Q p × Over P Q q
Over P Q (S p) = Over P Q p
Over P Q (lesser p q) = Over P Q p × Over P Q q
Over P Q (affine a x b) = Q a × P x × Q b

-- P is so of the parts of such trees, and Q of what is made of them, of every constant, and of a number's opposite
pub record Closed (P Q : Tree → Type 0) : Type 0 where
  pub numeral : (a b : ℕ) → Q (leaf (number (of_parts a b)))
  pub opposite : {z : Complex} → P (leaf (number z)) → Q (leaf (number (negated z)))
  pub call : (f : ExpressionFunction) {t : Tree} → P t → Q (function_call f t)
  pub minus_of : {t : Tree} → P t → Q (minus t)
  pub infix_of : (op : InfixOperator) {t u : Tree} → P t → P u → Q (infixed op t u)
  pub call_part : {f : ExpressionFunction} {t : Tree} → P (function_call f t) → P t
  pub prefix_part : {o : PrefixOperator} {t : Tree} → P (prefixed o t) → P t
  pub infix_parts : {op : InfixOperator} {t u : Tree} → P (infixed op t u) → P t × P u

pub record Fine (P Q : Tree → Type 0) (p : Plan) : Type 0 where
  pub light : weight p ≤ 4
  pub over : Over P Q p

fine_told : {P Q : Tree → Type 0} (b : Bool) (p q : Plan) → (b ≡ true → Fine P Q p) → Fine P Q q → Fine P Q (arm_if b p q)
unfolding arm_if
fine_told true p q x y = x refl
fine_told false p q x y = y

fine_if : {P Q : Tree → Type 0} (b : Bool) (p q : Plan) → Fine P Q p → Fine P Q q → Fine P Q (arm_if b p q)
fine_if b p q x y = fine_told b p q (λ _. x) y

module _ (P Q : Tree → Type 0) (c : Closed P Q) where
  under_of : (t : Tree) → P t → P (under t)
  unfolding under
  under_of (leaf l) x = x
  under_of (function_call f t) x = c.call_part x
  under_of (prefixed o t) x = c.prefix_part x
  under_of (infixed o l r) x = (c.infix_parts x).0

  left_of : (t : Tree) → P t → P (left t)
  unfolding left
  left_of (leaf l) x = x
  left_of (function_call f t) x = c.call_part x
  left_of (prefixed o t) x = c.prefix_part x
  left_of (infixed o l r) x = (c.infix_parts x).0

  right_of : (t : Tree) → P t → P (right t)
  unfolding right
  right_of (leaf l) x = x
  right_of (function_call f t) x = c.call_part x
  right_of (prefixed o t) x = c.prefix_part x
  right_of (infixed o l r) x = (c.infix_parts x).1

  opposite_of : (t : Tree) → is_number t ≡ true → P t → Q (leaf (number (negated (number_in t))))
  unfolding is_number_of number_in
  opposite_of (leaf (number z)) e x = c.opposite x
  opposite_of (leaf pi) e x = never e
  opposite_of (leaf (variable v)) e x = never e
  opposite_of (leaf (cell region index)) e x = never e
  opposite_of (function_call f t) e x = never e
  opposite_of (prefixed o t) e x = never e
  opposite_of (infixed o l r) e x = never e

  fine_right : (op : InfixOperator) (l r : Tree) → P l → P r → Fine P Q (grouped_right op l r)
  unfolding grouped_right weight Over
  fine_right op l r x y = fine_if _ _ _ (record { light = omega arith; over = (c.infix_of op (x) (y), (c.infix_of (uninverted op) (x) (right_of r y), left_of r y)) }) (record { light = omega arith; over = (c.infix_of op (x) (y), (c.infix_of op (x) (left_of r y), right_of r y)) })

  fine_grouped : (op : InfixOperator) (l r : Tree) → P l → P r → Fine P Q (grouped op l r)
  unfolding grouped weight Over
  fine_grouped op l r x y = fine_if _ _ _ (fine_right op l r x y) (record { light = omega arith; over = (c.infix_of op (x) (y), (left_of l x, c.infix_of op (right_of l x) (y))) })

  fine_moved : (op : InfixOperator) (l r : Tree) → P l → P r → Fine P Q (moved op l r)
  unfolding moved weight Over
  fine_moved op l r x y = fine_if _ _ _ (record { light = omega arith; over = (c.infix_of InfixOperator.Star (x) (y), (c.minus_of x, under_of r y)) }) (record { light = omega arith; over = (c.infix_of InfixOperator.Star (x) (y), (under_of l x, c.minus_of y)) })

  fine_sharing : (p q p' q' bs : Tree) → P p → P q → P p' → P q' → Q bs → Fine P Q (sharing p q p' q' bs)
  unfolding sharing weight Over
  fine_sharing p q p' q' bs x y x' y' z = fine_if _ _ _ (record { light = omega arith; over = (c.infix_of InfixOperator.Plus y y', x, z) }) (fine_if _ _ _ (record { light = omega arith; over = (c.infix_of InfixOperator.Plus y x', x, z) }) (fine_if _ _ _ (record { light = omega arith; over = (c.infix_of InfixOperator.Plus x y', y, z) }) (record { light = omega arith; over = (c.infix_of InfixOperator.Plus x x', y', z) })))

  fine_affine : (l r : Tree) → P l → P r → Fine P Q (affine_sum l r)
  unfolding affine_sum weight Over
  fine_affine l r x y = fine_if _ _ _ (fine_sharing _ _ _ _ _ (left_of (left l) (left_of l x)) (right_of (left l) (left_of l x)) (left_of (left r) (left_of r y)) (right_of (left r) (left_of r y)) (c.infix_of InfixOperator.Plus (right_of l x) (right_of r y))) (fine_if _ _ _ (record { light = omega arith; over = (c.infix_of InfixOperator.Plus (left_of l x) (left_of r y), right_of l x) }) (fine_if _ _ _ (record { light = omega arith; over = ((c.numeral _ _, left_of l x), c.infix_of InfixOperator.Plus (right_of l x) (right_of r y)) }) (fine_if _ _ _ (fine_grouped InfixOperator.Plus l r x y) (record { light = omega arith; over = c.infix_of InfixOperator.Plus (x) (y) }))))

  fine_sum : (l r : Tree) → P l → P r → Fine P Q (sum_plan l r)
  unfolding sum_plan weight Over
  fine_sum l r x y = fine_if _ _ _ (record { light = omega arith; over = y }) (fine_if _ _ _ (record { light = omega arith; over = x }) (fine_if _ _ _ (record { light = omega arith; over = tt }) (fine_if _ _ _ (record { light = omega arith; over = c.infix_of InfixOperator.Minus (x) (under_of r y) }) (fine_if _ _ _ (record { light = omega arith; over = c.infix_of InfixOperator.Minus (y) (under_of l x) }) (fine_affine l r x y)))))

  fine_signed_difference : (l r : Tree) → P l → P r → Fine P Q (signed_difference l r)
  unfolding signed_difference weight Over
  fine_signed_difference l r x y = fine_if _ _ _ (record { light = omega arith; over = c.infix_of InfixOperator.Plus (x) (under_of r y) }) (fine_if _ _ _ (record { light = omega arith; over = (c.infix_of InfixOperator.Minus (x) (y), c.infix_of InfixOperator.Plus (under_of l x) (y)) }) (fine_if _ _ _ (fine_grouped InfixOperator.Minus l r x y) (record { light = omega arith; over = c.infix_of InfixOperator.Minus (x) (y) })))

  fine_difference : (l r : Tree) → P l → P r → Fine P Q (difference_plan l r)
  unfolding difference_plan weight Over
  fine_difference l r x y = fine_if _ _ _ (record { light = omega arith; over = c.minus_of y }) (fine_if _ _ _ (record { light = omega arith; over = x }) (fine_if _ _ _ (record { light = omega arith; over = c.numeral _ _ }) (fine_if _ _ _ (record { light = omega arith; over = tt }) (fine_signed_difference l r x y))))

  fine_signed_product : (l r : Tree) → P l → P r → Fine P Q (signed_product l r)
  unfolding signed_product weight Over
  fine_signed_product l r x y = fine_if _ _ _ (record { light = omega arith; over = c.infix_of InfixOperator.Star (under_of l x) (under_of r y) }) (fine_moved InfixOperator.Star l r x y)

  fine_distributed : (l r : Tree) → P l → P r → Fine P Q (distributed l r)
  unfolding distributed weight Over
  fine_distributed l r x y = fine_if _ _ _ (record { light = omega arith; over = (c.infix_of InfixOperator.Star (x) (y), (c.infix_of InfixOperator.Star (x) (left_of r y), c.infix_of InfixOperator.Star (x) (right_of r y))) }) (fine_if _ _ _ (record { light = omega arith; over = (c.infix_of InfixOperator.Star (x) (y), (c.infix_of InfixOperator.Star (left_of l x) (y), c.infix_of InfixOperator.Star (right_of l x) (y))) }) (fine_if _ _ _ (record { light = omega arith; over = left_of l x }) (fine_if _ _ _ (record { light = omega arith; over = left_of r y }) (record { light = omega arith; over = c.infix_of InfixOperator.Star (x) (y) }))))

  fine_product : (l r : Tree) → P l → P r → Fine P Q (product_plan l r)
  unfolding product_plan weight Over
  fine_product l r x y = fine_if _ _ _ (record { light = omega arith; over = c.numeral _ _ }) (fine_if _ _ _ (record { light = omega arith; over = y }) (fine_if _ _ _ (record { light = omega arith; over = x }) (fine_if _ _ _ (record { light = omega arith; over = tt }) (fine_if _ _ _ (fine_signed_product l r x y) (fine_if _ _ _ (fine_grouped InfixOperator.Star l r x y) (fine_distributed l r x y))))))

  fine_signed_quotient : (l r : Tree) → P l → P r → Fine P Q (signed_quotient l r)
  unfolding signed_quotient weight Over
  fine_signed_quotient l r x y = fine_if _ _ _ (record { light = omega arith; over = c.infix_of InfixOperator.Slash (under_of l x) (under_of r y) }) (fine_if _ _ _ (record { light = omega arith; over = c.numeral _ _ }) (fine_if _ _ _ (record { light = omega arith; over = c.numeral _ _ }) (fine_moved InfixOperator.Slash l r x y)))

  fine_split : (l r : Tree) → P l → P r → Fine P Q (split l r)
  unfolding split weight Over
  fine_split l r x y = fine_if _ _ _ (record { light = omega arith; over = (c.infix_of InfixOperator.Slash (x) (y), (left_of l x, c.infix_of InfixOperator.Slash (right_of l x) (y))) }) (fine_if _ _ _ (record { light = omega arith; over = (c.infix_of InfixOperator.Slash (x) (y), (c.infix_of InfixOperator.Slash (x) (left_of r y), right_of r y)) }) (record { light = omega arith; over = c.infix_of InfixOperator.Slash (x) (y) }))

  fine_cancelled : (l r : Tree) → P l → P r → Fine P Q (cancelled l r)
  unfolding cancelled weight Over
  fine_cancelled l r x y = fine_if _ _ _ (record { light = omega arith; over = right_of l x }) (fine_if _ _ _ (record { light = omega arith; over = left_of l x }) (fine_if _ _ _ (record { light = omega arith; over = (c.numeral _ _, right_of r y) }) (fine_if _ _ _ (record { light = omega arith; over = (c.numeral _ _, left_of r y) }) (fine_split l r x y))))

  fine_quotient : (l r : Tree) → P l → P r → Fine P Q (quotient_plan l r)
  unfolding quotient_plan weight Over
  fine_quotient l r x y = fine_if _ _ _ (record { light = omega arith; over = c.numeral _ _ }) (fine_if _ _ _ (record { light = omega arith; over = c.numeral _ _ }) (fine_if _ _ _ (record { light = omega arith; over = x }) (fine_if _ _ _ (record { light = omega arith; over = c.numeral _ _ }) (fine_if _ _ _ (record { light = omega arith; over = tt }) (fine_if _ _ _ (fine_signed_quotient l r x y) (fine_if _ _ _ (fine_grouped InfixOperator.Slash l r x y) (fine_cancelled l r x y)))))))

  fine_power : (l r : Tree) → P l → P r → Fine P Q (power_plan l r)
  unfolding power_plan weight Over
  fine_power l r x y = fine_if _ _ _ (record { light = omega arith; over = c.numeral _ _ }) (fine_if _ _ _ (record { light = omega arith; over = c.numeral _ _ }) (fine_if _ _ _ (record { light = omega arith; over = c.numeral _ _ }) (fine_if _ _ _ (record { light = omega arith; over = x }) (fine_if _ _ _ (record { light = omega arith; over = tt }) (record { light = omega arith; over = c.infix_of InfixOperator.Caret (x) (y) })))))

  fine_table : (op : InfixOperator) (l r : Tree) → P l → P r → Fine P Q (table_plan op l r)
  unfolding table_plan
  fine_table InfixOperator.Plus l r x y = fine_sum l r x y
  fine_table InfixOperator.Minus l r x y = fine_difference l r x y
  fine_table InfixOperator.Star l r x y = fine_product l r x y
  fine_table InfixOperator.Slash l r x y = fine_quotient l r x y
  fine_table InfixOperator.Caret l r x y = fine_power l r x y

  pub fine_infix : (op : InfixOperator) (l r : Tree) → P l → P r → Fine P Q (infix_plan op l r)
  fine_infix op l r x y = subst (Fine P Q) (sym (by_tables op l r)) (fine_table op l r x y)

  pub fine_function : (f : ExpressionFunction) (t : Tree) → P t → Fine P Q (function_plan f t)
  unfolding function_plan weight Over
  fine_function f t x = fine_if _ _ _ (record { light = omega arith; over = tt }) (record { light = omega arith; over = c.call f x })

  fine_minus : (t : Tree) → P t → Fine P Q (minus_plan t)
  unfolding minus_plan weight Over
  fine_minus t x =
      fine_told _ _ _ (λ e. record { light = omega arith; over = opposite_of t e x })
      (fine_if _ _ _ (record { light = omega arith; over = under_of t x }) (record { light = omega arith; over = c.minus_of x }))

  pub fine_prefix : (o : PrefixOperator) (t : Tree) → P t → Fine P Q (prefix_plan o t)
  unfolding prefix_plan weight Over
  fine_prefix PrefixOperator.Plus t x = record { light = omega arith; over = x }
  fine_prefix PrefixOperator.Minus t x = fine_minus t x
