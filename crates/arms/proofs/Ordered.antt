-- 01's list has 41 arms, and the first match in it, which is the plan of an operation, is what the code's tables of the operators choose. Assumes
-- nothing.
use mathlib.Core.Path.{◌≡◌, refl, sym, ◌∙◌}
use mathlib.Core.Bool.{Bool, true, false, cond, ◌&&◌, ◌||◌}
use lib.ListN.{length}
use Rattle.complex.specs.Constants.{one_number}
use Rattle.expression.specs.declared.InfixOperator.{InfixOperator}
use Rattle.expression.specs.Trees.{Tree, infixed}
use Rattle.expression.specs.Alike.{equal}
use Rattle.arms.specs.Looks.{is_infix, left, right}
use Rattle.arms.specs.Arms.{Plan, the, new, combined, S, arm_if, constant}
use Rattle.arms.specs.Tables.{both_hold, either_holds, begins_with, ends_with, is_inverse, grouped_right, grouped, moved, affine_sum, sum_plan, signed_difference, difference_plan, signed_product, distributed, product_plan, signed_quotient, split, cancelled, quotient_plan, power_plan, table_plan}
use Rattle.arms.specs.Ordered.{first_match, other_factor, arms, infix_plan}

pub forty_one : (op : InfixOperator) (l r : Tree) → length (arms op l r) ≡ 41
unfolding arms
forty_one op l r = refl

-- ---- arms that a table tries behind a test for all of them are tried without it

-- 30 or 31, and 32
regrouped : (a b : Bool) (x y z : Plan) → arm_if (either_holds a b) (arm_if b x y) z ≡ arm_if b x (arm_if a y z)
unfolding arm_if either_holds
regrouped true true x y z = refl
regrouped true false x y z = refl
regrouped false true x y z = refl
regrouped false false x y z = refl

-- 22, 25, 26
signed : (a b : Bool) (u x y z : Plan) → arm_if (either_holds a b) (arm_if (both_hold a b) u (arm_if b x y)) z ≡ arm_if (both_hold a b) u (arm_if b x (arm_if a y z))
unfolding arm_if either_holds both_hold
signed true true u x y z = refl
signed true false u x y z = refl
signed false true u x y z = refl
signed false false u x y z = refl

-- 22 to 26
signed_or_cancelled : (a b c d : Bool) (u v w x y z : Plan)
    → arm_if (either_holds a b) (arm_if (both_hold a b) u (arm_if (both_hold b c) v (arm_if (both_hold a d) w (arm_if b x y)))) z
    ≡ arm_if (both_hold a b) u (arm_if (both_hold b c) v (arm_if (both_hold a d) w (arm_if b x (arm_if a y z))))
unfolding arm_if either_holds both_hold
signed_or_cancelled true true c d u v w x y z = refl
signed_or_cancelled true false c d u v w x y z = refl
signed_or_cancelled false true c d u v w x y z = refl
signed_or_cancelled false false c d u v w x y z = refl

-- 35 and 36, an arm of two forms
two_forms : (f : Tree → Plan) (a b c : Bool) (s t : Tree) (z : Plan)
    → arm_if (both_hold a b) (f s) (arm_if (both_hold a c) (f t) z) ≡ arm_if (a && (b || c)) (f (cond b s t)) z
unfolding arm_if both_hold
two_forms f true true c s t z = refl
two_forms f true false c s t z = refl
two_forms f false b c s t z = refl

either_factor : (f : Tree → Plan) (t s : Tree) (z : Plan)
    → arm_if (begins_with InfixOperator.Star t s) (f (right t)) (arm_if (ends_with InfixOperator.Star t s) (f (left t)) z)
    ≡ arm_if (is_infix InfixOperator.Star t && (equal (left t) s || equal (right t) s)) (f (other_factor t s)) z
either_factor f t s = two_forms f _ _ _ _ _

-- S(1/o)
abbrev inverse : Tree → Plan
inverse o = S (combined InfixOperator.Slash (constant one_number) (the o))

-- ---- the first match

-- whatever is said for no match, since there is none
pub first_match_lem : (op : InfixOperator) (l r : Tree) (unmatched : Plan) → first_match unmatched (arms op l r) ≡ table_plan op l r
unfolding first_match arms is_inverse grouped_right grouped moved affine_sum sum_plan signed_difference difference_plan signed_product distributed product_plan signed_quotient split cancelled quotient_plan power_plan table_plan
first_match_lem InfixOperator.Plus l r unmatched = rw regrouped (unfold arm_if both_hold either_holds in refl)
first_match_lem InfixOperator.Minus l r unmatched = rw regrouped (unfold arm_if both_hold in refl)
first_match_lem InfixOperator.Star l r unmatched = rw (signed, regrouped) (unfold arm_if both_hold either_holds in refl)
first_match_lem InfixOperator.Slash l r unmatched = rw (signed_or_cancelled, regrouped, either_factor the l r, either_factor inverse r l) (unfold arm_if both_hold in refl)
first_match_lem InfixOperator.Caret l r unmatched = unfold arm_if both_hold in refl

-- what the code follows is 01's first match
pub by_tables : (op : InfixOperator) (l r : Tree) → infix_plan op l r ≡ table_plan op l r
unfolding infix_plan
by_tables op l r = first_match_lem op l r (new (infixed op l r))

-- the plan for no match is never taken
pub any_unmatched : (op : InfixOperator) (l r : Tree) (unmatched : Plan) → infix_plan op l r ≡ first_match unmatched (arms op l r)
any_unmatched op l r unmatched = by_tables op l r ∙ sym (first_match_lem op l r unmatched)
