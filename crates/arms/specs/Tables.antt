-- 01's arms by operator, a table for each, as the code tries them. Only connecting: a table chooses what is the first match in Ordered's list, which is
-- proved (proofs/Ordered.antt, `by_tables`), and the promise rests on the list.
use Rattle.std.specs.Prelude.{Bool, true, false, ◌&&◌, ◌||◌}
use Rattle.complex.specs.Constants.{zero_number, one_number, two_number, minus_one_number, nan_number}
use Rattle.expression.specs.declared.InfixOperator.{InfixOperator}
use Rattle.expression.specs.Trees.{Tree, infixed}
use Rattle.expression.specs.Alike.{equal}
use Rattle.arms.specs.Looks.{is_number, is_zero_number, is_one_number, is_negation, under, is_infix, left, right}
use Rattle.arms.specs.Arms.{Plan, the, new, negation, combined, S, lesser, arm_if, constant, minus, sum, difference, product, quotient, folding, uninverted, shared}

-- ---- tests

-- both tests hold, and at least one does: names that stay shut, so that laws can be matched with them
unfoldable pub both_hold : Bool → Bool → Bool
both_hold a b = a && b

unfoldable pub either_holds : Bool → Bool → Bool
either_holds a b = a || b

-- both are b op c, each with its own b and c
abbrev pub both_infix : InfixOperator → Tree → Tree → Bool
both_infix op l r = both_hold (is_infix op l) (is_infix op r)

abbrev pub either_infix : InfixOperator → Tree → Tree → Bool
either_infix op l r = either_holds (is_infix op l) (is_infix op r)

-- t is k op c, or b op k, for a tree equal to k
abbrev pub begins_with : InfixOperator → (t k : Tree) → Bool
begins_with op t k = both_hold (is_infix op t) (equal (left t) k)

abbrev pub ends_with : InfixOperator → (t k : Tree) → Bool
ends_with op t k = both_hold (is_infix op t) (equal (right t) k)

-- `mul_matches`: both are products, and they share a factor
abbrev pub mul_matches : Tree → Tree → Bool
mul_matches l r =
    both_hold (both_infix InfixOperator.Star l r)
    (either_holds (equal (left l) (left r)) (either_holds (equal (left l) (right r)) (either_holds (equal (right l) (left r)) (equal (right l) (right r)))))

-- ---- arms of more than one operator

abbrev pub both_numbers : Tree → Tree → Bool
both_numbers l r = both_hold (is_number l) (is_number r)

abbrev pub both_negations : Tree → Tree → Bool
both_negations l r = both_hold (is_negation l) (is_negation r)

abbrev pub either_negation : Tree → Tree → Bool
either_negation l r = either_holds (is_negation l) (is_negation r)

-- whether the operator is the inverse of another, as - is of + and / is of *: arm 31 is meant then, and not arm 30
unfoldable pub is_inverse : InfixOperator → Bool
is_inverse InfixOperator.Plus = false
is_inverse InfixOperator.Minus = true
is_inverse InfixOperator.Star = false
is_inverse InfixOperator.Slash = true
is_inverse InfixOperator.Caret = false

-- 30. l op (b op c), + or *: min(l op r, S(S(l op b) op c))
-- 31. The same, - or /: min(l op r, S(S(l inv c) op b))
unfoldable pub grouped_right : InfixOperator → Tree → Tree → Plan
grouped_right op l r =
    arm_if (is_inverse op)
    (lesser (new (infixed op l r)) (S (combined op (S (new (infixed (uninverted op) l (right r)))) (the (left r)))))
    (lesser (new (infixed op l r)) (S (combined op (S (new (infixed op l (left r)))) (the (right r)))))

-- 30, 31. l op (b op c)
-- 32. (a op b) op r, + * - /: min(l op r, S(a op' S(b op r)))
unfoldable pub grouped : InfixOperator → Tree → Tree → Plan
grouped op l r =
    arm_if (is_infix op r) (grouped_right op l r)
    (lesser (new (infixed op l r)) (S (combined (uninverted op) (the (left l)) (S (new (infixed op (right l) r))))))

-- 25. l op -e, op * or /: min(l*r, S(S(-l) op e))
-- 26. (-e) op r, same ops: min(l*r, S(e op S(-r)))
unfoldable pub moved : InfixOperator → Tree → Tree → Plan
moved op l r =
    arm_if (is_negation r) (lesser (new (product l r)) (S (combined op (S (new (minus l))) (the (under r)))))
    (lesser (new (product l r)) (S (combined op (the (under l)) (S (new (minus r))))))

-- 22. (-a)*(-b), (-a)/(-b): S(a op b)
abbrev pub unsigned : InfixOperator → Tree → Tree → Plan
unsigned op l r = S (new (infixed op (under l) (under r)))

-- ---- addition

-- the tests of arms 27, 28 and 29
abbrev pub affine_test : Tree → Tree → Bool
affine_test l r = both_hold (both_infix InfixOperator.Plus l r) (mul_matches (left l) (left r))

abbrev pub like_products : Tree → Tree → Bool
like_products l r = both_hold (both_infix InfixOperator.Star l r) (equal (right l) (right r))

abbrev pub like_sums : Tree → Tree → Bool
like_sums l r = both_hold (both_infix InfixOperator.Plus l r) (equal (left l) (left r))

unfoldable pub affine_sum : Tree → Tree → Plan
affine_sum l r =
    -- 27. (p*q+b)+(p'*q'+b') with a shared factor
    arm_if (affine_test l r) (shared l r)
    -- 28. a*x+b*x: S(S(a+b)*x)
    (arm_if (like_products l r) (S (combined InfixOperator.Star (S (new (sum (left l) (left r)))) (the (right l))))
    -- 29. (x+a)+(x+b): S(S(2*x)+S(a+b))
    (arm_if (like_sums l r) (S (combined InfixOperator.Plus (S (combined InfixOperator.Star (constant two_number) (the (left l)))) (S (new (sum (right l) (right r))))))
    -- 30. l+(b+c): min(l+r, S(S(l+b)+c))
    -- 32. (a+b)+r: min(l+r, S(a+S(b+r)))
    (arm_if (either_infix InfixOperator.Plus l r) (grouped InfixOperator.Plus l r)
    -- 41. Rebuild
    (new (sum l r)))))

unfoldable pub sum_plan : Tree → Tree → Plan
sum_plan l r =
    -- 1. 0+r: r
    arm_if (is_zero_number l) (the r)
    -- 2. l+0: l
    (arm_if (is_zero_number r) (the l)
    -- 17. Two numbers: fold
    (arm_if (both_numbers l r) (folding InfixOperator.Plus l r)
    -- 18. l+(-e): S(l-e)
    (arm_if (is_negation r) (S (new (difference l (under r))))
    -- 19. (-e)+r: S(r-e)
    (arm_if (is_negation l) (S (new (difference r (under l))))
    (affine_sum l r)))))

-- ---- subtraction

unfoldable pub signed_difference : Tree → Tree → Plan
signed_difference l r =
    -- 20. l-(-e): S(l+e)
    arm_if (is_negation r) (S (new (sum l (under r))))
    -- 21. (-e)-r: min(l-r, S(-S(e+r)))
    (arm_if (is_negation l) (lesser (new (difference l r)) (S (negation (S (new (sum (under l) r))))))
    -- 31. l-(b-c): min(l-r, S(S(l+c)-b))
    -- 32. (a-b)-r: min(l-r, S(a+S(b-r)))
    (arm_if (either_infix InfixOperator.Minus l r) (grouped InfixOperator.Minus l r)
    -- 41. Rebuild
    (new (difference l r))))

unfoldable pub difference_plan : Tree → Tree → Plan
difference_plan l r =
    -- 3. 0-r: S(-r)
    arm_if (is_zero_number l) (S (new (minus r)))
    -- 4. l-0: l
    (arm_if (is_zero_number r) (the l)
    -- 5. l-l: 0
    (arm_if (equal l r) (constant zero_number)
    -- 17. Two numbers: fold
    (arm_if (both_numbers l r) (folding InfixOperator.Minus l r)
    (signed_difference l r))))

-- ---- multiplication

unfoldable pub signed_product : Tree → Tree → Plan
signed_product l r =
    -- 22. (-a)*(-b): S(a*b)
    arm_if (both_negations l r) (unsigned InfixOperator.Star l r)
    -- 25. l*(-e): min(l*r, S(S(-l)*e))
    -- 26. (-e)*r: min(l*r, S(e*S(-r)))
    (moved InfixOperator.Star l r)

unfoldable pub distributed : Tree → Tree → Plan
distributed l r =
    -- 33. l*(b+c): min(l*r, S(S(l*b)+S(l*c)))
    arm_if (is_infix InfixOperator.Plus r) (lesser (new (product l r)) (S (combined InfixOperator.Plus (S (new (product l (left r)))) (S (new (product l (right r)))))))
    -- 34. (a+b)*r likewise: min(l*r, S(S(a*r)+S(b*r)))
    (arm_if (is_infix InfixOperator.Plus l) (lesser (new (product l r)) (S (combined InfixOperator.Plus (S (new (product (left l) r))) (S (new (product (right l) r))))))
    -- 39. (o/r)*r: o
    (arm_if (ends_with InfixOperator.Slash l r) (the (left l))
    -- 40. l*(o/l): o
    (arm_if (ends_with InfixOperator.Slash r l) (the (left r))
    -- 41. Rebuild
    (new (product l r)))))

unfoldable pub product_plan : Tree → Tree → Plan
product_plan l r =
    -- 6. 0*r, l*0: 0
    arm_if (either_holds (is_zero_number l) (is_zero_number r)) (constant zero_number)
    -- 7. 1*r: r
    (arm_if (is_one_number l) (the r)
    -- 8. l*1: l
    (arm_if (is_one_number r) (the l)
    -- 17. Two numbers: fold
    (arm_if (both_numbers l r) (folding InfixOperator.Star l r)
    -- 22, 25, 26. A factor is -e
    (arm_if (either_negation l r) (signed_product l r)
    -- 30. l*(b*c): min(l*r, S(S(l*b)*c))
    -- 32. (a*b)*r: min(l*r, S(a*S(b*r)))
    (arm_if (either_infix InfixOperator.Star l r) (grouped InfixOperator.Star l r)
    (distributed l r))))))

-- ---- division

-- t is -k, for a tree equal to k
abbrev pub cancels_negation : (t k : Tree) → Bool
cancels_negation t k = both_hold (is_negation t) (equal (under t) k)

unfoldable pub signed_quotient : Tree → Tree → Plan
signed_quotient l r =
    -- 22. (-a)/(-b): S(a/b)
    arm_if (both_negations l r) (unsigned InfixOperator.Slash l r)
    -- 23. l/(-l): -1, "the negation of 1, so its imaginary part is -0"
    (arm_if (cancels_negation r l) (constant minus_one_number)
    -- 24. (-r)/r: the same
    (arm_if (cancels_negation l r) (constant minus_one_number)
    -- 25. l/(-e): min(l*r, S(S(-l)/e))
    -- 26. (-e)/r: min(l*r, S(e/S(-r)))
    (moved InfixOperator.Slash l r)))

unfoldable pub split : Tree → Tree → Plan
split l r =
    -- 37. (m*n)/r: min(l/r, S(m*S(n/r)))
    arm_if (is_infix InfixOperator.Star l) (lesser (new (quotient l r)) (S (combined InfixOperator.Star (the (left l)) (S (new (quotient (right l) r))))))
    -- 38. l/(m*n): min(l/r, S(S(l/m)/n))
    (arm_if (is_infix InfixOperator.Star r) (lesser (new (quotient l r)) (S (combined InfixOperator.Slash (S (new (quotient l (left r)))) (the (right r)))))
    -- 41. Rebuild
    (new (quotient l r)))

unfoldable pub cancelled : Tree → Tree → Plan
cancelled l r =
    -- 35. (s*o)/s, (o*s)/s: o
    arm_if (begins_with InfixOperator.Star l r) (the (right l))
    (arm_if (ends_with InfixOperator.Star l r) (the (left l))
    -- 36. l/(l*o), l/(o*l): S(1/o)
    (arm_if (begins_with InfixOperator.Star r l) (S (combined InfixOperator.Slash (constant one_number) (the (right r))))
    (arm_if (ends_with InfixOperator.Star r l) (S (combined InfixOperator.Slash (constant one_number) (the (left r))))
    (split l r))))

unfoldable pub quotient_plan : Tree → Tree → Plan
quotient_plan l r =
    -- 9. 0/r: 0
    arm_if (is_zero_number l) (constant zero_number)
    -- 10. l/0: NaN, imaginary 0
    (arm_if (is_zero_number r) (constant nan_number)
    -- 11. l/1: l
    (arm_if (is_one_number r) (the l)
    -- 12. l/l: 1
    (arm_if (equal l r) (constant one_number)
    -- 17. Two numbers: fold
    (arm_if (both_numbers l r) (folding InfixOperator.Slash l r)
    -- 22 to 26. Dividend or divisor is -e
    (arm_if (either_negation l r) (signed_quotient l r)
    -- 31. l/(b/c): min(l/r, S(S(l*c)/b))
    -- 32. (a/b)/r: min(l/r, S(a*S(b/r)))
    (arm_if (either_infix InfixOperator.Slash l r) (grouped InfixOperator.Slash l r)
    (cancelled l r)))))))

-- ---- powers

unfoldable pub power_plan : Tree → Tree → Plan
power_plan l r =
    -- 13. 0^r: 0
    arm_if (is_zero_number l) (constant zero_number)
    -- 14. l^0: 1
    (arm_if (is_zero_number r) (constant one_number)
    -- 15. 1^r: 1
    (arm_if (is_one_number l) (constant one_number)
    -- 16. l^1: l
    (arm_if (is_one_number r) (the l)
    -- 17. Two numbers: fold
    (arm_if (both_numbers l r) (folding InfixOperator.Caret l r)
    -- 41. Rebuild
    (new (infixed InfixOperator.Caret l r))))))

-- ---- the table of an operator

unfoldable pub table_plan : InfixOperator → Tree → Tree → Plan
table_plan InfixOperator.Plus l r = sum_plan l r
table_plan InfixOperator.Minus l r = difference_plan l r
table_plan InfixOperator.Star l r = product_plan l r
table_plan InfixOperator.Slash l r = quotient_plan l r
table_plan InfixOperator.Caret l r = power_plan l r
