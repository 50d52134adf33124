-- 01's 41 arms as one list, in 01's order, each under 01's own words: when it matches, and which plan is made then; and the plan of an operation, its
-- first match. Operands are simplified; trees alone are looked at. Definitions only.
use Rattle.std.specs.Prelude.{Bool, true, cond, ◌&&◌, ◌||◌, List, [], ◌∷◌, eqb}
use Rattle.complex.specs.Constants.{zero_number, one_number, two_number, minus_one_number, nan_number}
use Rattle.expression.specs.declared.InfixOperator.{InfixOperator}
use Rattle.expression.specs.Codes.{infix_code}
use Rattle.expression.specs.Trees.{Tree, infixed}
use Rattle.expression.specs.Alike.{equal}
use Rattle.arms.specs.Looks.{is_number, is_zero_number, is_one_number, is_negation, under, is_infix, left, right}
use Rattle.arms.specs.Arms.{Plan, the, new, negation, combined, S, lesser, arm_if, constant, minus, sum, difference, product, quotient, folding, uninverted, shared}

infix 20 ◌⇒◌
-- an arm: when it matches, and what it wants
pub data Row : Type 0 where
  ◌⇒◌ : (guard : Bool) (plan : Plan) → Row

-- "first match"; `unmatched` is for a list in which no arm matches; it is never taken in 01's, whose last arm always matches
unfoldable pub first_match : (unmatched : Plan) → List Row → Plan
first_match unmatched [] = unmatched
first_match unmatched ((guard ⇒ plan) ∷ rows) = arm_if guard plan (first_match unmatched rows)

-- ---- the operators by their signs

abbrev + : InfixOperator
+ = InfixOperator.Plus

abbrev - : InfixOperator
- = InfixOperator.Minus

abbrev * : InfixOperator
* = InfixOperator.Star

abbrev / : InfixOperator
/ = InfixOperator.Slash

abbrev ^ : InfixOperator
^ = InfixOperator.Caret

infix 50 ◌is◌
abbrev pub ◌is◌ : InfixOperator → InfixOperator → Bool
op is o = eqb (infix_code op) (infix_code o)

-- o of s*o or o*s, tried in this order, for a tree equal to s
abbrev pub other_factor : (t s : Tree) → Tree
other_factor t s = cond (equal (left t) s) (right t) (left t)

-- both are products, and they share a factor
abbrev pub shares_factor : (t u : Tree) → Bool
shares_factor t u =
    is_infix * t && is_infix * u
    && (equal (left t) (left u) || (equal (left t) (right u) || (equal (right t) (left u) || equal (right t) (right u))))

-- ---- the arms

-- 1 to 41, of l op r
unfoldable pub arms : InfixOperator → (l r : Tree) → List Row
arms op l r =
    -- 1. 0+r: r
    (op is + && is_zero_number l ⇒ the r)
    -- 2. l+0: l
    ∷ (op is + && is_zero_number r ⇒ the l)
    -- 3. 0-r: S(-r)
    ∷ (op is - && is_zero_number l ⇒ S (new (minus r)))
    -- 4. l-0: l
    ∷ (op is - && is_zero_number r ⇒ the l)
    -- 5. l-l: 0
    ∷ (op is - && equal l r ⇒ constant zero_number)
    -- 6. 0*r, l*0: 0
    ∷ (op is * && (is_zero_number l || is_zero_number r) ⇒ constant zero_number)
    -- 7. 1*r: r
    ∷ (op is * && is_one_number l ⇒ the r)
    -- 8. l*1: l
    ∷ (op is * && is_one_number r ⇒ the l)
    -- 9. 0/r: 0
    ∷ (op is / && is_zero_number l ⇒ constant zero_number)
    -- 10. l/0: NaN, imaginary 0
    ∷ (op is / && is_zero_number r ⇒ constant nan_number)
    -- 11. l/1: l
    ∷ (op is / && is_one_number r ⇒ the l)
    -- 12. l/l: 1
    ∷ (op is / && equal l r ⇒ constant one_number)
    -- 13. 0^r: 0
    ∷ (op is ^ && is_zero_number l ⇒ constant zero_number)
    -- 14. l^0: 1
    ∷ (op is ^ && is_zero_number r ⇒ constant one_number)
    -- 15. 1^r: 1
    ∷ (op is ^ && is_one_number l ⇒ constant one_number)
    -- 16. l^1: l
    ∷ (op is ^ && is_one_number r ⇒ the l)
    -- 17. Two numbers: fold
    ∷ (is_number l && is_number r ⇒ folding op l r)
    -- 18. l+(-e): S(l-e)
    ∷ (op is + && is_negation r ⇒ S (new (difference l (under r))))
    -- 19. (-e)+r: S(r-e)
    ∷ (op is + && is_negation l ⇒ S (new (difference r (under l))))
    -- 20. l-(-e): S(l+e)
    ∷ (op is - && is_negation r ⇒ S (new (sum l (under r))))
    -- 21. (-e)-r: min(l-r, S(-S(e+r)))
    ∷ (op is - && is_negation l ⇒ lesser (new (difference l r)) (S (negation (S (new (sum (under l) r))))))
    -- 22. (-a)*(-b), (-a)/(-b): S(a op b)
    ∷ ((op is * || op is /) && is_negation l && is_negation r ⇒ S (new (infixed op (under l) (under r))))
    -- 23. l/(-l): -1, the negation of 1, so its imaginary part is -0
    ∷ (op is / && is_negation r && equal (under r) l ⇒ constant minus_one_number)
    -- 24. (-r)/r: the same
    ∷ (op is / && is_negation l && equal (under l) r ⇒ constant minus_one_number)
    -- 25. l op -e, op * or /: min(l*r, S(S(-l) op e))
    ∷ ((op is * || op is /) && is_negation r ⇒ lesser (new (product l r)) (S (combined op (S (new (minus l))) (the (under r)))))
    -- 26. (-e) op r, same ops: min(l*r, S(e op S(-r)))
    ∷ ((op is * || op is /) && is_negation l ⇒ lesser (new (product l r)) (S (combined op (the (under l)) (S (new (minus r))))))
    -- 27. (p*q+b)+(p'*q'+b') with a shared factor, tried as p=p', p=q', q=p', q=q': with other factors a, a' and shared x (taken as p, p, q, q' in
    -- the four cases), S(S(S(a+a')*x)+S(b+b')), sums first
    ∷ (op is + && is_infix + l && is_infix + r && shares_factor (left l) (left r) ⇒ shared l r)
    -- 28. a*x+b*x: S(S(a+b)*x)
    ∷ (op is + && is_infix * l && is_infix * r && equal (right l) (right r) ⇒ S (combined * (S (new (sum (left l) (left r)))) (the (right l))))
    -- 29. (x+a)+(x+b): S(S(2*x)+S(a+b))
    ∷ (op is + && is_infix + l && is_infix + r && equal (left l) (left r) ⇒ S (combined + (S (combined * (constant two_number) (the (left l)))) (S (new (sum (right l) (right r))))))
    -- 30. l op (b op c), + or *: min(l op r, S(S(l op b) op c))
    ∷ ((op is + || op is *) && is_infix op r ⇒ lesser (new (infixed op l r)) (S (combined op (S (new (infixed op l (left r)))) (the (right r)))))
    -- 31. The same, - or /: min(l op r, S(S(l inv c) op b)), inv + for -, * for /
    ∷ ((op is - || op is /) && is_infix op r ⇒ lesser (new (infixed op l r)) (S (combined op (S (new (infixed (uninverted op) l (right r)))) (the (left r)))))
    -- 32. (a op b) op r, + * - /: min(l op r, S(a op' S(b op r))), op' + for -, * for /, else op
    ∷ ((op is + || op is * || op is - || op is /) && is_infix op l
    ⇒ lesser (new (infixed op l r)) (S (combined (uninverted op) (the (left l)) (S (new (infixed op (right l) r))))))
    -- 33. l*(b+c): min(l*r, S(S(l*b)+S(l*c)))
    ∷ (op is * && is_infix + r ⇒ lesser (new (product l r)) (S (combined + (S (new (product l (left r)))) (S (new (product l (right r)))))))
    -- 34. (a+b)*r likewise
    ∷ (op is * && is_infix + l ⇒ lesser (new (product l r)) (S (combined + (S (new (product (left l) r))) (S (new (product (right l) r))))))
    -- 35. (s*o)/s, (o*s)/s: o
    ∷ (op is / && is_infix * l && (equal (left l) r || equal (right l) r) ⇒ the (other_factor l r))
    -- 36. l/(l*o), l/(o*l): S(1/o)
    ∷ (op is / && is_infix * r && (equal (left r) l || equal (right r) l) ⇒ S (combined / (constant one_number) (the (other_factor r l))))
    -- 37. (m*n)/r: min(l/r, S(m*S(n/r)))
    ∷ (op is / && is_infix * l ⇒ lesser (new (quotient l r)) (S (combined * (the (left l)) (S (new (quotient (right l) r))))))
    -- 38. l/(m*n): min(l/r, S(S(l/m)/n))
    ∷ (op is / && is_infix * r ⇒ lesser (new (quotient l r)) (S (combined / (S (new (quotient l (left r)))) (the (right r)))))
    -- 39. (o/r)*r: o
    ∷ (op is * && is_infix / l && equal (right l) r ⇒ the (left l))
    -- 40. l*(o/l): o
    ∷ (op is * && is_infix / r && equal (right r) l ⇒ the (left r))
    -- 41. Rebuild
    ∷ (true ⇒ new (infixed op l r))
    ∷ []

-- "Infix, l and r simplified, first match". The last arm always matches, so the plan for no match is never taken
unfoldable pub infix_plan : InfixOperator → Tree → Tree → Plan
infix_plan op l r = first_match (new (infixed op l r)) (arms op l r)
