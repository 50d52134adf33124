-- The laws of `alike`, once for identical and for equal trees: it is an equivalence if the comparison of numbers is one, a finer comparison
-- of numbers gives a finer one of trees, and trees that are alike have the same size and depth. Assumes nothing.
use mathlib.Core.Path.{◌≡◌, refl, sym, ap, subst, ◌∙◌}
use mathlib.Core.Bool.{Bool, ◌&&◌}
use Prim.Native.Nat.{ℕ, ◌+◌, max}
use lib.Dec.{T, eqb, eqb→eq, eqb_refl}
use lib.Ieee.Fits.{and_i, and_l, and_r}
use Rattle.complex.specs.declared.Complex.{Complex}
use Rattle.complex.specs.Equality as Numbers
use Rattle.complex.proofs.Tests.{one_truth}
use Rattle.complex.proofs.Pairs as Pairs
use Rattle.expression.specs.declared.InfixOperator.{InfixOperator}
use Rattle.expression.specs.declared.PrefixOperator.{PrefixOperator}
use Rattle.expression.specs.declared.ExpressionFunction.{ExpressionFunction}
use Rattle.expression.specs.Codes.{infix_code, prefix_code, function_code}
use Rattle.expression.specs.Trees.{Leaf, number, pi, variable, cell, Tree, leaf, function_call, prefixed, infixed, size, depth}
use Rattle.expression.specs.Nodes.{measure}
use Rattle.expression.proofs.Sizes.{size_is, depth_is}
use Rattle.expression.specs.Alike.{alike, alike_leaves, identical, equal}
use Rattle.expression.specs.Limits.{Proper}
use Rattle.expression.proofs.Numbering.{same_infix, same_prefix, same_function}

-- what `alike` decides: only numbers may differ
pub data Like (R : Complex → Complex → Type 0) : Tree → Tree → Type 0 where
  numbers : {x y : Complex} → R x y → Like R (leaf (number x)) (leaf (number y))
  pis : Like R (leaf pi) (leaf pi)
  variables : (v : ℕ) → Like R (leaf (variable v)) (leaf (variable v))
  cells : (r i : ℕ) → Like R (leaf (cell r i)) (leaf (cell r i))
  functions : (f : ExpressionFunction) {s t : Tree} → Like R s t → Like R (function_call f s) (function_call f t)
  prefixes : (o : PrefixOperator) {s t : Tree} → Like R s t → Like R (prefixed o s) (prefixed o t)
  infixes : (o : InfixOperator) {s t u v : Tree} → Like R s u → Like R t v → Like R (infixed o s t) (infixed o u v)

module _ {R : Complex → Complex → Type 0} where
  like_refl : ((x : Complex) → R x x) → (t : Tree) → Like R t t
  like_refl f (leaf (number x)) = numbers (f x)
  like_refl f (leaf pi) = pis
  like_refl f (leaf (variable v)) = variables v
  like_refl f (leaf (cell r i)) = cells r i
  like_refl f (function_call g t) = functions g (like_refl f t)
  like_refl f (prefixed o t) = prefixes o (like_refl f t)
  like_refl f (infixed o l r) = infixes o (like_refl f l) (like_refl f r)

  like_sym : ((x y : Complex) → R x y → R y x) → {s t : Tree} → Like R s t → Like R t s
  like_sym f (numbers p) = numbers (f _ _ p)
  like_sym f pis = pis
  like_sym f (variables v) = variables v
  like_sym f (cells r i) = cells r i
  like_sym f (functions g p) = functions g (like_sym f p)
  like_sym f (prefixes o p) = prefixes o (like_sym f p)
  like_sym f (infixes o p q) = infixes o (like_sym f p) (like_sym f q)

  like_trans : ((x y z : Complex) → R x y → R y z → R x z) → {s t u : Tree} → Like R s t → Like R t u → Like R s u
  like_trans f (numbers p) (numbers q) = numbers (f _ _ _ p q)
  like_trans f pis pis = pis
  like_trans f (variables v) (variables w) = variables v
  like_trans f (cells r i) (cells q j) = cells r i
  like_trans f (functions g p) (functions h q) = functions g (like_trans f p q)
  like_trans f (prefixes o p) (prefixes o' q) = prefixes o (like_trans f p q)
  like_trans f (infixes o p q) (infixes o' p' q') = infixes o (like_trans f p p') (like_trans f q q')

  like_measure : (both : ℕ → ℕ → ℕ) {s t : Tree} → Like R s t → measure both s ≡ measure both t
  unfolding measure
  like_measure both (numbers p) = refl
  like_measure both pis = refl
  like_measure both (variables v) = refl
  like_measure both (cells r i) = refl
  like_measure both (functions g p) = ap (λ k. 1 + k) (like_measure both p)
  like_measure both (prefixes o p) = ap (λ k. 1 + k) (like_measure both p)
  like_measure both (infixes o p q) = let a = like_measure both p in let b = like_measure both q in λ i. 1 + both (a i) (b i)

-- ---- from the test to the relation, and back

module _ (same : Complex → Complex → Bool) where
  abbrev R : Complex → Complex → Type 0
  R x y = T (same x y)

  leaves_of : (a b : Leaf) → T (alike_leaves same a b) → Like R (leaf a) (leaf b)
  unfolding alike_leaves
  leaves_of (number x) (number y) h = numbers h
  leaves_of (number x) pi h = absurd h
  leaves_of (number x) (variable w) h = absurd h
  leaves_of (number x) (cell q j) h = absurd h
  leaves_of pi (number y) h = absurd h
  leaves_of pi pi h = pis
  leaves_of pi (variable w) h = absurd h
  leaves_of pi (cell q j) h = absurd h
  leaves_of (variable v) (number y) h = absurd h
  leaves_of (variable v) pi h = absurd h
  leaves_of (variable v) (variable w) h = subst (λ k. Like R (leaf (variable v)) (leaf (variable k))) (eqb→eq v w h) (variables v)
  leaves_of (variable v) (cell q j) h = absurd h
  leaves_of (cell r i) (number y) h = absurd h
  leaves_of (cell r i) pi h = absurd h
  leaves_of (cell r i) (variable w) h = absurd h
  leaves_of (cell r i) (cell q j) h =
      let a = eqb→eq r q (and_l (eqb r q) (eqb i j) h) in
      let b = eqb→eq i j (and_r (eqb r q) (eqb i j) h) in
      subst (λ k. Like R (leaf (cell r i)) (leaf (cell q k))) b (subst (λ k. Like R (leaf (cell r i)) (leaf (cell k i))) a (cells r i))

  pub like_of : (s t : Tree) → T (alike same s t) → Like R s t
  unfolding alike
  like_of (leaf a) (leaf b) h = leaves_of a b h
  like_of (leaf a) (function_call g u) h = absurd h
  like_of (leaf a) (prefixed p u) h = absurd h
  like_of (leaf a) (infixed p u v) h = absurd h
  like_of (function_call f s) (leaf b) h = absurd h
  like_of (function_call f s) (function_call g u) h =
      let d = eqb (function_code f) (function_code g) in
      let e = same_function f g (eqb→eq (function_code f) (function_code g) (and_l d (alike same s u) h)) in
      subst (λ k. Like R (function_call f s) (function_call k u)) e (functions f (like_of s u (and_r d (alike same s u) h)))
  like_of (function_call f s) (prefixed p u) h = absurd h
  like_of (function_call f s) (infixed p u v) h = absurd h
  like_of (prefixed o s) (leaf b) h = absurd h
  like_of (prefixed o s) (function_call g u) h = absurd h
  like_of (prefixed o s) (prefixed p u) h =
      let d = eqb (prefix_code o) (prefix_code p) in
      let e = same_prefix o p (eqb→eq (prefix_code o) (prefix_code p) (and_l d (alike same s u) h)) in
      subst (λ k. Like R (prefixed o s) (prefixed k u)) e (prefixes o (like_of s u (and_r d (alike same s u) h)))
  like_of (prefixed o s) (infixed p u v) h = absurd h
  like_of (infixed o s t) (leaf b) h = absurd h
  like_of (infixed o s t) (function_call g u) h = absurd h
  like_of (infixed o s t) (prefixed p u) h = absurd h
  like_of (infixed o s t) (infixed p u v) h =
      let d = eqb (infix_code o) (infix_code p) in
      let b = and_r d (alike same s u && alike same t v) h in
      let e = same_infix o p (eqb→eq (infix_code o) (infix_code p) (and_l d (alike same s u && alike same t v) h)) in
      subst (λ k. Like R (infixed o s t) (infixed k u v)) e
      (infixes o (like_of s u (and_l (alike same s u) (alike same t v) b)) (like_of t v (and_r (alike same s u) (alike same t v) b)))

  pub test_of : {s t : Tree} → Like R s t → T (alike same s t)
  unfolding alike alike_leaves
  test_of (numbers p) = p
  test_of pis = tt
  test_of (variables v) = eqb_refl v
  test_of (cells r i) = and_i (eqb r r) (eqb i i) (eqb_refl r) (eqb_refl i)
  test_of (functions f {s} {t} p) = and_i (eqb (function_code f) (function_code f)) (alike same s t) (eqb_refl (function_code f)) (test_of p)
  test_of (prefixes o {s} {t} p) = and_i (eqb (prefix_code o) (prefix_code o)) (alike same s t) (eqb_refl (prefix_code o)) (test_of p)
  test_of (infixes o {s} {t} {u} {v} p q) =
      and_i (eqb (infix_code o) (infix_code o)) (alike same s u && alike same t v) (eqb_refl (infix_code o))
      (and_i (alike same s u) (alike same t v) (test_of p) (test_of q))

  alike_refl : ((x : Complex) → R x x) → (t : Tree) → T (alike same t t)
  alike_refl f t = test_of (like_refl f t)

  alike_sym : ((x y : Complex) → R x y → R y x) → (s t : Tree) → T (alike same s t) → T (alike same t s)
  alike_sym f s t p = test_of (like_sym f (like_of s t p))

  alike_trans : ((x y z : Complex) → R x y → R y z → R x z) → (s t u : Tree) → T (alike same s t) → T (alike same t u) → T (alike same s u)
  alike_trans f s t u p q = test_of (like_trans f (like_of s t p) (like_of t u q))

-- ---- identical trees

pub identical_refl : (t : Tree) → T (identical t t)
identical_refl = alike_refl Numbers.identical Pairs.identical_refl

pub identical_sym : (s t : Tree) → T (identical s t) → T (identical t s)
identical_sym = alike_sym Numbers.identical Pairs.identical_sym

pub identical_trans : (s t u : Tree) → T (identical s t) → T (identical t u) → T (identical s u)
identical_trans = alike_trans Numbers.identical Pairs.identical_trans

-- ---- equal trees

pub equal_refl : (t : Tree) → T (equal t t)
equal_refl = alike_refl Numbers.equal Pairs.equal_refl

pub equal_sym : (s t : Tree) → T (equal s t) → T (equal t s)
equal_sym = alike_sym Numbers.equal Pairs.equal_sym

pub equal_trans : (s t u : Tree) → T (equal s t) → T (equal t u) → T (equal s u)
equal_trans = alike_trans Numbers.equal Pairs.equal_trans

pub equal_size : (s t : Tree) → T (equal s t) → size s ≡ size t
equal_size s t h = size_is s ∙ like_measure ◌+◌ (like_of Numbers.equal s t h) ∙ sym (size_is t)

pub equal_depth : (s t : Tree) → T (equal s t) → depth s ≡ depth t
equal_depth s t h = depth_is s ∙ like_measure max (like_of Numbers.equal s t h) ∙ sym (depth_is t)

-- equal trees pass the same tests of equality
pub equal_tests : (s t : Tree) → T (equal s t) → (u : Tree) → equal s u ≡ equal t u
equal_tests s t h u = one_truth (equal s u) (equal t u) (equal_trans t s u (equal_sym s t h)) (equal_trans s t u h)

-- ---- proper trees: identical ones are one, and so they are equal

unite : {s t : Tree} → Like (R Numbers.identical) s t → Proper s → Proper t → s ≡ t
unite (numbers p) d e = ap (λ z. leaf (number z)) (Pairs.identical_same _ _ d e p)
unite pis d e = refl
unite (variables v) d e = refl
unite (cells r i) d e = refl
unite (functions f p) d e = ap (function_call f) (unite p d e)
unite (prefixes o p) d e = ap (prefixed o) (unite p d e)
unite (infixes o p q) d e = let a = unite p d.0 e.0 in let b = unite q d.1 e.1 in λ i. infixed o (a i) (b i)

pub identical_same : (s t : Tree) → Proper s → Proper t → T (identical s t) → s ≡ t
identical_same s t d e h = unite (like_of Numbers.identical s t h) d e

pub same_identical : (s t : Tree) → s ≡ t → T (identical s t)
same_identical s t e = subst (λ u. T (identical s u)) e (identical_refl s)

pub same_equal : (s t : Tree) → s ≡ t → T (equal s t)
same_equal s t e = subst (λ u. T (equal s u)) e (equal_refl s)

pub identical_is_equal : (s t : Tree) → Proper s → Proper t → T (identical s t) → T (equal s t)
identical_is_equal s t d e h = same_equal s t (identical_same s t d e h)
