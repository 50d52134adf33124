-- Two answers that a contract of `arms` allows are equal: an arm is determined by its plan, since a store has each tree once. Assumes nothing.
use mathlib.Core.Path.{◌≡◌, refl, sym, ap, ◌∙◌}
use mathlib.Core.Bool.{Bool, true, false, cond}
use Rattle.std.specs.Prelude.{Option, Some, None}
use Rattle.complex.specs.declared.Complex.{Complex}
use mathlib.Core.List.{List, [], ◌∷◌, ◌++◌}
use Prim.Native.Nat.{ℕ, zero, suc, ◌+◌, ◌*◌, ◌<◌}
use native.Mathlib.Omega.{arith}
use native.Mathlib.Decide.{ℕ_discrete}
use lib.Dec.{eqb}
use lib.ListN.{get_or}
use Rattle.expression.specs.declared.InfixOperator.{InfixOperator}
use Rattle.expression.specs.declared.node.Expression.{Expression}
use Rattle.expression.specs.Trees.{Tree, leaf, pi, function_call, prefixed, infixed}
use Rattle.expression.specs.Nodes.{Within, grown}
use Rattle.expression.proofs.OneNode.{ByTree, node_by, node_back}
use Rattle.store.specs.Nodes.{expression_as, expression_of}
use Rattle.store.specs.Memory.{Memory, columns, fields_on, expression_at, tree_at, tree_of}
use Rattle.store.specs.Held.{Holds}
use Rattle.store.proofs.OneAnswer.{tells}
use Rattle.arms.specs.declared.Arm.{Arm}
use Rattle.arms.specs.declared.Outer.{Outer}
use Rattle.arms.specs.Looks.{left, right}
use Rattle.arms.proofs.Looking.{never}
use Rattle.arms.specs.Arms.{Plan, the, new, folded, called, negation, combined, S, lesser, affine}
use Rattle.arms.specs.Choosing.{At, plan_of, ArmIn, Chosen, Tells, LikensTo, Finds, FindsOperand, FindsParts, FindsNumbers, FindsBeside, ChoosesAt, ChoosesOne, Selects}

-- ---- the arm of a plan

-- the trees of a plan, in their order
unfoldable trees_in : Plan → List Tree
trees_in (the t) = t ∷ []
trees_in (new t) = t ∷ []
trees_in (folded op x y) = []
trees_in (called f x) = []
trees_in (negation p) = trees_in p
trees_in (combined op p q) = trees_in p ++ trees_in q
trees_in (S p) = trees_in p
trees_in (lesser p q) = trees_in p ++ trees_in q
trees_in (affine a x b) = a ∷ x ∷ b ∷ []

-- its first operator, of the second choice if there are two
unfoldable operator_in : Plan → InfixOperator
operator_in (the t) = InfixOperator.Plus
operator_in (new t) = InfixOperator.Plus
operator_in (folded op x y) = op
operator_in (called f x) = InfixOperator.Plus
operator_in (negation p) = InfixOperator.Plus
operator_in (combined op p q) = op
operator_in (S p) = operator_in p
operator_in (lesser p q) = operator_in q
operator_in (affine a x b) = InfixOperator.Plus

-- how it is made, as a number: no two kinds of arms have the same
unfoldable shape : Plan → ℕ
shape (the t) = 1
shape (new t) = 2
shape (folded op x y) = 3
shape (called f x) = 4
shape (negation p) = 5
shape (combined op p q) = 10 * shape p + shape q
shape (S p) = 100 + shape p
shape (lesser p q) = 2000 + shape q
shape (affine a x b) = 6

module _ (of : Tree → ℕ) where
  -- tree k as a node that stands, and as one whose operands stand
  unfoldable node_at : List Tree → ℕ → ℕ
  node_at ts k = of (get_or ts k (leaf pi))

  unfoldable new_at : List Tree → ℕ → Expression
  new_at ts k = node_by of (get_or ts k (leaf pi))

  -- of a plan that is simplified again, or is the lesser of two
  unfoldable arm_by : (shape : ℕ) → InfixOperator → List Tree → Arm
  arm_by shape op ts =
      cond (eqb shape 102) (Arm.Again (new_at ts 0))
      (cond (eqb shape 121) (Arm.Inverse (node_at ts 1))
      (cond (eqb shape 105) (Arm.Regroup (new_at ts 0) Outer.Negated)
      (cond (eqb shape 1121) (Arm.Regroup (new_at ts 0) (Outer.Before op (node_at ts 1)))
      (cond (eqb shape 212) (Arm.Regroup (new_at ts 1) (Outer.After (node_at ts 0) op))
      (cond (eqb shape 2105) (Arm.Smaller (new_at ts 0) (new_at ts 1) Outer.Negated)
      (cond (eqb shape 3121) (Arm.Smaller (new_at ts 0) (new_at ts 1) (Outer.Before op (node_at ts 2)))
      (cond (eqb shape 2212) (Arm.Smaller (new_at ts 0) (new_at ts 2) (Outer.After (node_at ts 1) op))
      (cond (eqb shape 3222) (Arm.Distribute (new_at ts 0) (new_at ts 1) (new_at ts 2))
      (Arm.Double (node_at ts 1) (of (left (get_or ts 2 (leaf pi)))) (of (right (get_or ts 2 (leaf pi)))))))))))))

  -- no arm is a negation or an operation that is not simplified again
  unfoldable arm_of : Plan → Arm
  arm_of (the t) = Arm.Use (of t)
  arm_of (new t) = Arm.Build (node_by of t)
  arm_of (folded op x y) = Arm.Fold op x y
  arm_of (called f x) = Arm.Call f x
  arm_of (negation p) = Arm.Use 0
  arm_of (combined op p q) = Arm.Use 0
  arm_of (S p) = arm_by (shape (S p)) (operator_in p) (trees_in p)
  arm_of (lesser p q) = arm_by (shape (lesser p q)) (operator_in q) (trees_in (lesser p q))
  arm_of (affine a x b) = Arm.Affine (node_by of a) (of x) (node_by of b)

module _ (m : Memory) {n : ℕ} {of : Tree → ℕ} (t : ByTree n (tree_at m) of) where
  arm_back : (r : Arm) → ArmIn n r → arm_of of (plan_of m r) ≡ r
  unfolding arm_of arm_by node_at new_at shape operator_in trees_in left right
  arm_back (Arm.Use k) w = ap Arm.Use (t.number k w)
  arm_back (Arm.Build e) w = ap Arm.Build (node_back t e w)
  arm_back (Arm.Fold o x y) w = refl
  arm_back (Arm.Call f x) w = refl
  arm_back (Arm.Again e) w = ap Arm.Again (node_back t e w)
  arm_back (Arm.Inverse k) w = ap Arm.Inverse (t.number k w)
  arm_back (Arm.Regroup e Outer.Negated) w = λ i. Arm.Regroup (node_back t e w.0 i) Outer.Negated
  arm_back (Arm.Regroup e (Outer.Before o c)) w = λ i. Arm.Regroup (node_back t e w.0 i) (Outer.Before o (t.number c w.1 i))
  arm_back (Arm.Regroup e (Outer.After a o)) w = λ i. Arm.Regroup (node_back t e w.0 i) (Outer.After (t.number a w.1 i) o)
  arm_back (Arm.Smaller f e Outer.Negated) w = λ i. Arm.Smaller (node_back t f w.0 i) (node_back t e w.1 i) Outer.Negated
  arm_back (Arm.Smaller f e (Outer.Before o c)) w = λ i. Arm.Smaller (node_back t f w.0 i) (node_back t e w.1 i) (Outer.Before o (t.number c w.2 i))
  arm_back (Arm.Smaller f e (Outer.After a o)) w = λ i. Arm.Smaller (node_back t f w.0 i) (node_back t e w.1 i) (Outer.After (t.number a w.2 i) o)
  arm_back (Arm.Distribute f a b) w = λ i. Arm.Distribute (node_back t f w.0 i) (node_back t a w.1 i) (node_back t b w.2 i)
  arm_back (Arm.Double x a b) w = λ i. Arm.Double (t.number x w.0 i) (t.number a w.1 i) (t.number b w.2 i)
  arm_back (Arm.Affine a x b) w = λ i. Arm.Affine (node_back t a w.0 i) (t.number x w.1 i) (node_back t b w.2 i)

-- what is found exactly where a test holds
one_found : {A : Type 0} (b : Bool) (P : A → Type 0) → ((x y : A) → P x → P y → x ≡ y) → (r r' : Option A) → Finds b P r → Finds b P r' → r ≡ r'
one_found b P f None None p q = refl
one_found b P f None (Some y) p q = never (sym p ∙ q.0)
one_found b P f (Some x) None p q = never (sym q ∙ p.0)
one_found b P f (Some x) (Some y) p q = ap Some (f x y p.1 q.1)

-- ---- `choose_infix`, `choose_function`, `choose_prefix` and what they call; `smaller`

module _ {m : Memory} {n : ℕ} (h : Holds m n) where
  pub one_chosen : {r r' : Arm} {plan : Plan} → Chosen m n r plan → Chosen m n r' plan → r ≡ r'
  one_chosen {r} {r'} p q = sym (arm_back m (tells h) r p.inside) ∙ ap (arm_of _) (p.wants ∙ sym q.wants) ∙ arm_back m (tells h) r' q.inside

  pub one_arm : (plan : Tree → Tree → Plan) (l r : ℕ) {arm arm' : Arm} → l < n → r < n → ChoosesAt plan m l r arm → ChoosesAt plan m l r arm' → arm ≡ arm'
  one_arm plan l r i j p q = one_chosen (p n h i j) (q n h i j)

  pub one_arm_of_one : (plan : Tree → Plan) (x : ℕ) {arm arm' : Arm} → x < n → ChoosesOne plan m x arm → ChoosesOne plan m x arm' → arm ≡ arm'
  one_arm_of_one plan x i p q = one_chosen (p n h i) (q n h i)

  one_at : {j k : ℕ} {t : Tree} → At m n j t → At m n k t → j ≡ k
  one_at {j} {k} p q = h.apart j k p.inside q.inside (p.tree ∙ sym q.tree)

  pub one_selected : (select : Tree → Tree → Tree) (a b : ℕ) {r r' : ℕ} → a < n → b < n → Selects select m a b r → Selects select m a b r' → r ≡ r'
  one_selected select a b i j p q = one_at (p n h i j) (q n h i j)

  -- ---- a test of a node's operands against another node: `negates`

  pub one_likened : (test : Tree → Tree → Bool) (e : Expression) (k : ℕ) (t : Tree) {r r' : Bool} → Within n e → At m n k t
      → LikensTo test m e k r → LikensTo test m e k r' → r ≡ r'
  one_likened test e k t w a p q = p n t h w a ∙ sym (q n t h w a)

  -- ---- what is found beside: `beside_last` and `beside_first`

  pub one_beside : (test : Tree → Tree → Bool) (part : Tree → Tree) (e : Expression) (k : ℕ) (t : Tree) {r r' : Option ℕ} → Within n e → At m n k t
      → FindsBeside test part m e k r → FindsBeside test part m e k r' → r ≡ r'
  one_beside test part e k t w a p q = one_found _ _ (λ x y c d. one_at c d) _ _ (p n t h w a) (q n t h w a)

-- ---- what is said in every memory needs no store: `is_zero_number`, `is_one_number`, `numbers_of`, `negated` and `parts_of`

pub one_look : {A : Type 0} (want : Memory → A) {r r' : A} → ((m : Memory) → r ≡ want m) → ((m : Memory) → r' ≡ want m) → r ≡ r'
one_look want p q = p (columns [] [] [] []) ∙ sym (q (columns [] [] [] []))

pub one_told : (test : Tree → Bool) (e : Expression) {r r' : Bool} → Tells test e r → Tells test e r' → r ≡ r'
one_told test e = one_look (λ m. test (tree_of m e))

pub one_of_numbers : (a b : Expression) {r r' : Option (Complex × Complex)} → FindsNumbers a b r → FindsNumbers a b r' → r ≡ r'
one_of_numbers a b p q = let m = columns [] [] [] [] in one_found _ _ (λ x y c d i. ((c.0 ∙ sym d.0) i, (c.1 ∙ sym d.1) i)) _ _ (p m) (q m)

-- a memory in which node j alone is pi tells it from all others
unfoldable spot : ℕ → List ℕ
spot zero = 2 ∷ []
spot (suc j) = 0 ∷ spot j

at_spot : (j : ℕ) → get_or (spot j) j 0 ≡ 2
unfolding spot
at_spot zero = refl
at_spot (suc j) = at_spot j

off_spot : (j k : ℕ) → (j ≡ k → ⊥) → get_or (spot j) k 0 ≡ 0
unfolding spot
off_spot zero zero n = absurd (n refl)
off_spot zero (suc k) n = refl
off_spot (suc j) zero n = refl
off_spot (suc j) (suc k) n = off_spot j k (λ e. n (ap suc e))

one_pi : ℕ → Memory
one_pi j = columns (spot j) [] [] []

is_leaf : Tree → Bool
is_leaf (leaf l) = true
is_leaf (function_call f t) = false
is_leaf (prefixed o t) = false
is_leaf (infixed o l r) = false

pi_there : (j : ℕ) → is_leaf (tree_at (one_pi j) j) ≡ true
unfolding tree_at expression_at fields_on expression_of expression_as grown is_leaf one_pi
pi_there j = rw (at_spot j) refl

none_else : (j k : ℕ) → (j ≡ k → ⊥) → is_leaf (tree_at (one_pi j) k) ≡ false
unfolding tree_at expression_at fields_on expression_of expression_as grown is_leaf one_pi
none_else j k n = rw (off_spot j k n) refl

told_apart : {n j k : ℕ} {t : Tree} → At (one_pi j) n j t → At (one_pi j) n k t → j ≡ k
told_apart {j = j} {k = k} p q = elim (ℕ_discrete j k) [
  | yes e ↦ e
  | no e ↦ never (sym (none_else j k e) ∙ ap is_leaf (q.tree ∙ sym p.tree) ∙ pi_there j)
]

-- more nodes than an expression's operands
above : Expression → ℕ
above (Expression.Number z) = 0
above Expression.PiConstant = 0
above (Expression.Variable v) = 0
above (Expression.Address region index) = 0
above (Expression.FunctionCall f a) = a + 1
above (Expression.Prefix o a) = a + 1
above (Expression.Infix o a b) = a + b + 1

within_above : (e : Expression) → Within (above e) e
unfolding above
within_above (Expression.Number z) = tt
within_above Expression.PiConstant = tt
within_above (Expression.Variable v) = tt
within_above (Expression.Address region index) = tt
within_above (Expression.FunctionCall f a) = omega arith
within_above (Expression.Prefix o a) = omega arith
within_above (Expression.Infix o a b) = (omega arith, omega arith)

pub one_operand : (e : Expression) {r r' : Option ℕ} → FindsOperand e r → FindsOperand e r' → r ≡ r'
one_operand e {r} {r'} p q = go r r' p q
  where
    go : (r r' : Option ℕ) → FindsOperand e r → FindsOperand e r' → r ≡ r'
    go None None p q = refl
    go None (Some k) p q = never (sym (p (one_pi 0) (above e) (within_above e)) ∙ (q (one_pi 0) (above e) (within_above e)).0)
    go (Some j) None p q = never (sym (q (one_pi 0) (above e) (within_above e)) ∙ (p (one_pi 0) (above e) (within_above e)).0)
    go (Some j) (Some k) p q = ap Some (told_apart (p (one_pi j) (above e) (within_above e)).1 (q (one_pi j) (above e) (within_above e)).1)

pub one_pair : (op : InfixOperator) (e : Expression) {r r' : Option (ℕ × ℕ)} → FindsParts op e r → FindsParts op e r' → r ≡ r'
one_pair op e {r} {r'} p q = go r r' p q
  where
    go : (r r' : Option (ℕ × ℕ)) → FindsParts op e r → FindsParts op e r' → r ≡ r'
    go None None p q = refl
    go None (Some k) p q = never (sym (p (one_pi 0) (above e) (within_above e)) ∙ (q (one_pi 0) (above e) (within_above e)).0)
    go (Some j) None p q = never (sym (q (one_pi 0) (above e) (within_above e)) ∙ (p (one_pi 0) (above e) (within_above e)).0)
    go (Some (a, b)) (Some (c, d)) p q =
        let x : a ≡ c = told_apart (p (one_pi a) (above e) (within_above e)).1.0 (q (one_pi a) (above e) (within_above e)).1.0 in
        let y : b ≡ d = told_apart (p (one_pi b) (above e) (within_above e)).1.1 (q (one_pi b) (above e) (within_above e)).1.1 in
        λ i. Some (x i, y i)
