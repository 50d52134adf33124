-- What the functions that choose ensure: an arm on nodes is a plan on trees. Only connecting.
use Rattle.std.specs.Prelude.{◌≡◌, Bool, true, false, ℕ, ◌<◌, Option, MatchOption}
use Rattle.complex.specs.declared.Complex.{Complex}
use Rattle.complex.specs.Constants.{one_number, two_number}
use Rattle.expression.specs.declared.InfixOperator.{InfixOperator}
use Rattle.expression.specs.Trees.{Tree}
use Rattle.expression.specs.declared.PrefixOperator.{PrefixOperator}
use Rattle.expression.specs.declared.node.Expression.{Expression}
use Rattle.expression.specs.Nodes.{Within}
use Rattle.store.specs.Memory.{Memory, tree_at, tree_of}
use Rattle.store.specs.Held.{Holds}
use Rattle.arms.specs.declared.Arm.{Arm}
use Rattle.arms.specs.declared.Outer.{Outer}
use Rattle.arms.specs.Looks.{number_in, is_negation, under, is_infix, left, right}
use Rattle.arms.specs.Arms.{Plan, the, new, folded, called, negation, combined, S, lesser, affine, constant, sum}
use Rattle.arms.specs.Tables.{both_numbers, grouped_right}

-- node k, one of n, has the tree t
pub record At (m : Memory) (n k : ℕ) (t : Tree) : Type 0 where
  pub inside : k < n
  pub tree : tree_at m k ≡ t

-- ---- arms as plans

-- the node that is made around the result of an inner S call
abbrev pub applied_to : Outer → ℕ → Expression
applied_to Outer.Negated k = Expression.Prefix PrefixOperator.Minus k
applied_to (Outer.Before o c) k = Expression.Infix o k c
applied_to (Outer.After a o) k = Expression.Infix o a k

abbrev pub around : Memory → Outer → Plan → Plan
around m Outer.Negated p = negation p
around m (Outer.Before o c) p = combined o p (the (tree_at m c))
around m (Outer.After a o) p = combined o (the (tree_at m a)) p

abbrev pub regroup_plan : Memory → Expression → Outer → Plan
regroup_plan m inner outer = S (around m outer (S (new (tree_of m inner))))

abbrev pub added_plan : Memory → (a b : Expression) → Plan
added_plan m a b = S (combined InfixOperator.Plus (S (new (tree_of m a))) (S (new (tree_of m b))))

abbrev pub plan_of : Memory → Arm → Plan
plan_of m (Arm.Use k) = the (tree_at m k)
plan_of m (Arm.Build e) = new (tree_of m e)
plan_of m (Arm.Fold o x y) = folded o x y
plan_of m (Arm.Call f x) = called f x
plan_of m (Arm.Again e) = S (new (tree_of m e))
plan_of m (Arm.Inverse k) = S (combined InfixOperator.Slash (constant one_number) (the (tree_at m k)))
plan_of m (Arm.Regroup inner outer) = regroup_plan m inner outer
plan_of m (Arm.Smaller first inner outer) = lesser (new (tree_of m first)) (regroup_plan m inner outer)
plan_of m (Arm.Distribute first a b) = lesser (new (tree_of m first)) (added_plan m a b)
plan_of m (Arm.Double x a b) = S (combined InfixOperator.Plus (S (combined InfixOperator.Star (constant two_number) (the (tree_at m x)))) (S (new (sum (tree_at m a) (tree_at m b)))))
plan_of m (Arm.Affine a x b) = affine (tree_of m a) (tree_at m x) (tree_of m b)

-- the nodes of an arm are among the first n
abbrev pub OuterIn : ℕ → Outer → Type 0
OuterIn n Outer.Negated = Unit {0}
OuterIn n (Outer.Before o c) = c < n
OuterIn n (Outer.After a o) = a < n

abbrev pub ArmIn : ℕ → Arm → Type 0
ArmIn n (Arm.Use k) = k < n
ArmIn n (Arm.Build e) = Within n e
ArmIn n (Arm.Fold o x y) = Unit {0}
ArmIn n (Arm.Call f x) = Unit {0}
ArmIn n (Arm.Again e) = Within n e
ArmIn n (Arm.Inverse k) = k < n
ArmIn n (Arm.Regroup inner outer) = Within n inner × OuterIn n outer
ArmIn n (Arm.Smaller first inner outer) = Within n first × Within n inner × OuterIn n outer
ArmIn n (Arm.Distribute first a b) = Within n first × Within n a × Within n b
ArmIn n (Arm.Double x a b) = (x < n) × (a < n) × (b < n)
ArmIn n (Arm.Affine a x b) = Within n a × (x < n) × Within n b

-- the arm is this plan, over n nodes
pub record Chosen (m : Memory) (n : ℕ) (r : Arm) (plan : Plan) : Type 0 where
  pub inside : ArmIn n r
  pub wants : plan_of m r ≡ plan

-- ---- what the functions ensure

-- a test of a node's tree, which needs no store
abbrev pub Tells : (Tree → Bool) → Expression → Bool → Type 0
Tells test e r = (m : Memory) → r ≡ test (tree_of m e)

-- node k is e, and its operands are older
pub record Sits (m : Memory) (n k : ℕ) (e : Expression) : Type 0 where
  pub at : At m n k (tree_of m e)
  pub within : Within n e

-- a look that finds something exactly where a test holds, and what is true of it
abbrev pub Finds : {A : Type 0} → (test : Bool) → (A → Type 0) → Option A → Type 0
Finds test found r = MatchOption r (test ≡ false) (λ x. (test ≡ true) × found x)

-- e of -e; b and c of b op c; and two numbers
abbrev pub FindsOperand : Expression → Option ℕ → Type 0
FindsOperand e r = (m : Memory) (n : ℕ) → Within n e → Finds (is_negation (tree_of m e)) (λ k. At m n k (under (tree_of m e))) r

abbrev pub FindsParts : InfixOperator → Expression → Option (ℕ × ℕ) → Type 0
FindsParts op e r =
    (m : Memory) (n : ℕ) → Within n e → Finds (is_infix op (tree_of m e)) (λ p. At m n p.0 (left (tree_of m e)) × At m n p.1 (right (tree_of m e))) r

abbrev pub FindsNumbers : (a b : Expression) → Option (Complex × Complex) → Type 0
FindsNumbers a b r =
    (m : Memory) → Finds (both_numbers (tree_of m a) (tree_of m b)) (λ z. (z.0 ≡ number_in (tree_of m a)) × (z.1 ≡ number_in (tree_of m b))) r

-- a test of a node's operands against another node
abbrev pub LikensTo : (Tree → Tree → Bool) → (m : Memory) (e : Expression) (k : ℕ) → Bool → Type 0
LikensTo test m e k r = (n : ℕ) (t : Tree) → Holds m n → Within n e → At m n k t → r ≡ test (tree_of m e) t

-- an operand beside one that is likened to another node
abbrev pub FindsBeside : (test : Tree → Tree → Bool) → (part : Tree → Tree) → (m : Memory) (e : Expression) (k : ℕ) → Option ℕ → Type 0
FindsBeside test part m e k r =
    (n : ℕ) (t : Tree) → Holds m n → Within n e → At m n k t → Finds (test (tree_of m e) t) (λ j. At m n j (part (tree_of m e))) r

-- the arm of two simplified operands
abbrev pub Chooses : (Tree → Tree → Plan) → (m : Memory) (l r : ℕ) (left right : Expression) → Arm → Type 0
Chooses plan m l r left right arm =
    (n : ℕ) → Holds m n → Sits m n l left → Sits m n r right → Chosen m n arm (plan (tree_of m left) (tree_of m right))

abbrev pub always : Tree → Tree → Bool
always l r = true

-- the same without the store, where `given` holds of the operands
abbrev pub ChoosesWhere : (given : Tree → Tree → Bool) → (Tree → Tree → Plan) → (l r : ℕ) (left right : Expression) → Arm → Type 0
ChoosesWhere given plan l r left right arm =
    (m : Memory) (n : ℕ) → Sits m n l left → Sits m n r right → given (tree_of m left) (tree_of m right) ≡ true
    → Chosen m n arm (plan (tree_of m left) (tree_of m right))

-- an arm exactly where a test of the operands holds, which is of their own operands alone
abbrev pub ChoosesFrom : (test : Tree → Tree → Bool) → (Tree → Tree → Plan) → (left right : Expression) → Option Arm → Type 0
ChoosesFrom test plan a b result =
    (m : Memory) (n : ℕ) → Within n a → Within n b → Finds (test (tree_of m a) (tree_of m b)) (λ arm. Chosen m n arm (plan (tree_of m a) (tree_of m b))) result

-- an arm exactly where the operands' own operands are alike, as arms 27 to 29 ask, and what 28 and 29 want
abbrev pub ChoosesLike : (test : Tree → Tree → Bool) → (Tree → Tree → Plan) → (m : Memory) (left right : Expression) → Option Arm → Type 0
ChoosesLike test plan m a b result =
    (n : ℕ) → Holds m n → Within n a → Within n b → Finds (test (tree_of m a) (tree_of m b)) (λ arm. Chosen m n arm (plan (tree_of m a) (tree_of m b))) result

abbrev pub product_of_sums : Tree → Tree → Plan
product_of_sums l r = S (combined InfixOperator.Star (S (new (sum (left l) (left r)))) (the (right l)))

abbrev pub doubled_sum : Tree → Tree → Plan
doubled_sum l r = S (combined InfixOperator.Plus (S (combined InfixOperator.Star (constant two_number) (the (left l)))) (S (new (sum (right l) (right r)))))

-- arms 30 and 31, where r is b op c
abbrev pub Groups : InfixOperator → (l r b c : ℕ) → Arm → Type 0
Groups op l r b c arm =
    (m : Memory) (n : ℕ) (t u : Tree) → At m n l t → At m n r u → At m n b (left u) → At m n c (right u) → Chosen m n arm (grouped_right op t u)

-- an arm exactly where a test of the operands holds, and which; and the same in a store that is read
abbrev pub ChoosesIf : (test : Tree → Tree → Bool) → (Tree → Tree → Plan) → (l r : ℕ) (left right : Expression) → Option Arm → Type 0
ChoosesIf test plan l r left right result =
    (m : Memory) (n : ℕ) → Sits m n l left → Sits m n r right
    → Finds (test (tree_of m left) (tree_of m right)) (λ arm. Chosen m n arm (plan (tree_of m left) (tree_of m right))) result

abbrev pub ChoosesIfHeld : (test : Tree → Tree → Bool) → (Tree → Tree → Plan) → (m : Memory) (l r : ℕ) (left right : Expression) → Option Arm → Type 0
ChoosesIfHeld test plan m l r left right result =
    (n : ℕ) → Holds m n → Sits m n l left → Sits m n r right
    → Finds (test (tree_of m left) (tree_of m right)) (λ arm. Chosen m n arm (plan (tree_of m left) (tree_of m right))) result

-- the arm of two simplified operands, by their numbers; and of one
abbrev pub ChoosesAt : (Tree → Tree → Plan) → (m : Memory) (l r : ℕ) → Arm → Type 0
ChoosesAt plan m l r arm = (n : ℕ) → Holds m n → l < n → r < n → Chosen m n arm (plan (tree_at m l) (tree_at m r))

abbrev pub ChoosesOne : (Tree → Plan) → (m : Memory) (x : ℕ) → Arm → Type 0
ChoosesOne plan m x arm = (n : ℕ) → Holds m n → x < n → Chosen m n arm (plan (tree_at m x))

-- one of two nodes, by their trees
abbrev pub Selects : (Tree → Tree → Tree) → (m : Memory) (a b r : ℕ) → Type 0
Selects select m a b r = (n : ℕ) → Holds m n → a < n → b < n → At m n r (select (tree_at m a) (tree_at m b))
