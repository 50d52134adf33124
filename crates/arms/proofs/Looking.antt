-- What a test of a node or of its operands shows. Assumes nothing.
use mathlib.Core.Path.{◌≡◌, refl, sym, ◌∙◌, subst}
use mathlib.Core.Bool.{Bool, true, false}
use Prim.Native.Nat.{ℕ, ◌<◌}
use native.Mathlib.Omega.{arith}
use lib.Dec.{T}
use Rattle.complex.specs.declared.Complex.{Complex}
use Rattle.expression.specs.Trees.{Tree}
use Rattle.expression.specs.Alike.{equal}
use Rattle.expression.specs.declared.InfixOperator.{InfixOperator}
use Rattle.expression.specs.declared.node.Expression.{Expression}
use Rattle.expression.specs.Nodes.{grown, Within}
use Rattle.store.specs.Memory.{Memory, expression_at, tree_at, tree_of}
use Rattle.store.specs.Held.{Holds, Compares}
use Rattle.store.proofs.Stored.{read_node}
use Rattle.arms.specs.Looks.{is_number_of, is_number, is_infix, left, right}
use Rattle.arms.specs.Tables.{both_hold, either_holds}
use Rattle.std.specs.Prelude.{Option, Some, None}
use Rattle.arms.specs.Choosing.{At, Finds, Sits}

pub never : {A : Type 0} → false ≡ true → A
never e = absurd (subst T (sym e) tt)

-- what a callee tells, and how the test went
pub so : {r t b : Bool} → r ≡ t → r ≡ b → t ≡ b
so p q = sym p ∙ q

-- ---- numbers

pub other_than_number : (e : Expression) → ((z : Complex) → e ≡ Expression.Number z → ⊥) → (m : Memory) → is_number (tree_of m e) ≡ false
unfolding is_number_of grown
other_than_number (Expression.Number z) f m = absurd (f z refl)
other_than_number Expression.PiConstant f m = refl
other_than_number (Expression.Variable v) f m = refl
other_than_number (Expression.Address region index) f m = refl
other_than_number (Expression.FunctionCall g a) f m = refl
other_than_number (Expression.Prefix o a) f m = refl
other_than_number (Expression.Infix o a b) f m = refl

-- ---- of two tests

pub first_of_both : (a b : Bool) → both_hold a b ≡ true → a ≡ true
unfolding both_hold
first_of_both true b e = refl
first_of_both false b e = e

-- by the first of them
pub both_yes : {a b c r : Bool} → a ≡ c → c ≡ true → r ≡ b → r ≡ both_hold a b
unfolding both_hold
both_yes e f g = rw (e ∙ f) g

pub both_not : {a c : Bool} (b : Bool) → a ≡ c → c ≡ false → false ≡ both_hold a b
unfolding both_hold
both_not b e f = rw (e ∙ f) refl

pub both_true : {a b : Bool} → a ≡ true → b ≡ true → both_hold a b ≡ true
unfolding both_hold
both_true e f = rw e f

pub not_first : {a : Bool} (b : Bool) → a ≡ false → both_hold a b ≡ false
unfolding both_hold
not_first b e = rw e refl

pub not_second : (a : Bool) {b : Bool} → b ≡ false → both_hold a b ≡ false
unfolding both_hold
not_second true e = e
not_second false e = refl

pub either_first : {a : Bool} (b : Bool) → a ≡ true → either_holds a b ≡ true
unfolding either_holds
either_first b e = rw e refl

pub either_second : (a : Bool) {b : Bool} → b ≡ true → either_holds a b ≡ true
unfolding either_holds
either_second true e = refl
either_second false e = e

pub neither : {a b : Bool} → a ≡ false → b ≡ false → either_holds a b ≡ false
unfolding either_holds
neither e f = rw e f

-- ---- nodes and their trees

within_more : (n k : ℕ) (e : Expression) → k < n → Within k e → Within n e
within_more n k (Expression.Number z) l w = tt
within_more n k Expression.PiConstant l w = tt
within_more n k (Expression.Variable v) l w = tt
within_more n k (Expression.Address region index) l w = tt
within_more n k (Expression.FunctionCall f a) l w = omega (arith, l, w)
within_more n k (Expression.Prefix o a) l w = omega (arith, l, w)
within_more n k (Expression.Infix o a b) l w = (omega (arith, l, w.0), omega (arith, l, w.1))

module _ {m : Memory} {n : ℕ} where
  pub here : {k : ℕ} → k < n → At m n k (tree_at m k)
  here l = record { inside = l; tree = refl }

  -- a node that was read
  pub tree_of_lem : Holds m n → {k : ℕ} {e : Expression} → k < n → e ≡ expression_at m k → tree_of m e ≡ tree_at m k
  tree_of_lem h {k} l p = (read_node h k l p).1

  pub within_of : Holds m n → {k : ℕ} {e : Expression} → k < n → e ≡ expression_at m k → Within n e
  within_of h {k} {e} l p = within_more n k e l (read_node h k l p).0

  pub sits : Holds m n → {k : ℕ} {e : Expression} → k < n → e ≡ expression_at m k → Sits m n k e
  sits h l p = record { at = record { inside = l; tree = sym (tree_of_lem h l p) }; within = within_of h l p }

-- ---- what was found, and compared

-- what was found is more than that
pub finds_on : {A : Type 0} (b : Bool) {P Q : A → Type 0} (r : Option A) → ((x : A) → P x → Q x) → Finds b P r → Finds b Q r
finds_on b None f p = p
finds_on b (Some x) f p = (p.0, f x p.1)

-- b and c of b op c, of an equal tree
pub found_along : (m : Memory) (n : ℕ) (op : InfixOperator) {t u : Tree} (r : Option (ℕ × ℕ)) → t ≡ u
    → Finds (is_infix op t) (λ p. At m n p.0 (left t) × At m n p.1 (right t)) r → Finds (is_infix op u) (λ p. At m n p.0 (left u) × At m n p.1 (right u)) r
found_along m n op r e f = subst (λ t. Finds (is_infix op t) (λ p. At m n p.0 (left t) × At m n p.1 (right t)) r) e f

-- two nodes that were compared
pub compared : {m : Memory} {n a b : ℕ} {r : Bool} {t u : Tree} → Compares m a b r → Holds m n → At m n a t → At m n b u → r ≡ equal t u
compared {n = n} c h a b = c n h a.inside b.inside ∙ (λ i. equal (a.tree i) (b.tree i))
