-- Nodes that become numbers: every other row stays, and what hangs on trees only through the same of their parts changes for no node.
-- Assumes nothing.
use mathlib.Core.Path.{◌≡◌, refl, sym, ap, ◌∙◌, subst}
use mathlib.Core.Bool.{Bool, true, false}
use mathlib.Core.Logic.{◌⊎◌, inl, inr, ⊎_elim}
use Prim.Native.Nat.{ℕ, zero, suc, ◌%◌, ◌<◌}
use native.Mathlib.Omega.{arith}
use native.Mathlib.Decide.{ℕ_discrete}
use lib.Dec.{T, eqb, eqb→eq}
use lib.Ieee.{Float}
use lib.ListN.{get_or, length-set}
use lib.Seq.{get_or-set_same, get_or-set_other}
use Rattle.complex.specs.declared.Complex.{Complex}
use Rattle.complex.specs.Bits.{bits_of, double_of, Fitting}
use Rattle.complex.specs.Constants.{of_parts}
use Rattle.complex.proofs.Doubles.{double_back}
use Rattle.expression.specs.declared.InfixOperator.{InfixOperator}
use Rattle.expression.specs.declared.PrefixOperator.{PrefixOperator}
use Rattle.expression.specs.declared.ExpressionFunction.{ExpressionFunction}
use Rattle.expression.specs.declared.node.Expression.{Expression}
use Rattle.expression.specs.Trees.{Tree, leaf, number, function_call, prefixed, infixed}
use Rattle.expression.specs.Nodes.{operands_of, grown, Within}
use Rattle.store.specs.Nodes.{fields, expression_as, expression_of}
use Rattle.store.specs.Memory.{Memory, room, fields_on, fields_at, expression_at, tree_at, tree_of}
use Rattle.store.specs.Held.{Holds}
use Rattle.store.specs.Numbers.{Tells, NumberIn, IsNumber, number_at, with_number, Numbers, OverNumbers, Ordered, Settling}
use Rattle.store.proofs.Trees.{tree_own, room_each}

-- ---- which nodes are numbers

Numeral : Expression → Type 0
Numeral (Expression.Number z) = Unit {0}
Numeral Expression.PiConstant = ⊥
Numeral (Expression.Variable v) = ⊥
Numeral (Expression.Address region index) = ⊥
Numeral (Expression.FunctionCall f a) = ⊥
Numeral (Expression.Prefix o a) = ⊥
Numeral (Expression.Infix o a b) = ⊥

numeral_kind : (k o a b : ℕ) → Numeral (expression_as k o a b) → k ≡ 1
unfolding Numeral expression_as
numeral_kind zero o a b h = absurd h
numeral_kind (suc zero) o a b h = refl
numeral_kind (suc (suc zero)) o a b h = absurd h
numeral_kind (suc (suc (suc zero))) o a b h = absurd h
numeral_kind (suc (suc (suc (suc zero)))) o a b h = absurd h
numeral_kind (suc (suc (suc (suc (suc zero))))) o a b h = absurd h
numeral_kind (suc (suc (suc (suc (suc (suc zero)))))) o a b h = absurd h
numeral_kind (suc (suc (suc (suc (suc (suc (suc k))))))) o a b h = absurd h

as_number : (k o a b : ℕ) → k ≡ 1 → expression_as k o a b ≡ Expression.Number (of_parts a b)
unfolding expression_as
as_number k o a b e = rw e refl

pub tells_number : (m : Memory) (i t : ℕ) → t ≡ get_or m.tag i 0 → Tells (eqb (t % 8) 1) (IsNumber m i)
unfolding NumberIn expression_of fields_on Numeral
tells_number m i t e = go (eqb (t % 8) 1) refl
  where
    go : (b : Bool) → eqb (t % 8) 1 ≡ b → Tells b (IsNumber m i)
    go true q = let k = eqb→eq (t % 8) 1 (rw q tt) in as_number _ _ _ _ (omega (arith, k, e))
    go false q = λ h. (let k = numeral_kind _ _ _ _ (subst Numeral (sym h) tt) in let j : t % 8 ≡ 1 = omega (arith, k, e) in subst T q (subst (λ x. T (eqb x 1)) (sym j) tt))

pub number_read : (m : Memory) (i : ℕ) {a b : ℕ} {x y : Float} → a ≡ get_or m.first i 0 → x ≡ double_of a → b ≡ get_or m.second i 0 → y ≡ double_of b
    → ◌≡◌ {A = Complex} (record { re = x; im = y }) (number_at m i)
unfolding number_at fields_on
number_read m i p q r s = rw (q, p, s, r) refl

-- the tree of a number
pub number_tree : (m : Memory) (k : ℕ) → IsNumber m k → tree_at m k ≡ leaf (number (number_at m k))
unfolding NumberIn number_at expression_at tree_at grown
number_tree m k h = rw h refl

-- ---- a store is ordered

pub ordered : {m : Memory} {n : ℕ} → Holds m n → Ordered m n
ordered h = record { fits = h.fits; within = λ k l. (h.each k l).within }

-- a node whose expression is known
module _ {m : Memory} {n node : ℕ} (o : Ordered m n) (l : node < n) {e e' : Expression} (e-is : e ≡ expression_at m node) (told : e ≡ e') where
  pub within_ordered : Within node e'
  within_ordered = subst (Within node) (sym e-is ∙ told) (o.within node l)

  pub tree_ordered : tree_of m e' ≡ tree_at m node
  tree_ordered = ap (tree_of m) (sym told ∙ e-is) ∙ sym (tree_own m node (o.within node l))

-- ---- one node becomes a number

-- F of a tree hangs on its parts only through F of them
pub record Compositional {A : Type 0} (F : Tree → A) : Type 0 where
  pub calls : (f : ExpressionFunction) (t u : Tree) → F t ≡ F u → F (function_call f t) ≡ F (function_call f u)
  pub prefixes : (o : PrefixOperator) (t u : Tree) → F t ≡ F u → F (prefixed o t) ≡ F (prefixed o u)
  pub infixes : (o : InfixOperator) (s t u v : Tree) → F s ≡ F u → F t ≡ F v → F (infixed o s t) ≡ F (infixed o u v)

module _ {A : Type 0} {F : Tree → A} (c : Compositional F) where
  grown_same : (look look' : ℕ → Tree) (n : ℕ) (e : Expression) → Within n e → ((k : ℕ) → k < n → F (look k) ≡ F (look' k)) → F (grown look e) ≡ F (grown look' e)
  unfolding grown
  grown_same look look' n (Expression.Number z) w h = refl
  grown_same look look' n Expression.PiConstant w h = refl
  grown_same look look' n (Expression.Variable v) w h = refl
  grown_same look look' n (Expression.Address r i) w h = refl
  grown_same look look' n (Expression.FunctionCall f a) w h = c.calls f (look a) (look' a) (h a w)
  grown_same look look' n (Expression.Prefix o a) w h = c.prefixes o (look a) (look' a) (h a w)
  grown_same look look' n (Expression.Infix o a b) w h = c.infixes o (look a) (look b) (look' a) (look' b) (h a w.0) (h b w.1)

  -- a row is overwritten by a number that has the same F
  module _ {m : Memory} {n node : ℕ} (o : Ordered m n) (l : node < n) {z : Complex} (f : Fitting z) where
    there : fields_at (with_number m node z) node ≡ fields 1 (bits_of z.re) (bits_of z.im)
    unfolding fields_on
    there =
        let r = room_each m n o.fits in
        rw (get_or-set_same m.tag node 1 0 (omega (arith, r.tags, l)), get_or-set_same m.first node (bits_of z.re) 0 (omega (arith, r.firsts, l)), get_or-set_same m.second node (bits_of z.im) 0 (omega (arith, r.seconds, l))) refl

    elsewhere : (k : ℕ) → (k ≡ node → ⊥) → fields_at (with_number m node z) k ≡ fields_at m k
    unfolding fields_on
    elsewhere k d = rw (get_or-set_other m.tag node k 1 0 d, get_or-set_other m.first node k (bits_of z.re) 0 d, get_or-set_other m.second node k (bits_of z.im) 0 d) refl

    number_there : expression_at (with_number m node z) node ≡ Expression.Number z
    unfolding expression_at expression_of expression_as
    number_there =
        let a = double_back z.re f.re in
        let b = double_back z.im f.im in
        ap expression_of there ∙ λ i. Expression.Number (record { re = a i; im = b i })

    other_there : (k : ℕ) → (k ≡ node → ⊥) → expression_at (with_number m node z) k ≡ expression_at m k
    unfolding expression_at
    other_there k d = ap expression_of (elsewhere k d)

    pub put_is_number : IsNumber (with_number m node z) node
    unfolding NumberIn expression_of expression_as
    put_is_number = subst NumberIn (sym there) refl

    still_within : (k : ℕ) → k < n → Within k (expression_at (with_number m node z) k)
    still_within k i = go (ℕ_discrete k node)
      where
        go : Dec (k ≡ node) → Within k (expression_at (with_number m node z) k)
        go (yes e) = rw (e, number_there) tt
        go (no d) = rw (other_there k d) (o.within k i)

    still_ordered : Ordered (with_number m node z) n
    unfolding room
    still_ordered = record { fits = rw (length-set m.tag node 1, length-set m.first node (bits_of z.re), length-set m.second node (bits_of z.im), length-set m.link node 0) o.fits; within = still_within }

    module _ (p : F (leaf (number z)) ≡ F (tree_at m node)) where
      at_node : F (tree_at (with_number m node z) node) ≡ F (tree_at m node)
      unfolding grown
      at_node = ap F (tree_own (with_number m node z) node (still_within node l) ∙ ap (tree_of (with_number m node z)) number_there) ∙ p

      still_same : (b k : ℕ) → k < b → k < n → F (tree_at (with_number m node z) k) ≡ F (tree_at m k)
      still_same zero k h i = absurd (omega arith)
      still_same (suc b) k h i = go (λ j x. still_same b j (omega (arith, x, h)) (omega (arith, x, i))) (ℕ_discrete k node)
        where
          go : ((j : ℕ) → j < k → F (tree_at (with_number m node z) j) ≡ F (tree_at m j)) → Dec (k ≡ node) → F (tree_at (with_number m node z) k) ≡ F (tree_at m k)
          go below (yes e) = rw e at_node
          go below (no d) =
              ap F (tree_own (with_number m node z) k (still_within k i) ∙ ap (tree_of (with_number m node z)) (other_there k d))
              ∙ grown_same (tree_at (with_number m node z)) (tree_at m) k (expression_at m k) (o.within k i) below
              ∙ ap F (sym (tree_own m k (o.within k i)))

      pub settles : Settling F n m (with_number m node z)
      settles = record { ordered = still_ordered; same = λ k i. still_same n k i i; rows = rows }
        where
          rows : (k : ℕ) → IsNumber (with_number m node z) k ⊎ (fields_at (with_number m node z) k ≡ fields_at m k)
          rows k = go (ℕ_discrete k node)
            where
              go : Dec (k ≡ node) → IsNumber (with_number m node z) k ⊎ (fields_at (with_number m node z) k ≡ fields_at m k)
              go (yes e) = inl (rw e put_is_number)
              go (no d) = inr (elsewhere k d)

-- ---- one after another

module _ {A : Type 0} {F : Tree → A} {n : ℕ} where
  pub settles_nothing : {m : Memory} → Ordered m n → Settling F n m m
  settles_nothing o = record { ordered = o; same = λ k l. refl; rows = λ k. inr refl }

  module _ {m m' : Memory} (s : Settling F n m m') where
    pub stays_number : (k : ℕ) → IsNumber m k → IsNumber m' k
    stays_number k h = ⊎_elim (λ x. x) (λ e. subst NumberIn (sym e) h) (s.rows k)

    pub settles_both : {m'' : Memory} → Settling F n m' m'' → Settling F n m m''
    settles_both {m''} t = record {
      ordered = t.ordered;
      same = λ k l. t.same k l ∙ s.same k l;
      rows = λ k. ⊎_elim inl (λ e. ⊎_elim (λ x. inl (subst NumberIn (sym e) x)) (λ d. inr (e ∙ d)) (s.rows k)) (t.rows k);
    }

    -- where the operands that a node had are numbers, those that it has are
    pub over_numbers : (k : ℕ) → Numbers m' (operands_of (expression_at m k)) → OverNumbers m' k
    unfolding expression_at NumberIn operands_of
    over_numbers k h = ⊎_elim (λ x. subst (λ e. Numbers m' (operands_of e)) (sym x) tt) (λ e. subst (λ x. Numbers m' (operands_of (expression_of x))) (sym e) h) (s.rows k)
