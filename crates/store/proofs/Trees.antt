-- What holds of the trees of numbered nodes: each stands at its number, over those before it, and is proper; and slices with the same
-- fields have the same trees. Assumes nothing.
use mathlib.Core.Path.{◌≡◌, refl, sym, ap, ◌∙◌, subst}
use mathlib.Core.List.{List, [], ◌∷◌, ◌++◌}
use mathlib.Core.Logic.{⊎_elim}
use Prim.Native.Nat.{ℕ, zero, suc, ◌%◌, ◌/◌, ◌≤◌, ◌<◌}
use native.Mathlib.Nat.{eq-or-lt_of_le, mod-lt}
use native.Mathlib.Omega.{arith}
use lib.ListN.{length, get_or, length-append, get_or-append}
use lib.Seq.{get_or_at}
use Rattle.complex.proofs.Pairs.{of_parts_fitting}
use Rattle.expression.specs.Trees.{Tree, leaf, pi, function_call, prefixed}
use Rattle.expression.specs.Limits.{Proper}
use Rattle.expression.specs.declared.node.Expression.{Expression}
use Rattle.store.specs.declared.node.Fields.{Fields}
use Rattle.store.specs.Nodes.{expression_as, expression_of}
use Rattle.expression.specs.Nodes.{grown, Within, Sound, measure, measure_from}
use Rattle.store.specs.Memory.{Memory, room, fields_at, expression_at, trees, tree_at, tree_of}

-- ---- nodes

-- what fields are is sound
sound_as : (k o a b : ℕ) → Sound (expression_as k o a b)
unfolding expression_as
sound_as zero o a b = tt
sound_as (suc zero) o a b = of_parts_fitting a b
sound_as (suc (suc zero)) o a b = tt
sound_as (suc (suc (suc zero))) o a b = mod-lt a (omega arith)
sound_as (suc (suc (suc (suc zero)))) o a b = (mod-lt a (omega arith), mod-lt b (omega arith))
sound_as (suc (suc (suc (suc (suc zero))))) o a b = tt
sound_as (suc (suc (suc (suc (suc (suc zero)))))) o a b = tt
sound_as (suc (suc (suc (suc (suc (suc (suc k))))))) o a b = tt

pub sound_of : (f : Fields) → Sound (expression_of f)
unfolding expression_of
sound_of f = sound_as (f.code % 8) (f.code / 8) f.first f.second

pub grown_proper : (look : ℕ → Tree) → ((k : ℕ) → Proper (look k)) → (e : Expression) → Sound e → Proper (grown look e)
unfolding grown
grown_proper look h (Expression.Number z) s = s
grown_proper look h Expression.PiConstant s = tt
grown_proper look h (Expression.Variable v) s = s
grown_proper look h (Expression.Address r i) s = s
grown_proper look h (Expression.FunctionCall f a) s = h a
grown_proper look h (Expression.Prefix o a) s = h a
grown_proper look h (Expression.Infix o a b) s = (h a, h b)

-- a node's tree hangs on the trees of its operands alone
pub grown_alike : (look look' : ℕ → Tree) (n : ℕ) (e : Expression) → Within n e → ((k : ℕ) → k < n → look k ≡ look' k) → grown look e ≡ grown look' e
unfolding grown
grown_alike look look' n (Expression.Number z) w h = refl
grown_alike look look' n Expression.PiConstant w h = refl
grown_alike look look' n (Expression.Variable v) w h = refl
grown_alike look look' n (Expression.Address r i) w h = refl
grown_alike look look' n (Expression.FunctionCall f a) w h = ap (function_call f) (h a w)
grown_alike look look' n (Expression.Prefix o a) w h = ap (prefixed o) (h a w)
grown_alike look look' n (Expression.Infix o a b) w h = rw (h a w.0, h b w.1) refl

pub within_more : (k n : ℕ) (e : Expression) → k ≤ n → Within k e → Within n e
within_more k n (Expression.Number z) l w = tt
within_more k n Expression.PiConstant l w = tt
within_more k n (Expression.Variable v) l w = tt
within_more k n (Expression.Address r i) l w = tt
within_more k n (Expression.FunctionCall f a) l w = omega (arith, w)
within_more k n (Expression.Prefix o a) l w = omega (arith, w)
within_more k n (Expression.Infix o a b) l w = (omega (arith, w.0), omega (arith, w.1))

pub measure_grown : (both : ℕ → ℕ → ℕ) (look : ℕ → Tree) (of : ℕ → ℕ) (n : ℕ) (e : Expression) → Within n e → ((k : ℕ) → k < n → of k ≡ measure both (look k))
    → measure_from both of e ≡ measure both (grown look e)
unfolding grown measure measure_from
measure_grown both look of n (Expression.Number z) w h = refl
measure_grown both look of n Expression.PiConstant w h = refl
measure_grown both look of n (Expression.Variable v) w h = refl
measure_grown both look of n (Expression.Address r i) w h = refl
measure_grown both look of n (Expression.FunctionCall f a) w h = rw (h a w) refl
measure_grown both look of n (Expression.Prefix o a) w h = rw (h a w) refl
measure_grown both look of n (Expression.Infix o a b) w h = rw (h a w.0, h b w.1) refl

-- ---- the list of trees

-- what holds of each tree of a list and of one more holds of each of both
snoc_all : (P : Tree → Type 0) (ts : List Tree) (t : Tree) → P (leaf pi) → P t → ((k : ℕ) → P (get_or ts k (leaf pi)))
    → (k : ℕ) → P (get_or (ts ++ (t ∷ [])) k (leaf pi))
snoc_all P [] t d h f zero = h
snoc_all P [] t d h f (suc k) = d
snoc_all P (s ∷ ts) t d h f zero = f 0
snoc_all P (s ∷ ts) t d h f (suc k) = snoc_all P ts t d h (λ j. f (suc j)) k

module _ (m : Memory) where
  pub length_trees : (n : ℕ) → length (trees m n) ≡ n
  unfolding trees
  length_trees zero = refl
  length_trees (suc n) = length-append (trees m n) _ ∙ omega (arith, length_trees n)

  -- each tree of the list is its node's tree
  pub trees_at : (n k : ℕ) → k < n → get_or (trees m n) k (leaf pi) ≡ tree_at m k
  unfolding trees tree_at
  trees_at zero k h = absurd (omega arith)
  trees_at (suc n) k h =
      ⊎_elim
      (λ e. rw e (get_or_at (trees m n) _ [] (leaf pi) n (length_trees n)))
      (λ l. get_or-append (trees m n) _ (leaf pi) k (omega (arith, length_trees n)) ∙ trees_at n k l)
      (eq-or-lt_of_le {n = k} {m = n} (omega arith))

  each_proper : (n k : ℕ) → Proper (get_or (trees m n) k (leaf pi))
  unfolding trees expression_at
  each_proper zero k = tt
  each_proper (suc n) k =
      snoc_all Proper (trees m n) _ tt (grown_proper (λ i. get_or (trees m n) i (leaf pi)) (each_proper n) _ (sound_of (fields_at m n))) (each_proper n) k

  pub proper_at : (k : ℕ) → Proper (tree_at m k)
  proper_at k = subst Proper (trees_at (suc k) k (omega arith)) (each_proper (suc k) k)

  pub proper_of : (e : Expression) → Sound e → Proper (tree_of m e)
  proper_of e s = grown_proper (tree_at m) proper_at e s

  -- a node whose operands stand before it has the tree of its expression
  pub tree_own : (k : ℕ) → Within k (expression_at m k) → tree_at m k ≡ tree_of m (expression_at m k)
  unfolding tree_at
  tree_own k w = grown_alike _ _ k (expression_at m k) w λ i l. trees_at k i l

-- ---- two memories with the same fields

module _ (m m' : Memory) where
  pub trees_alike : (n : ℕ) → ((k : ℕ) → k < n → fields_at m' k ≡ fields_at m k) → trees m' n ≡ trees m n
  unfolding trees expression_at
  trees_alike zero h = refl
  trees_alike (suc n) h = rw (h n (omega arith), trees_alike n λ k l. h k (omega arith)) refl

  pub tree_alike : (n : ℕ) → ((k : ℕ) → k < n → fields_at m' k ≡ fields_at m k) → (k : ℕ) → k < n → tree_at m' k ≡ tree_at m k
  tree_alike n h k l = sym (trees_at m' n k l) ∙ ap (λ ts. get_or ts k (leaf pi)) (trees_alike n h) ∙ trees_at m n k l

-- ---- room

pub record Room (m : Memory) (n : ℕ) : Type 0 where
  pub tags : n ≤ length m.tag
  pub firsts : n ≤ length m.first
  pub seconds : n ≤ length m.second
  pub links : n ≤ length m.link
  pub most : n ≤ 4096

pub room_each : (m : Memory) (n : ℕ) → n ≤ room m → Room m n
unfolding room
room_each m n h = record { tags = omega arith; firsts = omega arith; seconds = omega arith; links = omega arith; most = omega arith }
