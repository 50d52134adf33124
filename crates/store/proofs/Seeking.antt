-- In a store a tree has one place and one class, and the walk through the index finds both. Assumes nothing.
use mathlib.Core.Path.{◌≡◌, sym, ap, ◌∙◌, subst}
use mathlib.Core.List.{List}
use Prim.Native.Nat.{ℕ, ◌≤◌, ◌<◌}
use native.Mathlib.Omega.{arith}
use lib.Dec.{T}
use lib.ListN.{length, get_or}
use Rattle.expression.specs.Trees.{Tree, leaf, pi}
use Rattle.expression.specs.Alike.{identical, equal}
use Rattle.expression.proofs.Likeness.{identical_same, same_identical, equal_sym, equal_trans, equal_tests, same_equal}
use Rattle.expression.specs.declared.node.Expression.{Expression}
use Rattle.store.specs.Nodes.{fields_of, expression_of}
use Rattle.expression.specs.Nodes.{Within, Sound}
use Rattle.store.specs.Storing.{place}
use Rattle.store.specs.Memory.{Memory, fields_at, class_at, expression_at, trees, tree_at, tree_of}
use Rattle.store.specs.Index.{key_of, key_at}
use Rattle.store.specs.Held.{Holds}
use Rattle.store.specs.Walk.{Kinship, kin, stranger, Walked}
use Rattle.store.proofs.Places.{place_hit, place_first, place_alike, place_at, place_none}
use Rattle.store.proofs.Coding.{back}
use Rattle.store.proofs.Trees.{length_trees, trees_at, proper_at, proper_of, tree_own, within_more, sound_of}
use Rattle.store.proofs.Keys.{same_fields, same_key, key_equal}

module _ {m : Memory} {n : ℕ} (h : Holds m n) where
  abbrev ts : List Tree
  ts = trees m n

  below : {k : ℕ} → k < n → k < length ts
  below l = omega (arith, l, length_trees m n)

  -- ---- a node's place and class

  pub own_place : (k : ℕ) → k < n → place (identical (tree_at m k)) ts ≡ k
  own_place k l =
      place_at (identical (tree_at m k)) ts k (below l) (same_identical _ _ (sym (trees_at m n k l))) λ j o p.
      let lj : j < n = omega arith in
      let e = identical_same _ _ (proper_at m k) (proper_at m j) (subst (λ u. T (identical (tree_at m k) u)) (trees_at m n j lj) p) in
      let d = h.apart k j l lj e in
      omega arith

  -- the place of the first equal tree: there is one, and it is equal
  pub class_inside : (k : ℕ) → k < n → class_at m k ≤ k
  class_inside k l = rw (h.each k l).classed (place_first (equal (tree_at m k)) ts k (below l) (same_equal _ _ (sym (trees_at m n k l))))

  pub class_equal : (k : ℕ) → k < n → T (equal (tree_at m k) (tree_at m (class_at m k)))
  class_equal k l =
      let c : class_at m k < n = omega (arith, class_inside k l) in
      let e = (h.each k l).classed in
      let p = place_hit (equal (tree_at m k)) ts (subst (λ x. x < length ts) e (below c)) in
      subst (λ u. T (equal (tree_at m k) u)) (trees_at m n (class_at m k) c) (subst (λ x. T (equal (tree_at m k) (get_or ts x (leaf pi)))) (sym e) p)

  pub class_of_tree : (s t : Tree) → T (equal s t) → place (equal s) ts ≡ place (equal t) ts
  class_of_tree s t p = place_alike (equal s) (equal t) (equal_tests s t p) ts

  -- two nodes have the same class exactly when their trees are equal
  pub equal_class : (i j : ℕ) → i < n → j < n → T (equal (tree_at m i) (tree_at m j)) → class_at m i ≡ class_at m j
  equal_class i j l o p = (h.each i l).classed ∙ class_of_tree _ _ p ∙ sym (h.each j o).classed

  pub class_is_equal : (i j : ℕ) → i < n → j < n → class_at m i ≡ class_at m j → T (equal (tree_at m i) (tree_at m j))
  class_is_equal i j l o e =
      equal_trans _ _ _ (class_equal i l) (equal_sym _ _ (subst (λ c. T (equal (tree_at m j) (tree_at m c))) (sym e) (class_equal j o)))

  -- ---- a node as its expression

  pub tree_is : (k : ℕ) → k < n → tree_at m k ≡ tree_of m (expression_at m k)
  tree_is k l = tree_own m k (h.each k l).within

  pub within : (k : ℕ) → k < n → Within n (expression_at m k)
  within k l = within_more k n (expression_at m k) (omega arith) (h.each k l).within

  sound : (k : ℕ) → Sound (expression_at m k)
  unfolding expression_at
  sound k = sound_of (fields_at m k)

  -- ---- what the walk found

  module _ (e : Expression) (s : Sound e) (w : Within n e) where
    abbrev t : Tree
    t = tree_of m e

    tree_of_fields : (k : ℕ) → k < n → fields_at m k ≡ fields_of e → tree_at m k ≡ t
    unfolding expression_at
    tree_of_fields k l p = tree_is k l ∙ ap (tree_of m) (ap expression_of p ∙ back e s)

    fields_of_tree : (k : ℕ) → k < n → tree_at m k ≡ t → fields_at m k ≡ fields_of e
    fields_of_tree k l p =
        (h.each k l).formed ∙ same_fields (λ u. place (identical u) ts) (tree_at m) n own_place (expression_at m k) e (within k l) w (sym (tree_is k l) ∙ p)

    key_at_lem : (k : ℕ) → k < n → key_at m k ≡ key_of (class_at m) (fields_of (expression_at m k))
    unfolding key_at
    key_at_lem k l = ap (key_of (class_at m)) (h.each k l).formed

    equal_of_key : (k : ℕ) → k < n → key_at m k ≡ key_of (class_at m) (fields_of e) → T (equal t (tree_at m k))
    equal_of_key k l p =
        subst (λ u. T (equal t u)) (sym (tree_is k l))
        (key_equal (class_at m) (tree_at m) n class_equal e (expression_at m k) s (sound k) w (within k l) (sym p ∙ key_at_lem k l))

    key_of_equal : (k : ℕ) → k < n → T (equal t (tree_at m k)) → key_at m k ≡ key_of (class_at m) (fields_of e)
    key_of_equal k l p =
        key_at_lem k l
        ∙ sym
        (same_key (class_at m) (λ u. place (equal u) ts) (tree_at m) n (λ a o. sym (h.each a o).classed) class_of_tree e (expression_at m k) w (within k l)
        (proper_of m e s) (proper_of m (expression_at m k) (sound k)) (subst (λ u. T (equal t u)) (tree_is k l) p))

    module _ {node class : ℕ} (q : Walked m n (fields_of e) (key_of (class_at m) (fields_of e)) node class) where
      pub found_tree : node < n → tree_at m node ≡ t
      found_tree l = tree_of_fields node l (q.own l)

      pub found_place : node < n → place (identical t) ts ≡ node
      found_place l = ap (λ u. place (identical u) ts) (sym (found_tree l)) ∙ own_place node l

      -- a tree that is nowhere
      pub nowhere : n ≤ node → (k : ℕ) → k < n → tree_at m k ≡ t → ⊥
      nowhere o k l p = q.none o k l (fields_of_tree k l p)

      pub no_place : n ≤ node → place (identical t) ts ≡ n
      no_place o =
          place_none (identical t) ts (λ k l p.
          let lk : k < n = omega (arith, l, length_trees m n) in
          nowhere o k lk (sym (identical_same _ _ (proper_of m e s) (proper_at m k) (subst (λ u. T (identical t u)) (trees_at m n k lk) p))))
          ∙ length_trees m n

      pub found_class : n ≤ node → class ≡ place (equal t) ts
      found_class o = go (q.kinship o)
        where
          go : Kinship m n (key_of (class_at m) (fields_of e)) 0 class → class ≡ place (equal t) ts
          go (kin j l p c) = c ∙ (h.each j l).classed ∙ sym (class_of_tree t (tree_at m j) (equal_of_key j l p))
          go (stranger c f) =
              c
              ∙ sym
              (place_none (equal t) ts (λ k l p.
              let lk : k < n = omega (arith, l, length_trees m n) in
              f k (omega arith) lk (key_of_equal k lk (subst (λ u. T (equal t u)) (trees_at m n k lk) p)))
              ∙ length_trees m n)
