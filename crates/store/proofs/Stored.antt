-- What a store holds, for those who build on it: nodes and stored trees correspond one to one, a stored tree is always found, what is
-- read of a node is its tree's, and two answers that a builder's contract allows are equal. Assumes nothing.
use mathlib.Core.Path.{◌≡◌, refl, sym, ap, ◌∙◌, subst}
use mathlib.Core.Bool.{true, false≢true}
use mathlib.Core.List.{List}
use Prim.Native.Nat.{ℕ, ◌<◌}
use native.Mathlib.Omega.{arith}
use native.Mathlib.Decide.{dec_lt}
use lib.Dec.{T}
use lib.ListN.{length}
use Rattle.std.specs.Prelude.{Result, Ok, Err, IfOk, IsErr}
use Rattle.expression.specs.declared.refusal.Refusal.{Refusal}
use Rattle.expression.specs.Trees.{Tree, leaf, pi, size, depth}
use Rattle.expression.specs.Alike.{identical, equal}
use Rattle.expression.specs.Limits.{Limited, Proper}
use Rattle.expression.proofs.Likeness.{identical_same}
use Rattle.expression.specs.declared.node.Expression.{Expression}
use Rattle.store.specs.Nodes.{fields_of}
use Rattle.expression.specs.Nodes.{Within, Sound}
use Rattle.store.specs.Storing.{State, state, Answer, gives, refused, among, place}
use Rattle.store.specs.Memory.{Memory, size_at, depth_at, class_at, expression_at, trees, tree_at, tree_of}
use Rattle.store.specs.Index.{key_of}
use Rattle.store.specs.Held.{Holds, Lent, state_in, seen, Built}
use Rattle.store.specs.declared.desk.Refused.{Refused}
use Rattle.store.specs.Desk.{count, refusal_on}
use Rattle.store.specs.Walk.{Walked}
use Rattle.store.proofs.Places.{place_within, place_hit, among_yes, among_no}
use Rattle.store.proofs.Trees.{length_trees, trees_at, proper_at}
use Rattle.store.proofs.Seeking.{own_place, tree_is, equal_class, found_place, no_place}

-- a node that has this tree
pub record NodeOf (m : Memory) (n : ℕ) (t : Tree) : Type 0 where
  pub at : ℕ
  pub inside : at < n
  pub tree : tree_at m at ≡ t

module _ {m : Memory} {n : ℕ} (h : Holds m n) where
  -- ---- one to one

  pub as_many : length (trees m n) ≡ n
  as_many = length_trees m n

  pub one_node : (i j : ℕ) → i < n → j < n → tree_at m i ≡ tree_at m j → i ≡ j
  one_node = h.apart

  pub stored : (k : ℕ) → k < n → among (trees m n) (tree_at m k) ≡ true
  stored k l = among_yes (trees m n) (tree_at m k) (rw (own_place h k l, length_trees m n) l)

  pub node_of : (t : Tree) → Proper t → among (trees m n) t ≡ true → NodeOf m n t
  node_of t p y = go (dec_lt (place (identical t) (trees m n)) n)
    where
      go : Dec (place (identical t) (trees m n) < n) → NodeOf m n t
      go (yes l) =
          let k = place (identical t) (trees m n) in
          let i = subst (λ u. T (identical t u)) (trees_at m n k l) (place_hit (identical t) (trees m n) (rw (length_trees m n) l)) in
          record { at = k; inside = l; tree = sym (identical_same t (tree_at m k) p (proper_at m k) i) }
      go (no q) =
          let e = among_no (trees m n) t (omega (arith, q, place_within (identical t) (trees m n), length_trees m n)) in
          absurd (subst T (sym y ∙ e) tt)

  -- every stored tree is proper and within the limits
  pub proper : (k : ℕ) → Proper (tree_at m k)
  proper = proper_at m

  pub limited : (k : ℕ) → k < n → Limited (tree_at m k)
  limited k l = (h.each k l).limited

  -- ---- the index is complete: the walk finds the node of every stored tree

  pub always_found : (e : Expression) → Sound e → Within n e → {node class : ℕ}
      → Walked m n (fields_of e) (key_of (class_at m) (fields_of e)) node class → (k : ℕ) → k < n → tree_at m k ≡ tree_of m e → node ≡ k
  always_found e s w {node} q k l p = go (dec_lt node n)
    where
      here : place (identical (tree_of m e)) (trees m n) ≡ k
      here = ap (λ u. place (identical u) (trees m n)) (sym p) ∙ own_place h k l

      go : Dec (node < n) → node ≡ k
      go (yes o) = sym (found_place h e s w q o) ∙ here
      go (no o) = let x = no_place h e s w q (omega (arith, o)) in absurd (omega (arith, here, x))

  -- ---- nodes whose zeros differ in sign are distinct, of one class

  pub apart_of_one_class : (i j : ℕ) → i < n → j < n → T (equal (tree_at m i) (tree_at m j)) → (tree_at m i ≡ tree_at m j → ⊥)
      → (i ≡ j → ⊥) × (class_at m i ≡ class_at m j)
  apart_of_one_class i j l o p q = (λ e. q (ap (tree_at m) e), equal_class h i j l o p)

  -- ---- what the functions that read give

  pub read_node : {r : Expression} (k : ℕ) → k < n → r ≡ expression_at m k → Within k r × (tree_of m r ≡ tree_at m k)
  read_node k l e = (rw e (h.each k l).within, rw e (sym (tree_is h k l)))

  pub read_size : {r : ℕ} (k : ℕ) → k < n → r ≡ size_at m k → r ≡ size (tree_at m k)
  read_size k l e = e ∙ (h.each k l).sized

  pub read_depth : {r : ℕ} (k : ℕ) → k < n → r ≡ depth_at m k → r ≡ depth (tree_at m k)
  read_depth k l e = e ∙ (h.each k l).deep

-- a node whose expression is known
module _ {m : Memory} {n node : ℕ} (h : Holds m n) (l : node < n) {e e' : Expression} (e-is : e ≡ expression_at m node) (told : e ≡ e') where
  pub within_node : Within node e'
  within_node = rw told at (read_node h node l e-is).0

  pub tree_of_node : tree_of m e' ≡ tree_at m node
  tree_of_node = rw told at (read_node h node l e-is).1

-- ---- one answer: what is built determines the answer, whichever way what is lent was left

tree_in_lem : Answer → Tree
tree_in_lem (gives t σ) = t
tree_in_lem (refused why σ) = leaf pi

state_in_lem : Answer → State
state_in_lem (gives t σ) = σ
state_in_lem (refused why σ) = σ

stored_in_lem : State → List Tree
stored_in_lem (state room stored kept tally) = stored

why_in : Answer → Refusal
why_in (gives t σ) = Refusal.Incomplete
why_in (refused why σ) = why

Given : Answer → Type 0
Given (gives t σ) = Unit {0}
Given (refused why σ) = ⊥

-- two answers: they are one node, or one refusal; and the state is one
pub record OneAnswer (r r' : Result ℕ Refused) (l l' : Lent) : Type 0 where
  pub same : r ≡ r'
  pub refusal : IsErr r → refusal_on l.desk ≡ refusal_on l'.desk
  pub state : state_in l ≡ state_in l'

seen_state : (r : Result ℕ Refused) (l : Lent) → state_in_lem (seen r l) ≡ state_in l
unfolding state_in_lem seen
seen_state (Ok k) l = refl
seen_state (Err e) l = refl

pub one_answer : {want : Answer} {l l₁ l₂ : Lent} (r r' : Result ℕ Refused) → Built want r l l₁ → Built want r' l l₂ → OneAnswer r r' l₁ l₂
unfolding tree_in_lem state_in_lem stored_in_lem why_in state_in seen Given
one_answer {want} {l₁ = l₁} {l₂ = l₂} r r' p q = record {
  same = one r r' p.inside q.inside alike;
  refusal = why r r' alike;
  state = sym (seen_state r l₁) ∙ ap state_in_lem alike ∙ seen_state r' l₂;
}
  where
    alike : seen r l₁ ≡ seen r' l₂
    alike = p.answer ∙ sym q.answer

    one : (r r' : Result ℕ Refused) → IfOk r (λ k. k < count l₁.desk) → IfOk r' (λ k. k < count l₂.desk) → seen r l₁ ≡ seen r' l₂ → r ≡ r'
    one (Ok k) (Ok k') i i' e =
        ap Ok (sym (own_place p.step.sound.holds k i) ∙ (λ v. place (identical (tree_in_lem (e v))) (stored_in_lem (state_in_lem (e v)))) ∙ own_place q.step.sound.holds k' i')
    one (Ok k) (Err _) i i' e = absurd (subst Given e tt)
    one (Err _) (Ok k') i i' e = absurd (subst Given (sym e) tt)
    one (Err _) (Err _) i i' e = refl

    why : (r r' : Result ℕ Refused) → seen r l₁ ≡ seen r' l₂ → IsErr r → refusal_on l₁.desk ≡ refusal_on l₂.desk
    why (Ok k) r' e x = absurd (false≢true x)
    why (Err _) (Ok k') e x = absurd (subst Given (sym e) tt)
    why (Err _) (Err _) e x = ap why_in e
