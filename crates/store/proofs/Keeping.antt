-- What the links say and how they change: equal trees, kept results, and the start of a store. Assumes nothing.
use mathlib.Core.Path.{◌≡◌, refl, sym, ap, ◌∙◌, subst, fun_ext}
use mathlib.Core.List.{List}
use mathlib.Core.Bool.{Bool, true, false, cond}
use Prim.Native.Nat.{ℕ, zero, suc, ◌-◌, ◌≤◌, ◌<◌}
use native.Mathlib.Omega.{arith}
use native.Mathlib.Decide.{ℕ_discrete, dec_lt}
use borrow.Author.Tests.{lt-ltb, le-ltb}
use lib.Dec.{T, eqb, eqb→eq}
use lib.Ieee.Fits.{eq→eqb}
use lib.ListN.{length, get_or, set, replicate, length-set}
use Rattle.std.specs.Prelude.{Option, Some, None, SomeIff, IfSome}
use Rattle.complex.proofs.Tests.{one_truth}
use Rattle.expression.specs.Trees.{Tree, leaf, pi}
use Rattle.expression.specs.Alike.{equal}
use Rattle.expression.proofs.Likeness.{equal_sym, equal_trans}
use Rattle.memory.specs.Marks.{no_marks}
use Rattle.store.specs.Words.{with_kept}
use Rattle.store.specs.Storing.{Tally, gives, keep, recall, result, place}
use Rattle.store.specs.Memory.{Memory, columns, memory, room, class_on, class_at, kept_at, expression_at, trees, tree_at, linked, kept_as, kept_for, state_of}
use Rattle.store.specs.Index.{key_at, bucket_at, head_for, latest, kept_by}
use Rattle.store.specs.Held.{Holds, lent, state_in, Sound, seen, Keeps, Recalls, Compares, Begun}
use Rattle.store.specs.Desk.{count, calls_on, marks_on, tally_on}
use Rattle.store.proofs.Places.{place_hit, latest_alike}
use Rattle.store.proofs.Trees.{length_trees, trees_at, trees_alike, tree_alike, room_each}
use Rattle.store.proofs.Seeking.{class_inside, equal_class, class_equal, class_is_equal, class_of_tree}
use Rattle.store.proofs.Walks.{head_within}
use Rattle.store.proofs.Links.{keeping_head, keeping_class, keeping_next, keeping_new, keeping_old}
use Rattle.store.proofs.Growing.{linked_alike}

-- ---- equal trees

pub compares : (m : Memory) (a b : ℕ) {x y : ℕ} → x ≡ class_at m a → y ≡ class_at m b → Compares m a b (eqb x y)
compares m a b p q n h l o =
    rw (p, q)
    (one_truth (eqb (class_at m a) (class_at m b)) _
    (λ t. class_is_equal h a b l o (eqb→eq (class_at m a) (class_at m b) t))
    (λ t. eq→eqb (equal_class h a b l o t)))

-- ---- what is kept for a node's tree

recall_is : {m : Memory} {n : ℕ} (h : Holds m n) (e : ℕ) (tally : Tally) → e < n → recall (tree_at m e) (state_of m n tally) ≡ linked m (kept_at m (class_at m e))
unfolding recall kept_for
recall_is {m} {n} h e tally l =
    let c = (h.each e l).classed in
    rw (sym c, lt-ltb (class_at m e) n (omega (arith, class_inside h e l))) refl

class_below : {m : Memory} {n : ℕ} (h : Holds m n) (e : ℕ) → e < n → class_at m e < n
class_below h e l = omega (arith, class_inside h e l)

-- a number plus one as a node
kept_numbered : (m : Memory) (n k : ℕ) (x : Option ℕ) → SomeIff x (1 ≤ k) (k - 1) → k ≤ n → IfSome x (λ i. i < n) × (kept_as m x ≡ linked m k)
unfolding linked
kept_numbered m n zero None s l = (tt, refl)
kept_numbered m n (suc k) None s l = absurd (s (omega arith))
kept_numbered m n zero (Some i) s l = absurd (omega (arith, s.0))
kept_numbered m n (suc k) (Some i) s l = (omega (arith, s.1, l), ap (λ j. result (tree_at m j)) (s.1 ∙ omega arith))

pub recalls : (m : Memory) (e : ℕ) {k : ℕ} (x : Option ℕ) → SomeIff x (1 ≤ k) (k - 1) → k ≡ kept_at m (class_at m e) → Recalls m e x
recalls m e {k} x s p n tally h l =
    let q = kept_numbered m n k x s (omega (arith, p, (h.each (class_at m e) (class_below h e l)).kept)) in
    (q.0, q.1 ∙ rw p (sym (recall_is h e tally l)))

-- ---- a result is kept

module _ (tag first second link : List ℕ) (n : ℕ) (h : Holds (columns tag first second link) n) (e r : ℕ) (le : e < n) (lr : r < n) where
  abbrev m : Memory
  m = columns tag first second link

  abbrev c : ℕ
  c = class_on link e

  abbrev link' : List ℕ
  link' = set link c (with_kept (get_or link c 0) r)

  abbrev m' : Memory
  m' = columns tag first second link'

  lc : c < n
  lc = class_below h e le

  inside : c < length link
  inside = omega (arith, lc, (room_each m n h.fits).links)

  small : r < 4096
  small = omega (arith, lr, (room_each m n h.fits).most)

  tree_same : (k : ℕ) → tree_at m' k ≡ tree_at m k
  tree_same k = tree_alike m m' (suc k) (λ i l. refl) k (omega arith)

  trees_same : trees m' n ≡ trees m n
  trees_same = trees_alike m m' n λ i l. refl

  room_same : room m' ≡ room m
  unfolding room
  room_same = rw (length-set link c (with_kept (get_or link c 0) r)) refl

  bucket_same : (k : ℕ) → bucket_at m' k ≡ bucket_at m k
  unfolding bucket_at key_at
  bucket_same k = let f : class_at m' ≡ class_at m = fun_ext (keeping_class link c r inside small) in rw (room_same, f) refl

  kept_within : (k : ℕ) → k < n → kept_at m' k ≤ n
  kept_within k l = go (ℕ_discrete k c)
    where
      go : Dec (k ≡ c) → kept_at m' k ≤ n
      go (yes p) = omega (arith, ap (kept_at m') p, keeping_new link c r inside small)
      go (no q) = omega (arith, keeping_old link c r inside small k q, (h.each k l).kept)

  head_same : (b : ℕ) → head_for m' n b ≡ head_for m n b
  unfolding head_for
  head_same b = rw (keeping_head link c r inside small b) refl

  holds_kept : Holds m' n
  unfolding expression_at
  holds_kept = record {
    fits = rw room_same h.fits;
    each = λ k l.
        let g = h.each k l in
        record {
          formed = g.formed;
          within = g.within;
          sized = rw (tree_same k) g.sized;
          deep = rw (tree_same k) g.deep;
          limited = rw (tree_same k) g.limited;
          home = g.home ∙ sym (bucket_same k);
          classed = rw (tree_same k, trees_same) (keeping_class link c r inside small k ∙ g.classed);
          kept = kept_within k l;
          next =
              keeping_next link c r inside small k ∙ g.next ∙ ap (λ b. latest (bucket_at m) b k) (sym (bucket_same k))
              ∙ latest_alike (bucket_at m) (bucket_at m') _ k λ i o. sym (bucket_same i);
        };
    apart = λ i j l o p. h.apart i j l o (sym (tree_same i) ∙ p ∙ tree_same j);
    heads = λ b l.
        head_same b ∙ h.heads b (rw (sym room_same) l) ∙ latest_alike (bucket_at m) (bucket_at m') b n λ i o. sym (bucket_same i);
  }

  abbrev te : Tree
  te = tree_at m e

  -- the place of a tree that is not equal is another
  other_place : (v : Tree) → place (equal v) (trees m n) < n → (T (equal te v) → ⊥) → place (equal v) (trees m n) ≡ c → ⊥
  other_place v l q p =
      let a = place_hit (equal v) (trees m n) (rw (length_trees m n) l) in
      let b : T (equal v (tree_at m c)) = subst (λ u. T (equal v u)) (trees_at m n c lc) (subst (λ k. T (equal v (get_or (trees m n) k (leaf pi)))) p a) in
      q (equal_trans _ _ _ (class_equal h e le) (equal_sym _ _ b))

  kept_here : (v : Tree) (b : Bool) → equal te v ≡ b → kept_for m' n v ≡ cond b (result (tree_at m r)) (kept_for m n v)
  unfolding kept_for linked
  kept_here v true x =
      let p : place (equal v) (trees m n) ≡ c = class_of_tree h v te (equal_sym te v (rw x tt)) ∙ sym (h.each e le).classed in
      let k : kept_at m' c ≡ suc r = omega (arith, keeping_new link c r inside small) in
      rw (trees_same, p, lt-ltb c n lc, k) (ap result (tree_same r))
  kept_here v false x = go (dec_lt (place (equal v) (trees m n)) n)
    where
      go : Dec (place (equal v) (trees m n) < n) → kept_for m' n v ≡ kept_for m n v
      go (yes l) =
          let p = place (equal v) (trees m n) in
          rw (trees_same, lt-ltb p n l, keeping_old link c r inside small p (other_place v l λ t. subst T x t))
          (linked_alike m m' n (kept_at m p) (λ i o. tree_same i) (h.each p l).kept)
      go (no q) = rw (trees_same, le-ltb (place (equal v) (trees m n)) n (omega (arith, q))) refl

  kept_answer : (tally : Tally) → gives (tree_at m' r) (state_of m' n tally) ≡ gives (tree_at m r) (keep te (tree_at m r) (state_of m n tally))
  unfolding keep
  kept_answer tally =
      let f : kept_for m' n ≡ (λ v. cond (equal te v) (result (tree_at m r)) (kept_for m n v)) = fun_ext λ v. kept_here v (equal te v) refl in
      rw (tree_same r, room_same, trees_same, f) refl

pub keeps : (m : Memory) (e r : ℕ) {m' : Memory} → m' ≡ kept_by m e r → Keeps m m' e r
unfolding state_in seen
keeps m e r {m'} x desk h le lr =
    let n = count desk in
    let k = holds_kept m.tag m.first m.second m.link n h.holds e r le lr in
    let s : Sound (record { rows = kept_by m e r; desk = desk }) = record { holds = k; long = h.long } in
    rw x
    (record {
      answer = kept_answer m.tag m.first m.second m.link n h.holds e r le lr (tally_on desk);
      inside = lr;
      step = record {
        sound = s;
        grew = omega arith;
        stays = λ i o. tree_same m.tag m.first m.second m.link n h.holds e r le lr i;
        traced = λ i o. refl;
        untraced = λ i a o. absurd (omega (arith, a, o));
      };
    })

-- ---- the start of a store

pub holds_none : (m : Memory) → Holds m 0
unfolding trees place latest
holds_none m = record {
  fits = omega arith;
  each = λ k l. absurd (omega arith);
  apart = λ i j l. absurd (omega arith);
  heads = λ b l. omega (arith, head_within m 0 b);
}

pub starts : {desk desk' : List ℕ} → desk' ≡ replicate 272 0 → (store : List (List ℕ)) → Begun (lent store desk) (lent store desk')
unfolding state_in trees kept_for count calls_on marks_on place no_marks
starts y store = rw y (record { sound = record { holds = holds_none (memory store); long = refl }; begins = refl })
