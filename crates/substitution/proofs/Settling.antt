-- What nodes became: a tree that is settled stays so while a store grows, and the table knows more with each node. Assumes nothing.
use mathlib.Core.Path.{◌≡◌, refl, sym, ap, ◌∙◌, subst}
use mathlib.Core.Bool.{Bool, true, false, cond}
use mathlib.Core.List.{List}
use Prim.Native.Nat.{ℕ, zero, suc, ◌+◌, ◌-◌, ◌*◌, ◌≤◌, ◌<◌}
use native.Mathlib.Omega.{arith}
use native.Mathlib.Decide.{dec_lt, ℕ_discrete}
use lib.Dec.{ltb}
use lib.ListN.{length, get_or, set, length-set}
use lib.Seq.{get_or-set_same, get_or-set_other}
use Rattle.std.specs.Prelude.{Option, Some, None, SomeIff, Ok}
use Rattle.std.proofs.lemmas.Option.{none-some, same_Some}
use Rattle.expression.specs.Trees.{Tree, size, depth}
use Rattle.expression.specs.Limits.{largest, deepest}
use Rattle.memory.specs.Layout.{swaps_from, results_from}
use Rattle.memory.proofs.Slices.{get_or_out}
use Rattle.memory.proofs.Values.{up_to_alike}
use Rattle.store.specs.Storing.{State, state, Answer, gives, refused, among, intern}
use Rattle.store.specs.Desk.{count}
use Rattle.store.specs.Held.{Lent, tree_in, state_in, Sound, Step, seen, Built}
use Rattle.store.proofs.Trees.{room_each}
use Rattle.store.proofs.Building.{both, idle, stays}
use Rattle.store.proofs.Stored.{stored}
use Rattle.listing.specs.Listings.{Swap, swap}
use Rattle.listing.specs.Tables.{Lists, swap_trees}
use Rattle.substitution.specs.Substituting.{substitute}
use Rattle.substitution.specs.Run.{word_of, numbered, Forgets, Settled, Knows, Replaced}

-- ---- the tree that is stored

Is : Tree → Answer → Type 0
Is t (gives u s) = u ≡ t
Is t (refused why s) = Unit {0}

is_either : (t : Tree) (b : Bool) (x y : Answer) → Is t x → Is t y → Is t (cond b x y)
is_either t true x y p q = p
is_either t false x y p q = q

interned : (t : Tree) (s : State) → Is t (intern t s)
unfolding intern Is
interned t (state room stored kept tally) =
    is_either t (among stored t) _ _ refl
    (is_either t (ltb largest (size t)) _ _ tt
    (is_either t (ltb deepest (depth t)) _ _ tt
    (is_either t (ltb (length stored) room) _ _ refl tt)))

-- a tree that stands is not stored again
interned_again : {l : Lent} → Sound l → (r : ℕ) → r < count l.desk → intern (tree_in l r) (state_in l) ≡ gives (tree_in l r) (state_in l)
unfolding intern state_in
interned_again {l} h r o = rw (stored h.holds r o)

module _ (u : Tree) {r : ℕ} {l l' : Lent} (b : Built (intern u (state_in l)) (Ok r) l l') where
  built_tree : tree_in l' r ≡ u
  unfolding Is seen
  built_tree = subst (Is u) (sym b.answer) (interned u (state_in l))

  -- an operation is settled where its operands are
  pub built_settled : {given : List Swap} (t : Tree) → ((l'' : Lent) → Step l l'' → substitute given t (state_in l'') ≡ intern u (state_in l'')) → Settled given l' t (tree_in l' r)
  built_settled t f = record {
    again = λ l'' p.
        let o = b.inside in
        let e = p.stays r o in
        f l'' (both b.step p) ∙ ap (λ v. intern v (state_in l'')) (sym (e ∙ built_tree)) ∙ interned_again p.sound r (omega (arith, o, p.grew)) ∙ ap (λ v. gives v (state_in l'')) e;
  }

-- ---- the s lines, where what stands before the results is as it was, and after a step

module _ {l : Lent} (table table' : List ℕ) {swaps : ℕ} (few : swaps ≤ 256) (li : Lists l table 0 swaps)
    (alike : (j : ℕ) → j < results_from → get_or table' j 0 ≡ get_or table j 0) where
  lists_alike : Lists l table' 0 swaps
  lists_alike = record {
    sound = li.sound;
    nodes = λ k o. absurd (omega (arith, o));
    named = λ k o. rw (alike (swaps_from + 2 * k + 1) (omega (arith, o, few))) (li.named k o);
    ascends = record { each = λ j h. rw (alike (2 * j + swaps_from) (omega (arith, h, few)), alike (2 * (j + 1) + swaps_from) (omega (arith, h, few))) (li.ascends.each j h) };
  }

  swaps_alike : swap_trees l.rows table' swaps ≡ swap_trees l.rows table swaps
  swaps_alike =
      up_to_alike swaps _ _ λ k o.
      (λ v. swap (alike (swaps_from + 2 * k) (omega (arith, o, few)) v) (tree_in l (alike (swaps_from + 2 * k + 1) (omega (arith, o, few)) v)))

module _ {l l' : Lent} {table : List ℕ} {swaps : ℕ} (li : Lists l table 0 swaps) (p : Step l l') where
  lists_on : Lists l' table 0 swaps
  lists_on = record { sound = p.sound; nodes = λ k o. absurd (omega (arith, o)); named = λ k o. omega (arith, p.grew, li.named k o); ascends = li.ascends }

  swaps_on : swap_trees l'.rows table swaps ≡ swap_trees l.rows table swaps
  swaps_on = up_to_alike swaps _ _ (λ k o. ap (swap (get_or table (swaps_from + 2 * k) 0)) (p.stays (get_or table (swaps_from + 2 * k + 1) 0) (li.named k o)))

-- ---- what the table knows

cleared : (table : List ℕ) (i : ℕ) → get_or (set table i 0) i 0 ≡ 0
cleared table i = go (dec_lt i (length table))
  where
    go : Dec (i < length table) → get_or (set table i 0) i 0 ≡ 0
    go (yes y) = get_or-set_same table i 0 0 y
    go (no y) = get_or_out (set table i 0) i 0 (omega (arith, y, length-set table i 0))

module _ (table₀ : List ℕ) where
  pub forgets_none : Forgets 0 table₀ table₀
  forgets_none = record { nothing = λ k o. absurd (omega (arith, o)); alike = λ j o. refl }

  module _ (table : List ℕ) (k : ℕ) (f : Forgets k table₀ table) where
    pub forgets_more : Forgets (k + 1) table₀ (set table (word_of k) 0)
    forgets_more = record {
      nothing = λ j o. go j o (ℕ_discrete (word_of j) (word_of k));
      alike = λ j o. get_or-set_other table (word_of k) j 0 0 (λ z. omega (arith, o, z)) ∙ f.alike j o;
    }
      where
        go : (j : ℕ) → j < k + 1 → Dec (word_of j ≡ word_of k) → get_or (set table (word_of k) 0) (word_of j) 0 ≡ 0
        go j o (yes z) = rw z (cleared table (word_of k))
        go j o (no z) =
            let apart : j ≡ k → ⊥ = λ e. z (ap (λ i. word_of i) e) in
            get_or-set_other table (word_of k) (word_of j) 0 0 z ∙ f.nothing j (omega (arith, o, apart))

    pub forgets_all : (nodes : ℕ) → nodes ≤ k → Forgets nodes table₀ table
    forgets_all nodes h = record { nothing = λ j o. f.nothing j (omega (arith, o, h)); alike = f.alike }

-- nothing, at first
pub knows_nothing : {l : Lent} {table table' : List ℕ} {nodes swaps : ℕ} → swaps ≤ 256 → Lists l table 0 swaps → nodes ≡ count l.desk → Forgets nodes table table'
    → Knows (swap_trees l.rows table swaps) nodes swaps l table'
knows_nothing {table = table} {table' = table'} few li e f = record {
  few = few;
  lists = lists_alike table table' few li f.alike;
  same = swaps_alike table table' few li f.alike;
  stand = omega (arith, e);
  results = λ k r o z. absurd (omega (arith, f.nothing k o, z));
}

-- a node and its number plus one
pub numbered_is : (n : ℕ) {r : Option ℕ} → SomeIff r (1 ≤ n) (n - 1) → r ≡ numbered n
numbered_is zero {r = None} s = refl
numbered_is zero {r = Some k} s = absurd (omega (arith, s.0))
numbered_is (suc n) {r = None} s = absurd (s (omega arith))
numbered_is (suc n) {r = Some k} s = ap Some (s.1 ∙ omega arith)

numbered_some : (n : ℕ) {k : ℕ} → numbered n ≡ Some k → n ≡ k + 1
numbered_some zero e = absurd (none-some _ e)
numbered_some (suc n) {k} e = omega (arith, same_Some n k e)

module _ {given : List Swap} {nodes swaps : ℕ} {l : Lent} {table : List ℕ} (k : Knows given nodes swaps l table) where
  -- a node that is known
  pub known_replaced : {node known : ℕ} {r : Option ℕ} → node < nodes → r ≡ numbered (get_or table (word_of node) 0) → r ≡ Some known
      → Replaced given nodes swaps node (Ok known) l l table
  known_replaced {node} {known} o e z =
      let p = k.results node known o (numbered_some (get_or table (word_of node) 0) (sym e ∙ z)) in
      let h = k.lists.sound in
      record { built = stays h p.0 (sym (p.1.again l (idle h))); settled = p.1; knows = k }

  -- a step later it knows the same
  pub knows_on : {l' : Lent} → Step l l' → Knows given nodes swaps l' table
  knows_on p = record {
    few = k.few;
    lists = lists_on k.lists p;
    same = swaps_on k.lists p ∙ k.same;
    stand = omega (arith, k.stand, p.grew);
    results = λ i r o e.
        let x = k.results i r o e in
        let t = p.stays i (omega (arith, o, k.stand)) in (
          omega (arith, x.0, p.grew),
          record { again = λ l'' q. (λ v. substitute given (t v) (state_in l'')) ∙ x.1.again l'' (both p q) ∙ sym (λ v. gives (p.stays r x.0 v) (state_in l'')) },
        );
  }

  -- one node more
  pub knows_more : (node r : ℕ) → node < nodes → r < count l.desk → Settled given l (tree_in l node) (tree_in l r) → Knows given nodes swaps l (set table (word_of node) (r + 1))
  knows_more node r inside o settled = record {
    few = k.few;
    lists = lists_alike table (set table (word_of node) (r + 1)) k.few k.lists alike;
    same = swaps_alike table (set table (word_of node) (r + 1)) k.few k.lists alike ∙ k.same;
    stand = k.stand;
    results = λ i q j e. go i q j e (ℕ_discrete i node);
  }
    where
      alike : (j : ℕ) → j < results_from → get_or (set table (word_of node) (r + 1)) j 0 ≡ get_or table j 0
      alike j h = get_or-set_other table (word_of node) j (r + 1) 0 (λ z. omega (arith, h, z))

      least : (i : ℕ) → i < nodes → i < 4096
      least i j = omega (arith, j, k.stand, (room_each l.rows (count l.desk) k.lists.sound.holds.fits).most)

      written : (q : ℕ) → get_or (set table (word_of node) (r + 1)) (word_of node) 0 ≡ q + 1 → Dec (word_of node < length table) → r ≡ q
      written q e (yes y) = omega (arith, e, get_or-set_same table (word_of node) (r + 1) 0 y)
      written q e (no y) =
          let out = get_or_out (set table (word_of node) (r + 1)) (word_of node) 0 (omega (arith, y, length-set table (word_of node) (r + 1))) in
          absurd (omega (arith, e, out))

      go : (i q : ℕ) → i < nodes → get_or (set table (word_of node) (r + 1)) (word_of i) 0 ≡ q + 1 → Dec (i ≡ node) → (q < count l.desk) × Settled given l (tree_in l i) (tree_in l q)
      go i q j e (yes y) =
          let z : r ≡ q = written q (rw y at e) (dec_lt (word_of node) (length table)) in
          rw (y, ← z) (o, settled)
      go i q j e (no y) =
          let apart : word_of i ≡ word_of node → ⊥ = λ z. y (omega (arith, z, least i j, least node inside)) in
          k.results i q j (sym (get_or-set_other table (word_of node) (word_of i) (r + 1) 0 apart) ∙ e)
