-- What `visit` does: each of its returns, over plain lists and trees. Assumes nothing.
use mathlib.Core.Path.{◌≡◌, refl, sym, ap, ◌∙◌, subst}
use mathlib.Core.List.{List}
use mathlib.Core.Logic.{⊎_elim}
use mathlib.Core.Bool.{Bool, true, false, cond}
use Prim.Native.Nat.{ℕ, zero, suc, ◌+◌, ◌≤◌, ◌<◌}
use native.Mathlib.Nat.{eq-or-lt_of_le}
use native.Mathlib.Omega.{arith}
use native.Mathlib.Decide.{dec_lt, ℕ_discrete}
use lib.Dec.{T, eqb, ltb, ltb→lt, eqb→eq}
use lib.ListN.{get_or, set, length-set}
use lib.Seq.{get_or-set_same, get_or-set_other}
use borrow.Author.Tests.{lt-ltb, le-ltb, eq-eqb, ne_eqb}
use Rattle.expression.specs.Trees.{Tree, leaf, pi, function_call, prefixed, infixed, size, depth}
use Rattle.expression.specs.Alike.{identical}
use Rattle.expression.specs.Limits.{Proper}
use Rattle.expression.proofs.Likeness.{identical_same, same_identical}
use Rattle.expression.specs.declared.node.Expression.{Expression}
use Rattle.expression.specs.declared.node.Operands.{Operands}
use Rattle.store.specs.Nodes.{expression_of}
use Rattle.expression.specs.Nodes.{operands_of, grown, Within}
use Rattle.store.specs.Storing.{among, place}
use Rattle.store.specs.Memory.{Memory, columns, with_link, fields_at, expression_at, tree_at, tree_of}
use Rattle.store.specs.Held.{Holds}
use Rattle.store.proofs.Places.{place_within, place_hit, place_first, among_yes, among_no}
use Rattle.store.proofs.Stored.{proper, limited, one_node, read_node}
use Rattle.store.proofs.Trees.{room_each}
use Rattle.memory.proofs.Values.{length_up_to, at_up_to, up_to_grown}
use Rattle.writing.specs.Order.{once, finished}
use Rattle.writing.specs.Ordering.{AllIn, most_rows, Tells, Entered, Enters, Listed, visited, visited_in, Visited, VisitedIn}
use Rattle.listing.specs.Tables.{line_trees}
use Rattle.writing.proofs.Orders.{once_new, done_already, finished_laid, laid_all, not_yet, true_not_false}

-- ---- no more numbers below n than n

pub pigeon : (n c : ℕ) (f : ℕ → ℕ) → ((k : ℕ) → k < c → f k < n) → ((i j : ℕ) → i < c → j < c → f i ≡ f j → i ≡ j) → c ≤ n
pigeon zero zero f b inj = omega arith
pigeon zero (suc c) f b inj = absurd (omega (arith, b 0 (omega arith)))
pigeon (suc n) zero f b inj = omega arith
pigeon (suc n) (suc c) f b inj = omega (arith, pigeon n c g below apart)
  where
    g : ℕ → ℕ
    g k = cond (eqb (f k) n) (f c) (f k)

    g_yes : (k : ℕ) → f k ≡ n → g k ≡ f c
    g_yes k e = rw (eq-eqb (f k) n e)

    g_no : (k : ℕ) → (f k ≡ n → ⊥) → g k ≡ f k
    g_no k e = rw (ne_eqb (f k) n e)

    below : (k : ℕ) → k < c → g k < n
    below k h = go (ℕ_discrete (f k) n)
      where
        go : Dec (f k ≡ n) → g k < n
        go (yes e) = let z : f c ≡ n → ⊥ = λ q. omega (arith, h, inj k c (omega arith) (omega arith) (e ∙ sym q)) in rw (g_yes k e) (omega (arith, b c (omega arith), z))
        go (no e) = rw (g_no k e) (omega (arith, b k (omega arith), e))

    apart : (i j : ℕ) → i < c → j < c → g i ≡ g j → i ≡ j
    apart i j hi hj q = go (ℕ_discrete (f i) n) (ℕ_discrete (f j) n)
      where
        go : Dec (f i ≡ n) → Dec (f j ≡ n) → i ≡ j
        go (yes x) (yes y) = inj i j (omega arith) (omega arith) (x ∙ sym y)
        go (yes x) (no y) = absurd (omega (arith, hj, inj c j (omega arith) (omega arith) (sym (g_yes i x) ∙ q ∙ g_no j y)))
        go (no x) (yes y) = absurd (omega (arith, hi, inj i c (omega arith) (omega arith) (sym (g_no i x) ∙ q ∙ g_yes j y)))
        go (no x) (no y) = inj i j (omega arith) (omega arith) (sym (g_no i x) ∙ q ∙ g_no j y)

-- ---- a tree is among the listed ones if and only if its node is listed

module _ {m : Memory} {n : ℕ} (h : Holds m n) {rows : Memory} {table : List ℕ} {count : ℕ} (l : Listed m n rows table count) where
  done_at : (k : ℕ) → k < count → get_or (line_trees m table count) k (leaf pi) ≡ tree_at m (get_or table k 0)
  done_at k o = at_up_to count (λ k. tree_at m (get_or table k 0)) (leaf pi) k o

  pub listed_among : (node k : ℕ) → k < count → get_or table k 0 ≡ node → among (line_trees m table count) (tree_at m node) ≡ true
  listed_among node k o e =
      let p = place_first (identical (tree_at m node)) (line_trees m table count) k (rw (length_up_to count (λ k. tree_at m (get_or table k 0))) o)
      (same_identical (tree_at m node) (get_or (line_trees m table count) k (leaf pi)) (sym (done_at k o ∙ ap (tree_at m) e))) in
      among_yes (line_trees m table count) (tree_at m node) (omega (arith, p, o, length_up_to count (λ k. tree_at m (get_or table k 0))))

  -- the place of a listed tree
  pub place_of : (node : ℕ) → node < n → place (identical (tree_at m node)) (line_trees m table count) < count
      → get_or table (place (identical (tree_at m node)) (line_trees m table count)) 0 ≡ node
  place_of node o p =
      let k = place (identical (tree_at m node)) (line_trees m table count) in
      let i = place_hit (identical (tree_at m node)) (line_trees m table count) (rw (length_up_to count (λ k. tree_at m (get_or table k 0))) p) in
      let j = subst (λ u. T (identical (tree_at m node) u)) (done_at k p) i in
      sym (one_node h node (get_or table k 0) o (l.nodes k p) (identical_same (tree_at m node) (tree_at m (get_or table k 0)) (proper h node) (proper h (get_or table k 0)) j))

  pub not_among : (node : ℕ) → node < n → ((k : ℕ) → k < count → get_or table k 0 ≡ node → ⊥) → among (line_trees m table count) (tree_at m node) ≡ false
  not_among node o f =
      among_no (line_trees m table count) (tree_at m node)
      (⊎_elim (λ e. e) (λ p. absurd (f _ (rw (length_up_to count (λ k. tree_at m (get_or table k 0))) at p) (place_of node o (rw (length_up_to count (λ k. tree_at m (get_or table k 0))) at p))))
      (eq-or-lt_of_le (place_within (identical (tree_at m node)) (line_trees m table count))))

-- ---- the children of a node

module _ (m : Memory) (node : ℕ) (small : node < most_rows) where
  below_visited : (child : ℕ) (done : List Tree) → child < node → visited m child node done ≡ finished (tree_at m child) done
  unfolding visited
  below_visited child done h = rw (lt-ltb child node h)

  finished_by : (e : Expression) (done : List Tree) → Within node e
      → finished (tree_of m e) done ≡ once (tree_of m e) (visited_in m node done (operands_of e))
  unfolding finished grown operands_of visited_in
  finished_by (Expression.Number z) done w = refl
  finished_by Expression.PiConstant done w = refl
  finished_by (Expression.Variable v) done w = refl
  finished_by (Expression.Address r i) done w = refl
  finished_by (Expression.FunctionCall f a) done w = rw (below_visited a done w)
  finished_by (Expression.Prefix o a) done w = rw (below_visited a done w)
  finished_by (Expression.Infix o a b) done w = rw (below_visited a done w.0, below_visited b (finished (tree_at m a) done) w.1)

  module _ (each : (k : ℕ) → Proper (tree_at m k)) where
    still_not : (e : Expression) (done : List Tree) → Within node e → Proper (tree_of m e) → among done (tree_of m e) ≡ false
        → among (visited_in m node done (operands_of e)) (tree_of m e) ≡ false
    unfolding grown operands_of visited_in size depth
    still_not (Expression.Number z) done w p e = e
    still_not Expression.PiConstant done w p e = e
    still_not (Expression.Variable v) done w p e = e
    still_not (Expression.Address r i) done w p e = e
    still_not (Expression.FunctionCall f a) done w p e =
        rw (below_visited a done w) (not_yet (tree_at m a) (function_call f (tree_at m a)) done (each a) p (omega arith) e)
    still_not (Expression.Prefix o a) done w p e =
        rw (below_visited a done w) (not_yet (tree_at m a) (prefixed o (tree_at m a)) done (each a) p (omega arith) e)
    still_not (Expression.Infix o a b) done w p e =
        rw (below_visited a done w.0, below_visited b (finished (tree_at m a) done) w.1)
        (not_yet (tree_at m b) (infixed o (tree_at m a) (tree_at m b)) (finished (tree_at m a) done) (each b) p (omega arith)
        (not_yet (tree_at m a) (infixed o (tree_at m a) (tree_at m b)) done (each a) p (omega arith) e))

-- ---- the rows

-- what the rows of a store are but for the links: each node is as it is there
module _ (m rows : Memory) (same : rows ≡ columns m.tag m.first m.second rows.link) where
  pub expression_kept : (k : ℕ) → expression_at rows k ≡ expression_at m k
  unfolding expression_at
  expression_kept k = ap (λ (q : Memory). expression_of (fields_at q k)) same

  link_put : (i link : ℕ) {rows' : Memory} → rows' ≡ with_link rows i link → rows' ≡ columns m.tag m.first m.second rows'.link
  link_put i link e =
      let f = e ∙ ap (λ (q : Memory). with_link q i link) same in
      f ∙ sym (ap (λ (q : Memory). columns m.tag m.first m.second q.link) f)

-- ---- the returns

-- of a node's operands
module _ {m : Memory} {n : ℕ} {table : List ℕ} {node count : ℕ} {o : Operands} where
  pub visits_nothing : {rows : Memory} → o ≡ Operands.Nothing → Listed m n rows table count → VisitedIn m n table node count count o rows table
  unfolding visited_in
  visits_nothing e l = record { listed = l; done = rw e refl }

  pub visits_one : {a r : ℕ} {rows' : Memory} {table' : List ℕ} → o ≡ Operands.One a → Visited m n table a node count r rows' table' → VisitedIn m n table node count r o rows' table'
  unfolding visited_in
  visits_one e v = record { listed = v.listed; done = rw e v.done }

  pub visits_two : {a b r r' : ℕ} {rows' rows'' : Memory} {table' table'' : List ℕ} → o ≡ Operands.Two a b
      → Visited m n table a node count r rows' table' → Visited m n table' b node r r' rows'' table'' → VisitedIn m n table node count r' o rows'' table''
  unfolding visited_in
  visits_two {b = b} e v w = record { listed = w.listed; done = rw e (w.done ∙ ap (visited m b node) v.done) }

pub room_small : {m : Memory} {n : ℕ} → Holds m n → n ≤ most_rows
room_small {m} {n} h = (room_each m n h.fits).most

module _ {m : Memory} {n : ℕ} (h : Holds m n) {rows : Memory} {table : List ℕ} {node below count : ℕ} (in-range : node < below → node < n) (l : Listed m n rows table count) where
  pub visit_none : below ≤ node → Visited m n table node below count count rows table
  unfolding visited
  visit_none o = record { listed = l; done = rw (le-ltb node below o) }

  module _ (o : node < below) where
    node_small : node < most_rows
    node_small = omega (arith, in-range o, room_small h)

    module _ {r : Bool} (t : Tells rows table node count r) where
      pub visit_found : r ≡ true → Visited m n table node below count count rows table
      unfolding visited
      visit_found e = record { listed = l; done = rw (lt-ltb node below o) (sym (done_already (tree_at m node) (line_trees m table count) all)) }
        where
          k : ℕ
          k = get_or rows.link node 0

          go : (b c : Bool) → ltb k count ≡ b → eqb (get_or table k 0) node ≡ c → true ≡ cond b c false → (k < count) × (get_or table k 0 ≡ node)
          go true true p q z = (ltb→lt k count (subst T (sym p) tt), eqb→eq (get_or table k 0) node (subst T (sym q) tt))
          go true false p q z = true_not_false z
          go false c p q z = true_not_false z

          there : (k < count) × (get_or table k 0 ≡ node)
          there = go (ltb k count) (eqb (get_or table k 0) node) refl refl (sym e ∙ t)

          all : AllIn (line_trees m table count) (tree_at m node)
          all =
              subst (AllIn (line_trees m table count)) (at_up_to count (λ k. tree_at m (get_or table k 0)) (leaf pi) k there.0 ∙ ap (tree_at m) there.1)
              (laid_all l.laid k (rw (length_up_to count (λ k. tree_at m (get_or table k 0))) there.0))

      -- no line has the node
      unlisted : r ≡ false → (k : ℕ) → k < count → get_or table k 0 ≡ node → ⊥
      unlisted e k p q =
          let z : get_or rows.link node 0 ≡ k = rw q at (l.marks k p) in
          true_not_false (sym (sym e ∙ t ∙ rw (z, lt-ltb k count p, q, eq-eqb node node refl)))

      module _ {right r' : ℕ} {rows₂ rows₃ : Memory} {table₂ table₃ : List ℕ} (new : r ≡ false)
          (v₂ : node < n → VisitedIn m n table node count right (operands_of (expression_at rows node)) rows₂ table₂)
          (enters : Enters rows₂ table₂ node right r' rows₃ table₃) where
        inside : node < n
        inside = in-range o

        abbrev e : Expression
        e = expression_at rows node

        tree : Tree
        tree = tree_at m node

        parts : Within node e × (tree_of m e ≡ tree_at m node)
        parts = read_node h node inside (expression_kept m rows l.same node)

        done₂ : line_trees m table₂ right ≡ visited_in m node (line_trees m table count) (operands_of e)
        done₂ = (v₂ inside).done

        new₂ : among (line_trees m table₂ right) (tree_at m node) ≡ false
        new₂ =
            subst (λ t. among (line_trees m table₂ right) t ≡ false) parts.1
            (rw done₂ (still_not m node node_small (proper h) e (line_trees m table count) parts.0 (rw parts.1 (proper h node))
            (rw parts.1 (not_among h l node inside (unlisted new)))))

        unlisted₂ : (k : ℕ) → k < right → get_or table₂ k 0 ≡ node → ⊥
        unlisted₂ k p q = true_not_false (sym (listed_among h (v₂ inside).listed node k p q) ∙ new₂)

        l₂ : Listed m n rows₂ table₂ right
        l₂ = (v₂ inside).listed

        room_left : right < most_rows
        room_left = omega (arith, room_small h, pigeon n (right + 1) f below_n apart)
          where
            f : ℕ → ℕ
            f k = cond (ltb k right) (get_or table₂ k 0) node

            f_old : (k : ℕ) → k < right → f k ≡ get_or table₂ k 0
            f_old k p = rw (lt-ltb k right p)

            f_new : (k : ℕ) → right ≤ k → f k ≡ node
            f_new k p = rw (le-ltb k right p)

            below_n : (k : ℕ) → k < right + 1 → f k < n
            below_n k p = go (dec_lt k right)
              where
                go : Dec (k < right) → f k < n
                go (yes y) = rw (f_old k y) (l₂.nodes k y)
                go (no y) = rw (f_new k (omega arith)) inside

            apart : (i j : ℕ) → i < right + 1 → j < right + 1 → f i ≡ f j → i ≡ j
            apart i j p q z = go (dec_lt i right) (dec_lt j right)
              where
                go : Dec (i < right) → Dec (j < right) → i ≡ j
                go (yes x) (yes y) =
                    let w : get_or table₂ i 0 ≡ get_or table₂ j 0 = sym (f_old i x) ∙ z ∙ f_old j y in
                    sym (l₂.marks i x) ∙ ap (λ a. get_or rows₂.link a 0) w ∙ l₂.marks j y
                go (yes x) (no y) = absurd (unlisted₂ i x (sym (f_old i x) ∙ z ∙ f_new j (omega arith)))
                go (no x) (yes y) = absurd (unlisted₂ j y (sym (f_old j y) ∙ sym z ∙ f_new i (omega arith)))
                go (no x) (no y) = omega arith

        entered : Entered rows₂ table₂ node right r' rows₃ table₃
        entered = enters room_left

        links_are : rows₃.link ≡ set rows₂.link node right
        links_are = ap (λ (q : Memory). q.link) entered.marked

        kept_line : (k : ℕ) → k < right → get_or table₃ k 0 ≡ get_or table₂ k 0
        kept_line k p = rw entered.put (get_or-set_other table₂ right k node 0 (λ z. omega (arith, z, p)))

        at_end_law : get_or table₃ right 0 ≡ node
        at_end_law = rw entered.put (get_or-set_same table₂ right node 0 (omega (arith, l₂.long, room_left)))

        kept_mark : (k : ℕ) → (k ≡ node → ⊥) → get_or rows₃.link k 0 ≡ get_or rows₂.link k 0
        kept_mark k p = rw links_are (get_or-set_other rows₂.link node k right 0 p)

        at_mark : get_or rows₃.link node 0 ≡ right
        at_mark = rw links_are (get_or-set_same rows₂.link node right 0 (omega (arith, l₂.links, inside)))

        lines_are : line_trees m table₃ (right + 1) ≡ finished (tree_at m node) (line_trees m table count)
        lines_are =
            up_to_grown right (λ k. tree_at m (get_or table₃ k 0)) (λ k. tree_at m (get_or table₂ k 0)) (tree_at m node) (λ k p. ap (tree_at m) (kept_line k p)) (ap (tree_at m) at_end_law)
            ∙ sym (once_new (tree_at m node) (line_trees m table₂ right) new₂)
            ∙ ap (once (tree_at m node)) done₂
            ∙ subst (λ t. once t (visited_in m node (line_trees m table count) (operands_of e)) ≡ finished t (line_trees m table count)) parts.1
            (sym (finished_by m node node_small e (line_trees m table count) parts.0))

        pub visit_entered : Visited m n table node below count r' rows₃ table₃
        unfolding visited
        visit_entered = rw entered.next (record {
          listed = record {
            same = link_put m rows₂ l₂.same node right entered.marked;
            links = rw links_are (omega (arith, l₂.links, length-set rows₂.link node right));
            long = rw entered.put (omega (arith, l₂.long, length-set table₂ right node));
            nodes = λ k p. node_at k p (dec_lt k right);
            laid = rw lines_are (finished_laid (tree_at m node) (line_trees m table count) l.laid (proper h node) (limited h node inside)).0;
            marks = λ k p. mark_at k p (dec_lt k right);
          };
          done = rw (lt-ltb node below o) lines_are;
        })
          where
            node_at : (k : ℕ) → k < right + 1 → Dec (k < right) → get_or table₃ k 0 < n
            node_at k p (yes y) = rw (kept_line k y) (l₂.nodes k y)
            node_at k p (no y) = let z : k ≡ right = omega arith in rw (z, at_end_law) inside

            mark_at : (k : ℕ) → k < right + 1 → Dec (k < right) → get_or rows₃.link (get_or table₃ k 0) 0 ≡ k
            mark_at k p (yes y) = rw (kept_line k y) (kept_mark (get_or table₂ k 0) (unlisted₂ k y) ∙ l₂.marks k y)
            mark_at k p (no y) = let z : k ≡ right = omega arith in rw (z, at_end_law) at_mark
