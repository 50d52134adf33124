-- The store after `add`: the tree where it stands, a refusal, or one node more. Assumes nothing.
use mathlib.Core.Path.{◌≡◌, refl, sym, ap, ◌∙◌, fun_ext}
use mathlib.Core.List.{List, [], ◌∷◌, ◌++◌}
use mathlib.Core.Logic.{⊎_elim}
use mathlib.Core.Bool.{Bool, true, false, cond}
use Prim.Native.Nat.{ℕ, zero, suc, ◌+◌, ◌-◌, ◌*◌, ◌/◌, ◌≤◌, ◌<◌}
use native.Mathlib.Nat.{eq-or-lt_of_le}
use native.Mathlib.Numerals.{add-one}
use native.Mathlib.Omega.{arith}
use native.Mathlib.Decide.{ℕ_discrete, dec_lt}
use borrow.Author.Tests.{lt-ltb, le-ltb, eq-eqb, ne_eqb}
use lib.Dec.{T, ltb}
use Rattle.std.specs.Prelude.{Some, None}
use Rattle.std.proofs.lemmas.Option.{none-some, same_Some}
use lib.ListN.{length, set, length-set}
use lib.Seq.{get_or-set_same, get_or-set_other}
use Rattle.expression.specs.declared.refusal.Refusal.{Refusal}
use Rattle.expression.specs.Trees.{Tree, size, depth}
use Rattle.expression.specs.Alike.{equal}
use Rattle.expression.specs.Limits.{largest, deepest}
use Rattle.expression.proofs.Likeness.{equal_refl}
use Rattle.expression.specs.declared.node.Expression.{Expression}
use Rattle.origins.specs.Words.{origin_in}
use Rattle.store.specs.declared.node.Fields.{Fields}
use Rattle.store.specs.Words.{code_in, size_in, depth_in, home_in, tag_of}
use Rattle.store.specs.Nodes.{fields, fields_of, expression_of}
use Rattle.expression.specs.Nodes.{Within, Sound}
use Rattle.store.specs.Storing.{Tally, State, Answer, gives, among, intern, result, refused, place}
use Rattle.store.specs.Memory.{Memory, columns, room, fields_on, size_on, depth_on, fields_at, size_at, depth_at, home_on, home_at, origin_on, origin_at, head_at, class_at, kept_at, expression_at, trees, tree_at, tree_of, linked, kept_for, state_of}
use Rattle.store.specs.Index.{key_of, bucket_of, key_at, bucket_at, head_for, latest, joined}
use Rattle.store.specs.Held.{Right, Holds, judged}
use Rattle.store.specs.Walk.{Walked}
use Rattle.store.proofs.Places.{place_within, place_old, place_new, among_yes, among_no, latest_alike}
use Rattle.store.proofs.Coding.{back, code_small}
use Rattle.store.proofs.Trees.{length_trees, grown_alike, tree_own, trees_alike, tree_alike, Room, room_each}
use Rattle.store.proofs.Keys.{key_alike}
use Rattle.store.proofs.Hashing.{bucket_below}
use Rattle.store.proofs.Walks.{head_within, no_head, past_head, head_home, head_elsewhere}
use Rattle.store.proofs.Packing.{Tagged, tagged, no_origin}
use Rattle.store.proofs.Seeking.{class_inside, found_tree, found_place, no_place, nowhere, found_class}
use Rattle.store.proofs.Links.{Rest, length_joined, rest_old, class_new, kept_new, next_new, head_old, head_new}

-- what is kept by a number of a node that has the same tree in both
pub linked_alike : (m m' : Memory) (n k : ℕ) → ((i : ℕ) → i < n → tree_at m' i ≡ tree_at m i) → k ≤ n → linked m' k ≡ linked m k
unfolding linked
linked_alike m m' n zero f l = refl
linked_alike m m' n (suc k) f l = ap result (f k (omega arith))

truth : (b : Bool) → T b → b ≡ true
truth true h = refl
truth false h = absurd h

-- ---- the limits

-- what `judged` says is the refusal of the definition
judged_refused : (A : Answer) (big deep roomy : Bool) (σ : State) {why : Refusal} → judged big deep roomy ≡ Some why
    → refused why σ ≡ cond big (refused Refusal.Big σ) (cond deep (refused Refusal.Deep σ) (cond roomy A (refused Refusal.Room σ)))
unfolding judged
judged_refused A true deep roomy σ x = ap (λ w. refused w σ) (sym (same_Some _ _ x))
judged_refused A false true roomy σ x = ap (λ w. refused w σ) (sym (same_Some _ _ x))
judged_refused A false false true σ x = absurd (none-some _ x)
judged_refused A false false false σ x = ap (λ w. refused w σ) (sym (same_Some _ _ x))

pub record Limits (big deep roomy : Bool) : Type 0 where
  pub not_big : big ≡ false
  pub not_deep : deep ≡ false
  pub has_room : roomy ≡ true

pub allowed_limits : (big deep roomy : Bool) → judged big deep roomy ≡ None → Limits big deep roomy
unfolding judged
allowed_limits true deep roomy x = absurd (none-some _ (sym x))
allowed_limits false true roomy x = absurd (none-some _ (sym x))
allowed_limits false false true x = record { not_big = refl; not_deep = refl; has_room = refl }
allowed_limits false false false x = absurd (none-some _ (sym x))

latest_here : (f : ℕ → ℕ) (b n : ℕ) → f n ≡ b → latest f b (n + 1) ≡ n + 1
unfolding latest
latest_here f b n e = rw (add-one, eq-eqb (f n) b e) refl

latest_past : (f : ℕ → ℕ) (b n : ℕ) → (f n ≡ b → ⊥) → latest f b (n + 1) ≡ latest f b n
unfolding latest
latest_past f b n q = rw (add-one, ne_eqb (f n) b q) refl

module _ {m : Memory} {n : ℕ} (h : Holds m n) (e : Expression) (s : Sound e) (w : Within n e) {node class : ℕ}
    (q : Walked m n (fields_of e) (key_of (class_at m) (fields_of e)) node class) (tally : Tally) where
  abbrev t : Tree
  t = tree_of m e

  abbrev ts : List Tree
  ts = trees m n

  -- ---- it stands

  pub found_answer : node < n → gives (tree_at m node) (state_of m n tally) ≡ intern t (state_of m n tally)
  unfolding intern
  found_answer l =
      let y = among_yes ts t (rw (found_place h e s w q l, length_trees m n) l) in
      rw (y, found_tree h e s w q l) refl

  module _ (o-node : n ≤ node) where
    absent : among ts t ≡ false
    absent = among_no ts t (no_place h e s w q o-node ∙ sym (length_trees m n))

    -- ---- it is refused

    pub refused_answer : {why : Refusal} → judged (ltb largest (size t)) (ltb deepest (depth t)) (ltb n (room m)) ≡ Some why
        → refused why (state_of m n tally) ≡ intern t (state_of m n tally)
    unfolding intern
    refused_answer x =
        rw (absent, length_trees m n)
        (judged_refused _ (ltb largest (size t)) (ltb deepest (depth t)) (ltb n (room m)) (state_of m n tally) x)

    -- ---- it is stored

    module _ (b : size t ≤ largest) (d : depth t ≤ deepest) (r : n < room m) where
      module _ (bucket : ℕ) (eb : bucket ≡ bucket_of (room m) (key_of (class_at m) (fields_of e)))
          (z y : ℕ) (ez : z ≡ size t) (ey : y ≡ depth t) where
        abbrev f : Fields
        f = fields_of e

        abbrev head : ℕ
        head = head_for m n bucket

        abbrev link' : List ℕ
        link' = joined m.link n class head bucket

        abbrev m' : Memory
        m' = columns (set m.tag n (tag_of f.code z y bucket)) (set m.first n f.first) (set m.second n f.second) link'

        there : Room m (n + 1)
        there = room_each m (n + 1) (omega arith)

        bucket_is : bucket ≡ bucket_of (room m) (key_of (class_at m) f)
        bucket_is = eb

        bucket_inside : bucket < 2 * room m
        bucket_inside = rw bucket_is (bucket_below (room m) (key_of (class_at m) f) (omega arith) (omega (arith, (room_each m (room m) (omega arith)).most)))

        class_is : class ≡ place (equal t) ts
        class_is = found_class h e s w q o-node

        class_within : class ≤ n
        class_within = omega (arith, class_is, place_within (equal t) ts, length_trees m n)

        -- the links' laws, at these links
        ln : n < length m.link
        ln = omega (arith, there.links)

        lb : bucket / 2 < length m.link
        lb = omega (arith, bucket_inside, (room_each m (room m) (omega arith)).links)

        sn : n < 4096
        sn = omega (arith, there.most)

        sc : class < 4096
        sc = omega (arith, class_within, there.most)

        sh : head < 8192
        sh = omega (arith, head_within m n bucket, there.most)

        rest : (k : ℕ) → k < n → Rest m.link link' k
        rest k l = rest_old m.link n class head bucket ln lb sn sc sh k λ d. omega arith

        -- the tag's fields
        word : Tagged (tag_of f.code z y bucket) f.code z y bucket
        word = tagged f.code z y bucket (code_small e) (omega (arith, ez)) (omega (arith, ey)) (omega (arith, bucket_inside, (room_each m (room m) (omega arith)).most))

        fields_old : (k : ℕ) → k < n → fields_at m' k ≡ fields_at m k
        unfolding fields_on
        fields_old k l =
            let d : k ≡ n → ⊥ = λ x. omega arith in
            rw (get_or-set_other m.tag n k (tag_of f.code z y bucket) 0 d, get_or-set_other m.first n k f.first 0 d, get_or-set_other m.second n k f.second 0 d) refl

        fields_new : fields_at m' n ≡ f
        unfolding fields_on
        fields_new =
            let a = ap code_in (get_or-set_same m.tag n (tag_of f.code z y bucket) 0 (omega (arith, there.tags))) ∙ word.code in
            let b = get_or-set_same m.first n f.first 0 (omega (arith, there.firsts)) in
            let c = get_or-set_same m.second n f.second 0 (omega (arith, there.seconds)) in
            λ i. fields (a i) (b i) (c i)

        size_old : (k : ℕ) → k < n → size_at m' k ≡ size_at m k
        unfolding size_on
        size_old k l = ap size_in (get_or-set_other m.tag n k (tag_of f.code z y bucket) 0 λ x. omega arith)

        size_new : size_at m' n ≡ z
        unfolding size_on
        size_new = ap size_in (get_or-set_same m.tag n (tag_of f.code z y bucket) 0 (omega (arith, there.tags))) ∙ word.size

        depth_old : (k : ℕ) → k < n → depth_at m' k ≡ depth_at m k
        unfolding depth_on
        depth_old k l = ap depth_in (get_or-set_other m.tag n k (tag_of f.code z y bucket) 0 λ x. omega arith)

        depth_new : depth_at m' n ≡ y
        unfolding depth_on
        depth_new = ap depth_in (get_or-set_same m.tag n (tag_of f.code z y bucket) 0 (omega (arith, there.tags))) ∙ word.depth

        home_old : (k : ℕ) → k < n → home_at m' k ≡ home_at m k
        unfolding home_on
        home_old k l = ap home_in (get_or-set_other m.tag n k (tag_of f.code z y bucket) 0 λ x. omega arith)

        home_new : home_at m' n ≡ bucket
        unfolding home_on
        home_new = ap home_in (get_or-set_same m.tag n (tag_of f.code z y bucket) 0 (omega (arith, there.tags))) ∙ word.home

        -- the origins
        pub origin_old : (k : ℕ) → k < n → origin_at m' k ≡ origin_at m k
        unfolding origin_on
        origin_old k l = ap origin_in (get_or-set_other m.tag n k (tag_of f.code z y bucket) 0 λ x. omega arith)

        pub origin_new : origin_at m' n ≡ 0
        unfolding origin_on
        origin_new = ap origin_in (get_or-set_same m.tag n (tag_of f.code z y bucket) 0 (omega (arith, there.tags))) ∙ no_origin f.code z y bucket

        -- the trees
        expression_old : (k : ℕ) → k < n → expression_at m' k ≡ expression_at m k
        unfolding expression_at
        expression_old k l = ap expression_of (fields_old k l)

        expression_new : expression_at m' n ≡ e
        unfolding expression_at
        expression_new = ap expression_of fields_new ∙ back e s

        trees_old : trees m' n ≡ ts
        trees_old = trees_alike m m' n fields_old

        pub tree_old : (k : ℕ) → k < n → tree_at m' k ≡ tree_at m k
        tree_old = tree_alike m m' n fields_old

        tree_new : tree_at m' n ≡ t
        tree_new = tree_own m' n (rw expression_new w) ∙ ap (tree_of m') expression_new ∙ grown_alike (tree_at m') (tree_at m) n e w tree_old

        trees_new : trees m' (n + 1) ≡ ts ++ (t ∷ [])
        unfolding trees tree_at
        trees_new = rw add-one (rw (tree_new, trees_old) refl)

        room_new : room m' ≡ room m
        unfolding room
        room_new =
            rw (length-set m.tag n (tag_of f.code z y bucket), length-set m.first n f.first, length-set m.second n f.second, length_joined m.link n class head bucket ln lb sn sc sh) refl

        -- the classes
        place_same : (u : Tree) → place (equal u) ts < n → place (equal u) (trees m' (n + 1)) ≡ place (equal u) ts
        place_same u l = rw trees_new (place_old (equal u) ts (t ∷ []) (rw (length_trees m n) l))

        place_fresh : (u : Tree) → place (equal u) ts ≡ n → place (equal u) (trees m' (n + 1)) ≡ cond (equal u t) n (suc n)
        place_fresh u l = rw trees_new (place_new (equal u) ts t (l ∙ sym (length_trees m n)) ∙ rw (length_trees m n) refl)

        class_here : class_at m' n ≡ place (equal t) (trees m' (n + 1))
        class_here =
            class_new m.link n class head bucket ln lb sn sc sh
            ∙ ⊎_elim
            (λ x. x ∙ sym (place_fresh t (sym class_is ∙ x) ∙ rw (truth (equal t t) (equal_refl t)) refl))
            (λ l. class_is ∙ sym (place_same t (omega (arith, l, class_is))))
            (eq-or-lt_of_le {n = class} {m = n} class_within)

        -- the buckets
        bucket_old : (k : ℕ) → k < n → bucket_at m' k ≡ bucket_at m k
        unfolding bucket_at key_at
        bucket_old k l =
            let a = key_alike (class_at m') (class_at m) k (expression_at m k) (h.each k l).within λ i o. (rest i (omega arith)).class in
            rw (room_new, fields_old k l, (h.each k l).formed, a) refl

        bucket_new : bucket_at m' n ≡ bucket
        unfolding bucket_at key_at
        bucket_new = rw (room_new, fields_new, key_alike (class_at m') (class_at m) n e w λ i o. (rest i o).class) (sym bucket_is)

        right_old : (k : ℕ) → k < n → Right m' (n + 1) k
        right_old k l =
            let g = h.each k l in
            let x = rest k l in
            let p : place (equal (tree_at m k)) ts < n = omega (arith, sym g.classed, class_inside h k l) in
            record {
              formed = rw (expression_old k l) (fields_old k l ∙ g.formed);
              within = rw (expression_old k l) g.within;
              sized = rw (tree_old k l) (size_old k l ∙ g.sized);
              deep = rw (tree_old k l) (depth_old k l ∙ g.deep);
              limited = rw (tree_old k l) g.limited;
              home = home_old k l ∙ g.home ∙ sym (bucket_old k l);
              classed = rw (tree_old k l) (x.class ∙ g.classed ∙ sym (place_same (tree_at m k) p));
              kept = omega (arith, x.kept, g.kept);
              next = x.next ∙ g.next ∙ ap (λ b. latest (bucket_at m) b k) (sym (bucket_old k l)) ∙ latest_alike (bucket_at m) (bucket_at m') _ k λ i o. sym (bucket_old i (omega arith));
            }

        right_new : Right m' (n + 1) n
        right_new = record {
          formed = rw expression_new fields_new;
          within = rw expression_new w;
          sized = rw tree_new (size_new ∙ ez);
          deep = rw tree_new (depth_new ∙ ey);
          limited = rw tree_new (record { sized = b; shallow = d });
          home = home_new ∙ sym bucket_new;
          classed = rw tree_new class_here;
          kept = omega (arith, kept_new m.link n class head bucket ln lb sn sc sh);
          next =
              next_new m.link n class head bucket ln lb sn sc sh ∙ h.heads bucket bucket_inside
              ∙ ap (λ b. latest (bucket_at m) b n) (sym bucket_new) ∙ latest_alike (bucket_at m) (bucket_at m') _ n λ i o. sym (bucket_old i o);
        }

        -- each node is an old one or the new one
        each : (P : ℕ → Type 0) → ((j : ℕ) → j < n → P j) → P n → (j : ℕ) → j < n + 1 → P j
        each P g x j l = ⊎_elim (λ d. rw d x) (λ o. g j o) (eq-or-lt_of_le {n = j} {m = n} (omega arith))

        apart_new : (i j : ℕ) → i < n + 1 → j < n + 1 → tree_at m' i ≡ tree_at m' j → i ≡ j
        apart_new i j l =
            each (λ i. (j : ℕ) → j < n + 1 → tree_at m' i ≡ tree_at m' j → i ≡ j)
            (λ i o. each (λ j. tree_at m' i ≡ tree_at m' j → i ≡ j)
            (λ j p x. h.apart i j o p (sym (tree_old i o) ∙ x ∙ tree_old j p))
            (λ x. absurd (nowhere h e s w q o-node i o (sym (tree_old i o) ∙ x ∙ tree_new))))
            (each (λ j. tree_at m' n ≡ tree_at m' j → n ≡ j)
            (λ j p x. absurd (nowhere h e s w q o-node j p (sym (tree_old j p) ∙ sym x ∙ tree_new)))
            (λ x. refl))
            i l j

        -- a bucket that the new node does not join has the head that it had: a number that was none of the nodes may be the new node's now,
        -- but that one is at home elsewhere
        head_same : (b : ℕ) → (b ≡ bucket → ⊥) → head_for m' (n + 1) b ≡ head_for m n b
        head_same b x = go (head_at m b) refl (dec_lt n (head_at m b)) (ℕ_discrete (head_at m b) (n + 1))
          where
            here : head_at m b ≡ head_at m' b
            here = sym (head_old m.link n class head bucket ln lb sn sc sh b x)

            go : (h : ℕ) → h ≡ head_at m b → Dec (n < head_at m b) → Dec (head_at m b ≡ n + 1) → head_for m' (n + 1) b ≡ head_for m n b
            go h e (yes l) (yes p) = sym (head_elsewhere m' (n + 1) b here (omega (arith, p)) (λ y. x (sym y ∙ ap (λ k. home_at m' (k - 1)) p ∙ ap (home_at m') (omega arith) ∙ home_new))) ∙ past_head m n b refl l
            go h e (yes l) (no p) = sym (past_head m' (n + 1) b here (omega (arith, l, p))) ∙ past_head m n b refl l
            go h e (no l) d = low (head_at m b) refl (ℕ_discrete (home_at m (head_at m b - 1)) b)
              where
                low : (k : ℕ) → k ≡ head_at m b → Dec (home_at m (head_at m b - 1) ≡ b) → head_for m' (n + 1) b ≡ head_for m n b
                low zero q r = sym (no_head m' (n + 1) b here (sym q)) ∙ no_head m n b refl (sym q)
                low (suc k) q (yes r) = sym (head_home m' (n + 1) b here (omega (arith, l)) (home_old (head_at m b - 1) (omega (arith, l, q)) ∙ r)) ∙ head_home m n b refl (omega (arith, l)) r
                low (suc k) q (no r) = sym (head_elsewhere m' (n + 1) b here (omega (arith, l)) (λ y. r (sym (home_old (head_at m b - 1) (omega (arith, l, q))) ∙ y))) ∙ head_elsewhere m n b refl (omega (arith, l)) r

        heads_new : (b : ℕ) → b < 2 * room m' → head_for m' (n + 1) b ≡ latest (bucket_at m') b (n + 1)
        heads_new b l = go (ℕ_discrete b bucket)
          where
            go : Dec (b ≡ bucket) → head_for m' (n + 1) b ≡ latest (bucket_at m') b (n + 1)
            go (yes x) =
                rw x
                (sym (head_home m' (n + 1) bucket (sym (head_new m.link n class head bucket ln lb sn sc sh)) (omega arith) (ap (home_at m') (omega arith) ∙ home_new))
                ∙ sym (latest_here (bucket_at m') bucket n bucket_new))
            go (no x) =
                head_same b x
                ∙ h.heads b (rw (sym room_new) l)
                ∙ latest_alike (bucket_at m) (bucket_at m') b n (λ i o. sym (bucket_old i o))
                ∙ sym (latest_past (bucket_at m') b n λ v. x (sym v ∙ bucket_new))

        pub holds_new : Holds m' (n + 1)
        holds_new = record {
          fits = rw room_new (omega arith);
          each = each (Right m' (n + 1)) right_old right_new;
          apart = apart_new;
          heads = heads_new;
        }

        -- what is kept
        kept_old : (u : Tree) → place (equal u) ts < n → kept_for m' (n + 1) u ≡ kept_for m n u
        unfolding kept_for
        kept_old u l =
            let p = place (equal u) ts in
            rw (place_same u l, lt-ltb p (n + 1) (omega arith), lt-ltb p n l, (rest p l).kept)
            (linked_alike m m' n (kept_at m p) tree_old (h.each p l).kept)

        kept_fresh : (u : Tree) → place (equal u) ts ≡ n → (c : Bool) → equal u t ≡ c → kept_for m' (n + 1) u ≡ kept_for m n u
        unfolding kept_for linked
        kept_fresh u x true y =
            rw (place_fresh u x, y, x, lt-ltb n (n + 1) (omega arith), le-ltb n n (omega arith), kept_new m.link n class head bucket ln lb sn sc sh) refl
        kept_fresh u x false y = rw (place_fresh u x, y, x, le-ltb (suc n) (n + 1) (omega arith), le-ltb n n (omega arith)) refl

        kept_same : kept_for m' (n + 1) ≡ kept_for m n
        kept_same = fun_ext λ u. go u (dec_lt (place (equal u) ts) n)
          where
            go : (u : Tree) → Dec (place (equal u) ts < n) → kept_for m' (n + 1) u ≡ kept_for m n u
            go u (yes l) = kept_old u l
            go u (no x) = kept_fresh u (omega (arith, x, place_within (equal u) ts, length_trees m n)) (equal u t) refl

        pub new_answer : gives (tree_at m' n) (state_of m' (n + 1) tally) ≡ intern t (state_of m n tally)
        unfolding intern
        new_answer = rw (tree_new, room_new, trees_new, kept_same, absent, le-ltb largest (size t) b, le-ltb deepest (depth t) d, length_trees m n, lt-ltb n (room m) r) refl
