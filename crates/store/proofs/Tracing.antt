-- Where nodes came from: sharing, equality, sizes, index and cache do not look at it; what is built has no origin; and after each line that is
-- marked the origin of each node is that of its tree. Assumes nothing.
use mathlib.Core.Path.{◌≡◌, refl, sym, ap, ◌∙◌, subst, fun_ext}
use mathlib.Core.List.{List, [], ◌∷◌, ◌++◌}
use mathlib.Core.Bool.{Bool, true, false}
use Prim.Native.Nat.{ℕ, suc, ◌-◌, ◌%◌, ◌≤◌, ◌<◌}
use native.Mathlib.Omega.{arith}
use native.Mathlib.Decide.{ℕ_discrete, dec_lt}
use lib.Dec.{T, eqb}
use lib.Ieee.Bits.{is_true}
use lib.ListN.{length, get_or, set, length-set, length-append, get_or-append}
use lib.Seq.{set_out, get_or-set_same, get_or-set_other, get_or_at}
use Rattle.expression.specs.Trees.{Tree, leaf, pi}
use Rattle.expression.specs.Alike.{identical, equal}
use Rattle.expression.specs.Limits.{Proper}
use Rattle.expression.proofs.Likeness.{identical_refl, identical_same}
use Rattle.origins.specs.Words.{origin_unit, origin_in, first_kept}
use Rattle.origins.proofs.Packing.{SameLower, same_lower, first_lower, first_origin, first_stays}
use Rattle.store.specs.Nodes.{fields}
use Rattle.store.specs.Storing.{Tally, place}
use Rattle.store.specs.Origins.{origin_of}
use Rattle.store.specs.Memory.{Memory, room, fields_on, size_on, depth_on, home_on, origin_on, class_on, kept_on, next_on, fields_at, size_at, depth_at, home_at, origin_at, head_at, class_at, kept_at, next_at, expression_at, trees, tree_at, kept_for, state_of}
use Rattle.store.specs.Index.{key_at, bucket_at, head_for, latest}
use Rattle.store.specs.Desk.{count, tally_on}
use Rattle.store.specs.Held.{Right, Holds, Lent, tree_in, state_in, Sound, Step, Begun}
use Rattle.store.specs.Tracing.{with_mark, Relabelled, Stands, Traced}
use Rattle.store.proofs.Places.{place_within, place_old, place_new, place_none, among_yes, among_no, latest_alike}
use Rattle.store.proofs.Trees.{length_trees, trees_alike, tree_alike, proper_at, room_each}
use Rattle.store.proofs.Growing.{linked_alike}

-- ---- words that differ in the origins alone

-- a mark changes nothing else
pub relabelled_mark : (m : Memory) (i line : ℕ) → Relabelled m (with_mark m i line)
relabelled_mark m i line = record {
  tags = length-set m.tag i word;
  low = λ k. low k (ℕ_discrete k i) (dec_lt i (length m.tag));
  first = refl;
  second = refl;
  link = refl;
}
  where
    word : ℕ
    word = first_kept (get_or m.tag i 0) line

    low : (k : ℕ) → Dec (k ≡ i) → Dec (i < length m.tag) → get_or (set m.tag i word) k 0 % origin_unit ≡ get_or m.tag k 0 % origin_unit
    low k (yes e) (yes l) = rw e (ap (λ w. w % origin_unit) (get_or-set_same m.tag i word 0 l) ∙ first_lower (get_or m.tag i 0) line)
    low k (yes e) (no l) = ap (λ ws. get_or ws k 0 % origin_unit) (set_out m.tag i word (omega (arith, l)))
    low k (no q) d = ap (λ w. w % origin_unit) (get_or-set_other m.tag i k word 0 q)

-- what is the same then: all that is read of a node but its origin, the test whether two trees are equal, and the index
pub record SameBut (m m' : Memory) : Type 0 where
  pub roomy : room m' ≡ room m
  pub fields : (k : ℕ) → fields_at m' k ≡ fields_at m k
  pub size : (k : ℕ) → size_at m' k ≡ size_at m k
  pub depth : (k : ℕ) → depth_at m' k ≡ depth_at m k
  pub home : (k : ℕ) → home_at m' k ≡ home_at m k
  pub class : (k : ℕ) → class_at m' k ≡ class_at m k
  pub equals : (a b : ℕ) → eqb (class_at m' a) (class_at m' b) ≡ eqb (class_at m a) (class_at m b)
  pub kept : (k : ℕ) → kept_at m' k ≡ kept_at m k
  pub next : (k : ℕ) → next_at m' k ≡ next_at m k
  pub bucket : (k : ℕ) → bucket_at m' k ≡ bucket_at m k
  pub head : (n b : ℕ) → head_for m' n b ≡ head_for m n b

module _ {m m' : Memory} (r : Relabelled m m') where
  lower : (k : ℕ) → SameLower (get_or m'.tag k 0) (get_or m.tag k 0)
  lower k = same_lower (get_or m'.tag k 0) (get_or m.tag k 0) (r.low k)

  room_same : room m' ≡ room m
  unfolding room
  room_same = rw (r.tags, r.first, r.second, r.link) refl

  fields_same : (k : ℕ) → fields_at m' k ≡ fields_at m k
  unfolding fields_on
  fields_same k = λ i. fields ((lower k).code i) (get_or (r.first i) k 0) (get_or (r.second i) k 0)

  home_same : (k : ℕ) → home_at m' k ≡ home_at m k
  unfolding home_on
  home_same k = (lower k).home

  bucket_same : (k : ℕ) → bucket_at m' k ≡ bucket_at m k
  unfolding bucket_at key_at
  bucket_same k = rw (room_same, fields_same k, r.link) refl

  head_same : (n b : ℕ) → head_for m' n b ≡ head_for m n b
  unfolding head_for
  head_same n b = rw (r.link, home_same (head_at m b - 1)) refl

  pub same_but : SameBut m m'
  unfolding size_on depth_on
  same_but = record {
    roomy = room_same;
    fields = fields_same;
    size = λ k. (lower k).size;
    depth = λ k. (lower k).depth;
    home = home_same;
    class = λ k. ap (λ ws. class_on ws k) r.link;
    equals = λ a b. ap (λ ws. eqb (class_on ws a) (class_on ws b)) r.link;
    kept = λ k. ap (λ ws. kept_on ws k) r.link;
    next = λ k. ap (λ ws. next_on ws k) r.link;
    bucket = bucket_same;
    head = head_same;
  }

  -- the trees
  pub trees_relabelled : (n : ℕ) → trees m' n ≡ trees m n
  trees_relabelled n = trees_alike m m' n λ k l. fields_same k

  pub tree_relabelled : (k : ℕ) → tree_at m' k ≡ tree_at m k
  tree_relabelled k = tree_alike m m' (suc k) (λ i l. fields_same i) k (omega arith)

  expression_same : (k : ℕ) → expression_at m' k ≡ expression_at m k
  unfolding expression_at
  expression_same k = rw (fields_same k) refl

  -- a store is held
  right_same : {n k : ℕ} → Right m n k → Right m' n k
  right_same {n} {k} g = record {
    formed = rw (expression_same k) (fields_same k ∙ g.formed);
    within = rw (expression_same k) g.within;
    sized = rw (tree_relabelled k) (same_but.size k ∙ g.sized);
    deep = rw (tree_relabelled k) (same_but.depth k ∙ g.deep);
    limited = rw (tree_relabelled k) g.limited;
    home = home_same k ∙ g.home ∙ sym (bucket_same k);
    classed = rw (tree_relabelled k, trees_relabelled n) (same_but.class k ∙ g.classed);
    kept = omega (arith, same_but.kept k, g.kept);
    next =
        same_but.next k ∙ g.next ∙ ap (λ b. latest (bucket_at m) b k) (sym (bucket_same k))
        ∙ latest_alike (bucket_at m) (bucket_at m') _ k λ i o. sym (bucket_same i);
  }

  -- the results that are kept
  kept_same : (n : ℕ) → kept_for m' n ≡ kept_for m n
  unfolding kept_for
  kept_same n = fun_ext λ t.
      let p = place (equal t) (trees m n) in
      rw (trees_relabelled n, same_but.kept p, linked_alike m m' (kept_at m p) (kept_at m p) (λ i o. tree_relabelled i) (omega arith)) refl

pub holds_relabelled : {m m' : Memory} {n : ℕ} → Relabelled m m' → Holds m n → Holds m' n
holds_relabelled {m} {m'} {n} r h = record {
  fits = rw (room_same r) h.fits;
  each = λ k l. right_same r (h.each k l);
  apart = λ i j l o p. h.apart i j l o (sym (tree_relabelled r i) ∙ p ∙ tree_relabelled r j);
  heads = λ b l. head_same r n b ∙ h.heads b (rw (sym (room_same r)) l) ∙ latest_alike (bucket_at m) (bucket_at m') b n λ i o. sym (bucket_same r i);
}

pub state_relabelled : {m m' : Memory} → Relabelled m m' → (n : ℕ) (tally : Tally) → state_of m' n tally ≡ state_of m n tally
state_relabelled r n tally = rw (room_same r, trees_relabelled r n, kept_same r n) refl

-- ---- the first line of a tree

-- where there is one, and where there is none
module _ (given : List Tree) (t : Tree) where
  pub origin_some : place (identical t) given < length given → origin_of given t ≡ suc (place (identical t) given)
  unfolding origin_of
  origin_some l = rw (among_yes given t l) refl

  pub origin_none : place (identical t) given ≡ length given → origin_of given t ≡ 0
  unfolding origin_of
  origin_none e = rw (among_no given t e) refl

untruth : (b : Bool) → (T b → ⊥) → b ≡ false
untruth true h = absurd (h tt)
untruth false h = refl

-- with one line more
module _ (given : List Tree) (s t : Tree) where
  abbrev more : List Tree
  more = given ++ (s ∷ [])

  length_more : length more ≡ suc (length given)
  length_more = length-append given (s ∷ []) ∙ omega arith

  origin_kept : place (identical t) given < length given → origin_of more t ≡ origin_of given t
  origin_kept l =
      let p = place_old (identical t) given (s ∷ []) l in
      origin_some more t (omega (arith, p, l, length_more)) ∙ ap suc p ∙ sym (origin_some given t l)

  origin_new : place (identical t) given ≡ length given → T (identical t s) → origin_of more t ≡ suc (length given)
  origin_new e h =
      let p : place (identical t) more ≡ length given = place_new (identical t) given s e ∙ rw (is_true (identical t s) h) refl in
      origin_some more t (omega (arith, p, length_more)) ∙ ap suc p

  origin_other : (T (identical t s) → ⊥) → origin_of more t ≡ origin_of given t
  origin_other q = go (dec_lt (place (identical t) given) (length given))
    where
      go : Dec (place (identical t) given < length given) → origin_of more t ≡ origin_of given t
      go (yes l) = origin_kept l
      go (no x) =
          let e : place (identical t) given ≡ length given = omega (arith, x, place_within (identical t) given) in
          let p : place (identical t) more ≡ length more = place_new (identical t) given s e ∙ rw (untruth (identical t s) q, length_more) refl in
          origin_none more t p ∙ sym (origin_none given t e)

-- ---- what is built comes from no line

pub traced_step : {given : List Tree} {l l' : Lent} → Sound l → Traced given l → Step l l' → Traced given l'
traced_step {given} {l} {l'} h x p = record {
  few = x.few;
  origins = λ k o. origin k o (dec_lt k (count l.desk));
  stands = λ i o.
      let s = x.stands i o in
      record { node = s.node; inside = omega (arith, s.inside, p.grew); is = p.stays s.node s.inside ∙ s.is };
}
  where
    -- a new node has the tree of no line: the tree would stand twice
    apart : (k : ℕ) → count l.desk ≤ k → k < count l'.desk → (j : ℕ) → j < length given → T (identical (tree_in l' k) (get_or given j (leaf pi))) → ⊥
    apart k a o j b i =
        let s = x.stands j b in
        let same = p.stays s.node s.inside ∙ s.is in
        let e = identical_same _ _ (proper_at l'.rows k) (subst Proper same (proper_at l'.rows s.node)) i in
        let d = p.sound.holds.apart k s.node o (omega (arith, s.inside, p.grew)) (e ∙ sym same) in
        omega (arith, d, s.inside, a)

    origin : (k : ℕ) → k < count l'.desk → Dec (k < count l.desk) → origin_at l'.rows k ≡ origin_of given (tree_in l' k)
    origin k o (yes b) = p.traced k b ∙ x.origins k b ∙ ap (origin_of given) (sym (p.stays k b))
    origin k o (no b) =
        let a : count l.desk ≤ k = omega (arith, b) in
        p.untraced k a o ∙ sym (origin_none given (tree_in l' k) (place_none (identical (tree_in l' k)) given (apart k a o)))

-- ---- a line is marked

abbrev marked : Lent → (i line : ℕ) → Lent
marked l i line = record { rows = with_mark l.rows i line; desk = l.desk }

pub sound_marked : {l : Lent} (i line : ℕ) → Sound l → Sound (record { rows = with_mark l.rows i line; desk = l.desk })
sound_marked {l} i line h = record { holds = holds_relabelled (relabelled_mark l.rows i line) h.holds; long = h.long }

pub state_marked : (l : Lent) (i line : ℕ) → state_in (record { rows = with_mark l.rows i line; desk = l.desk }) ≡ state_in l
unfolding state_in
state_marked l i line = state_relabelled (relabelled_mark l.rows i line) (count l.desk) (tally_on l.desk)

module _ (m : Memory) (i line : ℕ) where
  mark_other : (k : ℕ) → (k ≡ i → ⊥) → origin_at (with_mark m i line) k ≡ origin_at m k
  unfolding origin_on
  mark_other k q = ap origin_in (get_or-set_other m.tag i k _ 0 q)

  mark_kept : i < length m.tag → (origin_at m i ≡ 0 → ⊥) → origin_at (with_mark m i line) i ≡ origin_at m i
  unfolding origin_on
  mark_kept l q = ap origin_in (get_or-set_same m.tag i _ 0 l ∙ first_stays (get_or m.tag i 0) line q)

  mark_new : i < length m.tag → line < 1024 → origin_at m i ≡ 0 → origin_at (with_mark m i line) i ≡ suc line
  unfolding origin_on
  mark_new l b e = ap origin_in (get_or-set_same m.tag i _ 0 l) ∙ first_origin (get_or m.tag i 0) line e b ∙ omega arith

module _ {given : List Tree} {l : Lent} (i : ℕ) (h : Sound l) (x : Traced given l) (o : i < count l.desk) (few : length given < 1024) where
  abbrev t : Tree
  t = tree_in l i

  inside : i < length l.rows.tag
  inside = omega (arith, o, (room_each l.rows (count l.desk) h.holds.fits).tags)

  -- the node itself
  origin_here : origin_at (with_mark l.rows i (length given)) i ≡ origin_of (given ++ (t ∷ [])) t
  origin_here = go (dec_lt (place (identical t) given) (length given))
    where
      go : Dec (place (identical t) given < length given) → origin_at (with_mark l.rows i (length given)) i ≡ origin_of (given ++ (t ∷ [])) t
      go (yes b) =
          let e = x.origins i o ∙ origin_some given t b in
          mark_kept l.rows i (length given) inside (λ z. omega (arith, e, z)) ∙ x.origins i o ∙ sym (origin_kept given t t b)
      go (no b) =
          let e : place (identical t) given ≡ length given = omega (arith, b, place_within (identical t) given) in
          mark_new l.rows i (length given) inside few (x.origins i o ∙ origin_none given t e) ∙ sym (origin_new given t t e (identical_refl t))

  -- another has another tree
  origin_there : (k : ℕ) → k < count l.desk → (k ≡ i → ⊥) → origin_at (with_mark l.rows i (length given)) k ≡ origin_of (given ++ (t ∷ [])) (tree_in l k)
  origin_there k b q =
      mark_other l.rows i (length given) k q ∙ x.origins k b
      ∙ sym (origin_other given t (tree_in l k) λ z. q (h.holds.apart k i b o (identical_same _ _ (proper_at l.rows k) (proper_at l.rows i) z)))

  origin_each : (k : ℕ) → k < count l.desk → Dec (k ≡ i) → origin_at (with_mark l.rows i (length given)) k ≡ origin_of (given ++ (t ∷ [])) (tree_in l k)
  origin_each k b (yes e) = rw e origin_here
  origin_each k b (no q) = origin_there k b q

  tree_marked : (k : ℕ) → tree_in (marked l i (length given)) k ≡ tree_in l k
  tree_marked = tree_relabelled (relabelled_mark l.rows i (length given))

  stands_each : (j : ℕ) → j < length (given ++ (t ∷ [])) → Dec (j < length given) → Stands (marked l i (length given)) (get_or (given ++ (t ∷ [])) j (leaf pi))
  stands_each j b (yes a) =
      let s = x.stands j a in
      record { node = s.node; inside = s.inside; is = tree_marked s.node ∙ s.is ∙ sym (get_or-append given (t ∷ []) (leaf pi) j a) }
  stands_each j b (no a) =
      let e : length given ≡ j = omega (arith, a, b, length_more given t t) in
      record { node = i; inside = o; is = tree_marked i ∙ sym (get_or_at given t [] (leaf pi) j e) }

pub traced_mark : {given : List Tree} {l : Lent} (i : ℕ) → Sound l → Traced given l → i < count l.desk → length given < 1024
    → Traced (given ++ (tree_in l i ∷ [])) (record { rows = with_mark l.rows i (length given); desk = l.desk })
traced_mark {given} {l} i h x o few = record {
  few = omega (arith, few, length_more given (tree_in l i) (tree_in l i));
  origins = λ k b. origin_each i h x o few k b (ℕ_discrete k i) ∙ ap (origin_of (given ++ (tree_in l i ∷ []))) (sym (tree_marked i h x o few k));
  stands = λ j b. stands_each i h x o few j b (dec_lt j (length given));
}

-- ---- where a store starts there is no line

pub begun_traced : {l l' : Lent} → Begun l l' → Traced [] l'
unfolding state_in
begun_traced {l} {l'} b =
    let s = b.begins in
    let e : trees l'.rows (count l'.desk) ≡ [] = cc in
    let z : count l'.desk ≡ 0 = sym (length_trees l'.rows (count l'.desk)) ∙ ap length e in
    record {
      few = omega arith;
      origins = λ k o. absurd (omega (arith, z, o));
      stands = λ i o. absurd (omega (arith, o));
    }
