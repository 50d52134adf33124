-- The links after a node joined, and after a result was kept: which fields changed, and which stayed. Assumes nothing.
use mathlib.Core.Path.{◌≡◌, ap, ◌∙◌}
use mathlib.Core.List.{List}
use mathlib.Core.Bool.{Bool}
use Prim.Native.Nat.{ℕ, ◌+◌, ◌%◌, ◌/◌, ◌<◌}
use native.Mathlib.Decide.{ℕ_discrete}
use lib.Dec.{eqb}
use lib.ListN.{length, get_or, set, length-set}
use lib.Seq.{get_or-set_same, get_or-set_other}
use Rattle.store.specs.Words.{head_in, class_in, kept_in, next_in, with_node, with_kept}
use Rattle.store.specs.Memory.{head_on, class_on, kept_on, next_on}
use Rattle.store.specs.Index.{with_own, joined}
use Rattle.store.proofs.Packing.{Linked, with_node_lem, with_kept_lem, with_half, half_new, half_other, half_rest, half_same, siblings}

-- all fields but the head stayed
pub record Rest (link link' : List ℕ) (k : ℕ) : Type 0 where
  pub class : class_on link' k ≡ class_on link k
  pub kept : kept_on link' k ≡ kept_on link k
  pub next : next_on link' k ≡ next_on link k

same_word : (link link' : List ℕ) (k : ℕ) → get_or link' k 0 ≡ get_or link k 0 → Rest link link' k
unfolding class_on kept_on next_on
same_word link link' k e = record { class = ap class_in e; kept = ap kept_in e; next = ap next_in e }

-- a word with the same heads, in its place
same_heads : (link : List ℕ) (c v : ℕ) → c < length link → v % 8192 ≡ get_or link c 0 % 8192 → v / 8192 % 8192 ≡ get_or link c 0 / 8192 % 8192
    → (b : ℕ) → head_on (set link c v) b ≡ head_on link b
unfolding head_on
same_heads link c v l e d b = go (ℕ_discrete (b / 2) c)
  where
    go : Dec (b / 2 ≡ c) → head_in b (get_or (set link c v) (b / 2) 0) ≡ head_in b (get_or link (b / 2) 0)
    go (yes p) = rw (p, get_or-set_same link c v 0 l) (half_same (eqb (b % 2) 0) v (get_or link c 0) e d)
    go (no q) = ap (head_in b) (get_or-set_other link c (b / 2) v 0 q)

module _ (link : List ℕ) (n class head bucket : ℕ) (ln : n < length link) (lb : bucket / 2 < length link) (sn : n < 4096) (sc : class < 4096) (sh : head < 8192) where
  abbrev own : List ℕ
  own = with_own link n class head

  length_own : length own ≡ length link
  unfolding with_own
  length_own = length-set link n _

  pub length_joined : length (joined link n class head bucket) ≡ length link
  unfolding joined
  length_joined = length-set own (bucket / 2) _ ∙ length_own

  word : Linked (with_node (get_or link n 0) class head) (get_or link n 0 % 8192) (get_or link n 0 / 8192 % 8192) class 0 head
  word = with_node_lem (get_or link n 0) class head sc sh

  own_word : get_or own n 0 ≡ with_node (get_or link n 0) class head
  unfolding with_own
  own_word = get_or-set_same link n _ 0 ln

  own_head : (b : ℕ) → head_on own b ≡ head_on link b
  unfolding with_own
  own_head = same_heads link n _ ln word.even word.odd

  own_old : (k : ℕ) → (k ≡ n → ⊥) → Rest link own k
  unfolding with_own
  own_old k q = same_word link _ k (get_or-set_other link n k _ 0 q)

  -- the word of the bucket
  abbrev c : ℕ
  c = bucket / 2

  abbrev even : Bool
  even = eqb (bucket % 2) 0

  abbrev old : ℕ
  old = get_or own c 0

  set_word : get_or (joined link n class head bucket) c 0 ≡ with_half even old n
  unfolding joined
  set_word = get_or-set_same own c _ 0 (rw length_own lb)

  joined_rest : (k : ℕ) → Rest own (joined link n class head bucket) k
  unfolding joined class_on kept_on next_on
  joined_rest k = go (ℕ_discrete k c)
    where
      go : Dec (k ≡ c) → Rest own (joined link n class head bucket) k
      go (yes p) =
          let r = half_rest even old n sn in
          rw p (record { class = ap class_in set_word ∙ r.class; kept = ap kept_in set_word ∙ r.kept; next = ap next_in set_word ∙ r.next })
      go (no q) = same_word own _ k (get_or-set_other own c k _ 0 q)

  -- ---- what the links are then

  pub rest_old : (k : ℕ) → (k ≡ n → ⊥) → Rest link (joined link n class head bucket) k
  rest_old k q =
      let a = joined_rest k in
      let b = own_old k q in
      record { class = a.class ∙ b.class; kept = a.kept ∙ b.kept; next = a.next ∙ b.next }

  pub class_new : class_on (joined link n class head bucket) n ≡ class
  unfolding class_on
  class_new = (joined_rest n).class ∙ ap class_in own_word ∙ word.class

  pub kept_new : kept_on (joined link n class head bucket) n ≡ 0
  unfolding kept_on
  kept_new = (joined_rest n).kept ∙ ap kept_in own_word ∙ word.kept

  pub next_new : next_on (joined link n class head bucket) n ≡ head
  unfolding next_on
  next_new = (joined_rest n).next ∙ ap next_in own_word ∙ word.next

  pub head_old : (b : ℕ) → (b ≡ bucket → ⊥) → head_on (joined link n class head bucket) b ≡ head_on link b
  unfolding joined head_on
  head_old b q = go (ℕ_discrete (b / 2) c) ∙ own_head b
    where
      go : Dec (b / 2 ≡ c) → head_in b (get_or (joined link n class head bucket) (b / 2) 0) ≡ head_in b (get_or own (b / 2) 0)
      go (yes p) = rw (p, set_word) (half_other even (eqb (b % 2) 0) old n sn (siblings b bucket p q))
      go (no x) = ap (head_in b) (get_or-set_other own c (b / 2) _ 0 x)

  pub head_new : head_on (joined link n class head bucket) bucket ≡ n + 1
  unfolding head_on
  head_new = rw set_word (half_new even old n sn)

-- ---- a kept result

module _ (link : List ℕ) (c r : ℕ) (l : c < length link) (s : r < 4096) where
  abbrev keeping : List ℕ
  keeping = set link c (with_kept (get_or link c 0) r)

  kept_word : Linked (with_kept (get_or link c 0) r) (get_or link c 0 % 8192) (get_or link c 0 / 8192 % 8192) (class_in (get_or link c 0)) (r + 1) (next_in (get_or link c 0))
  kept_word = with_kept_lem (get_or link c 0) r s

  pub keeping_head : (b : ℕ) → head_on keeping b ≡ head_on link b
  keeping_head = same_heads link c _ l kept_word.even kept_word.odd

  pub keeping_class : (k : ℕ) → class_on keeping k ≡ class_on link k
  unfolding class_on
  keeping_class k = go (ℕ_discrete k c)
    where
      go : Dec (k ≡ c) → class_in (get_or keeping k 0) ≡ class_in (get_or link k 0)
      go (yes p) = rw p (ap class_in (get_or-set_same link c _ 0 l) ∙ kept_word.class)
      go (no q) = ap class_in (get_or-set_other link c k _ 0 q)

  pub keeping_next : (k : ℕ) → next_on keeping k ≡ next_on link k
  unfolding next_on
  keeping_next k = go (ℕ_discrete k c)
    where
      go : Dec (k ≡ c) → next_in (get_or keeping k 0) ≡ next_in (get_or link k 0)
      go (yes p) = rw p (ap next_in (get_or-set_same link c _ 0 l) ∙ kept_word.next)
      go (no q) = ap next_in (get_or-set_other link c k _ 0 q)

  pub keeping_new : kept_on keeping c ≡ r + 1
  unfolding kept_on
  keeping_new = ap kept_in (get_or-set_same link c _ 0 l) ∙ kept_word.kept

  pub keeping_old : (k : ℕ) → (k ≡ c → ⊥) → kept_on keeping k ≡ kept_on link k
  unfolding kept_on
  keeping_old k q = ap kept_in (get_or-set_other link c k _ 0 q)
