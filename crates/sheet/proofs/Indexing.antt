-- The index: the fields of its words, the head of a bucket, and what stays in it or is new when rows change. Assumes nothing.
use mathlib.Core.Path.{◌≡◌, refl, sym, ap, ◌∙◌}
use mathlib.Core.List.{List}
use mathlib.Core.Bool.{Bool, true, false, cond}
use Prim.Native.Nat.{ℕ, ◌+◌, ◌-◌, ◌*◌, ◌/◌, ◌%◌, ◌≤◌, ◌<◌, min}
use native.Mathlib.Nat.{mul-le-mul}
use native.Mathlib.Omega.{arith}
use native.Mathlib.Decide.{dec_lt, ℕ_discrete}
use lib.ListN.{get_or}
use lib.Dec.{ltb, eqb}
use borrow.Author.Tests.{lt-ltb, le-ltb, eq-eqb, ne_eqb, ltb-false, eqb-true}
use Rattle.memory.specs.Keys.{First}
use Rattle.memory.specs.Layout.{functions_from}
use Rattle.sheet.specs.declared.fields.Words.{Words}
use Rattle.sheet.specs.Index.{word_at, name_in, next_in, home_in, head_in, linked, headed, bucket_of, counting, head_for, Leads, hits, steps}
use Rattle.sheet.specs.Table.{row_matches, next_at, Indexed, Alike}
use Rattle.sheet.proofs.Seeking.{both_ways, leads_some, leads_kept, Walking}

-- ---- a hash

-- the two factors of a word in a hash
pub factors_fit : (a b : ℕ) → (a % 4294967296 + 1) * (b % 2147483648 + 2147483648) < 18446744073709551616
factors_fit a b =
    let w = mul-le-mul {n₁ = a % 4294967296 + 1} {m₁ = b % 2147483648 + 2147483648} {n₂ = 4294967296} {m₂ = 4294967295} (omega arith) (omega arith) in omega (arith, w)

pub folded_small : (p : ℕ) → p < 18446744073709551616 → p / 4294967296 + p % 4294967296 < 8589934592
folded_small p l = omega arith

pub folded_fits : (p : ℕ) → p < 18446744073709551616 → p / 4294967296 + p % 4294967296 < 18446744073709551616
folded_fits p l = omega arith

-- ---- the fields of a word

module _ (w name next home : ℕ) where
  pub linked_name : name < 8 → name_in (linked w name next home) ≡ name
  unfolding linked
  linked_name l = omega arith

  pub linked_next : next < 512 → next_in (linked w name next home) ≡ next
  unfolding linked
  linked_next l = omega arith

  pub linked_home : home < 256 → home_in (linked w name next home) ≡ home
  unfolding linked
  linked_home l = omega arith

  pub linked_head : head_in (linked w name next home) ≡ head_in w
  unfolding linked
  linked_head = omega arith

module _ (w head : ℕ) where
  pub headed_low : headed w head % 1048576 ≡ w % 1048576
  unfolding headed
  headed_low = omega arith

  pub headed_head : head < 512 → head_in (headed w head) ≡ head
  unfolding headed
  headed_head l = omega arith

-- ---- the head that counts

module _ (n h o b : ℕ) where
  pub counting_within : counting n h o b ≤ n
  unfolding counting
  counting_within = go (ltb n h) refl (eqb o b)
    where
      go : (c : Bool) → ltb n h ≡ c → (d : Bool) → cond c 0 (cond d h 0) ≤ n
      go true x d = omega arith
      go false x true = ltb-false n h x
      go false x false = omega arith

  pub counting_none : h ≡ 0 → ◌≡◌ {A = ℕ} 0 (counting n h o b)
  unfolding counting
  counting_none z = rw z (go (ltb n 0) (eqb o b))
    where
      go : (c d : Bool) → ◌≡◌ {A = ℕ} 0 (cond c 0 (cond d 0 0))
      go true d = refl
      go false true = refl
      go false false = refl

  pub counting_past : n < h → ◌≡◌ {A = ℕ} 0 (counting n h o b)
  unfolding counting
  counting_past l = rw (lt-ltb n h l) refl

  counting_home : h ≤ n → o ≡ b → h ≡ counting n h o b
  unfolding counting
  counting_home l e = rw (le-ltb n h l, eq-eqb o b e) refl

  counting_elsewhere : h ≤ n → (o ≡ b → ⊥) → ◌≡◌ {A = ℕ} 0 (counting n h o b)
  unfolding counting
  counting_elsewhere l e = rw (le-ltb n h l, ne_eqb o b e) refl

  counting_so : (counting n h o b ≡ 0 → ⊥) → (0 < h) × (h ≤ n) × (o ≡ b)
  unfolding counting
  counting_so q = go (ltb n h) refl (eqb o b) refl q
    where
      go : (c : Bool) → ltb n h ≡ c → (d : Bool) → eqb o b ≡ d → (cond c 0 (cond d h 0) ≡ 0 → ⊥) → (0 < h) × (h ≤ n) × (o ≡ b)
      go true x d y q = absurd (q refl)
      go false x true y q = (omega (arith, q), ltb-false n h x, eqb-true o b y)
      go false x false y q = absurd (q refl)

-- the head is row j
module _ (t : List ℕ) (n b j : ℕ) (e : j + 1 ≡ head_in (word_at t b)) (l : j < n) where
  head_row : head_in (word_at t b) - 1 ≡ j
  head_row = omega (arith, e)

  pub head_home : home_in (word_at t j) ≡ b → j + 1 ≡ head_for t n b
  head_home o = e ∙ counting_home n _ _ b (omega (arith, e)) (rw head_row o)

  pub head_elsewhere : (home_in (word_at t j) ≡ b → ⊥) → ◌≡◌ {A = ℕ} 0 (head_for t n b)
  head_elsewhere o = counting_elsewhere n _ _ b (omega (arith, e)) (rw head_row o)

pub head_within : (t : List ℕ) (n b : ℕ) {r : ℕ} → r ≡ head_for t n b → r ≤ n
head_within t n b e = rw e (counting_within n _ _ b)

-- the walk begins at the head of its bucket
pub walking_begins : (t : List ℕ) (n at name : ℕ) (x y : Words) → Indexed t n → at ≡ head_for t n (bucket_of name x y) → Walking (next_at t) (row_matches t name x y) n at
walking_begins t n at name x y h e = record { leads = λ r f l. rw e (h.leads name x y r f l) }

-- ---- rows that are alike

module _ {t t' : List ℕ} {j : ℕ} (a : Alike t t' j) where
  pub same_name : name_in (word_at t' j) ≡ name_in (word_at t j)
  same_name = omega (arith, a.low)

  pub same_next : next_at t' j ≡ next_at t j
  same_next = omega (arith, a.low)

  pub same_home : home_in (word_at t' j) ≡ home_in (word_at t j)
  same_home = omega (arith, a.low)

  pub same_matches : (name : ℕ) (x y : Words) → row_matches t' name x y j ≡ row_matches t name x y j
  same_matches name x y =
      rw (
        same_name,
        a.rest (7 * j + functions_from + 1) (omega arith) (omega arith),
        a.rest (7 * j + functions_from + 1 + 1) (omega arith) (omega arith),
        a.rest (7 * j + functions_from + 3) (omega arith) (omega arith),
        a.rest (7 * j + functions_from + 3 + 1) (omega arith) (omega arith),
      )

-- ---- a walk in a table that has the same rows, and perhaps more

module _ {t t' : List ℕ} {n : ℕ} (h : Indexed t n) (kept : (j : ℕ) → j < n → Alike t t' j) (m : ℕ) (more : n ≤ m) (name : ℕ) (x y : Words) (r : ℕ) (f : First (row_matches t' name x y) m r) (l : r < n) where
  first_back : First (row_matches t name x y) n r
  first_back = record {
    within = omega arith;
    hit = λ _. sym (same_matches (kept r l) name x y) ∙ f.hit (omega arith);
    before = λ j k. sym (same_matches (kept j (omega arith)) name x y) ∙ f.before j k;
  }

  leads_before : Leads (next_at t') (row_matches t' name x y) (head_for t n (bucket_of name x y)) r
  leads_before =
      leads_kept n (λ j k. same_next (kept j k)) (λ j k. same_matches (kept j k) name x y) (counting_within n _ _ (bucket_of name x y))
      (h.leads name x y r first_back l)

  leads_again : head_in (word_at t' (bucket_of name x y)) ≡ head_in (word_at t (bucket_of name x y)) → Leads (next_at t') (row_matches t' name x y) (head_for t' m (bucket_of name x y)) r
  leads_again e =
      let b = bucket_of name x y in
      let s = counting_so n (head_in (word_at t b)) (home_in (word_at t (head_in (word_at t b) - 1))) b (leads_some leads_before) in
      let o : home_in (word_at t' (head_in (word_at t' b) - 1)) ≡ b = rw e (same_home (kept (head_in (word_at t b) - 1) (omega (arith, s.0, s.1))) ∙ s.2) in
      let q : head_for t' m b ≡ head_for t n b =
      sym (counting_home m (head_in (word_at t' b)) _ b (omega (arith, e, s.1)) o) ∙ e ∙ counting_home n (head_in (word_at t b)) _ b s.1 s.2 in
      rw q leads_before

-- the index stays where all words of rows are the same
pub indexed_same : {t t' : List ℕ} {n : ℕ} → Indexed t n → ((i : ℕ) → functions_from ≤ i → get_or t' i 0 ≡ get_or t i 0) → Indexed t' n
indexed_same {t} {t'} {n} h s = record {
  leads = λ name x y r f l. leads_again {t = t} {t' = t'} {n = n} h (λ j k. record { low = ap (λ w. w % 1048576) (s (7 * j + functions_from) (omega arith)); rest = λ i a b. s i (omega arith) }) n (omega arith) name x y r f l (ap head_in (s (7 * bucket_of name x y + functions_from) (omega arith)));
}

-- ---- a row more

-- what matches row n has the same name and operands
pub record Owns (t : List ℕ) (n name : ℕ) (x y : Words) : Type 0 where
  pub own : (name' : ℕ) (x' y' : Words) → row_matches t name' x' y' n ≡ true → (name' ≡ name) × (x' ≡ x) × (y' ≡ y)

module _ {t t' : List ℕ} {n : ℕ} {name : ℕ} {x y : Words} (h : Indexed t n) (kept : (j : ℕ) → j < n → Alike t t' j) (o : Owns t' n name x y) where
  -- a row with the same name and operands stands: the heads stay
  pub stands_indexed : (s : ℕ) → s < n → row_matches t name x y s ≡ true → ((b : ℕ) → head_in (word_at t' b) ≡ head_in (word_at t b)) → Indexed t' (n + 1)
  stands_indexed s k e heads = record {
    leads = λ name' x' y' r f l. elim (dec_lt r n) [
      | yes m ↦ leads_again h kept (n + 1) (omega arith) name' x' y' r f m (heads (bucket_of name' x' y'))
      | no m ↦
          let i : n ≡ r = omega arith in
          let q = o.own name' x' y' (rw i (f.hit l)) in
          both_ways (same_matches (kept s k) name x y ∙ e) (rw (sym q.0, sym q.1, sym q.2) (f.before s (omega arith)))
    ];
  }

  -- none does: the row becomes the head of its bucket
  module _ (fresh : (j : ℕ) → j < n → row_matches t name x y j ≡ false) (others : (b : ℕ) → (b ≡ bucket_of name x y → ⊥) → head_in (word_at t' b) ≡ head_in (word_at t b))
      (head : head_in (word_at t' (bucket_of name x y)) ≡ n + 1) (home : home_in (word_at t' n) ≡ bucket_of name x y) (next : next_at t' n ≡ head_for t n (bucket_of name x y)) where
    new_head : head_for t' (n + 1) (bucket_of name x y) ≡ n + 1
    new_head =
        let i : n + 1 - 1 ≡ n = omega arith in
        let q : home_in (word_at t' (head_in (word_at t' (bucket_of name x y)) - 1)) ≡ bucket_of name x y = rw (head, i) home in
        sym (counting_home (n + 1) (head_in (word_at t' (bucket_of name x y))) _ (bucket_of name x y) (omega (arith, head)) q) ∙ head

    module _ (name' : ℕ) (x' y' : Words) (r : ℕ) (f : First (row_matches t' name' x' y') (n + 1) r) where
      at_new : r ≡ n → Leads (next_at t') (row_matches t' name' x' y') (head_for t' (n + 1) (bucket_of name' x' y')) r
      at_new i =
          let e : row_matches t' name' x' y' n ≡ true = rw (sym i) (f.hit (omega arith)) in
          let q = o.own name' x' y' e in
          let b : head_for t' (n + 1) (bucket_of name' x' y') ≡ n + 1 = rw (q.0, q.1, q.2) new_head in
          rw (b, i) (hits refl e)

      past_new : r < n → row_matches t' name' x' y' n ≡ false → Leads (next_at t') (row_matches t' name' x' y') (head_for t' (n + 1) (bucket_of name' x' y')) r
      past_new l e = elim (ℕ_discrete (bucket_of name' x' y') (bucket_of name x y)) [
        | yes q ↦
            let w : Leads (next_at t') (row_matches t' name' x' y') (head_for t n (bucket_of name x y)) r = rw (sym q) (leads_before h kept (n + 1) (omega arith) name' x' y' r f l) in
            let u = counting_within n (head_in (word_at t (bucket_of name x y))) (home_in (word_at t (head_in (word_at t (bucket_of name x y)) - 1))) (bucket_of name x y) in
            let z : min (next_at t' n) n ≡ head_for t n (bucket_of name x y) = omega (arith, next, u) in
            rw (q, new_head) (steps {r = r} n refl e (rw z w))
        | no q ↦ leads_again h kept (n + 1) (omega arith) name' x' y' r f l (others (bucket_of name' x' y') q)
      ]

      -- what stands before is not what the new row has
      not_new : r < n → row_matches t' name' x' y' n ≡ true → ⊥
      not_new l e =
          let q = o.own name' x' y' e in
          both_ways ((first_back h kept (n + 1) (omega arith) name' x' y' r f l).hit l) (rw (q.0, q.1, q.2) (fresh r l))

      before_new : (b : Bool) → row_matches t' name' x' y' n ≡ b → r < n → Leads (next_at t') (row_matches t' name' x' y') (head_for t' (n + 1) (bucket_of name' x' y')) r
      before_new true e l = absurd (not_new l e)
      before_new false e l = past_new l e

    pub fresh_indexed : Indexed t' (n + 1)
    fresh_indexed = record {
      leads = λ name' x' y' r f l. elim (dec_lt r n) [
        | yes m ↦ before_new name' x' y' r f (row_matches t' name' x' y' n) refl m
        | no m ↦ at_new name' x' y' r f (omega arith)
      ];
    }
