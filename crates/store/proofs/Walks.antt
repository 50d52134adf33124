-- A walk through a chain of the index: what has been passed, how it begins, goes on and ends. Assumes nothing.
use mathlib.Core.Path.{◌≡◌, refl, sym, ap, ◌∙◌, subst}
use mathlib.Core.Logic.{⊎_elim}
use mathlib.Core.Bool.{Bool, true, false, cond}
use Prim.Native.Nat.{ℕ, ◌-◌, ◌*◌, ◌%◌, ◌≤◌, ◌<◌, min}
use native.Mathlib.Nat.{eq-or-lt_of_le}
use native.Mathlib.Omega.{arith}
use native.Mathlib.Decide.{ℕ_discrete, dec_lt}
use borrow.Author.Tests.{lt-ltb, le-ltb, eq-eqb, ne_eqb, ltb-false}
use lib.Dec.{ltb, eqb}
use lib.ListN.{get_or}
use Rattle.complex.specs.Classes.{class_of_bits}
use Rattle.store.specs.declared.index.Meeting.{Meeting}
use Rattle.store.specs.declared.node.Fields.{Fields}
use Rattle.store.specs.Words.{code_in}
use Rattle.store.specs.Memory.{Memory, room, fields_on, fields_at, head_at, home_at, class_at, next_at}
use Rattle.store.specs.Index.{word_key, key_of, bucket_of, key_at, bucket_at, head_for, latest}
use Rattle.store.specs.Held.{Holds}
use Rattle.store.specs.Walk.{Kinship, kin, stranger, Meets, Passed, Walked}
use Rattle.store.proofs.Trees.{room_each}
use Rattle.store.proofs.Places.{latest_within, latest_hit, latest_miss}
use Rattle.store.proofs.Coding.{all_same}
use Rattle.store.proofs.Hashing.{bucket_below}

-- ---- the head of a bucket

-- one of the n, plus one, or 0
pub head_within : (m : Memory) (n b : ℕ) → head_for m n b ≤ n
unfolding head_for
head_within m n b = go (ltb n (head_at m b)) refl (eqb (home_at m (head_at m b - 1)) b)
  where
    go : (c : Bool) → ltb n (head_at m b) ≡ c → (e : Bool) → cond c 0 (cond e (head_at m b) 0) ≤ n
    go true x e = omega arith
    go false x true = ltb-false n (head_at m b) x
    go false x false = omega arith

-- where the word has none, or none of the n, or one that is at home elsewhere
pub no_head : (m : Memory) (n b : ℕ) {h : ℕ} → h ≡ head_at m b → h ≡ 0 → ◌≡◌ {A = ℕ} 0 (head_for m n b)
unfolding head_for
no_head m n b e z = rw (sym e ∙ z) (none (ltb n 0) (eqb (home_at m (0 - 1)) b))
  where
    none : (c d : Bool) → ◌≡◌ {A = ℕ} 0 (cond c 0 (cond d 0 0))
    none true d = refl
    none false true = refl
    none false false = refl

pub past_head : (m : Memory) (n b : ℕ) {h : ℕ} → h ≡ head_at m b → n < h → ◌≡◌ {A = ℕ} 0 (head_for m n b)
unfolding head_for
past_head m n b e l = rw (lt-ltb n (head_at m b) (omega (arith, e, l))) refl

pub head_home : (m : Memory) (n b : ℕ) {h : ℕ} → h ≡ head_at m b → h ≤ n → home_at m (h - 1) ≡ b → h ≡ head_for m n b
unfolding head_for
head_home m n b e l x = rw (le-ltb n (head_at m b) (omega (arith, e, l)), eq-eqb (home_at m (head_at m b - 1)) b (ap (λ k. home_at m (k - 1)) (sym e) ∙ x)) e

pub head_elsewhere : (m : Memory) (n b : ℕ) {h : ℕ} → h ≡ head_at m b → h ≤ n → (home_at m (h - 1) ≡ b → ⊥) → ◌≡◌ {A = ℕ} 0 (head_for m n b)
unfolding head_for
head_elsewhere m n b e l x =
    rw (le-ltb n (head_at m b) (omega (arith, e, l)), ne_eqb (home_at m (head_at m b - 1)) b (λ y. x (ap (λ k. home_at m (k - 1)) e ∙ y))) refl

-- a node with the fields has the key
key_of_fields : (m : Memory) (f key : Fields) → key ≡ key_of (class_at m) f → (j : ℕ) → fields_at m j ≡ f → key_at m j ≡ key
unfolding key_at
key_of_fields m f key k j e = ap (key_of (class_at m)) e ∙ sym k

-- ---- row by row

module _ {m : Memory} {n : ℕ} {f key : Fields} {at class : ℕ} (p : Passed m n f key at class) where
  -- the walk ends where no node is left
  pub ends : at ≡ 0 → Walked m n f key n class
  ends z = record {
    inside = omega arith;
    own = λ l. absurd (omega arith);
    none = λ o j l. p.none j (omega arith) l;
    kinship = λ o. from_zero p.kinship;
  }
    where
      from_zero : Kinship m n key at class → Kinship m n key 0 class
      from_zero (kin j l q c) = kin j l q c
      from_zero (stranger c q) = stranger c λ j a l. q j (omega arith) l

  module _ (q : ℕ) (d : q ≡ at - 1) (o : at ≡ 0 → ⊥) where
    here : q < n
    here = omega (arith, p.within)

    pub found : (class' : ℕ) {r : Meeting} → r ≡ Meeting.Own → Meets m q f key r → Walked m n f key q class'
    found class' e x = record { inside = omega (arith, here); own = λ l. subst (Meets m q f key) e x; none = λ o. absurd (omega (arith, here)); kinship = λ o. absurd (omega (arith, here)) }

    -- what no later node is, and this one is not
    none_here : {P : ℕ → Type 0} → (P q → ⊥) → ((j : ℕ) → at ≤ j → j < n → P j → ⊥) → (j : ℕ) → q ≤ j → j < n → P j → ⊥
    none_here {P} x y j a l r = go (ℕ_discrete j q)
      where
        go : Dec (j ≡ q) → ⊥
        go (yes t) = x (subst P t r)
        go (no t) = y j (omega arith) l r

    -- it goes on past a node with the key, whose class it keeps, and past one without
    pub past_kin : {class' : ℕ} {r : Meeting} → r ≡ Meeting.Kin → Meets m q f key r → class' ≡ class_at m q → Passed m n f key q class'
    past_kin e y c =
        let x = subst (Meets m q f key) e y in
        record { within = omega (arith, here); none = none_here x.1 p.none; kinship = kin q here x.0 c }

    pub past_stranger : key ≡ key_of (class_at m) f → {class' : ℕ} {r : Meeting} → r ≡ Meeting.Stranger → Meets m q f key r → class' ≡ class → Passed m n f key q class'
    past_stranger k e y c =
        let x = subst (Meets m q f key) e y in
        rw c
        (record {
          within = omega (arith, here);
          none = none_here (λ z. x (key_of_fields m f key k q z)) p.none;
          kinship = go x p.kinship;
        })
      where
        go : (key_at m q ≡ key → ⊥) → Kinship m n key at class → Kinship m n key q class
        go x (kin j l e c) = kin j l e c
        go x (stranger c z) = stranger c (none_here x z)

-- ---- along a chain

-- besides, `at` is a node of the bucket, plus one, or 0
pub record Chained (m : Memory) (n : ℕ) (f key : Fields) (bucket at class : ℕ) : Type 0 where
  pub passed : Passed m n f key at class
  pub bucketed : 1 ≤ at → bucket_at m (at - 1) ≡ bucket

module _ {m : Memory} {n : ℕ} (h : Holds m n) (f key : Fields) (k : key ≡ key_of (class_at m) f) (bucket : ℕ) (e : bucket ≡ bucket_of (room m) key) where
  -- a node of another bucket has neither the key nor the fields
  other_key : (j : ℕ) → (bucket_at m j ≡ bucket → ⊥) → key_at m j ≡ key → ⊥
  unfolding bucket_at
  other_key j x p = x (ap (bucket_of (room m)) p ∙ sym e)

  -- so all nodes have been looked at from the last of the bucket on, if all have from q on
  skipped : (q class : ℕ) → Passed m n f key q class → Chained m n f key bucket (latest (bucket_at m) bucket q) class
  skipped q class p = record {
    passed = record {
      within = omega (arith, w, p.within);
      none = passed (key_of_fields m f key k) p.none;
      kinship = go p.kinship;
    };
    bucketed = latest_hit (bucket_at m) bucket q;
  }
    where
      w : latest (bucket_at m) bucket q ≤ q
      w = latest_within (bucket_at m) bucket q

      passed : {P : ℕ → Type 0} → ((j : ℕ) → P j → key_at m j ≡ key) → ((j : ℕ) → q ≤ j → j < n → P j → ⊥) → (j : ℕ) → latest (bucket_at m) bucket q ≤ j → j < n → P j → ⊥
      passed {P} g y j a l r = other (dec_lt j q)
        where
          other : Dec (j < q) → ⊥
          other (yes t) = other_key j (latest_miss (bucket_at m) bucket q j a t) (g j r)
          other (no s) = y j (omega arith) l r

      go : Kinship m n key q class → Kinship m n key (latest (bucket_at m) bucket q) class
      go (kin j l e c) = kin j l e c
      go (stranger c z) = stranger c (passed (λ j r. r) z)

  -- the walk begins at the head of the bucket
  pub begins : (at : ℕ) → at ≡ head_for m n bucket → Chained m n f key bucket at n
  begins at d =
      ⊎_elim
      (λ z. record {
        passed = record {
          within = omega (arith, d, head_within m n bucket);
          none = λ j a l. absurd (omega arith);
          kinship = stranger refl λ j a l. absurd (omega arith);
        };
        bucketed = λ o. absurd (omega (arith, d, z, o, head_within m n bucket));
      })
      (λ p. begun p)
      (eq-or-lt_of_le {n = 0} {m = n} (omega arith))
    where
      begun : 0 < n → Chained m n f key bucket at n
      begun p =
          let r : 0 < room m = omega (arith, h.fits) in
          let l : bucket < 2 * room m = rw e (bucket_below (room m) key r (omega (arith, (room_each m (room m) (omega arith)).most))) in
          rw (d ∙ h.heads bucket l)
          (skipped n n (record { within = omega arith; none = λ j a q. absurd (omega arith); kinship = stranger refl λ j a q. absurd (omega arith) }))

  -- and goes on at the next of a node of the bucket
  pub goes_on : {at class class' at' : ℕ} → Chained m n f key bucket at class → (q : ℕ) → q ≡ at - 1 → (at ≡ 0 → ⊥) → Passed m n f key q class'
      → at' ≡ min (next_at m q) q → Chained m n f key bucket at' class'
  goes_on {at} {class} {class'} c q d o p a = rw (a ∙ next_is) (skipped q class' p)
    where
      next_is : min (next_at m q) q ≡ latest (bucket_at m) bucket q
      next_is =
          let b : bucket_at m q ≡ bucket = ap (bucket_at m) d ∙ c.bucketed (omega arith) in
          let l : q < n = omega (arith, c.passed.within) in
          let x : next_at m q ≡ latest (bucket_at m) bucket q = (h.each q l).next ∙ ap (λ z. latest (bucket_at m) z q) b in
          let w = latest_within (bucket_at m) bucket q in
          omega arith

-- ---- how a node meets what is sought, word by word

-- what stands for a word in the key, by the kind
module _ (class : ℕ → ℕ) (operands kind x : ℕ) where
  pub key_double : kind ≡ 1 → class_of_bits x ≡ word_key class operands kind x
  unfolding word_key
  key_double e = rw e refl

  pub key_word : (kind ≡ 1 → ⊥) → kind < operands → x ≡ word_key class operands kind x
  unfolding word_key
  key_word e l = rw (ne_eqb kind 1 e, lt-ltb kind operands l) refl

  pub key_operand : (kind ≡ 1 → ⊥) → operands ≤ kind → class x ≡ word_key class operands kind x
  unfolding word_key
  key_operand e l = rw (ne_eqb kind 1 e, le-ltb kind operands l) refl

-- another word is another node
pub other_first : (m : Memory) (q : ℕ) (f : Fields) {a : ℕ} → a ≡ get_or m.first q 0 → (a ≡ f.first → ⊥) → fields_at m q ≡ f → ⊥
unfolding fields_on
other_first m q f e x r = x (e ∙ ap (λ g. g.first) r)

pub other_second : (m : Memory) (q : ℕ) (f : Fields) {b : ℕ} → b ≡ get_or m.second q 0 → (b ≡ f.second → ⊥) → fields_at m q ≡ f → ⊥
unfolding fields_on
other_second m q f e x r = x (e ∙ ap (λ g. g.second) r)

module _ (m : Memory) (q : ℕ) (f key : Fields) (k : key ≡ key_of (class_at m) f) where
  -- another code is another key
  pub meets_code : (c w : ℕ) → c ≡ code_in w → w ≡ get_or m.tag q 0 → (c ≡ f.code → ⊥) → Meets m q f key Meeting.Stranger
  unfolding key_at key_of fields_on
  meets_code c w e d x p = x (e ∙ ap code_in d ∙ ap (λ g. g.code) (p ∙ k))

  -- with the same code, the words
  module _ (c w : ℕ) (ec : c ≡ code_in w) (ew : w ≡ get_or m.tag q 0) (same : c ≡ f.code) {a b : ℕ} (ea : a ≡ get_or m.first q 0) (eb : b ≡ get_or m.second q 0) where
    code_is : code_in (get_or m.tag q 0) ≡ f.code
    code_is = ap code_in (sym ew) ∙ sym ec ∙ same

    pub meets_own : a ≡ f.first → b ≡ f.second → Meets m q f key Meeting.Own
    unfolding fields_on
    meets_own x y = all_same (fields_at m q) f code_is (sym ea ∙ x) (sym eb ∙ y)

    module _ {a' : ℕ} (ea' : a' ≡ word_key (class_at m) 5 (f.code % 8) a) where
      first_is_lem : a' ≡ (key_at m q).first
      unfolding key_at key_of fields_on
      first_is_lem = ea' ∙ rw (code_is, ea) refl

      pub meets_first : (a' ≡ key.first → ⊥) → Meets m q f key Meeting.Stranger
      meets_first x p = x (first_is_lem ∙ ap (λ g. g.first) p)

      module _ {b' : ℕ} (eb' : b' ≡ word_key (class_at m) 7 (f.code % 8) b) where
        second_is : b' ≡ (key_at m q).second
        unfolding key_at key_of fields_on
        second_is = eb' ∙ rw (code_is, eb) refl

        pub meets_second : (b' ≡ key.second → ⊥) → Meets m q f key Meeting.Stranger
        meets_second x p = x (second_is ∙ ap (λ g. g.second) p)

        pub meets_kin : a' ≡ key.first → b' ≡ key.second → (fields_at m q ≡ f → ⊥) → Meets m q f key Meeting.Kin
        unfolding key_at key_of fields_on
        meets_kin x y z = (all_same (key_at m q) key (code_is ∙ sym (ap (λ g. g.code) k)) (sym first_is_lem ∙ x) (sym second_is ∙ y), z)
