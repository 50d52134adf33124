-- The check of a tape step by step, and which of two tapes is picked. Assumes nothing.
use mathlib.Core.Path.{◌≡◌, refl, sym, ap, subst, ◌∙◌}
use mathlib.Core.List.{List, [], ◌∷◌}
use mathlib.Core.Bool.{Bool, true, false, not, cond}
use mathlib.Core.Logic.{◌⊎◌, inl, inr}
use Prim.Native.Nat.{ℕ, zero, suc, ◌+◌, ◌*◌, ◌%◌, ◌<◌, ◌≤◌, ◌-◌}
use native.Mathlib.Nat.{sub-zero}
use native.Mathlib.Numerals.{add-one}
use native.Mathlib.Omega.{arith}
use lib.ListN.{length, drop}
use lib.Seq.{drop-drop}
use lib.Dec.{T, ltb, eqb}
use borrow.Author.Tests.{lt-ltb, le-ltb, eq-eqb, ne_eqb, ltb-true, eqb-true, not-true, not-false}
use Rattle.std.specs.Prelude.{Option, Some, None, Result, Ok, Err, is_ok, is_some}
use Rattle.expression.specs.declared.refusal.Refusal.{Refusal}
use Rattle.steps.specs.declared.Fields.{Fields}
use Rattle.steps.specs.Steps.{fields_in, known, step_of}
use Rattle.steps.proofs.Knowing.{first_true, second_true}
use Rattle.tape.specs.declared.Picked.{Picked}
use Rattle.tape.specs.Tapes.{fields_of_all, count, takes, after, allowed, check_from, check, better, picked, part_of, pick}
use Rattle.tape.specs.Run.{values_after, checked}

pub never : {A : Type 0} → false ≡ true → A
never e = absurd (subst T (sym e) tt)

-- ---- a step

module _ (values : ℕ) (f : Fields) where
  pub after_unknown : {r : Bool} → r ≡ known f → not r ≡ true → None ≡ values_after values f
  unfolding values_after
  after_unknown {r} p e = rw (sym p ∙ not-true r e) refl

  module _ {r : Bool} (p : r ≡ known f) (e : not r ≡ false) {taken : ℕ} (t : taken ≡ takes (step_of f)) where
    pub after_empty : values < taken → None ≡ values_after values f
    unfolding values_after
    after_empty l = rw (sym p ∙ not-false r e, le-ltb (takes (step_of f)) (suc values) (omega (arith, t, l))) refl

    pub after_full : taken ≤ values → 64 ≤ values - taken → None ≡ values_after values f
    unfolding values_after
    after_full l m = rw (sym p ∙ not-false r e, lt-ltb (takes (step_of f)) (suc values) (omega (arith, t, l)), le-ltb (after values (step_of f)) 65 (omega (arith, t, m))) refl

    pub after_on : taken ≤ values → values - taken < 64 → Some (values - taken + 1) ≡ values_after values f
    unfolding values_after
    after_on l m =
        rw (sym p ∙ not-false r e, lt-ltb (takes (step_of f)) (suc values) (omega (arith, t, l)), lt-ltb (after values (step_of f)) 65 (omega (arith, t, m)), sym t) (ap Some (omega arith))

-- the step is allowed where it leaves a value
pub record Allowed (values : ℕ) (f : Fields) (next : ℕ) : Type 0 where
  pub known : known f ≡ true
  pub enough : takes (step_of f) ≤ values
  pub counted : next ≡ after values (step_of f)
  pub room : next ≤ 64
  pub is : allowed values f ≡ true

pub allowed_is : (values : ℕ) (f : Fields) → allowed values f ≡ true → Allowed values f (after values (step_of f))
allowed_is values f e =
    let q = second_true (known f) _ e in
    let a = ltb-true (takes (step_of f)) (suc values) (first_true (ltb (takes (step_of f)) (suc values)) _ q) in
    let b = ltb-true (after values (step_of f)) 65 (second_true (ltb (takes (step_of f)) (suc values)) _ q) in
    record { known = first_true (known f) _ e; enough = omega (arith, a); counted = refl; room = omega (arith, b); is = e }

stood : (values : ℕ) (f : Fields) {next : ℕ} → Some next ≡ values_after values f → Allowed values f next
unfolding values_after
stood values f {next} p = go (allowed values f) refl
  where
    go : (b : Bool) → allowed values f ≡ b → Allowed values f next
    go true e =
        let a = allowed_is values f e in
        let q : Some next ≡ Some (after values (step_of f)) = p ∙ rw e refl in
        let z : next ≡ after values (step_of f) = cc in
        record { known = a.known; enough = a.enough; counted = z; room = omega (arith, z, a.room); is = e }
    go false e =
        let q : Some next ≡ None = p ∙ rw e refl in
        cc

fell : (values : ℕ) (f : Fields) → None ≡ values_after values f → allowed values f ≡ false
unfolding values_after
fell values f p = go (allowed values f) refl
  where
    go : (b : Bool) → allowed values f ≡ b → allowed values f ≡ false
    go true e =
        let q : None ≡ Some (after values (step_of f)) = p ∙ rw e refl in
        cc
    go false e = e

pub check_on : (step values : ℕ) (f : Fields) (fs : List Fields) → allowed values f ≡ true → check_from step values (f ∷ fs) ≡ check_from (suc step) (after values (step_of f)) fs
unfolding check_from
check_on step values f fs e = ap (λ b. cond b (check_from (suc step) (after values (step_of f)) fs) (Err (Refusal.BadTape step))) e

pub check_bad : (step values : ℕ) (f : Fields) (fs : List Fields) → allowed values f ≡ false → check_from step values (f ∷ fs) ≡ Err (Refusal.BadTape step)
unfolding check_from
check_bad step values f fs e = ap (λ b. cond b (check_from (suc step) (after values (step_of f)) fs) (Err (Refusal.BadTape step))) e

bad_sound : {A : Type 0} {why : Refusal} → ◌≡◌ {A = Result (Unit {0}) Refusal} (Err why) (Ok tt) → A
bad_sound e = absurd (subst Good (sym e) tt)
  where
    Good : Result (Unit {0}) Refusal → Type 0
    Good (Ok u) = Unit {0}
    Good (Err why) = ⊥

-- a step that a sound tape has next
pub on_sound : (at n : ℕ) (f : Fields) (fs : List Fields) → check_from at n (f ∷ fs) ≡ Ok tt → Allowed n f (after n (step_of f)) × (check_from (suc at) (after n (step_of f)) fs ≡ Ok tt)
on_sound at n f fs e = decide (allowed n f) refl
  where
    decide : (b : Bool) → allowed n f ≡ b → Allowed n f (after n (step_of f)) × (check_from (suc at) (after n (step_of f)) fs ≡ Ok tt)
    decide true p = (allowed_is n f p, sym (check_on at n f fs p) ∙ e)
    decide false p = bad_sound (sym (check_bad at n f fs p) ∙ e)

-- and its end
pub one_left : (at n : ℕ) → check_from at n [] ≡ Ok tt → n ≡ 1
unfolding check_from
one_left at n e = decide (eqb n 1) refl
  where
    decide : (b : Bool) → eqb n 1 ≡ b → n ≡ 1
    decide true p = eqb-true n 1 p
    decide false p = bad_sound (sym (ap (λ b. cond b (Ok tt) (Err (Refusal.BadTape at))) p) ∙ e)

-- ---- the steps that are left

pub remaining : (n i : ℕ) (bs : List ℕ) → i < n → fields_of_all (n - i) (drop (24 * i) bs) ≡ fields_in (drop (24 * i) bs) ∷ fields_of_all (n - (i + 1)) (drop (24 * (i + 1)) bs)
unfolding fields_of_all
remaining n i bs l =
    let p : n - i ≡ suc (n - (i + 1)) = omega (arith, l) in
    let q : 24 * i + 24 ≡ 24 * (i + 1) = omega arith in
    rw (p, sym q, sym (drop-drop 24 (24 * i) bs)) refl

pub none_left : (n i : ℕ) (bs : List ℕ) → n ≤ i → fields_of_all (n - i) (drop (24 * i) bs) ≡ []
unfolding fields_of_all
none_left n i bs l =
    let p : n - i ≡ 0 = omega (arith, l) in
    rw p refl

pub all_left : (n : ℕ) (bs : List ℕ) → fields_of_all (n - 0) (drop (24 * 0) bs) ≡ fields_of_all n bs
all_left n bs = ap (λ k. fields_of_all k bs) (sub-zero n)

pub record Rest (bs : List ℕ) (n i values : ℕ) : Type 0 where
  pub inside : i ≤ n
  pub few : values ≤ 64
  pub same : check_from i values (fields_of_all (n - i) (drop (24 * i) bs)) ≡ check_from 0 0 (fields_of_all n bs)

pub rest_begins : (bs : List ℕ) (n : ℕ) → Rest bs n 0 0
rest_begins bs n = record { inside = omega arith; few = omega arith; same = ap (check_from 0 0) (all_left n bs) }

module _ {bs : List ℕ} {n i values : ℕ} (h : Rest bs n i values) where
  module _ (l : i < n) {f : Fields} {r : Option ℕ} (e : f ≡ fields_in (drop (24 * i) bs)) (p : r ≡ values_after values f) where
    now_is : check_from i values (f ∷ fields_of_all (n - (i + 1)) (drop (24 * (i + 1)) bs)) ≡ check_from 0 0 (fields_of_all n bs)
    now_is = rw e (ap (check_from i values) (sym (remaining n i bs l)) ∙ h.same)

    pub rest_bad : r ≡ None → Err (Refusal.BadTape i) ≡ check_from 0 0 (fields_of_all n bs)
    rest_bad z = sym (check_bad i values f _ (fell values f (sym z ∙ p))) ∙ now_is

    pub rest_on : {next : ℕ} → r ≡ Some next → Rest bs n (i + 1) next
    rest_on z =
        let a = stood values f (sym z ∙ p) in
        record { inside = omega (arith, l); few = a.room; same = (λ j. check_from (add-one i j) (a.counted j) (fields_of_all (n - (i + 1)) (drop (24 * (i + 1)) bs))) ∙ sym (check_on i values f _ a.is) ∙ now_is }

  module _ (l : n ≤ i) where
    end_is : check_from i values [] ≡ check_from 0 0 (fields_of_all n bs)
    end_is = ap (check_from i values) (sym (none_left n i bs l)) ∙ h.same

    pub rest_sound : values ≡ 1 → Ok tt ≡ check_from 0 0 (fields_of_all n bs)
    unfolding check_from
    rest_sound e = rw (eq-eqb values 1 e) at end_is

    pub rest_left : (values ≡ 1 → ⊥) → Err (Refusal.BadTape n) ≡ check_from 0 0 (fields_of_all n bs)
    unfolding check_from
    rest_left e =
        let z : n ≡ i = omega (arith, l, h.inside) in
        ap (λ k. Err (Refusal.BadTape k)) z ∙ (rw (ne_eqb values 1 e) at end_is)

-- ---- the whole tape

module _ (bs : List ℕ) where
  pub check_ragged : (length bs % 24 ≡ 0 → ⊥) → Err (Refusal.BadTape 0) ≡ check bs
  unfolding check
  check_ragged e = rw (ne_eqb (length bs % 24) 0 e) refl

  pub check_none : length bs % 24 ≡ 0 → count bs ≡ 0 → Err (Refusal.BadTape 0) ≡ check bs
  unfolding check
  check_none e z = rw (eq-eqb (length bs % 24) 0 e, le-ltb 0 (count bs) (omega (arith, z))) refl

  pub check_long : length bs % 24 ≡ 0 → 512 < count bs → Err (Refusal.BadTape 0) ≡ check bs
  unfolding check
  check_long e l = rw (eq-eqb (length bs % 24) 0 e, lt-ltb 0 (count bs) (omega (arith, l)), le-ltb (count bs) 513 (omega (arith, l))) refl

  pub check_whole : {r : Result (Unit {0}) Refusal} → length bs % 24 ≡ 0 → (count bs ≡ 0 → ⊥) → count bs ≤ 512 → r ≡ check_from 0 0 (fields_of_all (count bs) bs) → r ≡ check bs
  unfolding check
  check_whole e z l p = rw (eq-eqb (length bs % 24) 0 e, lt-ltb 0 (count bs) (some (count bs) z), lt-ltb (count bs) 513 (omega (arith, l))) p
    where
      some : (k : ℕ) → (k ≡ 0 → ⊥) → 0 < k
      some zero z = absurd (z refl)
      some (suc k) z = omega arith

-- a sound tape has whole steps, and each passes
pub record Sound (bs : List ℕ) : Type 0 where
  pub whole : length bs % 24 ≡ 0
  pub some : 0 < count bs
  pub few : count bs ≤ 512
  pub steps : check_from 0 0 (fields_of_all (count bs) bs) ≡ Ok tt

pub sound_is : (bs : List ℕ) → check bs ≡ Ok tt → Sound bs
unfolding check
sound_is bs e = go (eqb (length bs % 24) 0) (ltb 0 (count bs)) (ltb (count bs) 513) refl refl refl
  where
    go : (a b d : Bool) → eqb (length bs % 24) 0 ≡ a → ltb 0 (count bs) ≡ b → ltb (count bs) 513 ≡ d → Sound bs
    go true true true p q r = record { whole = eqb_is p; some = ltb-true _ _ q; few = less (ltb-true _ _ r); steps = rw (p, q, r) at e }
      where
        eqb_is : eqb (length bs % 24) 0 ≡ true → length bs % 24 ≡ 0
        eqb_is = eqb-true (length bs % 24) 0

        less : count bs < 513 → count bs ≤ 512
        less l = omega (arith, l)
    go false b d p q r = bad_sound (rw p at e)
    go true false d p q r = bad_sound (rw (p, q) at e)
    go true true false p q r = bad_sound (rw (p, q, r) at e)

-- a tape that is refused is refused by one of its steps
IsBad : Result (Unit {0}) Refusal → Type 0
IsBad (Ok u) = Unit {0}
IsBad (Err why) = (step : ℕ) × (why ≡ Refusal.BadTape step)

bad_if : (b : Bool) (r : Result (Unit {0}) Refusal) (step : ℕ) → IsBad r → IsBad (cond b r (Err (Refusal.BadTape step)))
unfolding IsBad
bad_if true r step h = h
bad_if false r step h = (step, refl)

bad_from : (step values : ℕ) (fs : List Fields) → IsBad (check_from step values fs)
unfolding check_from IsBad
bad_from step values [] = bad_if (eqb values 1) (Ok tt) step tt
bad_from step values (f ∷ fs) = bad_if (allowed values f) (check_from (suc step) (after values (step_of f)) fs) step (bad_from (suc step) (after values (step_of f)) fs)

pub refused_by : (bs : List ℕ) {why : Refusal} → check bs ≡ Err why → (step : ℕ) × (why ≡ Refusal.BadTape step)
unfolding check IsBad
refused_by bs e = subst IsBad e (bad_if _ _ 0 (bad_from 0 0 (fields_of_all (count bs) bs)))

-- ---- the first bad step, if there is one

pub none_bad : (r : Option ℕ) (b : Bool) → is_some r ≡ not b → b ≡ is_ok (checked r)
none_bad None true e = refl
none_bad None false e = never e
none_bad (Some k) true e = never (sym e)
none_bad (Some k) false e = refl

-- ---- the pick

module _ (m n : ℕ) where
  pub pick_second : (a b : Result (Unit {0}) Refusal) → is_ok a ≡ false → is_ok b ≡ true → Picked.Second ≡ better a b m n
  unfolding better
  pick_second (Ok u) b p q = never (sym p)
  pick_second (Err why) (Ok u) p q = refl
  pick_second (Err why) (Err why') p q = never q

  pub pick_neither : (a b : Result (Unit {0}) Refusal) → is_ok a ≡ false → is_ok b ≡ false → Picked.Nothing ≡ better a b m n
  unfolding better
  pick_neither (Ok u) b p q = never (sym p)
  pick_neither (Err why) (Ok u) p q = never (sym q)
  pick_neither (Err why) (Err why') p q = refl

  pub pick_shorter : (a b : Result (Unit {0}) Refusal) → is_ok a ≡ true → n < m → is_ok b ≡ true → Picked.Second ≡ better a b m n
  unfolding better
  pick_shorter (Ok u) (Ok v) p l q = rw (lt-ltb n m l) refl
  pick_shorter (Ok u) (Err why) p l q = never q
  pick_shorter (Err why) b p l q = never p

  pub pick_only : (a b : Result (Unit {0}) Refusal) → is_ok a ≡ true → is_ok b ≡ false → Picked.First ≡ better a b m n
  unfolding better
  pick_only (Ok u) (Ok v) p q = never (sym q)
  pick_only (Ok u) (Err why) p q = refl
  pick_only (Err why) b p q = never p

  pub pick_first : (a b : Result (Unit {0}) Refusal) → is_ok a ≡ true → m ≤ n → Picked.First ≡ better a b m n
  unfolding better
  pick_first (Ok u) (Ok v) p l = rw (le-ltb n m l) refl
  pick_first (Ok u) (Err why) p l = refl
  pick_first (Err why) b p l = never p

-- what a callee tells, and how the test went
pub so : {r t b : Bool} → r ≡ t → r ≡ b → t ≡ b
so p q = sym p ∙ q

-- ---- which of the two it is

IsFirst : Picked → Type 0
IsFirst Picked.First = Unit {0}
IsFirst Picked.Second = ⊥
IsFirst Picked.Nothing = ⊥

IsSecond : Picked → Type 0
IsSecond Picked.First = ⊥
IsSecond Picked.Second = Unit {0}
IsSecond Picked.Nothing = ⊥

pub not_both : {A : Type 0} {p : Picked} → p ≡ Picked.First → p ≡ Picked.Second → A
unfolding IsFirst
not_both e f = absurd (subst IsFirst (sym e ∙ f) tt)

pub not_first : {A : Type 0} {p : Picked} → p ≡ Picked.Nothing → p ≡ Picked.First → A
unfolding IsFirst
not_first e f = absurd (subst IsFirst (sym f ∙ e) tt)

pub not_second : {A : Type 0} {p : Picked} → p ≡ Picked.Nothing → p ≡ Picked.Second → A
unfolding IsSecond
not_second e f = absurd (subst IsSecond (sym f ∙ e) tt)

-- what is picked is one of the two, or empty
pub pick_one : (a b : List ℕ) → (pick a b ≡ a) ⊎ ((pick a b ≡ b) ⊎ (pick a b ≡ []))
unfolding part_of
pick_one a b = go (picked a b)
  where
    go : (p : Picked) → (part_of p a b ≡ a) ⊎ ((part_of p a b ≡ b) ⊎ (part_of p a b ≡ []))
    go Picked.First = inl refl
    go Picked.Second = inr (inl refl)
    go Picked.Nothing = inr (inr refl)

-- any two answers that the contracts of the check and of the pick allow are equal
pub one_checked : (tape : List ℕ) {r r' : Result (Unit {0}) Refusal} → r ≡ check tape → r' ≡ check tape → r ≡ r'
one_checked tape p q = p ∙ sym q

pub one_picked : (a b : List ℕ) {r r' : List ℕ} → r ≡ pick a b → r' ≡ pick a b → r ≡ r'
one_picked a b p q = p ∙ sym q
