-- Which t row is found: the first that matches, with the value that is looked up; and what is found once another row is taken away. Assumes nothing.
use mathlib.Core.Path.{◌≡◌, refl, sym, ap, ◌∙◌, subst}
use mathlib.Core.List.{List, [], ◌∷◌, map}
use mathlib.Core.Logic.{◌≢◌}
use mathlib.Core.Bool.{Bool, true, false, cond, or-false}
use Prim.Native.Nat.{ℕ, zero, suc, pred, ◌+◌, ◌≤◌, ◌<◌}
use native.Mathlib.Omega.{arith}
use native.Mathlib.Decide.{dec_lt, ℕ_discrete}
use lib.ListN.{length, get_or}
use lib.Dec.{eqb}
use borrow.Author.Tests.{lt-ltb, le-ltb, eq-eqb, ne_eqb, eqb-false}
use Rattle.complex.specs.declared.Complex.{Complex}
use Rattle.expression.specs.declared.refusal.Operation.{Operation}
use Rattle.memory.specs.Marks.{most_marks, marks_of}
use Rattle.memory.proofs.Marks.{among, among_neither, mark_of}
use Rattle.sheet.specs.Rows.{Row, row, Lookup, found, missing, function_value, Numbered, at, nowhere, matches, value_in, row_from, function_row}
use Rattle.sheet.specs.Without.{without, renumbered}

-- ---- the value is the one that is looked up

-- what is found, without its number
unfoldable pub forgotten : Numbered → Lookup
forgotten (at j z) = found z
forgotten nowhere = missing

value_step : (b : Bool) (z : Complex) (next : ℕ) (l : Lookup) (n : Numbered) → l ≡ forgotten n → cond b (found z) l ≡ forgotten (cond b (at next z) n)
unfolding forgotten
value_step true z next l n e = refl
value_step false z next l n e = e

module _ (o : Operation) (x y : Complex) where
  value_from : (next : ℕ) (rs : List Row) → function_value o x y rs ≡ forgotten (row_from next o x y rs)
  unfolding function_value row_from matches value_in forgotten
  value_from next [] = refl
  value_from next (row o' x' y' value ∷ rs) = value_step (matches o x y (row o' x' y' value)) value next (function_value o x y rs) (row_from (suc next) o x y rs) (value_from (suc next) rs)

  pub value_forgotten : (rs : List Row) → function_value o x y rs ≡ forgotten (function_row o x y rs)
  value_forgotten rs = value_from 0 rs

-- ---- it is the first that matches

-- row j matches, has this value, and none before it matches; `other` stands for what is past the end
pub record Foremost (o : Operation) (x y : Complex) (other : Row) (rs : List Row) (j : ℕ) (z : Complex) : Type 0 where
  pub inside : j < length rs
  pub matching : matches o x y (get_or rs j other) ≡ true
  pub value : value_in (get_or rs j other) ≡ z
  pub before : (i : ℕ) → i < j → matches o x y (get_or rs i other) ≡ false

module _ (o : Operation) (x y : Complex) (other : Row) where
  -- its place among rows that are counted from `next` on
  record FoundFrom (next : ℕ) (rs : List Row) (j : ℕ) (z : Complex) : Type 0 where
    pub place : ℕ
    pub number : j ≡ next + place
    pub foremost : Foremost o x y other rs place z

  at_first : (next : ℕ) (r : Row) (rs : List Row) (j : ℕ) (z : Complex) → matches o x y r ≡ true → at next (value_in r) ≡ at j z → FoundFrom next (r ∷ rs) j z
  at_first next r rs j z m e =
      let same : next ≡ j = cc in
      record { place = 0; number = omega (arith, same); foremost = record { inside = omega arith; matching = m; value = cc; before = λ i l. absurd (omega arith) } }

  none_before : (r : Row) (rs : List Row) (k : ℕ) → matches o x y r ≡ false → ((i : ℕ) → i < k → matches o x y (get_or rs i other) ≡ false)
      → (i : ℕ) → i < suc k → matches o x y (get_or (r ∷ rs) i other) ≡ false
  none_before r rs k m f zero l = m
  none_before r rs k m f (suc i) l = f i (omega arith)

  at_later : (next : ℕ) (r : Row) (rs : List Row) (j : ℕ) (z : Complex) → matches o x y r ≡ false → FoundFrom (suc next) rs j z → FoundFrom next (r ∷ rs) j z
  at_later next r rs j z m f = record {
    place = suc f.place;
    number = omega (arith, f.number);
    foremost = record {
      inside = omega (arith, f.foremost.inside);
      matching = f.foremost.matching;
      value = f.foremost.value;
      before = none_before r rs f.place m f.foremost.before;
    };
  }

  found_from : (next : ℕ) (rs : List Row) (j : ℕ) (z : Complex) → row_from next o x y rs ≡ at j z → FoundFrom next rs j z
  unfolding row_from
  found_from next [] j z e = absurd (let w : ◌≡◌ {A = ℕ} 0 1 = cc in omega arith)
  found_from next (r ∷ rs) j z e = go (matches o x y r) refl e λ e. found_from (suc next) rs j z e
    where
      go : (b : Bool) → matches o x y r ≡ b → cond b (at next (value_in r)) (row_from (suc next) o x y rs) ≡ at j z
          → (row_from (suc next) o x y rs ≡ at j z → FoundFrom (suc next) rs j z) → FoundFrom next (r ∷ rs) j z
      go true m e f = at_first next r rs j z m e
      go false m e f = at_later next r rs j z m (f e)

  pub row_foremost : (rs : List Row) (j : ℕ) (z : Complex) → function_row o x y rs ≡ at j z → Foremost o x y other rs j z
  row_foremost rs j z e =
      let f = found_from 0 rs j z e in
      let same : f.place ≡ j = omega (arith, f.number) in
      subst (λ i. Foremost o x y other rs i z) same f.foremost

  none_at : (next : ℕ) (rs : List Row) → row_from next o x y rs ≡ nowhere → (i : ℕ) → i < length rs → matches o x y (get_or rs i other) ≡ false
  unfolding row_from
  none_at next [] e i l = absurd (omega arith)
  none_at next (r ∷ rs) e i l = go (matches o x y r) refl e (λ e i l. none_at (suc next) rs e i l) i l
    where
      go : (b : Bool) → matches o x y r ≡ b → cond b (at next (value_in r)) (row_from (suc next) o x y rs) ≡ nowhere
          → (row_from (suc next) o x y rs ≡ nowhere → (i : ℕ) → i < length rs → matches o x y (get_or rs i other) ≡ false)
          → (i : ℕ) → i < suc (length rs) → matches o x y (get_or (r ∷ rs) i other) ≡ false
      go true m e f i l = absurd (let w : ◌≡◌ {A = ℕ} 0 1 = cc in omega arith)
      go false m e f i l = none_before r rs (length rs) m (f e) i l

  -- where none is found none matches
  pub nowhere_matches : (rs : List Row) → function_row o x y rs ≡ nowhere → (i : ℕ) → i < length rs → matches o x y (get_or rs i other) ≡ false
  nowhere_matches rs e = none_at 0 rs e

-- ---- another row is taken away

-- what is found, with the number that it has then
unfoldable pub moved : (j : ℕ) → Numbered → Numbered
moved j (at i z) = at (renumbered j i) z
moved j nowhere = nowhere

pub renumbered_over : (j i : ℕ) → j ≤ i → renumbered j (suc i) ≡ i
unfolding renumbered
renumbered_over j i l = rw (lt-ltb j (suc i) (omega arith))

pub renumbered_below : (j i : ℕ) → i ≤ j → renumbered j i ≡ i
unfolding renumbered
renumbered_below j i l = rw (le-ltb j i l)

moves_step : (b : Bool) (j next : ℕ) (z : Complex) (m n : Numbered) → j ≤ next → m ≡ moved j n → cond b (at next z) m ≡ moved j (cond b (at (suc next) z) n)
unfolding moved
moves_step true j next z m n l e = ap (λ i. at i z) (sym (renumbered_over j next l))
moves_step false j next z m n l e = e

-- that row stands first: it does not match, and the others move up
first_away : (b : Bool) (next : ℕ) (v : Complex) (m n : Numbered) → ((z : Complex) → cond b (at next v) n ≡ at (next + 0) z → ⊥) → m ≡ moved next n
    → m ≡ moved (next + 0) (cond b (at next v) n)
first_away true next v m n k e = absurd (k v (ap (λ i. at i v) (omega arith)))
first_away false next v m n k e = let z : next + 0 ≡ next = omega arith in rw z e

-- it stands later
later_away : (b : Bool) (j next : ℕ) (v : Complex) (m n : Numbered) → ((z : Complex) → cond b (at next v) n ≡ at (next + suc j) z → ⊥)
    → (((z : Complex) → n ≡ at (suc next + j) z → ⊥) → m ≡ moved (suc next + j) n) → cond b (at next v) m ≡ moved (next + suc j) (cond b (at next v) n)
unfolding moved
later_away true j next v m n k e = ap (λ i. at i v) (sym (renumbered_below (next + suc j) next (omega arith)))
later_away false j next v m n k e = let z : next + suc j ≡ suc next + j = omega arith in rw z (e λ w p. k w (rw z p))

module _ (o : Operation) (x y : Complex) where
  moves_up : (j next : ℕ) (rs : List Row) → j ≤ next → row_from next o x y rs ≡ moved j (row_from (suc next) o x y rs)
  unfolding row_from moved
  moves_up j next [] l = refl
  moves_up j next (r ∷ rs) l = moves_step (matches o x y r) j next (value_in r) _ _ l (moves_up j (suc next) rs (omega arith))

  without_from : (j next : ℕ) (rs : List Row) → ((z : Complex) → row_from next o x y rs ≡ at (next + j) z → ⊥)
      → row_from next o x y (without j rs) ≡ moved (next + j) (row_from next o x y rs)
  unfolding row_from moved without
  without_from j next [] n = refl
  without_from zero next (r ∷ rs) n = first_away (matches o x y r) next (value_in r) _ _ n (moves_up next next rs (omega arith))
  without_from (suc j) next (r ∷ rs) n = later_away (matches o x y r) j next (value_in r) _ _ n λ n. without_from j (suc next) rs n

  -- what is found is the same row, by the number that it has then; what is not found is not found then
  pub row_without : (j : ℕ) (rs : List Row) → ((z : Complex) → function_row o x y rs ≡ at j z → ⊥)
      → function_row o x y (without j rs) ≡ moved j (function_row o x y rs)
  row_without j rs n = let e : 0 + j ≡ j = omega arith in rw e at (without_from j 0 rs λ z p. n z (rw e at p))

-- ---- lists of numbers, and marks, once a row that is not among them is taken away

renumbered_after : (j i : ℕ) → j < i → renumbered j i ≡ pred i
unfolding renumbered
renumbered_after j i l = rw (lt-ltb j i l)

renumbered_one : (j i k : ℕ) → i ≢ j → k ≢ j → renumbered j i ≡ renumbered j k → i ≡ k
renumbered_one j i k n m e = elim (dec_lt j i) [
  | yes a ↦ elim (dec_lt j k) [
    | yes b ↦ omega (arith, renumbered_after j i a, renumbered_after j k b)
    | no b ↦ omega (arith, renumbered_after j i a, renumbered_below j k (omega arith))
  ]
  | no a ↦ elim (dec_lt j k) [
    | yes b ↦ omega (arith, renumbered_below j i (omega arith), renumbered_after j k b)
    | no b ↦ omega (arith, renumbered_below j i (omega arith), renumbered_below j k (omega arith))
  ]
]

same_test : (j i k : ℕ) → i ≢ j → k ≢ j → eqb (renumbered j i) (renumbered j k) ≡ eqb i k
same_test j i k n m = elim (ℕ_discrete i k) [
  | yes e ↦ eq-eqb _ _ (ap (renumbered j) e) ∙ sym (eq-eqb i k e)
  | no e ↦ ne_eqb _ _ (λ q. e (renumbered_one j i k n m q)) ∙ sym (ne_eqb i k e)
]

pub among_renumbered : (j i : ℕ) (a : List ℕ) → i ≢ j → among j a ≡ false → among (renumbered j i) (map (renumbered j) a) ≡ among i a
unfolding among
among_renumbered j i [] n m = refl
among_renumbered j i (k ∷ a) n m =
    let b = among_neither j (k ∷ []) a m in
    let other : k ≢ j = λ e. eqb-false j k (sym (or-false (eqb j k)) ∙ b.0) (sym e) in
    rw (same_test j i k n other, among_renumbered j i a n b.1)

renumbered_least : (j i : ℕ) → renumbered j i ≤ i
renumbered_least j i = elim (dec_lt j i) [
  | yes a ↦ omega (arith, renumbered_after j i a)
  | no a ↦ omega (arith, renumbered_below j i (omega arith))
]

-- each other row has the mark that it had
pub marks_renumbered : (j i : ℕ) (a : List ℕ) → i ≢ j → among j a ≡ false → i < most_marks → get_or (marks_of (map (renumbered j) a)) (renumbered j i) 0 ≡ get_or (marks_of a) i 0
marks_renumbered j i a n m l =
    mark_of (map (renumbered j) a) (renumbered j i) (omega (arith, renumbered_least j i)) ∙ ap (λ b. cond b 1 0) (among_renumbered j i a n m) ∙ sym (mark_of a i l)
