-- A test at each of the first places, the steps of the judges' loops, and what it means that a judge says yes. Assumes nothing.
use mathlib.Core.Path.{◌≡◌, refl, sym, ap, ◌∙◌}
use Prim.Native.Nat.{ℕ, zero, suc, ◌+◌, ◌%◌, ◌≤◌, ◌<◌, min}
use mathlib.Core.Bool.{Bool, true, false, not, ◌&&◌}
use mathlib.Core.List.{List, [], ◌∷◌, map}
use native.Mathlib.Omega.{arith}
use native.Mathlib.Decide.{dec_lt}
use lib.ListN.{length, get_or, take, drop, replicate, drop_of_length-le, length-replicate, get_or-replicate}
use lib.Seq.{take-length, take_all}
use Rattle.std.proofs.lemmas.List.{get_or-take, length-take-le}
use lib.Dec.{eqb, compare_is_eq}
use Prim.Native.Nat.compare
use lib.Pointwise.{pointwise}
use Rattle.std.specs.List.{list_all}
use borrow.Author.Tests.{eqb-true, eq-eqb, ne_eqb, le-leb, lt-leb, not-true, not-false}
use Rattle.replay.specs.Judges.{every, same, same_up_to, all_are, blank, blank_rows, written, digit_of}

-- ---- a test at each of the first places

no_and : (b : Bool) → b && false ≡ false
no_and true = refl
no_and false = refl

both : (a b : Bool) → a && b ≡ true → (a ≡ true) × (b ≡ true)
both true b e = (refl, e)
both false b e = absurd (let z : ◌≡◌ {A = ℕ} 0 1 = cc in omega arith)

module _ (test : ℕ → Bool) where
  pub none_yet : every test 0 ≡ true
  unfolding every
  none_yet = refl

  -- one place more
  pub one_more_lem : (n : ℕ) → every test n ≡ true → test n ≡ true → every test (n + 1) ≡ true
  unfolding every
  one_more_lem n e t = let s : n + 1 ≡ suc n = omega arith in rw (s, t, e) refl

  -- it fails where it fails at one place
  pub fails : (n k : ℕ) → k < n → test k ≡ false → every test n ≡ false
  unfolding every
  fails zero k l f = absurd (omega arith)
  fails (suc n) k l f = elim (dec_lt k n) [
    | yes x ↦ rw (fails n k x f) (no_and (test n))
    | no x ↦ let e : n ≡ k = omega (arith, x, l) in rw (e, f) refl
  ]

  -- it holds at each place where it holds at all
  pub holds_at : (n k : ℕ) → k < n → every test n ≡ true → test k ≡ true
  unfolding every
  holds_at zero k l e = absurd (omega arith)
  holds_at (suc n) k l e = elim (dec_lt k n) [
    | yes x ↦ holds_at n k x (both (test n) (every test n) e).1
    | no x ↦ let s : k ≡ n = omega (arith, x, l) in rw s (both (test n) (every test n) e).0
  ]

  -- and at fewer places
  pub fewer : (n k : ℕ) → k ≤ n → every test n ≡ true → every test k ≡ true
  unfolding every
  fewer n zero l e = refl
  fewer n (suc k) l e = rw (holds_at n k (omega arith) e, fewer n k (omega arith) e) refl

-- ---- `is_zero`, `is_all` and `is_zero_in`: a test of each element

and_swap : (a b c : Bool) → a && (b && c) ≡ b && (a && c)
and_swap true true c = refl
and_swap true false c = refl
and_swap false true c = refl
and_swap false false c = refl

-- the first place, and the others
every_front : (test : ℕ → Bool) (n : ℕ) → every test (suc n) ≡ test 0 && every (λ k. test (suc k)) n
unfolding every
every_front test zero = refl
every_front test (suc n) = ap (λ b. test (suc n) && b) (every_front test n) ∙ and_swap (test (suc n)) (test 0) (every (λ k. test (suc k)) n)

pub listed : {X : Type 0} (p : X → Bool) (d : X) (s : List X) → list_all p s ≡ every (λ k. p (get_or s k d)) (length s)
unfolding every
listed p d [] = refl
listed p d (x ∷ s) = ap (λ b. p x && b) (listed p d s) ∙ sym (every_front (λ k. p (get_or (x ∷ s) k d)) (length s))

same_tests : (f g : ℕ → Bool) (n : ℕ) → ((k : ℕ) → k < n → f k ≡ g k) → every f n ≡ every g n
unfolding every
same_tests f g zero h = refl
same_tests f g (suc n) h = rw (h n (omega arith), same_tests f g n λ k l. h k (omega (arith, l))) refl

-- of the first rows, at most all
pub rows_listed : (n : ℕ) (rows : List (List ℕ)) {most : ℕ} → most ≡ min n (length rows) → list_all blank (take most rows) ≡ blank_rows n rows
rows_listed n rows {most} e =
    listed blank [] (take most rows)
    ∙ ap (every (λ k. blank (get_or (take most rows) k []))) (length-take-le most rows (omega (arith, e)) ∙ e)
    ∙ same_tests _ _ (min n (length rows)) (λ k l. ap blank (get_or-take most rows k [] (omega (arith, e, l))))

-- ---- `is_same`, `is_same_answer` and `is_blank`: two lists, element by element

eqb_suc : (m n : ℕ) → eqb (suc m) (suc n) ≡ eqb m n
eqb_suc m n = ap compare_is_eq (compare.suc-suc m n)

pub same_pointwise : (a b : List ℕ) → pointwise eqb a b ≡ same a b
unfolding every
same_pointwise [] [] = refl
same_pointwise [] (y ∷ b) = rw (ne_eqb 0 (suc (length b)) λ p. omega (arith, p)) refl
same_pointwise (x ∷ a) [] = rw (ne_eqb (suc (length a)) 0 λ p. omega (arith, p)) refl
same_pointwise (x ∷ a) (y ∷ b) =
    ap (λ c. eqb x y && c) (same_pointwise a b)
    ∙ and_swap (eqb x y) (eqb (length a) (length b)) (same_up_to (length a) a b)
    ∙ ap (λ c. eqb (length a) (length b) && c) (sym (every_front (λ k. eqb (get_or (x ∷ a) k 0) (get_or (y ∷ b) k 0)) (length a)))
    ∙ ap (λ c. c && every (λ k. eqb (get_or (x ∷ a) k 0) (get_or (y ∷ b) k 0)) (suc (length a))) (sym (eqb_suc (length a) (length b)))

pub same_long : (n : ℕ) (a b : List ℕ) → n ≡ length a → n ≡ length b → pointwise eqb a b ≡ same_up_to n a b
same_long n a b p q = same_pointwise a b ∙ rw (sym p, sym q, eq-eqb n n refl) refl

pub blank_pointwise : (row : List ℕ) → length row ≡ 4 → pointwise eqb row (replicate 4 0) ≡ blank row
blank_pointwise row p =
    same_long 4 row (replicate 4 0) (sym p) refl
    ∙ same_tests _ (λ k. eqb (get_or row k 0) 0) 4 λ k l. ap (eqb (get_or row k 0)) (get_or-replicate 4 k 0 0 l)

-- ---- `is_clear` and `is_written`: one answer after another, each tested for no

module _ (a c : Bool) {r : Bool} where
  pub first_no : r ≡ a → not r ≡ true → false ≡ a && c
  first_no p q = rw (sym p ∙ not-true r q) refl

  pub second_no : r ≡ c → not r ≡ true → false ≡ a && c
  second_no p q = rw (sym p ∙ not-true r q) (sym (no_and a))

  pub first_yes : r ≡ a → not r ≡ false → c ≡ a && c
  first_yes p q = rw (sym p ∙ not-false r q) refl

module _ (k : ℕ) (s : List ℕ) {n : ℕ} (e : n ≡ min k (length s)) where
  least_take : take n s ≡ take k s
  least_take = elim (dec_lt (length s) k) [
    | yes lt ↦ let z : n ≡ length s = omega arith in rw z (take-length s ∙ sym (take_all k s (omega arith)))
    | no ge ↦ let z : n ≡ k = omega arith in rw z refl
  ]

  least_drop : drop n s ≡ drop k s
  least_drop = elim (dec_lt (length s) k) [
    | yes lt ↦ drop_of_length-le s {i = n} (omega arith) ∙ sym (drop_of_length-le s {i = k} (omega arith))
    | no ge ↦ let z : n ≡ k = omega arith in rw z refl
  ]

module _ (wanted paper : List ℕ) {n : ℕ} (e : n ≡ min (length wanted) (length paper)) {r : Bool} where
  pub bytes_no : r ≡ same wanted (take n paper) → not r ≡ true → false ≡ written wanted paper
  bytes_no p q = first_no _ _ (p ∙ ap (same wanted) (least_take (length wanted) paper e)) q

  pub rest_no : r ≡ all_are 165 (drop n paper) → not r ≡ true → false ≡ written wanted paper
  rest_no p q = second_no (same wanted (take (length wanted) paper)) _ (p ∙ ap (all_are 165) (least_drop (length wanted) paper e)) q

  pub written_yes : {b : Bool} → r ≡ same wanted (take n paper) → not r ≡ false → b ≡ all_are 165 (drop n paper) → not b ≡ false → true ≡ written wanted paper
  written_yes {b} p q u v =
      sym (not-false b v) ∙ u ∙ ap (all_are 165) (least_drop (length wanted) paper e) ∙ first_yes _ _ (p ∙ ap (same wanted) (least_take (length wanted) paper e)) q

-- ---- `digit`

pub digit_low : (c : ℕ) → c ≤ 57 → c % 16 ≡ digit_of c
digit_low c l = rw (le-leb c 57 l) refl

pub digit_high : (c : ℕ) → 57 < c → c % 8 + 9 ≡ digit_of c
digit_high c l = rw (lt-leb c 57 l) refl

-- ---- what yes means

-- two lists that agree at each place are one
by_places : (a b : List ℕ) → length a ≡ length b → ((k : ℕ) → k < length a → get_or a k 0 ≡ get_or b k 0) → a ≡ b
by_places [] [] e h = refl
by_places [] (y ∷ b) e h = absurd (omega (arith, e))
by_places (x ∷ a) [] e h = absurd (omega (arith, e))
by_places (x ∷ a) (y ∷ b) e h = let t = by_places a b (omega (arith, e)) λ k l. h (suc k) (omega (arith, l)) in let p = h 0 (omega arith) in λ i. p i ∷ t i

-- `is_same` says yes of equal slices, and of no others
pub same_is : (a b : List ℕ) → same a b ≡ true → a ≡ b
same_is a b e =
    let h = both (eqb (length a) (length b)) (same_up_to (length a) a b) e in
    by_places a b (eqb-true (length a) (length b) h.0) λ k l. eqb-true (get_or a k 0) (get_or b k 0) (holds_at (λ j. eqb (get_or a j 0) (get_or b j 0)) (length a) k l h.1)

each_place : (test : ℕ → Bool) (n : ℕ) → ((k : ℕ) → k < n → test k ≡ true) → every test n ≡ true
unfolding every
each_place test zero h = refl
each_place test (suc n) h = rw (h n (omega arith), each_place test n λ k l. h k (omega (arith, l))) refl

pub same_itself : (a : List ℕ) → same a a ≡ true
same_itself a = rw (eq-eqb (length a) (length a) refl) (each_place (λ k. eqb (get_or a k 0) (get_or a k 0)) (length a) λ k l. eq-eqb (get_or a k 0) (get_or a k 0) refl)

-- `is_zero` and `is_all` say yes where there is nothing but this number
pub all_are_lem : (x : ℕ) (s : List ℕ) → all_are x s ≡ true → s ≡ replicate (length s) x
all_are_lem x s e =
    by_places s (replicate (length s) x) (sym (length-replicate (length s) x))
    λ k l. eqb-true (get_or s k 0) x (holds_at (λ j. eqb (get_or s j 0) x) (length s) k l e) ∙ sym (get_or-replicate (length s) k x 0 l)

pub all_copies : (x n : ℕ) → all_are x (replicate n x) ≡ true
all_copies x n = rw (length-replicate n x) (each_place (λ k. eqb (get_or (replicate n x) k 0) x) n λ k l. eq-eqb (get_or (replicate n x) k 0) x (get_or-replicate n k x 0 l))

-- the bytes of hex digits, in order
pub digits : map digit_of (48 ∷ 49 ∷ 50 ∷ 51 ∷ 52 ∷ 53 ∷ 54 ∷ 55 ∷ 56 ∷ 57 ∷ 65 ∷ 66 ∷ 67 ∷ 68 ∷ 69 ∷ 70 ∷ []) ≡ 0 ∷ 1 ∷ 2 ∷ 3 ∷ 4 ∷ 5 ∷ 6 ∷ 7 ∷ 8 ∷ 9 ∷ 10 ∷ 11 ∷ 12 ∷ 13 ∷ 14 ∷ 15 ∷ []
digits = refl

pub small_digits : map digit_of (97 ∷ 98 ∷ 99 ∷ 100 ∷ 101 ∷ 102 ∷ []) ≡ 10 ∷ 11 ∷ 12 ∷ 13 ∷ 14 ∷ 15 ∷ []
small_digits = refl
