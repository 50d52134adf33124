-- The equations of `digits` without fuel, an induction along them, and the laws of `Put`: how writers follow one another. Assumes nothing.
use Rattle.std.proofs.Common.{◌≡◌, ℕ, zero, suc, ◌+◌, ◌-◌, ◌/◌, ◌%◌, ◌^◌, ◌<◌, ◌≤◌, true, ltb, List, [], ◌∷◌, ◌++◌, length, take, drop, set, sym, refl, ap, ◌∙◌, append_assoc, append-nil, add-zero, pow-suc, arith, length-append, le-ltb, lt-ltb}
use mathlib.Core.List.{map-append}
use native.Mathlib.Decide.{dec_lt}
use lib.Seq.{sets, paste, length-sets}
use Rattle.std.proofs.lemmas.List.Edits.{sets-eq, paste_all}
use Rattle.text.specs.Writing.{byte_of, in_decimal, last_hex, in_hex}
use Rattle.text.specs.Digits.{digits_by, digits}
use Rattle.text.specs.Put.{Put}

-- ---- decimal digits

digits_by_one : (f n : ℕ) → digits_by f true n ≡ n ∷ []
unfolding digits_by
digits_by_one zero n = refl
digits_by_one (suc f) n = refl

-- any fuel from n on will do
enough : (f g n : ℕ) → n ≤ f → n ≤ g → digits_by f (ltb n 10) n ≡ digits_by g (ltb n 10) n
unfolding digits_by
enough zero g n hf hg = rw (lt-ltb n 10 (omega arith)) (sym (digits_by_one g n))
enough (suc f) zero n hf hg = rw (lt-ltb n 10 (omega arith))
enough (suc f) (suc g) n hf hg = elim (dec_lt n 10) [
  | yes lt ↦ rw (lt-ltb n 10 lt)
  | no ge ↦ rw (le-ltb n 10 (omega arith)) (ap (λ (l : List ℕ). l ++ (n % 10 ∷ [])) (enough f g (n / 10) (omega arith) (omega arith)))
]

pub digits_one : (n : ℕ) → n < 10 → digits n ≡ n ∷ []
unfolding digits
digits_one n h = rw (lt-ltb n 10 h) (digits_by_one n n)

pub digits_more : (n : ℕ) → 10 ≤ n → digits n ≡ digits (n / 10) ++ (n % 10 ∷ [])
unfolding digits digits_by
digits_more zero h = absurd (omega arith)
digits_more (suc m) h =
    rw (le-ltb (suc m) 10 h) (ap (λ (l : List ℕ). l ++ (suc m % 10 ∷ [])) (enough m (suc m / 10) (suc m / 10) (omega arith) (omega arith)))

-- what holds of the numbers below 10, and of n where it holds of n / 10, holds of all
pub by_digits : (P : ℕ → Type 0) → ((n : ℕ) → n < 10 → P n) → ((n : ℕ) → 10 ≤ n → P (n / 10) → P n) → (n : ℕ) → P n
by_digits P one more n = go n n (omega arith)
  where
    go : (f n : ℕ) → n ≤ f → P n
    go zero n h = one n (omega arith)
    go (suc f) n h = elim (dec_lt n 10) [ yes lt ↦ one n lt | no ge ↦ more n (omega arith) (go f (n / 10) (omega arith)) ]

-- no other function has the two equations
pub digits_only : (f : ℕ → List ℕ) → ((n : ℕ) → n < 10 → f n ≡ n ∷ []) → ((n : ℕ) → 10 ≤ n → f n ≡ f (n / 10) ++ (n % 10 ∷ [])) → (n : ℕ) → f n ≡ digits n
digits_only f one more = by_digits (λ n. f n ≡ digits n) (λ n h. one n h ∙ sym (digits_one n h)) λ n h e. more n h ∙ ap (λ ds. ds ++ (n % 10 ∷ [])) e ∙ sym (digits_more n h)

decimal_one : (n : ℕ) → n < 10 → in_decimal n ≡ byte_of n ∷ []
unfolding in_decimal
decimal_one n h = rw (digits_one n h)

decimal_more : (n : ℕ) → 10 ≤ n → in_decimal n ≡ in_decimal (n / 10) ++ (byte_of (n % 10) ∷ [])
unfolding in_decimal
decimal_more n h = rw (digits_more n h) (map-append byte_of (digits (n / 10)) (n % 10 ∷ []))

-- ---- lengths

pub one_length : (n : ℕ) → n < 10 → length (in_decimal n) ≡ 1
one_length n h = rw (decimal_one n h)

pub more_length : (n : ℕ) → 10 ≤ n → length (in_decimal n) ≡ length (in_decimal (n / 10)) + 1
more_length n h = rw (decimal_more n h) (length-append (in_decimal (n / 10)) (byte_of (n % 10) ∷ []))

-- below 10 ^ k: at most k digits
pub few_digits : (k n : ℕ) → n < 10 ^ suc k → length (in_decimal n) ≤ suc k
few_digits zero n h = omega (arith, one_length n h)
few_digits (suc k) n h = elim (dec_lt n 10) [
  | yes lt ↦ omega (arith, one_length n lt)
  | no ge ↦ omega (arith, more_length n (omega arith), few_digits k (n / 10) (omega (arith, rw (pow-suc 10 (suc k)) at h)))
]

last_hex_length : (k n : ℕ) → length (last_hex k n) ≡ k
unfolding last_hex
last_hex_length zero n = refl
last_hex_length (suc k) n = rw (length-append (last_hex k (n / 16)) (byte_of (n % 16) ∷ []), last_hex_length k (n / 16)) (omega arith)

pub hex_length : (n : ℕ) → length (in_hex n) ≡ 16
unfolding in_hex
hex_length n = last_hex_length 16 n

-- ---- one writer after another

sets_append : (l : List ℕ) (i : ℕ) (xs ys : List ℕ) → sets l i (xs ++ ys) ≡ sets (sets l i xs) (i + length xs) ys
sets_append l i [] ys = rw add-zero
sets_append l i (x ∷ xs) ys = sets_append (set l i x) (suc i) xs ys ∙ ap (λ (k : ℕ). sets (sets (set l i x) (suc i) xs) k ys) (omega arith)

pub put_then : {e m x xs ys : List ℕ} {at p r : ℕ} → Put e at xs p m → Put m p ys r x → Put e at (xs ++ ys) r x
put_then {e} {m} {x} {xs} {ys} {at} {p} {r} a b = record {
  place = omega (arith, length-append xs ys, a.place, b.place);
  stored = b.stored ∙ rw (sets_append e at xs ys, a.stored, a.place);
}

pub put_byte : (e : List ℕ) (at b : ℕ) → Put e at (b ∷ []) (at + 1) (set e at b)
put_byte e at b = record { place = refl; stored = refl }

pub put_length : {e x xs : List ℕ} {at r : ℕ} → Put e at xs r x → length x ≡ length e
put_length {e} {x} {xs} {at} {r} p = rw p.stored (length-sets e at xs)

-- ---- a list

pub put_none : (e : List ℕ) (at : ℕ) → Put e at [] (at + 0) e
put_none e at = record { place = refl; stored = refl }

pub put_pasted : {e out : List ℕ} {at : ℕ} (w : List ℕ) → at + length w ≤ length e → out ≡ paste e at w (length w) → Put e at w (at + length w) out
put_pasted {e} {out} {at} w h p = record { place = refl; stored = p ∙ paste_all e at w (length w) refl ∙ sym (append_assoc (take at e) w (drop (at + length w) e)) ∙ sym (sets-eq w e at h) }

-- ---- a decimal number

pub one_put : (e : List ℕ) (at n b : ℕ) → n < 10 → b ≡ byte_of n → Put e at (in_decimal n) (at + 1) (set e at b)
one_put e at n b h q = rw (decimal_one n h, q) (put_byte e at (byte_of n))

pub more_put : {e m : List ℕ} {at n p : ℕ} (b : ℕ) → 10 ≤ n → Put e at (in_decimal (n / 10)) p m → b ≡ byte_of (n % 10) → Put e at (in_decimal n) (p + 1) (set m p b)
more_put {e} {m} {at} {n} {p} b h a q = rw (decimal_more n h, q) (put_then a (put_byte m p (byte_of (n % 10))))

-- two digits, and three
pub two_length : (n : ℕ) → 10 ≤ n → n < 100 → length (in_decimal n) ≡ 2
two_length n l h = omega (arith, more_length n l, one_length (n / 10) (omega arith))

pub three_length : (n : ℕ) → 100 ≤ n → n < 1000 → length (in_decimal n) ≡ 3
three_length n l h = omega (arith, more_length n (omega arith), two_length (n / 10) (omega arith) (omega arith))

pub two_put : (e : List ℕ) (at n a b : ℕ) → 10 ≤ n → n < 100 → a ≡ byte_of (n / 10) → b ≡ byte_of (n % 10) → Put e at (in_decimal n) (at + 2) (set (set e at a) (at + 1) b)
two_put e at n a b l h p q = let z : at + 1 + 1 ≡ at + 2 = omega arith in rw z at (more_put b l (one_put e at (n / 10) a (omega arith) p) q)

pub three_put : (e : List ℕ) (at n a b d : ℕ) → 100 ≤ n → n < 1000 → a ≡ byte_of (n / 100) → b ≡ byte_of (n / 10 % 10) → d ≡ byte_of (n % 10)
    → Put e at (in_decimal n) (at + 3) (set (set (set e at a) (at + 1) b) (at + 2) d)
three_put e at n a b d l h p q r =
    let z : at + 2 + 1 ≡ at + 3 = omega arith in
    let y : n / 100 ≡ n / 10 / 10 = omega arith in
    rw z at (more_put d (omega arith) (two_put e at (n / 10) a b (omega arith) (omega arith) (rw y at p) q) r)

-- the byte of a digit, from a table: each digit that is not among the first is above them, and the last is left
pub not_yet : {k d : ℕ} → k ≤ d → (d ≡ k → ⊥) → suc k ≤ d
not_yet h n = omega (arith, h, n)

-- ---- hex digits, from the last to the first

set_set : (l : List ℕ) (i j x y : ℕ) → i < j → set (set l j y) i x ≡ set (set l i x) j y
set_set [] i j x y h = refl
set_set (a ∷ l) zero zero x y h = absurd (omega arith)
set_set (a ∷ l) zero (suc j) x y h = refl
set_set (a ∷ l) (suc i) zero x y h = absurd (omega arith)
set_set (a ∷ l) (suc i) (suc j) x y h = ap (λ (r : List ℕ). a ∷ r) (set_set l i j x y (omega arith))

set_first : (l : List ℕ) (i j x : ℕ) (ys : List ℕ) → i < j → set (sets l j ys) i x ≡ sets (set l i x) j ys
set_first l i j x [] h = refl
set_first l i j x (y ∷ ys) h = set_first (set l j y) i (suc j) x ys (omega arith) ∙ ap (λ (r : List ℕ). sets r (suc j) ys) (set_set l i j x y h)

-- k digits are to come, and those after them stand
pub record Turning (e : List ℕ) (at n : ℕ) (out : List ℕ) (k rest : ℕ) : Type 0 where
  pub few : k ≤ 16
  pub behind : List ℕ
  pub digits : last_hex k rest ++ behind ≡ in_hex n
  pub stored : out ≡ sets e (at + k) behind

pub turn_begins : (e : List ℕ) (at n : ℕ) → Turning e at n e 16 n
unfolding in_hex
turn_begins e at n = record { few = omega arith; behind = []; digits = append-nil (last_hex 16 n); stored = refl }

pub turns : {e out : List ℕ} {at n k rest : ℕ} (b : ℕ) → Turning e at n out k rest → 0 < k → b ≡ byte_of (rest % 16)
    → Turning e at n (set out (at + (k - 1)) b) (k - 1) (rest / 16)
unfolding last_hex
turns {e} {out} {at} {n} {k} {rest} b t h q =
    let z : k ≡ suc (k - 1) = omega arith in
    let o : suc (at + (k - 1)) ≡ at + k = omega arith in
    record {
      few = omega (arith, t.few);
      behind = b ∷ t.behind;
      digits = rw (z, append_assoc (last_hex (k - 1) (rest / 16)) (byte_of (rest % 16) ∷ []) t.behind, ← q) at t.digits;
      stored = rw (t.stored, o) (set_first e (at + (k - 1)) (at + k) b t.behind (omega arith));
    }

pub turned : {e out : List ℕ} {at n k rest : ℕ} → Turning e at n out k rest → k ≤ 0 → Put e at (in_hex n) (at + 16) out
unfolding last_hex
turned {e} {out} {at} {n} {k} {rest} t h =
    let z : k ≡ 0 = omega arith in
    let d = rw z at t.digits in
    let o = rw (z, add-zero) at t.stored in
    record { place = rw (hex_length n); stored = o ∙ ap (sets e at) d }
