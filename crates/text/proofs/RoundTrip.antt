-- What is written reads back: `decimal_reads`, `hex_reads`, and as fields `decimal_field_lem`, `hex_field_lem`. Assumes nothing.
use Rattle.std.proofs.Common.{◌≡◌, ℕ, zero, suc, ◌+◌, ◌-◌, ◌*◌, ◌/◌, ◌%◌, ◌^◌, ◌<◌, ◌≤◌, List, [], ◌∷◌, ◌++◌, map, length, get_or, sym, refl, ap, ◌∙◌, append_assoc, append-nil, pow-suc, arith, length-append, le-ltb, lt-ltb, eq-eqb, ne_eqb}
use native.Mathlib.Decide.{dec_lt}
use lib.ListN.{length-map, get_or-append}
use lib.Seq.{drop-append_seam}
use Rattle.text.specs.Reading.{is, ended, digit_of, run, value, spelt, decimal, hex_from, hex, decimal_field, hex_field}
use Rattle.text.specs.Digits.{digits}
use Rattle.text.specs.Writing.{byte_of, in_decimal, last_hex, in_hex}
use Rattle.text.proofs.Putting.{digits_one, digits_more, by_digits}
use Rattle.text.proofs.Running.{from_0_to_9, from_a_to_f, no_digit_at_all, which_digit}

pub digit_byte : (d : ℕ) → d < 16 → digit_of (byte_of d) ≡ d
unfolding byte_of
digit_byte d h = elim (dec_lt d 10) [
  | yes lt ↦ rw (lt-ltb d 10 lt) (elim (which_digit (48 + d)) [
    | from_0_to_9 l g e ↦ omega (arith, e)
    | from_a_to_f l g e ↦ absurd (omega (arith, l))
    | no_digit_at_all p q e ↦ absurd (p (omega arith, omega arith))
  ])
  | no ge ↦ rw (le-ltb d 10 (omega arith)) (elim (which_digit (65 + (d - 10))) [
    | from_0_to_9 l g e ↦ absurd (omega (arith, g))
    | from_a_to_f l g e ↦ omega (arith, e)
    | no_digit_at_all p q e ↦ absurd (q (omega arith, omega arith))
  ])
]

-- ---- decimal

abbrev pub Small : List ℕ → Type 0
Small [] = Unit {0}
Small (d ∷ ds) = (d < 10) × Small ds

small_snoc : (ds : List ℕ) (d : ℕ) → Small ds → d < 10 → Small (ds ++ (d ∷ []))
small_snoc [] d s h = (h, tt)
small_snoc (e ∷ ds) d s h = (s.0, small_snoc ds d s.1 h)

small : (n : ℕ) → Small (digits n)
small = by_digits (λ n. Small (digits n)) (λ n h. rw (digits_one n h) (h, tt)) (λ n h ih. rw (digits_more n h) (small_snoc (digits (n / 10)) (n % 10) ih (omega arith)))

run_written : (ds bs : List ℕ) → Small ds → run (map byte_of ds ++ bs) ≡ ds ++ run bs
unfolding run
run_written [] bs s = refl
run_written (d ∷ ds) bs s =
    rw (digit_byte d (omega (arith, s.0)), lt-ltb d 10 s.0) (ap (λ (l : List ℕ). d ∷ l) (run_written ds bs s.1))

value_snoc : (v : ℕ) (ds : List ℕ) (d : ℕ) → value v (ds ++ (d ∷ [])) ≡ value v ds * 10 + d
unfolding value
value_snoc v [] d = refl
value_snoc v (e ∷ ds) d = value_snoc (v * 10 + e) ds d

value_digits : (n : ℕ) → value 0 (digits n) ≡ n
unfolding value
value_digits = by_digits (λ n. value 0 (digits n) ≡ n) (λ n h. rw (digits_one n h) (omega arith))
    (λ n h ih. rw (digits_more n h, value_snoc 0 (digits (n / 10)) (n % 10), ih) (omega arith))

some_digit : (n : ℕ) → 0 < length (digits n)
some_digit = by_digits (λ n. 0 < length (digits n)) (λ n h. rw (digits_one n h) (omega arith))
    (λ n h ih. rw (digits_more n h, length-append (digits (n / 10)) (n % 10 ∷ [])) (omega arith))

-- a number above 0 has no leading zero
no_lead : (n : ℕ) → 0 < n → 0 < get_or (digits n) 0 0
no_lead = by_digits (λ n. 0 < n → 0 < get_or (digits n) 0 0) (λ n h p. rw (digits_one n h) p)
    (λ n h ih p. rw (digits_more n h, get_or-append (digits (n / 10)) (n % 10 ∷ []) 0 0 (some_digit (n / 10))) (ih (omega arith)))

spelt_by : (limit n : ℕ) (ds rest : List ℕ) → n < limit → 0 < length ds → (0 < n → 0 < get_or ds 0 0) → (n < 1 → length ds ≡ 1) → value 0 ds ≡ n
    → spelt limit ds rest ≡ is n rest
unfolding spelt
spelt_by limit n [] rest h some lead one v = absurd (omega arith)
spelt_by limit n (d ∷ ds) rest h some lead one v = elim (dec_lt 0 n) [
  | yes p ↦ rw (ne_eqb d 0 (λ e. omega (arith, lead p, e)), v, lt-ltb n limit h)
  | no z ↦
      let l : length (d ∷ ds) ≡ 1 = one (omega arith) in
      elim (dec_lt 0 d) [
        | yes p ↦ rw (ne_eqb d 0 (λ e. omega (arith, p, e)), v, lt-ltb n limit h)
        | no q ↦ rw (eq-eqb d 0 (omega arith), le-ltb 0 (length ds) (omega (arith, l)), v, lt-ltb n limit h)
      ]
]

spelt_digits : (limit n : ℕ) (rest : List ℕ) → n < limit → spelt limit (digits n) rest ≡ is n rest
spelt_digits limit n rest h =
    spelt_by limit n (digits n) rest h (some_digit n) (no_lead n) (λ z. ap length (digits_one n (omega arith))) (value_digits n)

-- n in decimal, with a byte that is no digit after it
pub decimal_reads : (limit n x : ℕ) (rest : List ℕ) → n < limit → 10 ≤ digit_of x → decimal limit (in_decimal n ++ x ∷ rest) ≡ is n (x ∷ rest)
unfolding decimal in_decimal run
decimal_reads limit n x rest h hx =
    rw (run_written (digits n) (x ∷ rest) (small n), le-ltb (digit_of x) 10 hx, append-nil (digits n))
    (let z : length (digits n) ≡ length (map byte_of (digits n)) = sym (length-map (digits n) byte_of) in
    rw (z, drop-append_seam (map byte_of (digits n)) (x ∷ rest)) (spelt_digits limit n (x ∷ rest) h))

pub ended_here : {A : Type 0} (stop : ℕ) (x : A) (rest : List ℕ) → ended stop (is x (stop ∷ rest)) ≡ is x rest
unfolding ended
ended_here stop x rest = rw (eq-eqb stop stop refl)

pub decimal_field_lem : (stop limit n : ℕ) (rest : List ℕ) → n < limit → 10 ≤ digit_of stop → decimal_field stop limit (in_decimal n ++ stop ∷ rest) ≡ is n rest
decimal_field_lem stop limit n rest h hx = ap (ended stop) (decimal_reads limit n stop rest h hx) ∙ ended_here stop n rest

-- ---- hex

last_reads : (k m n : ℕ) (bs : List ℕ) → n < 16 ^ k → hex_from (k + m) 0 (last_hex k n ++ bs) ≡ hex_from m n bs
unfolding hex_from last_hex
last_reads zero m n bs h = let e : n ≡ 0 = omega (arith, h) in let z : 0 + m ≡ m = omega arith in rw (z, e)
last_reads (suc k) m n bs h =
    let z : suc k + m ≡ k + suc m = omega arith in
    let p : n / 16 < 16 ^ k = omega (arith, rw (pow-suc 16 k) at h) in
    let q : n / 16 * 16 + n % 16 ≡ n = omega arith in
    rw (
      z,
      append_assoc (last_hex k (n / 16)) (byte_of (n % 16) ∷ []) bs,
      last_reads k (suc m) (n / 16) (byte_of (n % 16) ∷ bs) p,
      digit_byte (n % 16) (omega arith),
      lt-ltb (n % 16) 16 (omega arith),
      q,
    )

-- 64 bits in hex
pub hex_reads : (n : ℕ) (rest : List ℕ) → n < 2 ^ 64 → hex (in_hex n ++ rest) ≡ is n rest
unfolding hex in_hex hex_from
hex_reads n rest h = last_reads 16 0 n rest h

pub hex_field_lem : (stop n : ℕ) (rest : List ℕ) → n < 2 ^ 64 → hex_field stop (in_hex n ++ stop ∷ rest) ≡ is n rest
hex_field_lem stop n rest h = ap (ended stop) (hex_reads n (stop ∷ rest) h) ∙ ended_here stop n rest
