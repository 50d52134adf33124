-- Only what is written reads: where a number or a name is read, the bytes are those with which it is written. With proofs/RoundTrip this says
-- all of what the readers take. Assumes nothing.
use Rattle.std.proofs.Common.{◌≡◌, ℕ, zero, suc, ◌+◌, ◌-◌, ◌*◌, ◌/◌, ◌%◌, ◌^◌, ◌<◌, ◌≤◌, Bool, true, false, cond, List, [], ◌∷◌, ◌++◌, map, length, get_or, take, drop, sym, refl, ap, ◌∙◌, append-nil, pow-suc, arith, take-append-drop, le-ltb, lt-ltb, eq-eqb, ne_eqb}
use native.Mathlib.Nat.{div-div-eq-div-mul}
use native.Mathlib.Decide.{dec_lt, ℕ_discrete}
use lib.Seq.{append_snoc}
use Rattle.text.specs.Reading.{Read, is, bad, ended, digit_of, run, value, spelt, decimal, hex_from, hex, starts, name_from}
use Rattle.text.specs.Digits.{digits}
use Rattle.text.specs.Writing.{byte_of, in_decimal, last_hex, in_hex}
use Rattle.text.proofs.Putting.{digits_one, digits_more}
use Rattle.text.proofs.Running.{from_0_to_9, from_a_to_f, no_digit_at_all, which_digit, too_large}
use Rattle.text.proofs.RoundTrip.{Small}

-- a digit's byte is told by its value
pub byte_digit : (b : ℕ) → digit_of b < 16 → byte_of (digit_of b) ≡ b
unfolding byte_of
byte_digit b h = elim (which_digit b) [
  | from_0_to_9 l g e ↦ rw (e, lt-ltb (b - 48) 10 (omega arith)) (omega arith)
  | from_a_to_f l g e ↦ rw (e, le-ltb (10 + (b - 65)) 10 (omega arith)) (omega arith)
  | no_digit_at_all p q e ↦ absurd (omega (arith, e, h))
]

pub never : {A B : Type 0} {x : B} {rest : List ℕ} → bad ≡ is x rest → A
never e = let z : ◌≡◌ {A = ℕ} 0 1 = cc in absurd (omega arith)

-- ---- decimal

-- a run is decimal digits, and stands in the text as their bytes
run_is : (t : List ℕ) → Small (run t) × (take (length (run t)) t ≡ map byte_of (run t))
unfolding run
run_is [] = (tt, refl)
run_is (b ∷ bs) = elim (dec_lt (digit_of b) 10) [
  | yes lt ↦ rw (lt-ltb (digit_of b) 10 lt) ((lt, (run_is bs).0), rw (byte_digit b (omega arith)) (ap (λ (l : List ℕ). b ∷ l) (run_is bs).1))
  | no ge ↦ rw (le-ltb (digit_of b) 10 (omega arith)) (tt, refl)
]

-- digits after those of a number above 0
more_digits : (v : ℕ) (ds : List ℕ) → 0 < v → Small ds → digits (value v ds) ≡ digits v ++ ds
unfolding value
more_digits v [] p s = sym (append-nil (digits v))
more_digits v (d ∷ ds) p s =
    let h : d < 10 = s.0 in
    let q : (v * 10 + d) / 10 ≡ v = omega arith in
    let r : (v * 10 + d) % 10 ≡ d = omega arith in
    more_digits (v * 10 + d) ds (omega arith) s.1 ∙ rw (digits_more (v * 10 + d) (omega arith), q, r) (append_snoc (digits v) d ds)

-- digits with no leading zero are those of the number that they spell
the_digits : (d : ℕ) (ds : List ℕ) → Small (d ∷ ds) → (d ≡ 0 → length ds ≤ 0) → digits (value 0 (d ∷ ds)) ≡ d ∷ ds
unfolding value
the_digits d [] s z = let q : 0 * 10 + d ≡ d = omega arith in rw q (digits_one d s.0)
the_digits d (e ∷ ds) s z =
    let q : 0 * 10 + d ≡ d = omega arith in
    let n : d ≡ 0 → ⊥ = λ u. omega (arith, z u) in
    rw q (more_digits d (e ∷ ds) (omega arith) s.1 ∙ rw (digits_one d s.0))

pub record Spells (limit n : ℕ) (ds rest rest' : List ℕ) : Type 0 where
  pub low : n < limit
  pub digits_are : digits n ≡ ds
  pub same_rest : rest ≡ rest'

spells : (limit n d : ℕ) (ds rest rest' : List ℕ) → Small (d ∷ ds) → (d ≡ 0 → length ds ≤ 0) → value 0 (d ∷ ds) < limit
    → is (value 0 (d ∷ ds)) rest ≡ is n rest' → Spells limit n (d ∷ ds) rest rest'
spells limit n d ds rest rest' s z h e =
    let v : value 0 (d ∷ ds) ≡ n = cc in
    let q : rest ≡ rest' = cc in
    record { low = omega (arith, h, v); digits_are = rw v at (the_digits d ds s z); same_rest = q }

spelt_only : (limit n : ℕ) (ds rest rest' : List ℕ) → Small ds → spelt limit ds rest ≡ is n rest' → Spells limit n ds rest rest'
unfolding spelt
spelt_only limit n [] rest rest' s e = never e
spelt_only limit n (d ∷ ds) rest rest' s e = elim (dec_lt (value 0 (d ∷ ds)) limit) [
  | no ge ↦ never (sym (too_large limit (d ∷ ds) rest (omega arith)) ∙ e)
  | yes lt ↦ elim (ℕ_discrete d 0) [
    | no n0 ↦ spells limit n d ds rest rest' s (λ u. absurd (n0 u)) lt (rw (ne_eqb d 0 n0, lt-ltb (value 0 (d ∷ ds)) limit lt) at e)
    | yes z0 ↦ elim (dec_lt 0 (length ds)) [
      | yes l ↦ never (rw (eq-eqb d 0 z0, lt-ltb 0 (length ds) l) at e)
      | no nl ↦ spells limit n d ds rest rest' s (λ u. omega arith) lt (rw (eq-eqb d 0 z0, le-ltb 0 (length ds) (omega arith), lt-ltb (value 0 (d ∷ ds)) limit lt) at e)
    ]
  ]
]

pub decimal_only : (limit n : ℕ) (bs rest : List ℕ) → decimal limit bs ≡ is n rest → (n < limit) × (bs ≡ in_decimal n ++ rest)
unfolding decimal in_decimal
decimal_only limit n bs rest e =
    let f : Spells limit n (run bs) (drop (length (run bs)) bs) rest = spelt_only limit n (run bs) (drop (length (run bs)) bs) rest (run_is bs).0 e in
    let t : take (length (run bs)) bs ++ drop (length (run bs)) bs ≡ bs = take-append-drop (length (run bs)) bs in
    (f.low, sym t ∙ rw ((run_is bs).1, f.same_rest, f.digits_are))

-- ---- hex

-- the digits with the first one first
first_hex : (k n : ℕ) → last_hex (suc k) n ≡ byte_of (n / 16 ^ k % 16) ∷ last_hex k n
unfolding last_hex
first_hex zero n = let z : n / 16 ^ 0 ≡ n = omega arith in rw z
first_hex (suc k) n =
    let z : n / 16 / 16 ^ k ≡ n / 16 ^ suc k = div-div-eq-div-mul n 16 (16 ^ k) ∙ ap (λ m. n / m) (omega (arith, pow-suc 16 k)) in
    ap (λ (l : List ℕ). l ++ (byte_of (n % 16) ∷ [])) (first_hex k (n / 16)) ∙ rw z

hex_from_only : (k v n : ℕ) (bs rest : List ℕ) → hex_from k v bs ≡ is n rest → (v ≡ n / 16 ^ k) × (bs ≡ last_hex k n ++ rest)
unfolding hex_from last_hex
hex_from_only zero v n bs rest e =
    let p : v ≡ n = cc in
    let q : bs ≡ rest = cc in
    (omega (arith, p), q)
hex_from_only (suc k) v n [] rest e = never e
hex_from_only (suc k) v n (b ∷ bs) rest e = elim (dec_lt (digit_of b) 16) [
  | no ge ↦ never (rw (le-ltb (digit_of b) 16 (omega arith)) at e)
  | yes lt ↦
      let f = hex_from_only k (v * 16 + digit_of b) n bs rest (rw (lt-ltb (digit_of b) 16 lt) at e) in
      let z : n / 16 ^ suc k ≡ n / 16 ^ k / 16 = ap (λ m. n / m) (omega (arith, pow-suc 16 k)) ∙ sym (div-div-eq-div-mul n (16 ^ k) 16) in
      let d : n / 16 ^ k % 16 ≡ digit_of b = omega (arith, f.0, lt) in
      (omega (arith, f.0, lt, z), rw (first_hex k n, d, byte_digit b lt) (ap (λ (l : List ℕ). b ∷ l) f.1))
]

pub hex_only : (n : ℕ) (bs rest : List ℕ) → hex bs ≡ is n rest → (n < 2 ^ 64) × (bs ≡ in_hex n ++ rest)
unfolding hex in_hex
hex_only n bs rest e = let f = hex_from_only 16 0 n bs rest e in (omega (arith, f.0), f.1)

-- ---- the end of a field, and names

pub ended_only : {A : Type 0} (stop : ℕ) (r : Read A) (x : A) (rest : List ℕ) → ended stop r ≡ is x rest → r ≡ is x (stop ∷ rest)
unfolding ended
ended_only stop (is y []) x rest e = never e
ended_only stop (is y (b ∷ bs)) x rest e = elim (ℕ_discrete b stop) [
  | no n ↦ never (rw (ne_eqb b stop n) at e)
  | yes q ↦ let z = rw (eq-eqb b stop q) at e in cc (q, z)
]
ended_only stop bad x rest e = never e

pub starts_only : (w bs : List ℕ) → starts w bs ≡ true → bs ≡ w ++ drop (length w) bs
unfolding starts
starts_only [] bs e = refl
starts_only (w ∷ ws) [] e = absurd (omega (arith, ap (λ b. cond {A = ℕ} b 1 0) e))
starts_only (w ∷ ws) (b ∷ bs) e = elim (ℕ_discrete b w) [
  | no n ↦ absurd (omega (arith, ap (λ b. cond {A = ℕ} b 1 0) (rw (ne_eqb b w n) at e)))
  | yes q ↦ rw q (ap (λ (l : List ℕ). w ∷ l) (starts_only ws bs (rw (eq-eqb b w q) at e)))
]

-- the name with this number, where the first has that one
pub record Named (first i : ℕ) (names : List (List ℕ)) (bs rest : List ℕ) : Type 0 where
  pub from : first ≤ i
  pub among : i - first < length names
  pub word : bs ≡ get_or names (i - first) [] ++ rest

pub name_only : (first i : ℕ) (names : List (List ℕ)) (bs rest : List ℕ) → name_from first names bs ≡ is i rest → Named first i names bs rest
unfolding name_from
name_only first i [] bs rest e = never e
name_only first i (w ∷ ws) bs rest e = go (starts w bs) refl (λ f. name_only (suc first) i ws bs rest f)
  where
    go : (b : Bool) → starts w bs ≡ b → (name_from (suc first) ws bs ≡ is i rest → Named (suc first) i ws bs rest) → Named first i (w ∷ ws) bs rest
    go true q later =
        let f = rw q at e in
        let p : first ≡ i = cc in
        let r : drop (length w) bs ≡ rest = cc in
        let z : i - first ≡ 0 = omega (arith, p) in
        record { from = omega (arith, p); among = omega (arith, z); word = rw z (starts_only w bs q ∙ ap (λ (l : List ℕ). w ++ l) r) }
    go false q later =
        let f = later (rw q at e) in
        let z : i - first ≡ suc (i - suc first) = omega (arith, f.from) in
        record { from = omega (arith, f.from); among = omega (arith, z, f.among); word = rw z f.word }
