-- The loops of `read_decimal`, `read_hex` and `word_at`: what each turn needs, over plain lists and numbers. Assumes nothing.
use Rattle.std.proofs.Common.{◌≡◌, ℕ, zero, suc, ◌+◌, ◌-◌, ◌*◌, ◌%◌, ◌^◌, ◌<◌, ◌≤◌, max, min, Bool, true, false, cond, ◌&&◌, eqb, ltb, List, [], ◌∷◌, length, get_or, take, drop, take_all, sym, refl, ap, ◌∙◌, pow-suc, add-one, arith, length-drop, drop_of_length-le, drop-cons, le-ltb, lt-ltb, eq-eqb, ne_eqb, le-leb}
use native.Mathlib.Nat.{pow-le-pow_right}
use native.Mathlib.Decide.{dec_lt, ℕ_discrete}
use lib.ListN.{get_or-eq_default}
use borrow.Author.Tests.{lt-leb}
use Rattle.std.specs.List.{IsFirstAndRest, starts_with, slice_range}
use Rattle.text.specs.Seen.{low_digit, high_digit}
use Rattle.text.specs.Reading.{is, bad, ended, digit_of, run, value, spelt, decimal, hex_from, hex, starts}

-- ---- a byte of the text

-- what is not 0 stands within the text
pub inside : (s : List ℕ) (i : ℕ) → 0 < get_or s i 0 → i < length s
inside s i h = elim (dec_lt i (length s)) [
  | yes lt ↦ lt
  | no nlt ↦ let e : get_or s i 0 ≡ 0 = get_or-eq_default s 0 (omega arith) in absurd (omega (arith, rw e at h))
]

-- so does a digit
pub within : (s : List ℕ) (i : ℕ) → digit_of (get_or s i 0) < 16 → i < length s
unfolding digit_of
within s i h = elim (dec_lt i (length s)) [
  | yes lt ↦ lt
  | no nlt ↦ let e : get_or s i 0 ≡ 0 = get_or-eq_default s 0 (omega arith) in omega (arith, rw e at h)
]

pub here : (s : List ℕ) (i : ℕ) → i < length s → drop i s ≡ get_or s i 0 ∷ drop (i + 1) s
here s i lt = rw (add-one, drop-cons s i 0)

-- ---- the end of a field

pub ended_bad : {A : Type 0} (stop : ℕ) → ended {A = A} stop bad ≡ bad
unfolding ended
ended_bad stop = refl

module _ {A : Type 0} (x : A) (stop : ℕ) where
  pub ended_end : (s : List ℕ) → length s ≡ 0 → ended stop (is x s) ≡ bad
  unfolding ended
  ended_end [] h = refl
  ended_end (b ∷ s) h = absurd (omega arith)

  module _ {s rest : List ℕ} {b : ℕ} (f : IsFirstAndRest s b rest) where
    pub ended_other : (b ≡ stop → ⊥) → ended stop (is x s) ≡ bad
    unfolding ended
    ended_other h = rw (f.0, ne_eqb b stop h)

    pub ended_is : b ≡ stop → ended stop (is x s) ≡ is x rest
    unfolding ended
    ended_is h = rw (f.0, eq-eqb b stop h)

-- ---- a digit

pub data Digit (b : ℕ) : Type 0 where
  from_0_to_9 : 48 ≤ b → b ≤ 57 → digit_of b ≡ b - 48 → Digit b
  from_a_to_f : 65 ≤ b → b ≤ 70 → digit_of b ≡ 10 + (b - 65) → Digit b
  no_digit_at_all : ((48 ≤ b) × (b ≤ 57) → ⊥) → ((65 ≤ b) × (b ≤ 70) → ⊥) → digit_of b ≡ 16 → Digit b

pub which_digit : (b : ℕ) → Digit b
unfolding digit_of
which_digit b = elim (dec_lt b 48) [
  | yes l ↦ no_digit_at_all (λ h. omega (arith, h.0)) (λ h. omega (arith, h.0)) (rw (lt-leb 48 b l, lt-leb 65 b (omega arith)))
  | no g ↦ elim (dec_lt b 58) [
    | yes l ↦ from_0_to_9 (omega arith) (omega arith) (rw (le-leb 48 b (omega arith), le-leb b 57 (omega arith)))
    | no g ↦ elim (dec_lt b 65) [
      | yes l ↦ no_digit_at_all (λ h. omega (arith, h.1)) (λ h. omega (arith, h.0)) (rw (le-leb 48 b (omega arith), lt-leb b 57 (omega arith), lt-leb 65 b l))
      | no g ↦ elim (dec_lt b 71) [
        | yes l ↦ from_a_to_f (omega arith) (omega arith) (rw (le-leb 48 b (omega arith), lt-leb b 57 (omega arith), le-leb 65 b (omega arith), le-leb b 70 (omega arith)))
        | no g ↦ no_digit_at_all (λ h. omega (arith, h.1)) (λ h. omega (arith, h.1)) (rw (le-leb 48 b (omega arith), lt-leb b 57 (omega arith), le-leb 65 b (omega arith), lt-leb b 70 (omega arith)))
      ]
    ]
  ]
]

-- a difference that wraps round
pub low_wraps : (b r : ℕ) → b < 2 ^ 8 → r < 2 ^ 8 → (r + 48) % 2 ^ 8 ≡ b → r ≡ low_digit b
unfolding low_digit
low_wraps b r hb hr e = elim (dec_lt b 48) [ yes l ↦ rw (lt-ltb b 48 l) (omega arith) | no g ↦ rw (le-ltb b 48 (omega arith)) (omega arith) ]

pub high_wraps : (b r : ℕ) → b < 2 ^ 8 → r < 2 ^ 8 → (r + 65) % 2 ^ 8 ≡ b → r ≡ high_digit b
unfolding high_digit
high_wraps b r hb hr e = elim (dec_lt b 65) [ yes l ↦ rw (lt-ltb b 65 l) (omega arith) | no g ↦ rw (le-ltb b 65 (omega arith)) (omega arith) ]

pub digit_low : (b : ℕ) {low : ℕ} → low ≡ low_digit b → low < 10 → low ≡ digit_of b
unfolding low_digit
digit_low b {low} q h = elim (dec_lt b 48) [
  | yes l ↦ let k : low ≡ b + 208 = rw (lt-ltb b 48 l) at q in absurd (omega (arith, k, h))
  | no g ↦ let k : low ≡ b - 48 = rw (le-ltb b 48 (omega arith)) at q in elim (which_digit b) [
    | from_0_to_9 l u e ↦ k ∙ sym e
    | from_a_to_f l u e ↦ absurd (omega (arith, k, h, l))
    | no_digit_at_all p q e ↦ absurd (p (omega (arith, g), omega (arith, k, h)))
  ]
]

pub digit_high : (b : ℕ) {high : ℕ} → high ≡ high_digit b → high < 6 → high + 10 ≡ digit_of b
unfolding high_digit
digit_high b {high} q h = elim (dec_lt b 65) [
  | yes l ↦ let k : high ≡ b + 191 = rw (lt-ltb b 65 l) at q in absurd (omega (arith, k, h))
  | no g ↦ let k : high ≡ b - 65 = rw (le-ltb b 65 (omega arith)) at q in elim (which_digit b) [
    | from_0_to_9 l u e ↦ absurd (omega (arith, g, u))
    | from_a_to_f l u e ↦ omega (arith, k, e)
    | no_digit_at_all p q e ↦ absurd (q (omega (arith, g), omega (arith, g, k, h)))
  ]
]

-- any other byte is no decimal digit, and no hex digit
pub decimal_none : (b : ℕ) {low : ℕ} → low ≡ low_digit b → 10 ≤ low → 10 ≤ digit_of b
unfolding low_digit
decimal_none b {low} q h = elim (which_digit b) [
  | from_0_to_9 l u e ↦ let k : low ≡ b - 48 = rw (le-ltb b 48 l) at q in absurd (omega (arith, k, h, u))
  | from_a_to_f l u e ↦ omega (arith, e)
  | no_digit_at_all p q e ↦ omega (arith, e)
]

pub digit_none : (b : ℕ) {low high : ℕ} → low ≡ low_digit b → high ≡ high_digit b → 10 ≤ low → 6 ≤ high → 16 ≡ digit_of b
unfolding high_digit
digit_none b {low} {high} p q l h = elim (which_digit b) [
  | from_0_to_9 m u e ↦ absurd (omega (arith, u, m, e, decimal_none b p l))
  | from_a_to_f m u e ↦ let k : high ≡ b - 65 = rw (le-ltb b 65 m) at q in absurd (omega (arith, k, h, u))
  | no_digit_at_all m u e ↦ sym e
]

-- ---- a run of decimal digits

-- it goes on at a digit, and ends at any other byte and at the end of the text
pub run_more : (s : List ℕ) (i : ℕ) → digit_of (get_or s i 0) < 10 → run (drop i s) ≡ digit_of (get_or s i 0) ∷ run (drop (i + 1) s)
unfolding run
run_more s i h = rw (here s i (within s i (omega arith)), lt-ltb _ _ h)

pub run_none : (s : List ℕ) (i : ℕ) → 10 ≤ digit_of (get_or s i 0) → run (drop i s) ≡ []
unfolding run
run_none s i h = elim (dec_lt i (length s)) [
  | yes lt ↦ rw (drop-cons s i 0 lt, le-ltb _ _ h)
  | no nlt ↦ rw (drop_of_length-le s {i = i} (omega arith))
]

pub value_grows : (v : ℕ) (ds : List ℕ) → v ≤ value v ds
unfolding value
value_grows v [] = omega arith
value_grows v (d ∷ ds) = omega (arith, value_grows (v * 10 + d) ds)

cond_same : {A : Type 0} (b : Bool) (x : A) → cond b x x ≡ x
cond_same true x = refl
cond_same false x = refl

-- digits that spell no less than the limit are no number
pub too_large : (limit : ℕ) (ds rest : List ℕ) → limit ≤ value 0 ds → spelt limit ds rest ≡ bad
unfolding spelt
too_large limit [] rest h = refl
too_large limit (d ∷ ds) rest h = rw (le-ltb (value 0 (d ∷ ds)) limit h) (cond_same (eqb d 0 && ltb 0 (length ds)) bad)

-- what is still to be read, added to what has been, is the whole
pub record Going (s : List ℕ) (limit first d v i : ℕ) : Type 0 where
  pub small : v ≤ limit
  pub below : 0 < i → v < limit
  pub lead : 0 < i → first < 10
  pub inside : i ≤ length s
  pub start : i ≡ 0 → d ≡ first
  pub digit : d ≡ low_digit (get_or s i 0)
  pub place : i + length (run (drop i s)) ≡ length (run s)
  pub number : value v (run (drop i s)) ≡ value 0 (run s)

pub begins : (s : List ℕ) (limit d : ℕ) → d ≡ low_digit (get_or s 0 0) → Going s limit d d 0 0
begins s limit d e = record {
  small = omega arith;
  below = λ h. absurd (omega arith);
  lead = λ h. absurd (omega arith);
  inside = omega arith;
  start = λ h. refl;
  digit = e;
  place = omega arith;
  number = refl;
}

module _ {s : List ℕ} {limit f d v i : ℕ} (g : Going s limit f d v i) where
  at_digit : d < 10 → run (drop i s) ≡ d ∷ run (drop (i + 1) s)
  at_digit h = let e = sym (digit_low (get_or s i 0) g.digit h) in rw e at (run_more s i (omega (arith, e, h)))

  pub in_text : d < 10 → i < length s
  in_text h = within s i (omega (arith, digit_low (get_or s i 0) g.digit h))

  pub goes_on : (e : ℕ) → d < 10 → v * 10 + d < limit → e ≡ low_digit (get_or s (i + 1) 0) → Going s limit f e (v * 10 + d) (i + 1)
  unfolding value
  goes_on e h m q = record {
    small = omega arith;
    below = λ _. m;
    lead = λ _. elim (dec_lt 0 i) [ yes l ↦ g.lead l | no n ↦ omega (arith, g.start (omega (arith, n)), h) ];
    inside = omega (arith, in_text h);
    start = λ l. absurd (omega (arith, l));
    digit = q;
    place = omega (arith, rw (at_digit h) at g.place);
    number = rw (at_digit h) at g.number;
  }

  pub over : d < 10 → limit ≤ v * 10 + d → bad ≡ decimal limit s
  unfolding value decimal
  over h m = sym (too_large limit (run s) _ (omega (arith, value_grows (v * 10 + d) (run (drop (i + 1) s)), rw (at_digit h) at g.number)))

  -- at any other byte
  module _ (stop : 10 ≤ d) where
    none_left : run (drop i s) ≡ []
    none_left = run_none s i (decimal_none (get_or s i 0) g.digit stop)

    long : length (run s) ≡ i
    long = omega (arith, rw none_left at g.place)

    spells : value 0 (run s) ≡ v
    unfolding value
    spells = sym (rw none_left at g.number)

    rest_is : drop (length (run s)) s ≡ drop i s
    rest_is = ap (λ k. drop k s) long

    pub no_digit_lem : i ≡ 0 → bad ≡ decimal limit s
    unfolding decimal spelt
    no_digit_lem e = let z : run s ≡ [] = rw e at none_left in sym (rw z)

    module _ (first : f ≡ low_digit (get_or s 0 0)) (some : i ≡ 0 → ⊥) where
      tail : List ℕ
      tail = run (drop 1 s)

      leads : run s ≡ f ∷ tail
      unfolding tail
      leads =
          let l = g.lead (omega (arith, some)) in
          let e = sym (digit_low (get_or s 0 0) first l) in
          rw e at (run_more s 0 (omega (arith, e, l)))

      tail_long : length tail ≡ i - 1
      tail_long = omega (arith, rw leads at long)

      pub zeros : f ≡ 0 → 1 < i → bad ≡ decimal limit s
      unfolding decimal spelt
      zeros z h = sym (rw (leads, eq-eqb f 0 z, lt-ltb 0 (length tail) (omega (arith, tail_long, h))))

      pub zero_alone : f ≡ 0 → i ≤ 1 → is v (drop i s) ≡ decimal limit s
      unfolding decimal spelt
      zero_alone z h =
          let r = rw leads at rest_is in
          let q = rw leads at spells in
          sym (rw (leads, eq-eqb f 0 z, le-ltb 0 (length tail) (omega (arith, tail_long, h)), r, q, lt-ltb v limit (g.below (omega (arith, some)))))

      pub no_zero : (f ≡ 0 → ⊥) → is v (drop i s) ≡ decimal limit s
      unfolding decimal spelt
      no_zero z =
          let r = rw leads at rest_is in
          let q = rw leads at spells in
          sym (rw (leads, ne_eqb f 0 z, r, q, lt-ltb v limit (g.below (omega (arith, some)))))

-- ---- sixteen hex digits: what is left to be done is the whole, unless there was a byte that is none

pub record Hexing (s : List ℕ) (v worst k : ℕ) : Type 0 where
  pub few : k ≤ 16
  pub small : v < 16 ^ k
  pub rest : worst < 16 → hex_from (16 - k) v (drop k s) ≡ hex s
  pub spoilt : 16 ≤ worst → bad ≡ hex s

-- fewer bytes than digits
too_few : (k v : ℕ) (bs : List ℕ) → length bs < k → hex_from k v bs ≡ bad
unfolding hex_from
too_few zero v bs h = absurd (omega arith)
too_few (suc k) v [] h = refl
too_few (suc k) v (b ∷ bs) h = rw (too_few k (v * 16 + digit_of b) bs (omega arith)) (cond_same (ltb (digit_of b) 16) bad)

pub hex_short : (s : List ℕ) → length s < 16 → bad ≡ hex s
unfolding hex
hex_short s h = sym (too_few 16 0 s h)

pub hex_begins : (s : List ℕ) → Hexing s 0 0 0
unfolding hex
hex_begins s = record { few = omega arith; small = omega arith; rest = λ _. refl; spoilt = λ h. absurd (omega arith) }

-- the next digit takes the value from below 16 ^ k to below 16 ^ (k + 1), which is at most 2 ^ 64
pub hex_room : (v k d : ℕ) → k < 16 → v < 16 ^ k → d < 16 → (v * 16 + d < 16 ^ (k + 1)) × (16 ^ (k + 1) ≤ 2 ^ 64)
hex_room v k d hk hv hd =
    (rw (add-one, pow-suc 16 k) (omega arith), pow-le-pow_right {n = 16} (omega arith) {i = k + 1} {j = 16} (omega arith))

module _ {s : List ℕ} {v worst k : ℕ} (g : Hexing s v worst k) where
  pub hex_goes_on : (d : ℕ) → k < 16 → 16 ≤ length s → d ≡ digit_of (get_or s k 0) → Hexing s (v * 16 + d % 16) (max worst d) (k + 1)
  unfolding hex_from
  hex_goes_on d hk room e =
      let q : 16 - k ≡ suc (16 - (k + 1)) = omega arith in
      let h = here s k (omega (arith, room, hk)) in
      record {
        few = omega arith;
        small = (hex_room v k (d % 16) hk g.small (omega arith)).0;
        rest = λ w.
            let o : d < 16 = omega (arith, w) in
            let m : d % 16 ≡ d = omega arith in
            rw (m, e) (rw (q, h, lt-ltb (digit_of (get_or s k 0)) 16 (omega (arith, o, e))) at (g.rest (omega (arith, w))));
        spoilt = λ w. elim (dec_lt worst 16) [
          | no x ↦ g.spoilt (omega (arith, x))
          | yes y ↦ rw (q, h, le-ltb (digit_of (get_or s k 0)) 16 (omega (arith, w, y, e))) at (g.rest y)
        ];
      }

  pub hex_done : 16 ≤ k → worst ≤ 15 → is v (drop 16 s) ≡ hex s
  unfolding hex_from
  hex_done h w = let q : 16 - k ≡ 0 = omega arith in let z : k ≡ 16 = omega (arith, g.few, h) in rw (q, z) at (g.rest (omega (arith, w)))

-- ---- a word

eqb_sym : (a b : ℕ) → eqb a b ≡ eqb b a
eqb_sym a b = elim (ℕ_discrete a b) [ yes e ↦ rw e | no n ↦ rw (ne_eqb a b n, ne_eqb b a (λ e. n (sym e))) ]

pub starts_as : (w bs : List ℕ) → starts_with eqb bs w ≡ starts w bs
unfolding starts
starts_as [] bs = refl
starts_as (w ∷ ws) [] = refl
starts_as (w ∷ ws) (b ∷ bs) = rw (eqb_sym w b, starts_as ws bs)

-- from the place, or from the end where the place is past it
pub word_starts : (s w : List ℕ) (at : ℕ) {from : ℕ} {r : Bool} → from ≡ min at (length s) → r ≡ starts_with eqb (slice_range s from (length s)) w → r ≡ starts w (drop at s)
word_starts s w at {from} {r} p q =
    let t : take (length s - from) (drop from s) ≡ drop from s = take_all (length s - from) (drop from s) (omega (arith, length-drop from s)) in
    let m : drop from s ≡ drop at s = elim (dec_lt at (length s)) [
      | yes l ↦ ap (λ k. drop k s) (omega (arith, p))
      | no n ↦ rw (drop_of_length-le s {i = at} (omega arith)) (drop_of_length-le s {i = from} (omega (arith, p)))
    ] in
    q ∙ rw (t, m) (starts_as w (drop at s))
