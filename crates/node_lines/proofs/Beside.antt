-- A text beside another, which is made of it by f: a reader finds the same in both, and of the rest again what f makes of it. Said of all that
-- stands in a node line, for an f that leaves the bytes of fields as they are. Assumes nothing.
use mathlib.Core.Path.{◌≡◌, refl, sym, ap, ◌∙◌}
use mathlib.Core.List.{List, [], ◌∷◌}
use mathlib.Core.Bool.{Bool, true, false, cond, ◌&&◌}
use Prim.Native.Nat.{ℕ, zero, suc, ◌+◌, ◌*◌, ◌<◌}
use native.Mathlib.Omega.{arith}
use native.Mathlib.Decide.{dec_lt, ℕ_discrete}
use lib.ListN.{length, get_or, drop}
use lib.Dec.{ltb, eqb}
use borrow.Author.Tests.{lt-ltb, le-ltb, eq-eqb, ne_eqb}
use Rattle.text.specs.Reading.{Read, is, bad, digit_of, run, value, spelt, decimal, hex_from, hex, starts, name_from}
use Rattle.text.proofs.Running.{from_0_to_9, from_a_to_f, no_digit_at_all, which_digit}

-- ---- what was read, with another rest

unfoldable pub rests : {A : Type 0} → (f : List ℕ → List ℕ) → Read A → Read A
rests f (is x rest) = is x (f rest)
rests f bad = bad

pub rests_cond : {A : Type 0} (f : List ℕ → List ℕ) (b : Bool) (p q : Read A) → rests f (cond b p q) ≡ cond b (rests f p) (rests f q)
rests_cond f true p q = refl
rests_cond f false p q = refl

pub rests_id : {A : Type 0} (r : Read A) → rests (λ bs. bs) r ≡ r
unfolding rests
rests_id (is x rest) = refl
rests_id bad = refl

-- ---- the bytes of fields: they are above the space, and none is `@`

pub record Plain (b : ℕ) : Type 0 where
  pub high : 32 < b
  pub other : b ≡ 64 → ⊥

pub data Sort (b : ℕ) : Type 0 where
  plain : Plain b → Sort b
  stop : (Plain b → ⊥) → Sort b

pub sort : (b : ℕ) → Sort b
sort b = elim (dec_lt 32 b) [
  | no n ↦ stop (λ p. n p.high)
  | yes l ↦ elim (ℕ_discrete b 64) [
    | yes q ↦ stop (λ p. p.other q)
    | no n ↦ plain (record { high = l; other = n })
  ]
]

-- the bytes begin with no such byte
abbrev pub Stops : List ℕ → Type 0
Stops bs = Plain (get_or bs 0 0) → ⊥

no_byte : Stops []
no_byte p = let h = p.high in omega (arith, h)

digit_plain : (b : ℕ) → digit_of b < 16 → Plain b
digit_plain b h = elim (which_digit b) [
  | from_0_to_9 l u e ↦ record { high = omega (arith, l); other = λ q. omega (arith, q, u) }
  | from_a_to_f l u e ↦ record { high = omega (arith, l); other = λ q. omega (arith, q, l) }
  | no_digit_at_all p q e ↦ absurd (omega (arith, e, h))
]

-- there no number is read
no_run : (bs : List ℕ) → Stops bs → run bs ≡ []
unfolding run
no_run [] s = refl
no_run (b ∷ bs) s = elim (dec_lt (digit_of b) 10) [
  | yes l ↦ absurd (s (digit_plain b (omega (arith, l))))
  | no g ↦ rw (le-ltb (digit_of b) 10 (omega (arith, g)))
]

pub no_decimal : (limit : ℕ) (bs : List ℕ) → Stops bs → decimal limit bs ≡ bad
unfolding decimal spelt
no_decimal limit bs s = rw (no_run bs s)

no_digits : (k v : ℕ) (bs : List ℕ) → Stops bs → hex_from (suc k) v bs ≡ bad
unfolding hex_from
no_digits k v [] s = refl
no_digits k v (b ∷ bs) s = elim (dec_lt (digit_of b) 16) [
  | yes l ↦ absurd (s (digit_plain b l))
  | no g ↦ rw (le-ltb (digit_of b) 16 (omega (arith, g)))
]

pub no_hex : (bs : List ℕ) → Stops bs → hex bs ≡ bad
unfolding hex
no_hex bs s = no_digits 15 0 bs s

-- ---- names of such bytes

abbrev pub PlainWord : List ℕ → Type 0
PlainWord [] = Unit {0}
PlainWord (b ∷ bs) = Plain b × PlainWord bs

abbrev pub PlainName : List ℕ → Type 0
PlainName [] = ⊥
PlainName (b ∷ bs) = Plain b × PlainWord bs

abbrev pub PlainNames : List (List ℕ) → Type 0
PlainNames [] = Unit {0}
PlainNames (w ∷ ws) = PlainName w × PlainNames ws

name_word : (w : List ℕ) → PlainName w → PlainWord w
name_word [] p = tt
name_word (b ∷ bs) p = p

no_start : (w : ℕ) (ws bs : List ℕ) → Plain w → Stops bs → starts (w ∷ ws) bs ≡ false
unfolding starts
no_start w ws [] p s = refl
no_start w ws (b ∷ bs) p s = rw (ne_eqb b w (λ q. s (rw q p)))

pub no_name : (k : ℕ) (words : List (List ℕ)) (bs : List ℕ) → PlainNames words → Stops bs → name_from k words bs ≡ bad
unfolding name_from
no_name k [] bs p s = refl
no_name k ([] ∷ ws) bs p s = absurd p.0
no_name k ((w ∷ w') ∷ ws) bs p s = rw (no_start w w' bs p.0.0 s) (no_name (suc k) ws bs p.1 s)

-- ---- f leaves the bytes of fields as they are

pub record Leaves (f : List ℕ → List ℕ) : Type 0 where
  pub copies : (b : ℕ) (bs : List ℕ) → Plain b → f (b ∷ bs) ≡ b ∷ f bs
  pub halts : (bs : List ℕ) → Stops bs → Stops (f bs)

module _ {f : List ℕ → List ℕ} (l : Leaves f) where
  same_run : (bs : List ℕ) → run (f bs) ≡ run bs
  unfolding run
  same_run [] = no_run (f []) (l.halts [] no_byte)
  same_run (b ∷ bs) = elim (sort b) [
    | plain p ↦ rw (l.copies b bs p, same_run bs)
    | stop s ↦ no_run (f (b ∷ bs)) (l.halts (b ∷ bs) s) ∙ sym (no_run (b ∷ bs) s)
  ]

  after_run : (bs : List ℕ) → drop (length (run bs)) (f bs) ≡ f (drop (length (run bs)) bs)
  unfolding run
  after_run [] = refl
  after_run (b ∷ bs) = elim (dec_lt (digit_of b) 10) [
    | yes lt ↦ rw (lt-ltb (digit_of b) 10 lt, l.copies b bs (digit_plain b (omega (arith, lt)))) (after_run bs)
    | no g ↦ rw (le-ltb (digit_of b) 10 (omega (arith, g)))
  ]

  same_spelt : (limit : ℕ) (ds rest : List ℕ) → spelt limit ds (f rest) ≡ rests f (spelt limit ds rest)
  unfolding spelt rests
  same_spelt limit [] rest = refl
  same_spelt limit (d ∷ ds) rest =
      sym (rests_cond f (eqb d 0 && ltb 0 (length ds)) bad _ ∙ rw (rests_cond f (ltb (value 0 (d ∷ ds)) limit) (is (value 0 (d ∷ ds)) rest) bad))

  pub same_decimal : (limit : ℕ) (bs : List ℕ) → decimal limit (f bs) ≡ rests f (decimal limit bs)
  unfolding decimal
  same_decimal limit bs = rw (same_run bs, after_run bs) (same_spelt limit (run bs) (drop (length (run bs)) bs))

  same_digits : (k v : ℕ) (bs : List ℕ) → hex_from k v (f bs) ≡ rests f (hex_from k v bs)
  unfolding hex_from rests
  same_digits zero v bs = refl
  same_digits (suc k) v [] = no_digits k v (f []) (l.halts [] no_byte)
  same_digits (suc k) v (b ∷ bs) = elim (dec_lt (digit_of b) 16) [
    | yes lt ↦ rw (l.copies b bs (digit_plain b lt), lt-ltb (digit_of b) 16 lt) (same_digits k (v * 16 + digit_of b) bs)
    | no g ↦ elim (sort b) [
      | plain p ↦ rw (l.copies b bs p, le-ltb (digit_of b) 16 (omega (arith, g)))
      | stop s ↦ rw (no_digits k v (f (b ∷ bs)) (l.halts (b ∷ bs) s), le-ltb (digit_of b) 16 (omega (arith, g)))
    ]
  ]

  pub same_hex : (bs : List ℕ) → hex (f bs) ≡ rests f (hex bs)
  unfolding hex
  same_hex bs = same_digits 16 0 bs

  same_start : (w bs : List ℕ) → PlainWord w → starts w (f bs) ≡ starts w bs
  unfolding starts
  same_start [] bs p = refl
  same_start (w ∷ ws) [] p = no_start w ws (f []) p.0 (l.halts [] no_byte)
  same_start (w ∷ ws) (b ∷ bs) p = elim (sort b) [
    | plain q ↦ rw (l.copies b bs q, same_start ws bs p.1)
    | stop s ↦ no_start w ws (f (b ∷ bs)) p.0 (l.halts (b ∷ bs) s) ∙ sym (no_start w ws (b ∷ bs) p.0 s)
  ]

  after_word : (w bs : List ℕ) → PlainWord w → starts w bs ≡ true → drop (length w) (f bs) ≡ f (drop (length w) bs)
  unfolding starts
  after_word [] bs p e = refl
  after_word (w ∷ ws) [] p e = absurd (omega (arith, ap (λ b. cond {A = ℕ} b 1 0) e))
  after_word (w ∷ ws) (b ∷ bs) p e = elim (ℕ_discrete b w) [
    | no n ↦ absurd (omega (arith, ap (λ b. cond {A = ℕ} b 1 0) (rw (ne_eqb b w n) at e)))
    | yes q ↦ rw (l.copies b bs (rw q p.0)) (after_word ws bs p.1 (rw (eq-eqb b w q) at e))
  ]

  pub same_name : (k : ℕ) (words : List (List ℕ)) (bs : List ℕ) → PlainNames words → name_from k words (f bs) ≡ rests f (name_from k words bs)
  unfolding name_from rests
  same_name k [] bs p = refl
  same_name k (w ∷ ws) bs p = rw (same_start w bs (name_word w p.0)) (go (starts w bs) refl (same_name (suc k) ws bs p.1))
    where
      go : (b : Bool) → starts w bs ≡ b → name_from (suc k) ws (f bs) ≡ rests f (name_from (suc k) ws bs)
          → cond b (is k (drop (length w) (f bs))) (name_from (suc k) ws (f bs)) ≡ rests f (cond b (is k (drop (length w) bs)) (name_from (suc k) ws bs))
      go true e later = rw (after_word w bs (name_word w p.0) e)
      go false e later = later
