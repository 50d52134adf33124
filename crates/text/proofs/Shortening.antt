-- What is read is taken away from the text: the rest is an end of it, and so never longer, and stands at the place that its length tells. So the
-- fuel of `lines` never runs out. The laws are said once, of each relation that goes on from rest to rest. Assumes nothing.
use Rattle.std.proofs.Common.{◌≡◌, ℕ, zero, suc, ◌+◌, ◌-◌, ◌*◌, ◌≤◌, Bool, true, false, cond, ◌&&◌, eqb, ltb, List, [], ◌∷◌, ◌++◌, length, drop, take, refl, sym, ap, subst, ◌∙◌, arith}
use Rattle.std.proofs.Math.Seq.{drop-append_seam}
use Rattle.std.proofs.lemmas.List.{take-append-drop}
use mathlib.Core.List.{append_assoc}
use lib.ListN.{length-append}
use Rattle.text.specs.Reading.{Read, is, bad, then, ended, digit_of, run, value, spelt, decimal, hex_from, hex, starts, name_from, decimal_field, hex_field, name_field}
use Rattle.text.specs.Lines.{Line, goes, stops}

-- the rest is what follows on the bytes in front
pub record EndOf (bs rest : List ℕ) : Type 0 where
  pub front : List ℕ
  pub whole : bs ≡ front ++ rest

pub end_short : {bs rest : List ℕ} → EndOf bs rest → length rest ≤ length bs
end_short {rest = rest} e = omega (arith, ap length e.whole, length-append e.front rest)

-- the place of the rest
pub end_place : {bs rest : List ℕ} → EndOf bs rest → drop (length bs - length rest) bs ≡ rest
end_place {bs} {rest} e =
    let at : length bs - length rest ≡ length e.front = omega (arith, ap length e.whole, length-append e.front rest) in
    rw (at, e.whole) (drop-append_seam e.front rest)

pub end_then : {bs cs ds : List ℕ} → EndOf bs cs → EndOf cs ds → EndOf bs ds
end_then {ds = ds} p q = record { front = p.front ++ q.front; whole = p.whole ∙ ap (λ l. p.front ++ l) q.whole ∙ sym (append_assoc p.front q.front ds) }

pub end_next : (b : ℕ) (bs : List ℕ) → EndOf (b ∷ bs) bs
end_next b bs = record { front = b ∷ []; whole = refl }

-- ---- relations of a text and a rest

-- a text has it to itself and to what follows on its first byte, and it goes on from rest to rest
pub record Resting (To : (bs rest : List ℕ) → Type 0) : Type 0 where
  pub all : (bs : List ℕ) → To bs bs
  pub next : (b : ℕ) (bs : List ℕ) → To (b ∷ bs) bs
  pub after : (bs cs ds : List ℕ) → To bs cs → To cs ds → To bs ds

pub end_of : Resting EndOf
end_of = record { all = λ bs. record { front = []; whole = refl }; next = end_next; after = λ bs cs ds p q. end_then p q }

-- the rest is no longer
abbrev pub NoLonger : (bs rest : List ℕ) → Type 0
NoLonger bs rest = length rest ≤ length bs

pub no_longer : Resting NoLonger
no_longer = record { all = λ bs. omega arith; next = λ b bs. omega arith; after = λ bs cs ds p q. omega (arith, p, q) }

-- ---- what is read, and lines, whatever the relation

abbrev pub Remains : (To : (bs rest : List ℕ) → Type 0) {A : Type 0} → (bs : List ℕ) → Read A → Type 0
Remains To bs (is x rest) = To bs rest
Remains To bs bad = Unit {0}

abbrev pub RemainsOfLine : (To : (bs rest : List ℕ) → Type 0) {S R : Type 0} → (bs : List ℕ) → Line S R → Type 0
RemainsOfLine To bs (goes s rest) = To bs rest
RemainsOfLine To bs (stops why) = Unit {0}

-- every line of this kind
abbrev pub AllRemain : (To : (bs rest : List ℕ) → Type 0) {S R : Type 0} → (line : S → ℕ → List ℕ → Line S R) → Type 0
AllRemain To {S} line = (s : S) (b : ℕ) (bs : List ℕ) → RemainsOfLine To bs (line s b bs)

module _ (To : (bs rest : List ℕ) → Type 0) where
  pub rest_cond : {A : Type 0} (bs : List ℕ) (b : Bool) (p q : Read A) → Remains To bs p → Remains To bs q → Remains To bs (cond b p q)
  rest_cond bs true p q hp hq = hp
  rest_cond bs false p q hp hq = hq

  pub rest_line_cond : {S R : Type 0} (bs : List ℕ) (b : Bool) (p q : Line S R) → RemainsOfLine To bs p → RemainsOfLine To bs q → RemainsOfLine To bs (cond b p q)
  rest_line_cond bs true p q hp hq = hp
  rest_line_cond bs false p q hp hq = hq

module _ {To : (bs rest : List ℕ) → Type 0} (w : Resting To) where
  pub rest_than : {A : Type 0} (bs cs : List ℕ) (r : Read A) → To bs cs → Remains To cs r → Remains To bs r
  rest_than bs cs (is x rest) l h = w.after bs cs rest l h
  rest_than bs cs bad l h = tt

  -- one thing after another
  pub rest_then : {A B : Type 0} (bs : List ℕ) (r : Read A) (next : A → List ℕ → Read B) → Remains To bs r → ((x : A) (rest : List ℕ) → Remains To rest (next x rest))
      → Remains To bs (then r next)
  unfolding then
  rest_then bs (is x rest) next h n = rest_than bs rest (next x rest) h (n x rest)
  rest_then bs bad next h n = tt

  pub rest_ended : {A : Type 0} (stop : ℕ) (bs : List ℕ) (r : Read A) → Remains To bs r → Remains To bs (ended stop r)
  unfolding ended
  rest_ended stop bs (is x []) h = tt
  rest_ended stop bs (is x (b ∷ rest)) h = rest_cond To bs (eqb b stop) (is x rest) bad (w.after bs (b ∷ rest) rest h (w.next b rest)) tt
  rest_ended stop bs bad h = tt

  rest_front : (front rest : List ℕ) → To (front ++ rest) rest
  rest_front [] rest = w.all rest
  rest_front (b ∷ front) rest = w.after (b ∷ front ++ rest) (front ++ rest) rest (w.next b (front ++ rest)) (rest_front front rest)

  rest_drop : (n : ℕ) (bs : List ℕ) → To bs (drop n bs)
  rest_drop n bs = subst (λ l. To l (drop n bs)) (take-append-drop n bs) (rest_front (take n bs) (drop n bs))

  rest_spelt : (limit : ℕ) (ds rest bs : List ℕ) → To bs rest → Remains To bs (spelt limit ds rest)
  unfolding spelt
  rest_spelt limit [] rest bs h = tt
  rest_spelt limit (d ∷ ds) rest bs h = rest_cond To bs (eqb d 0 && ltb 0 (length ds)) bad _ tt (rest_cond To bs (ltb (value 0 (d ∷ ds)) limit) (is (value 0 (d ∷ ds)) rest) bad h tt)

  rest_hex : (k v : ℕ) (bs : List ℕ) → Remains To bs (hex_from k v bs)
  unfolding hex_from
  rest_hex zero v bs = w.all bs
  rest_hex (suc k) v [] = tt
  rest_hex (suc k) v (b ∷ bs) =
      rest_cond To (b ∷ bs) (ltb (digit_of b) 16) (hex_from k (v * 16 + digit_of b) bs) bad (rest_than (b ∷ bs) bs (hex_from k (v * 16 + digit_of b) bs) (w.next b bs) (rest_hex k (v * 16 + digit_of b) bs)) tt

  pub rest_name : (number : ℕ) (names : List (List ℕ)) (bs : List ℕ) → Remains To bs (name_from number names bs)
  unfolding name_from
  rest_name number [] bs = tt
  rest_name number (word ∷ words) bs =
      rest_cond To bs (starts word bs) (is number (drop (length word) bs)) (name_from (suc number) words bs) (rest_drop (length word) bs) (rest_name (suc number) words bs)

  -- ---- fields

  pub rest_decimal_number : (limit : ℕ) (bs : List ℕ) → Remains To bs (decimal limit bs)
  unfolding decimal
  rest_decimal_number limit bs = rest_spelt limit (run bs) (drop (length (run bs)) bs) bs (rest_drop (length (run bs)) bs)

  pub rest_hex_number : (bs : List ℕ) → Remains To bs (hex bs)
  unfolding hex
  rest_hex_number bs = rest_hex 16 0 bs

  pub rest_decimal : (stop limit : ℕ) (bs : List ℕ) → Remains To bs (decimal_field stop limit bs)
  rest_decimal stop limit bs = rest_ended stop bs (decimal limit bs) (rest_decimal_number limit bs)

  pub rest_hex_field : (stop : ℕ) (bs : List ℕ) → Remains To bs (hex_field stop bs)
  rest_hex_field stop bs = rest_ended stop bs (hex bs) (rest_hex_number bs)

  pub rest_name_field : (stop : ℕ) (names : List (List ℕ)) (bs : List ℕ) → Remains To bs (name_field stop names bs)
  rest_name_field stop names bs = rest_ended stop bs (name_from 1 names bs) (rest_name 1 names bs)

-- ---- the rest is never longer

abbrev pub Shorter : {A : Type 0} → (bs : List ℕ) → Read A → Type 0
Shorter bs r = Remains NoLonger bs r

abbrev pub ShorterLine : {S R : Type 0} → (bs : List ℕ) → Line S R → Type 0
ShorterLine bs line = RemainsOfLine NoLonger bs line

-- every line of this kind
abbrev pub Shortens : {S R : Type 0} → (line : S → ℕ → List ℕ → Line S R) → Type 0
Shortens line = AllRemain NoLonger line

-- an end is no longer
shorter_end : {S R : Type 0} (bs : List ℕ) (l : Line S R) → RemainsOfLine EndOf bs l → ShorterLine bs l
shorter_end bs (goes s rest) h = end_short h
shorter_end bs (stops why) h = tt

pub ends_shorten : {S R : Type 0} (line : S → ℕ → List ℕ → Line S R) → AllRemain EndOf line → Shortens line
ends_shorten line h s b bs = shorter_end bs (line s b bs) (h s b bs)

pub as_long : (bs : List ℕ) → length bs ≤ length bs
as_long bs = omega arith

pub shorter_cond : {A : Type 0} (bs : List ℕ) (b : Bool) (p q : Read A) → Shorter bs p → Shorter bs q → Shorter bs (cond b p q)
shorter_cond = rest_cond NoLonger

pub shorter_line_cond : {S R : Type 0} (bs : List ℕ) (b : Bool) (p q : Line S R) → ShorterLine bs p → ShorterLine bs q → ShorterLine bs (cond b p q)
shorter_line_cond = rest_line_cond NoLonger

pub shorter_than : {A : Type 0} (bs cs : List ℕ) (r : Read A) → length cs ≤ length bs → Shorter cs r → Shorter bs r
shorter_than = rest_than no_longer

pub shorter_then : {A B : Type 0} (bs : List ℕ) (r : Read A) (next : A → List ℕ → Read B) → Shorter bs r → ((x : A) (rest : List ℕ) → Shorter rest (next x rest))
    → Shorter bs (then r next)
shorter_then = rest_then no_longer

pub shorter_ended : {A : Type 0} (stop : ℕ) (bs : List ℕ) (r : Read A) → Shorter bs r → Shorter bs (ended stop r)
shorter_ended = rest_ended no_longer

pub shorter_name : (number : ℕ) (names : List (List ℕ)) (bs : List ℕ) → Shorter bs (name_from number names bs)
shorter_name = rest_name no_longer

pub shorter_decimal_number : (limit : ℕ) (bs : List ℕ) → Shorter bs (decimal limit bs)
shorter_decimal_number = rest_decimal_number no_longer

pub shorter_hex_number : (bs : List ℕ) → Shorter bs (hex bs)
shorter_hex_number = rest_hex_number no_longer

pub shorter_decimal : (stop limit : ℕ) (bs : List ℕ) → Shorter bs (decimal_field stop limit bs)
shorter_decimal = rest_decimal no_longer

pub shorter_hex_field : (stop : ℕ) (bs : List ℕ) → Shorter bs (hex_field stop bs)
shorter_hex_field = rest_hex_field no_longer

pub shorter_name_field : (stop : ℕ) (names : List (List ℕ)) (bs : List ℕ) → Shorter bs (name_field stop names bs)
shorter_name_field = rest_name_field no_longer
