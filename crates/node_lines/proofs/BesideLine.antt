-- A node line of a text beside that of another, which is made of it by f: what is read is the same, and a property of the text holds of the
-- rest too. Assumes nothing.
use mathlib.Core.Path.{◌≡◌, refl}
use mathlib.Core.List.{List, [], ◌∷◌}
use mathlib.Core.Bool.{Bool, true, false, cond, ◌&&◌}
use Prim.Native.Nat.{ℕ, zero, suc, ◌+◌, ◌*◌, ◌<◌}
use native.Mathlib.Omega.{arith}
use native.Mathlib.Decide.{ℕ_discrete}
use lib.ListN.{length, get_or, drop}
use lib.Dec.{ltb, eqb}
use borrow.Author.Tests.{ne_eqb}
use Rattle.complex.specs.Constants.{of_parts}
use Rattle.expression.specs.Codes.{infix_of, prefix_of, function_of}
use Rattle.expression.specs.Limits.{numbers, indices}
use Rattle.expression.specs.Trees.{Tree, leaf, number, pi, variable, cell, function_call, prefixed, infixed}
use Rattle.spelling.specs.Names.{function_names, prefix_names, infix_names}
use Rattle.text.specs.Letters.{letter}
use Rattle.text.specs.Reading.{Read, is, bad, then, tab, ended, digit_of, run, value, spelt, decimal, hex_from, hex, starts, name_from}
use Rattle.node_lines.specs.NodeLines.{child_by, child_field, number_fields, variable_fields, cell_fields, function_fields, prefix_fields, infix_fields, fields_of, pi_line, line_by}
use Rattle.node_lines.proofs.Beside.{rests, Plain, Stops, PlainNames, no_decimal, no_hex, no_name, Leaves, same_decimal, same_hex, same_name}

-- ---- a property of a text that each of its ends has

-- it holds of the rest of what was read
abbrev pub Rest : {A : Type 0} → (P : List ℕ → Type 0) → Read A → Type 0
Rest P (is x rest) = P rest
Rest P bad = Unit {0}

module _ {P : List ℕ → Type 0} (tails : (b : ℕ) (bs : List ℕ) → P (b ∷ bs) → P bs) where
  rest_drop : (n : ℕ) (bs : List ℕ) → P bs → P (drop n bs)
  rest_drop zero bs p = p
  rest_drop (suc n) [] p = p
  rest_drop (suc n) (b ∷ bs) p = rest_drop n bs (tails b bs p)

  rest_cond : {A : Type 0} (b : Bool) (r r' : Read A) → Rest P r → Rest P r' → Rest P (cond b r r')
  rest_cond true r r' p q = p
  rest_cond false r r' p q = q

  rest_spelt : (limit : ℕ) (ds rest : List ℕ) → P rest → Rest P (spelt limit ds rest)
  unfolding spelt
  rest_spelt limit [] rest p = tt
  rest_spelt limit (d ∷ ds) rest p = rest_cond (eqb d 0 && ltb 0 (length ds)) bad _ tt (rest_cond (ltb (value 0 (d ∷ ds)) limit) (is (value 0 (d ∷ ds)) rest) bad p tt)

  pub rest_decimal : (limit : ℕ) (bs : List ℕ) → P bs → Rest P (decimal limit bs)
  unfolding decimal
  rest_decimal limit bs p = rest_spelt limit (run bs) (drop (length (run bs)) bs) (rest_drop (length (run bs)) bs p)

  rest_digits : (k v : ℕ) (bs : List ℕ) → P bs → Rest P (hex_from k v bs)
  unfolding hex_from
  rest_digits zero v bs p = p
  rest_digits (suc k) v [] p = tt
  rest_digits (suc k) v (b ∷ bs) p = rest_cond (ltb (digit_of b) 16) (hex_from k (v * 16 + digit_of b) bs) bad (rest_digits k (v * 16 + digit_of b) bs (tails b bs p)) tt

  pub rest_hex : (bs : List ℕ) → P bs → Rest P (hex bs)
  unfolding hex
  rest_hex bs p = rest_digits 16 0 bs p

  pub rest_name : (k : ℕ) (words : List (List ℕ)) (bs : List ℕ) → P bs → Rest P (name_from k words bs)
  unfolding name_from
  rest_name k [] bs p = tt
  rest_name k (w ∷ ws) bs p = rest_cond (starts w bs) (is k (drop (length w) bs)) (name_from (suc k) ws bs) (rest_drop (length w) bs p) (rest_name (suc k) ws bs p)

  pub rest_ended : {A : Type 0} (stop : ℕ) (r : Read A) → Rest P r → Rest P (ended stop r)
  unfolding ended
  rest_ended stop (is x []) p = tt
  rest_ended stop (is x (b ∷ rest)) p = rest_cond (eqb b stop) (is x rest) bad (tails b rest p) tt
  rest_ended stop bad p = tt

-- ---- the names that stand in node lines

plain_byte : (b : ℕ) → 64 < b → Plain b
plain_byte b h = record { high = omega (arith, h); other = λ q. omega (arith, q, h) }

low_byte : (b : ℕ) → 32 < b → b < 64 → Plain b
low_byte b h l = record { high = h; other = λ q. omega (arith, q, l) }

function_names_lem : PlainNames function_names
function_names_lem = (
  (plain_byte 115 (omega arith), (plain_byte 105 (omega arith), (plain_byte 110 (omega arith), tt))),
  (
    (plain_byte 99 (omega arith), (plain_byte 111 (omega arith), (plain_byte 115 (omega arith), tt))),
    (
      (plain_byte 101 (omega arith), (plain_byte 120 (omega arith), (plain_byte 112 (omega arith), tt))),
      (
        (plain_byte 115 (omega arith), (plain_byte 113 (omega arith), (plain_byte 114 (omega arith), (plain_byte 116 (omega arith), tt)))),
        (
          (plain_byte 99 (omega arith), (plain_byte 105 (omega arith), (plain_byte 115 (omega arith), tt))),
          tt,
        ),
      ),
    ),
  ),
)

prefix_names_lem : PlainNames prefix_names
prefix_names_lem = (
  (low_byte 43 (omega arith) (omega arith), tt),
  (
    (low_byte 45 (omega arith) (omega arith), tt),
    tt,
  ),
)

infix_names_lem : PlainNames infix_names
infix_names_lem = (
  (low_byte 43 (omega arith) (omega arith), tt),
  (
    (low_byte 45 (omega arith) (omega arith), tt),
    (
      (low_byte 42 (omega arith) (omega arith), tt),
      (
        (low_byte 47 (omega arith) (omega arith), tt),
        (
          (plain_byte 94 (omega arith), tt),
          tt,
        ),
      ),
    ),
  ),
)

-- ---- how f goes, and how the two lines end

-- a tab stays; or it goes, and then `@` stands after it
pub data AtTab (f : List ℕ → List ℕ) (rest : List ℕ) : Type 0 where
  stays : f (9 ∷ rest) ≡ 9 ∷ f rest → AtTab f rest
  goes : get_or rest 0 0 ≡ 64 → (get_or (f (9 ∷ rest)) 0 0 ≡ 9 → ⊥) → AtTab f rest

pub record Ways (P : List ℕ → Type 0) (f f' : List ℕ → List ℕ) (end end' : Read ℕ → Read ℕ) : Type 0 where
  pub leaves : Leaves f
  pub tails : (b : ℕ) (bs : List ℕ) → P (b ∷ bs) → P bs
  pub at_tab : (rest : List ℕ) → AtTab f rest
  pub no_tab : (bs : List ℕ) → (get_or bs 0 0 ≡ 9 → ⊥) → get_or (f bs) 0 0 ≡ 9 → ⊥
  pub ends : (r : Read ℕ) → Rest P r → end' (rests f r) ≡ rests f' (end r)
  pub end_rest : (r : Read ℕ) → Rest P r → Rest P (end r)
  pub end_bad : end bad ≡ bad

-- what is read of the one is what is read of the other
pub record Beside {A : Type 0} (P : List ℕ → Type 0) (f : List ℕ → List ℕ) (r' r : Read A) : Type 0 where
  pub same : r' ≡ rests f r
  pub rest : Rest P r

-- ---- one thing after another

not_ended : (x : ℕ) (bs : List ℕ) → (get_or bs 0 0 ≡ 9 → ⊥) → ended tab (is x bs) ≡ bad
unfolding ended
not_ended x [] h = refl
not_ended x (b ∷ bs) h = rw (ne_eqb b 9 h)

at_stops : (bs : List ℕ) → get_or bs 0 0 ≡ 64 → Stops bs
at_stops bs e p = p.other e

then_is : {A : Type 0} (r : Read ℕ) (h : ℕ → Tree) (g : Tree → List ℕ → Read A) → then (then r (λ i bs. is (h i) bs)) g ≡ then r (λ i bs. g (h i) bs)
unfolding then
then_is (is x rest) h g = refl
then_is bad h g = refl

child_then : {A : Type 0} (earlier : List Tree) (bs : List ℕ) (g : Tree → List ℕ → Read A)
    → then (child_field tab earlier bs) g ≡ then (ended tab (decimal (length earlier) bs)) (λ i bs. g (get_or earlier i (leaf pi)) bs)
unfolding child_by
child_then earlier bs g = then_is (ended tab (decimal (length earlier) bs)) (λ i. get_or earlier i (leaf pi)) g

cond_bad : {A : Type 0} (b : Bool) (p q : Read A) → p ≡ bad → q ≡ bad → cond b p q ≡ bad
cond_bad true p q e e' = e
cond_bad false p q e e' = e'

module _ {P : List ℕ → Type 0} {f : List ℕ → List ℕ} where
  neither : {A : Type 0} → Beside {A = A} P f bad bad
  unfolding rests
  neither = record { same = refl; rest = tt }

  cond_beside : {A : Type 0} (b : Bool) {p p' q q' : Read A} → Beside P f p' p → Beside P f q' q → Beside P f (cond b p' q') (cond b p q)
  cond_beside true h h' = h
  cond_beside false h h' = h'

  mapped : {A B : Type 0} (h : A → B) (r' r : Read A) → Beside P f r' r → Beside P f (then r' λ x rest. is (h x) rest) (then r λ x rest. is (h x) rest)
  unfolding then rests
  mapped h r' (is x rest) b = record { same = rw b.same; rest = b.rest }
  mapped h r' bad b = record { same = rw b.same; rest = tt }

module _ {P : List ℕ → Type 0} {f f' : List ℕ → List ℕ} {end end' : Read ℕ → Read ℕ} (w : Ways P f f' end end') where
  end_beside : (r : Read ℕ) → Rest P r → Beside P f' (end' (rests f r)) (end r)
  end_beside r p = record { same = w.ends r p; rest = w.end_rest r p }

  next : {A : Type 0} (r : Read ℕ) (g' g : ℕ → List ℕ → Read A) → Rest P r → ((x : ℕ) (rest : List ℕ) → P rest → Beside P f' (g' x (f rest)) (g x rest))
      → ((x : ℕ) (rest : List ℕ) → get_or rest 0 0 ≡ 64 → g x rest ≡ bad) → Beside P f' (then (ended tab (rests f r)) g') (then (ended tab r) g)
  unfolding then ended rests
  next (is x []) g' g p h n = rw (not_ended x (f []) (w.no_tab [] λ e. omega (arith, e))) neither
  next (is x (b ∷ rest)) g' g p h n = elim (ℕ_discrete b 9) [
    | no o ↦ rw (not_ended x (f (b ∷ rest)) (w.no_tab (b ∷ rest) o), ne_eqb b 9 o) neither
    | yes q ↦ elim (w.at_tab rest) [
      | stays e ↦ rw (q, e) (h x rest (w.tails b rest p))
      | goes a o ↦ rw (q, not_ended x (f (9 ∷ rest)) o, n x rest a) neither
    ]
  ]
  next bad g' g p h n = neither

  -- ---- the fields

  number_beside : (bs : List ℕ) → P bs → Beside P f' (number_fields end' (f bs)) (number_fields end bs)
  unfolding number_fields then
  number_beside bs p =
      rw (same_hex w.leaves bs)
      (next (hex bs) _ _ (rest_hex w.tails bs p)
      (λ re rest q. rw (same_hex w.leaves rest) (mapped (λ im. leaf (number (of_parts re im))) _ (end (hex rest)) (end_beside (hex rest) (rest_hex w.tails rest q))))
      (λ re rest a. rw (no_hex rest (at_stops rest a), w.end_bad)))

  variable_beside : (bs : List ℕ) → P bs → Beside P f' (variable_fields end' (f bs)) (variable_fields end bs)
  unfolding variable_fields
  variable_beside bs p =
      rw (same_decimal w.leaves numbers bs)
      (mapped (λ v. leaf (variable v)) _ (end (decimal numbers bs)) (end_beside (decimal numbers bs) (rest_decimal w.tails numbers bs p)))

  cell_beside : (bs : List ℕ) → P bs → Beside P f' (cell_fields end' (f bs)) (cell_fields end bs)
  unfolding cell_fields then
  cell_beside bs p =
      rw (same_decimal w.leaves numbers bs)
      (next (decimal numbers bs) _ _ (rest_decimal w.tails numbers bs p)
      (λ region rest q. rw (same_decimal w.leaves indices rest) (mapped (λ index. leaf (cell region index)) _ (end (decimal indices rest)) (end_beside (decimal indices rest) (rest_decimal w.tails indices rest q))))
      (λ region rest a. rw (no_decimal indices rest (at_stops rest a), w.end_bad)))

  child_beside : (earlier : List Tree) (bs : List ℕ) → P bs → Beside P f' (child_by end' earlier (f bs)) (child_by end earlier bs)
  unfolding child_by
  child_beside earlier bs p =
      rw (same_decimal w.leaves (length earlier) bs)
      (mapped (λ i. get_or earlier i (leaf pi)) _ (end (decimal (length earlier) bs)) (end_beside (decimal (length earlier) bs) (rest_decimal w.tails (length earlier) bs p)))

  no_child_lem : (earlier : List Tree) (bs : List ℕ) → get_or bs 0 0 ≡ 64 → child_by end earlier bs ≡ bad
  unfolding child_by then
  no_child_lem earlier bs a = rw (no_decimal (length earlier) bs (at_stops bs a), w.end_bad)

  function_beside : (earlier : List Tree) (bs : List ℕ) → P bs → Beside P f' (function_fields end' earlier (f bs)) (function_fields end earlier bs)
  unfolding function_fields then
  function_beside earlier bs p =
      rw (same_name w.leaves 1 function_names bs function_names_lem)
      (next (name_from 1 function_names bs) _ _ (rest_name w.tails 1 function_names bs p)
      (λ o rest q. mapped (λ t. function_call (function_of o) t) _ (child_by end earlier rest) (child_beside earlier rest q))
      (λ o rest a. rw (no_child_lem earlier rest a)))

  prefix_beside : (earlier : List Tree) (bs : List ℕ) → P bs → Beside P f' (prefix_fields end' earlier (f bs)) (prefix_fields end earlier bs)
  unfolding prefix_fields then
  prefix_beside earlier bs p =
      rw (same_name w.leaves 1 prefix_names bs prefix_names_lem)
      (next (name_from 1 prefix_names bs) _ _ (rest_name w.tails 1 prefix_names bs p)
      (λ o rest q. mapped (λ t. prefixed (prefix_of o) t) _ (child_by end earlier rest) (child_beside earlier rest q))
      (λ o rest a. rw (no_child_lem earlier rest a)))

  -- a left child and then a right one
  children_beside : (earlier : List Tree) (h : Tree → Tree → Tree) (bs : List ℕ) → P bs
      → Beside P f' (then (child_field tab earlier (f bs)) λ l bs. then (child_by end' earlier bs) λ r bs. is (h l r) bs) (then (child_field tab earlier bs) λ l bs. then (child_by end earlier bs) λ r bs. is (h l r) bs)
  unfolding then
  children_beside earlier h bs p =
      rw (child_then earlier (f bs), child_then earlier bs, same_decimal w.leaves (length earlier) bs)
      (next (decimal (length earlier) bs) _ _ (rest_decimal w.tails (length earlier) bs p)
      (λ i rest q. mapped (λ r. h (get_or earlier i (leaf pi)) r) _ (child_by end earlier rest) (child_beside earlier rest q))
      (λ i rest a. rw (no_child_lem earlier rest a)))

  no_children : (earlier : List Tree) (h : Tree → Tree → Tree) (bs : List ℕ) → get_or bs 0 0 ≡ 64
      → (then (child_field tab earlier bs) λ l bs. then (child_by end earlier bs) λ r bs. is (h l r) bs) ≡ bad
  unfolding child_by then ended
  no_children earlier h bs a = rw (no_decimal (length earlier) bs (at_stops bs a))

  infix_beside : (earlier : List Tree) (bs : List ℕ) → P bs → Beside P f' (infix_fields end' earlier (f bs)) (infix_fields end earlier bs)
  unfolding infix_fields
  infix_beside earlier bs p =
      rw (same_name w.leaves 1 infix_names bs infix_names_lem)
      (next (name_from 1 infix_names bs) _ _ (rest_name w.tails 1 infix_names bs p)
      (λ o rest q. children_beside earlier (λ l r. infixed (infix_of o) l r) rest q)
      (λ o rest a. no_children earlier (λ l r. infixed (infix_of o) l r) rest a))

  -- ---- the line

  fields_beside : (earlier : List Tree) (first : ℕ) (bs : List ℕ) → P bs → Beside P f' (fields_of end' earlier first (f bs)) (fields_of end earlier first bs)
  unfolding fields_of
  fields_beside earlier first bs p =
      cond_beside (eqb first (letter "n")) (number_beside bs p)
      (cond_beside (eqb first (letter "v")) (variable_beside bs p)
      (cond_beside (eqb first (letter "m")) (cell_beside bs p)
      (cond_beside (eqb first (letter "f")) (function_beside earlier bs p)
      (cond_beside (eqb first (letter "u")) (prefix_beside earlier bs p)
      (cond_beside (eqb first (letter "b")) (infix_beside earlier bs p)
      neither)))))

  -- no field begins with `@`
  no_fields : (earlier : List Tree) (first : ℕ) (bs : List ℕ) → get_or bs 0 0 ≡ 64 → fields_of end earlier first bs ≡ bad
  unfolding fields_of number_fields variable_fields cell_fields function_fields prefix_fields infix_fields then ended
  no_fields earlier first bs a =
      let s = at_stops bs a in
      cond_bad (eqb first (letter "n")) _ _ (rw (no_hex bs s))
      (cond_bad (eqb first (letter "v")) _ _ (rw (no_decimal numbers bs s, w.end_bad))
      (cond_bad (eqb first (letter "m")) _ _ (rw (no_decimal numbers bs s))
      (cond_bad (eqb first (letter "f")) _ _ (rw (no_name 1 function_names bs function_names_lem s))
      (cond_bad (eqb first (letter "u")) _ _ (rw (no_name 1 prefix_names bs prefix_names_lem s))
      (cond_bad (eqb first (letter "b")) _ _ (rw (no_name 1 infix_names bs infix_names_lem s))
      refl)))))

  pi_beside : (bs : List ℕ) → P bs → Beside P f' (pi_line end' (f bs)) (pi_line end bs)
  unfolding pi_line rests
  pi_beside bs p = mapped (λ _. leaf pi) _ (end (is 0 bs)) (end_beside (is 0 bs) p)

  pub line_beside : (earlier : List Tree) (first : ℕ) (bs : List ℕ) → P bs → Beside P f' (line_by end' earlier first (f bs)) (line_by end earlier first bs)
  unfolding line_by rests
  line_beside earlier first bs p =
      cond_beside (eqb first (letter "p")) (pi_beside bs p)
      (next (is first bs) _ _ p (λ x rest q. fields_beside earlier x rest q) (λ x rest a. no_fields earlier x rest a))
