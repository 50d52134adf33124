-- The reader ignores the field of an origin: of a listing without these fields it reads at each node line the same tree, or refuses it too, and
-- the rest is the rest without the fields. Assumes nothing.
use mathlib.Core.Path.{◌≡◌, refl, ap, ◌∙◌}
use mathlib.Core.List.{List, [], ◌∷◌, ◌++◌, map}
use mathlib.Core.Bool.{false, cond}
use Prim.Native.Nat.{ℕ, zero, suc, ◌+◌, ◌-◌}
use native.Mathlib.Omega.{arith}
use native.Mathlib.Decide.{dec_lt, ℕ_discrete}
use lib.ListN.{length, get_or}
use lib.Dec.{eqb}
use borrow.Author.Tests.{lt-ltb, le-ltb, eq-eqb, ne_eqb}
use Rattle.expression.specs.Trees.{Tree, leaf, pi}
use Rattle.text.specs.Letters.{letter}
use Rattle.text.specs.Reading.{Read, is, bad, then, tab, lf, ended, decimal, decimal_field}
use Rattle.text.specs.Digits.{digits}
use Rattle.text.specs.Writing.{byte_of, in_decimal}
use Rattle.text.proofs.Only.{ended_only}
use Rattle.origins.specs.Fields.{most_origins, after_at, origin, line_end, origin_text}
use Rattle.origins.proofs.Ending.{end_bad, origin_only}
use Rattle.node_lines.specs.NodeLines.{child_by, child_field, fields_of, line_by, node_fields}
use Rattle.node_lines.specs.Without.{Where, start, node, kept, dropped, whole_field, in_line, passing, left, without, without_origins}
use Rattle.node_lines.proofs.Beside.{rests, Plain, Stops, Leaves, no_decimal, same_decimal}
use Rattle.node_lines.proofs.BesideLine.{Rest, AtTab, stays, goes, Ways, line_beside}

-- ---- each byte

no_more : (w : Where) → without w [] ≡ []
unfolding without
no_more w = refl

feed : (w : Where) (bs : List ℕ) → without w (10 ∷ bs) ≡ 10 ∷ without start bs
unfolding without passing left
feed w bs = refl

kept_byte : (b : ℕ) (bs : List ℕ) → (b ≡ 10 → ⊥) → without kept (b ∷ bs) ≡ b ∷ without kept bs
unfolding without passing left in_line
kept_byte b bs n = rw (ne_eqb b 10 n)

dropped_byte : (b : ℕ) (bs : List ℕ) → (b ≡ 10 → ⊥) → without dropped (b ∷ bs) ≡ without dropped bs
unfolding without passing left in_line
dropped_byte b bs n = rw (ne_eqb b 10 n)

-- a whole field goes, up to its LF
no_feed : (d : ℕ) → byte_of d ≡ 10 → ⊥
unfolding byte_of
no_feed d e = elim (dec_lt d 10) [
  | yes l ↦ let k : 48 + d ≡ 10 = rw (lt-ltb d 10 l) at e in omega (arith, k)
  | no g ↦ let k : 65 + (d - 10) ≡ 10 = rw (le-ltb d 10 (omega (arith, g))) at e in omega (arith, k)
]

digits_go : (ds bs : List ℕ) → without dropped (map byte_of ds ++ bs) ≡ without dropped bs
digits_go [] bs = refl
digits_go (d ∷ ds) bs = dropped_byte (byte_of d) (map byte_of ds ++ bs) (no_feed d) ∙ digits_go ds bs

origin_goes : (o : ℕ) (bs : List ℕ) → without dropped (origin_text o ++ bs) ≡ without dropped bs
unfolding origin_text in_decimal
origin_goes zero bs = dropped_byte 64 (45 ∷ bs) (λ e. omega (arith, e)) ∙ dropped_byte 45 bs (λ e. omega (arith, e))
origin_goes (suc n) bs = dropped_byte 64 (in_decimal n ++ bs) (λ e. omega (arith, e)) ∙ digits_go (digits n) bs

field_goes : (o : ℕ) (bs rest : List ℕ) → ended lf (origin bs) ≡ is o rest → without dropped bs ≡ 10 ∷ without start rest
field_goes o bs rest e =
    ap (without dropped) (origin_only o bs (10 ∷ rest) (ended_only 10 (origin bs) o rest e)).1 ∙ origin_goes o (10 ∷ rest) ∙ feed dropped rest

-- what becomes of a byte in a node line
data Becomes (b : ℕ) (bs : List ℕ) : Type 0 where
  line_feed : b ≡ 10 → without node (b ∷ bs) ≡ 10 ∷ without start bs → Becomes b bs
  field : (o : ℕ) (rest : List ℕ) → b ≡ 9 → ended lf (origin bs) ≡ is o rest → without node (b ∷ bs) ≡ 10 ∷ without start rest → Becomes b bs
  no_field : b ≡ 9 → ended lf (origin bs) ≡ bad → without node (b ∷ bs) ≡ 9 ∷ without node bs → Becomes b bs
  at : b ≡ 64 → without node (b ∷ bs) ≡ 64 ∷ without kept bs → Becomes b bs
  other : (b ≡ 10 → ⊥) → (b ≡ 9 → ⊥) → (b ≡ 64 → ⊥) → without node (b ∷ bs) ≡ b ∷ without node bs → Becomes b bs

at_a_tab : (bs : List ℕ) → Becomes 9 bs
unfolding without passing left in_line whole_field
at_a_tab bs = go (ended lf (origin bs)) refl
  where
    go : (r : Read ℕ) → ended lf (origin bs) ≡ r → Becomes 9 bs
    go (is o rest) e = field o rest refl e (rw e (field_goes o bs rest e))
    go bad e = no_field refl e (rw e)

becomes : (b : ℕ) (bs : List ℕ) → Becomes b bs
unfolding without passing left in_line
becomes b bs = elim (ℕ_discrete b 10) [
  | yes q ↦ line_feed q (rw q)
  | no n ↦ elim (ℕ_discrete b 9) [
    | yes q ↦ rw q (at_a_tab bs)
    | no m ↦ elim (ℕ_discrete b 64) [
      | yes q ↦ at q (rw q)
      | no o ↦ other n m o (rw (ne_eqb b 10 n, ne_eqb b 9 m, ne_eqb b 64 o))
    ]
  ]
]

-- ---- what stays as it is: an s line, and what stands after an `@`

pub kept_leaves : Leaves (without kept)
kept_leaves = record {
  copies = λ b bs p. let h = p.high in kept_byte b bs (λ e. omega (arith, h, e));
  halts = λ bs s. stop bs s;
}
  where
    stop : (bs : List ℕ) → Stops bs → Stops (without kept bs)
    stop [] s = rw (no_more kept) s
    stop (b ∷ bs) s = elim (ℕ_discrete b 10) [ yes q ↦ rw (q, feed kept bs) (rw q at s) | no n ↦ rw (kept_byte b bs n) s ]

-- one thing after another
pub rests_then : {A B : Type 0} (f f' : List ℕ → List ℕ) (r : Read A) (g : A → List ℕ → Read B) → ((x : A) (rest : List ℕ) → g x (f rest) ≡ rests f' (g x rest))
    → then (rests f r) g ≡ rests f' (then r g)
unfolding then rests
rests_then f f' (is x rest) g h = h x rest
rests_then f f' bad g h = refl

pub kept_tab : (r : Read ℕ) → ended tab (rests (without kept) r) ≡ rests (without kept) (ended tab r)
unfolding ended rests
kept_tab (is x []) = rw (no_more kept)
kept_tab (is x (b ∷ rest)) = elim (ℕ_discrete b 10) [
  | yes q ↦ rw (q, feed kept rest)
  | no n ↦ elim (ℕ_discrete b 9) [ yes q ↦ rw (kept_byte b rest n, q) | no m ↦ rw (kept_byte b rest n, ne_eqb b 9 m) ]
]
kept_tab bad = refl

pub kept_feed : (r : Read ℕ) → ended lf (rests (without kept) r) ≡ rests without_origins (ended lf r)
unfolding ended rests
kept_feed (is x []) = rw (no_more kept)
kept_feed (is x (b ∷ rest)) = elim (ℕ_discrete b 10) [ yes q ↦ rw (q, feed kept rest) | no n ↦ rw (kept_byte b rest n, ne_eqb b 10 n) ]
kept_feed bad = refl

-- the fields of an s line
pub kept_decimal : (limit : ℕ) (bs : List ℕ) → decimal_field tab limit (without kept bs) ≡ rests (without kept) (decimal_field tab limit bs)
kept_decimal limit bs = rw (same_decimal kept_leaves limit bs) (kept_tab (decimal limit bs))

pub kept_child : (earlier : List Tree) (bs : List ℕ) → child_field lf earlier (without kept bs) ≡ rests without_origins (child_field lf earlier bs)
unfolding child_by rests
kept_child earlier bs =
    rw (same_decimal kept_leaves (length earlier) bs, kept_feed (decimal (length earlier) bs)) (rests_then without_origins without_origins (ended lf (decimal (length earlier) bs)) (λ i rest. is (get_or earlier i (leaf pi)) rest) (λ i rest. refl))

-- the field of an origin
after_number : (bs : List ℕ) → (get_or bs 0 0 ≡ 45 → ⊥) → after_at bs ≡ then (decimal most_origins bs) λ n rest. is (suc n) rest
unfolding after_at then
after_number [] n = rw (no_decimal most_origins [] λ p. p.other (omega arith))
after_number (b ∷ bs) n = rw (ne_eqb b 45 n)

kept_first : (b : ℕ) (bs : List ℕ) → (b ≡ 45 → ⊥) → get_or (without kept (b ∷ bs)) 0 0 ≡ 45 → ⊥
kept_first b bs n = elim (ℕ_discrete b 10) [ yes q ↦ rw (q, feed kept bs) (λ e. omega (arith, e)) | no m ↦ rw (kept_byte b bs m) n ]

kept_after : (bs : List ℕ) → after_at (without kept bs) ≡ rests (without kept) (after_at bs)
unfolding after_at rests
kept_after [] = rw (no_more kept)
kept_after (b ∷ bs) = elim (ℕ_discrete b 45) [
  | yes q ↦ rw (q, kept_byte 45 bs λ e. omega (arith, e))
  | no n ↦
      rw (after_number (without kept (b ∷ bs)) (kept_first b bs n), after_number (b ∷ bs) n, same_decimal kept_leaves most_origins (b ∷ bs))
      (rests_then (without kept) (without kept) (decimal most_origins (b ∷ bs)) (λ n rest. is (suc n) rest) (λ n rest. refl))
]

-- ---- a node line

no_origin : (b : ℕ) (bs : List ℕ) → (b ≡ 64 → ⊥) → ended lf (origin (b ∷ bs)) ≡ bad
unfolding origin ended
no_origin b bs n = rw (ne_eqb b 64 n)

-- what is no whole field does not become one
no_new_field : (bs : List ℕ) → ended lf (origin bs) ≡ bad → ended lf (origin (without node bs)) ≡ bad
unfolding origin rests
no_new_field [] e = rw (no_more node) e
no_new_field (b ∷ bs) e = elim (becomes b bs) [
  | line_feed q z ↦ rw z (no_origin 10 (without start bs) λ e. omega (arith, e))
  | field o rest q f z ↦ rw z (no_origin 10 (without start rest) λ e. omega (arith, e))
  | no_field q f z ↦ rw z (no_origin 9 (without node bs) λ e. omega (arith, e))
  | at q z ↦ let k : ended lf (after_at bs) ≡ bad = rw q at e in rw (z, kept_after bs, kept_feed (after_at bs), k)
  | other n m o z ↦ rw z (no_origin b (without node bs) o)
]

node_end : (r : Read ℕ) → line_end (rests (without node) r) ≡ rests without_origins (line_end r)
unfolding line_end rests then
node_end (is x []) = rw (no_more node)
node_end (is x (b ∷ bs)) = elim (becomes b bs) [
  | line_feed q z ↦ rw (z, q)
  | field o rest q f z ↦ rw (z, q, f)
  | no_field q f z ↦ rw (z, q, f, no_new_field bs f)
  | at q z ↦ rw (z, q)
  | other n m o z ↦ rw (z, ne_eqb b 9 m, ne_eqb b 10 n)
]
node_end bad = refl

at_first : (o : ℕ) (bs rest : List ℕ) → ended lf (origin bs) ≡ is o rest → get_or bs 0 0 ≡ 64
unfolding origin_text
at_first zero bs rest e = rw (origin_only 0 bs (10 ∷ rest) (ended_only 10 (origin bs) 0 rest e)).1
at_first (suc n) bs rest e = rw (origin_only (suc n) bs (10 ∷ rest) (ended_only 10 (origin bs) (suc n) rest e)).1

node_tab : (rest : List ℕ) → AtTab (without node) rest
node_tab rest = elim (becomes 9 rest) [
  | line_feed q z ↦ absurd (omega (arith, q))
  | field o after q f z ↦ goes (at_first o rest after f) (rw z λ e. omega (arith, e))
  | no_field q f z ↦ stays z
  | at q z ↦ absurd (omega (arith, q))
  | other n m o z ↦ absurd (m refl)
]

node_leaves : Leaves (without node)
node_leaves = record { copies = copy; halts = stop }
  where
    copy : (b : ℕ) (bs : List ℕ) → Plain b → without node (b ∷ bs) ≡ b ∷ without node bs
    copy b bs p = let h = p.high in elim (becomes b bs) [
      | line_feed q z ↦ absurd (omega (arith, q, h))
      | field o rest q f z ↦ absurd (omega (arith, q, h))
      | no_field q f z ↦ absurd (omega (arith, q, h))
      | at q z ↦ absurd (p.other q)
      | other n m o z ↦ z
    ]

    stop : (bs : List ℕ) → Stops bs → Stops (without node bs)
    stop [] s = rw (no_more node) s
    stop (b ∷ bs) s = elim (becomes b bs) [
      | line_feed q z ↦ rw z (rw q at s)
      | field o rest q f z ↦ rw z (λ p. let h = p.high in omega (arith, h))
      | no_field q f z ↦ rw z (rw q at s)
      | at q z ↦ rw z (rw q at s)
      | other n m o z ↦ rw z s
    ]

node_no_tab : (bs : List ℕ) → (get_or bs 0 0 ≡ 9 → ⊥) → get_or (without node bs) 0 0 ≡ 9 → ⊥
node_no_tab [] n = rw (no_more node) n
node_no_tab (b ∷ bs) n = elim (becomes b bs) [
  | line_feed q z ↦ rw z λ e. omega (arith, e)
  | field o rest q f z ↦ absurd (n q)
  | no_field q f z ↦ absurd (n q)
  | at q z ↦ rw z λ e. omega (arith, e)
  | other k m o z ↦ rw z n
]

node_ways : Ways (λ bs. Unit {0}) (without node) without_origins line_end line_end
node_ways = record {
  leaves = node_leaves;
  tails = λ b bs p. tt;
  at_tab = node_tab;
  no_tab = node_no_tab;
  ends = λ r p. node_end r;
  end_rest = λ r p. any (line_end r);
  end_bad = end_bad;
}
  where
    any : (r : Read ℕ) → Rest (λ bs. Unit {0}) r
    any (is x rest) = tt
    any bad = tt

-- ---- a line by its first byte, which stays

-- where the bytes after it stand
abbrev pub after_first : ℕ → Where
after_first first = cond (eqb first lf) start (cond (eqb first (letter "s")) kept node)

pub first_stays : (first : ℕ) (bs : List ℕ) → without_origins (first ∷ bs) ≡ first ∷ without (after_first first) bs
unfolding without passing in_line left
first_stays first bs = elim (ℕ_discrete first 10) [
  | yes q ↦ rw q
  | no n ↦ elim (ℕ_discrete first 115) [ yes q ↦ rw q | no m ↦ rw (ne_eqb first 10 n, ne_eqb first 115 m) ]
]

-- a line whose first byte is no node's
no_node : (earlier : List Tree) (first : ℕ) (bs : List ℕ) → eqb first (letter "p") ≡ false → ((rest : List ℕ) → fields_of line_end earlier first rest ≡ bad)
    → node_fields earlier first bs ≡ bad
unfolding line_by then ended
no_node earlier first [] p h = rw p
no_node earlier first (b ∷ bs) p h = rw p (elim (ℕ_discrete b 9) [ yes q ↦ rw (eq-eqb b 9 q) (h bs) | no n ↦ rw (ne_eqb b 9 n) ])

pub node_ignores : (earlier : List Tree) (first : ℕ) (bs : List ℕ)
    → node_fields earlier first (without (after_first first) bs) ≡ rests without_origins (node_fields earlier first bs)
unfolding fields_of rests
node_ignores earlier first bs = elim (ℕ_discrete first 10) [
  | yes q ↦ rw (q, no_node earlier 10 (without start bs) refl (λ rest. refl), no_node earlier 10 bs refl (λ rest. refl))
  | no n ↦ elim (ℕ_discrete first 115) [
    | yes q ↦ rw (q, no_node earlier 115 (without kept bs) refl (λ rest. refl), no_node earlier 115 bs refl (λ rest. refl))
    | no m ↦ rw (ne_eqb first 10 n, ne_eqb first 115 m) (line_beside node_ways earlier first bs tt).same
  ]
]

-- an s line
pub s_line : (bs : List ℕ) → without_origins (letter "s" ∷ bs) ≡ letter "s" ∷ without kept bs
s_line bs = first_stays (letter "s") bs
