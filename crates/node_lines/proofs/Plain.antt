-- Of bytes without `@` a node line is what it was before lines could end in an origin, and the bytes after it are such too. Assumes nothing.
use mathlib.Core.Path.{◌≡◌, refl, sym, ◌∙◌}
use mathlib.Core.List.{List, [], ◌∷◌}
use Prim.Native.Nat.{ℕ, zero, suc, ◌<◌}
use native.Mathlib.Omega.{arith}
use native.Mathlib.Decide.{ℕ_discrete}
use lib.ListN.{length, get_or, drop}
use borrow.Author.Tests.{ne_eqb}
use Rattle.expression.specs.Trees.{Tree}
use Rattle.text.specs.Letters.{letter}
use Rattle.text.specs.Reading.{Read, is, bad, then, lf, ended}
use Rattle.origins.specs.Fields.{origin, line_end}
use Rattle.origins.proofs.Ending.{end_bad, end_plain}
use Rattle.node_lines.specs.NodeLines.{line_by, node_fields}
use Rattle.node_lines.proofs.Beside.{rests_id}
use Rattle.node_lines.proofs.BesideLine.{Rest, rest_ended, stays, Ways, line_beside}

-- none of the bytes is `@`
abbrev pub NoAt : List ℕ → Type 0
NoAt [] = Unit {0}
NoAt (b ∷ bs) = (b ≡ letter "@" → ⊥) × NoAt bs

-- the same by places
pub no_at : (bs : List ℕ) → ((k : ℕ) → k < length bs → get_or bs k 0 ≡ letter "@" → ⊥) → NoAt bs
no_at [] h = tt
no_at (b ∷ bs) h = (h 0 (omega arith), no_at bs λ k l. h (suc k) (omega (arith, l)))

pub no_at_tail : (b : ℕ) (bs : List ℕ) → NoAt (b ∷ bs) → NoAt bs
no_at_tail b bs p = p.1

pub no_at_drop : (n : ℕ) (bs : List ℕ) → NoAt bs → NoAt (drop n bs)
no_at_drop zero bs p = p
no_at_drop (suc n) [] p = p
no_at_drop (suc n) (b ∷ bs) p = no_at_drop n bs p.1

-- ---- no origin stands there

no_origin : (bs : List ℕ) → NoAt bs → origin bs ≡ bad
unfolding origin
no_origin [] p = refl
no_origin (b ∷ bs) p = rw (ne_eqb b 64 p.0)

plain_end : (r : Read ℕ) → Rest NoAt r → line_end r ≡ ended lf r
unfolding line_end ended then
plain_end (is x []) p = refl
plain_end (is x (b ∷ rest)) p = elim (ℕ_discrete b 9) [ yes q ↦ rw (q, no_origin rest p.1) | no n ↦ end_plain x (b ∷ rest) n ]
plain_end bad p = refl

plain_ways : Ways NoAt (λ bs. bs) (λ bs. bs) line_end (ended lf)
plain_ways = record {
  leaves = record { copies = λ b bs p. refl; halts = λ bs s. s };
  tails = no_at_tail;
  at_tab = λ rest. stays refl;
  no_tab = λ bs h. h;
  ends = λ r p. rw (rests_id r, rests_id (line_end r)) (sym (plain_end r p));
  end_rest = λ r p. rw (plain_end r p) (rest_ended no_at_tail lf r p);
  end_bad = end_bad;
}

-- ---- the line

pub plain_line_lem : (earlier : List Tree) (first : ℕ) (bs : List ℕ) → NoAt bs → node_fields earlier first bs ≡ line_by (ended lf) earlier first bs
plain_line_lem earlier first bs p = sym ((line_beside plain_ways earlier first bs p).same ∙ rests_id (node_fields earlier first bs))

pub rest_plain : (earlier : List Tree) (first : ℕ) (bs : List ℕ) {t : Tree} {rest : List ℕ} → node_fields earlier first bs ≡ is t rest → NoAt bs → NoAt rest
rest_plain earlier first bs e p = rw e at (line_beside plain_ways earlier first bs p).rest
