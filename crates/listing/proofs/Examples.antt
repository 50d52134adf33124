-- Worked examples of the definitions, which antt computes: each refusal 1 and 2 at its boundary on both sides. The counts are laws over any lines
-- and bytes. Assumes nothing.
use mathlib.Core.Path.{◌≡◌, refl}
use mathlib.Core.List.{List, [], ◌∷◌}
use mathlib.Core.Bool.{Bool, true, false}
use Prim.Native.Nat.{ℕ, ◌≤◌, ◌<◌}
use lib.ListN.{length}
use borrow.Author.Tests.{lt-ltb, le-ltb, ne_eqb}
use Rattle.expression.specs.declared.refusal.Refusal.{Refusal}
use Rattle.expression.specs.Trees.{Tree, leaf, variable}
use Rattle.store.specs.Storing.{State}
use Rattle.node_lines.specs.NodeLines.{child_by, node_fields}
use Rattle.text.specs.Reading.{then, ended, digit_of, run, value, spelt, decimal}
use Rattle.text.specs.Lines.{goes, stops, none, above_last}
use Rattle.listing.specs.Listings.{Known, known, swap, formed, node_line, swap_fields, above_variable, swapped, swap_line, listing_line, line_number}

abbrev a : Tree
a = leaf (variable 0)

abbrev b : Tree
b = leaf (variable 1)

abbrev two : List Tree
two = a ∷ b ∷ []

-- ---- the counts, before the form

-- the 1025th node line is 2, whatever it holds, also after an s line
pub line_1025 : (k : Known) (first : ℕ) (bs : List ℕ) (substituting : Bool) → (first ≡ 115 → ⊥) → 1024 ≤ length k.nodes
    → listing_line substituting k first bs ≡ stops (Refusal.LongList (line_number k))
unfolding listing_line node_line
line_1025 k first bs substituting n e = rw (ne_eqb first 115 n, le-ltb (length k.nodes) 1024 e)

-- the 1024th is not: it is read for what it holds
pub line_1024 : (k : Known) (first : ℕ) (bs : List ℕ) (substituting : Bool) → (first ≡ 115 → ⊥) → length k.nodes < 1024 → k.swaps ≡ []
    → listing_line substituting k first bs ≡ formed k (node_fields k.nodes first bs)
unfolding listing_line node_line none
line_1024 k first bs substituting n e s = rw (ne_eqb first 115 n, lt-ltb (length k.nodes) 1024 e, s)

-- the 257th s line is 2
pub swap_257 : (k : Known) (bs : List ℕ) (substituting : Bool) → 256 ≤ length k.swaps → listing_line substituting k 115 bs ≡ stops (Refusal.LongList (line_number k))
unfolding listing_line swap_line
swap_257 k bs substituting e = rw (le-ltb (length k.swaps) 256 e)

-- ---- s lines, after the lines of a and b

module _ (σ : State) where
  -- `s·7·1`, where something is substituted and where nothing is
  swap_line_lem : listing_line true (known two [] σ) 115 (9 ∷ 55 ∷ 9 ∷ 49 ∷ 10 ∷ []) ≡ goes (known two (swap 7 b ∷ []) σ) []
  unfolding listing_line swap_line swapped swap_fields child_by above_last above_variable then ended decimal spelt run value digit_of
  swap_line_lem = refl

  swap_unasked : listing_line false (known two [] σ) 115 (9 ∷ 55 ∷ 9 ∷ 49 ∷ 10 ∷ []) ≡ stops (Refusal.BadList 2)
  unfolding listing_line swap_line swapped swap_fields child_by above_last above_variable then ended decimal spelt run value digit_of
  swap_unasked = refl

  -- `s·7·1·@0`: "`@` on an s line is malformed"
  swap_origin : listing_line true (known two [] σ) 115 (9 ∷ 55 ∷ 9 ∷ 49 ∷ 9 ∷ 64 ∷ 48 ∷ 10 ∷ []) ≡ stops (Refusal.BadList 2)
  unfolding listing_line swap_line swapped swap_fields child_by above_last above_variable then ended decimal spelt run value digit_of
  swap_origin = refl

  -- the same variable again; a node line after it
  swap_repeated : listing_line true (known two (swap 7 b ∷ []) σ) 115 (9 ∷ 55 ∷ 9 ∷ 48 ∷ 10 ∷ []) ≡ stops (Refusal.BadList 3)
  unfolding listing_line swap_line swapped swap_fields child_by above_last above_variable then ended decimal spelt run value digit_of
  swap_repeated = refl

  node_after : listing_line true (known two (swap 7 b ∷ []) σ) 112 (10 ∷ []) ≡ stops (Refusal.BadList 3)
  unfolding listing_line node_line none formed
  node_after = refl
