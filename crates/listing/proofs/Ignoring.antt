-- "The reader accepts the field there and ignores it": every listing is read as the one without its fields, refusals and their lines included.
-- Assumes nothing.
use mathlib.Core.Path.{◌≡◌, refl, sym, ap, ◌∙◌}
use mathlib.Core.List.{List, [], ◌∷◌}
use mathlib.Core.Bool.{Bool, true, false, cond, ◌&&◌}
use Prim.Native.Nat.{ℕ, zero, suc, ◌≤◌}
use native.Mathlib.Omega.{arith}
use native.Mathlib.Decide.{ℕ_discrete}
use lib.ListN.{length}
use lib.Dec.{ltb}
use borrow.Author.Tests.{ne_eqb}
use Rattle.expression.specs.declared.refusal.Refusal.{Refusal}
use Rattle.expression.specs.Trees.{Tree}
use Rattle.expression.specs.Limits.{numbers}
use Rattle.store.specs.Storing as Storing
use Rattle.store.specs.Storing.{State, Answer, intern}
use Rattle.text.specs.Reading.{Read, is, bad, then, tab, lf, ended, decimal_field}
use Rattle.text.specs.Lines.{Line, goes, stops, Whole, after_line, lines, none, above_last}
use Rattle.text.proofs.Shortening.{ShorterLine}
use Rattle.text.proofs.Lining.{next_line_lem}
use Rattle.node_lines.specs.NodeLines.{child_field, node_fields}
use Rattle.node_lines.specs.Without.{kept, without, without_origins}
use Rattle.node_lines.proofs.Beside.{rests}
use Rattle.node_lines.proofs.Ignoring.{after_first, first_stays, node_ignores, rests_then, kept_tab, kept_decimal, kept_child}
use Rattle.listing.specs.Listings.{Known, known, Swap, swap, stored, formed, node_line, swap_fields, above_variable, swapped, swap_line, listing_line, whole, listing, lines_of, given}
use Rattle.listing.proofs.Shortening.{listing_shortens}

-- ---- a line, with the rest without fields

unfoldable relined : Line Known Refusal → Line Known Refusal
relined (goes k rest) = goes k (without_origins rest)
relined (stops why) = stops why

relined_cond : (b : Bool) (l l' : Line Known Refusal) → relined (cond b l l') ≡ cond b (relined l) (relined l')
relined_cond true l l' = refl
relined_cond false l l' = refl

-- ---- a node line

stored_ignores : (k : Known) (rest : List ℕ) (a : Answer) → stored k (without_origins rest) a ≡ relined (stored k rest a)
unfolding stored relined
stored_ignores k rest (Storing.gives t s) = refl
stored_ignores k rest (Storing.refused why s) = refl

formed_ignores : (k : Known) (b : Bool) (r : Read Tree) → formed k (cond b (rests without_origins r) bad) ≡ relined (formed k (cond b r bad))
unfolding formed relined rests
formed_ignores k true (is t rest) = stored_ignores k rest (intern t k.store)
formed_ignores k true bad = refl
formed_ignores k false r = refl

node_line_ignores : (k : Known) (first : ℕ) (bs : List ℕ) → node_line k first (without (after_first first) bs) ≡ relined (node_line k first bs)
unfolding node_line relined
node_line_ignores k first bs =
    rw (relined_cond (ltb (length k.nodes) 1024), node_ignores k.nodes first bs, formed_ignores k (none k.swaps) (node_fields k.nodes first bs)) refl

-- ---- an s line: it has no such field

after : {A B : Type 0} (f f' : List ℕ → List ℕ) (r' r : Read A) (g : A → List ℕ → Read B) → r' ≡ rests f r → ((x : A) (rest : List ℕ) → g x (f rest) ≡ rests f' (g x rest))
    → then r' g ≡ rests f' (then r g)
after f f' r' r g e h = ap (λ r. then r g) e ∙ rests_then f f' r g h

swap_fields_ignore : (nodes : List Tree) (first : ℕ) (bs : List ℕ) → swap_fields nodes first (without kept bs) ≡ rests without_origins (swap_fields nodes first bs)
unfolding swap_fields rests
swap_fields_ignore nodes first bs =
    after (without kept) without_origins (ended tab (is first (without kept bs))) (ended tab (is first bs)) _ (kept_tab (is first bs)) λ _ bs.
    after (without kept) without_origins (decimal_field tab numbers (without kept bs)) (decimal_field tab numbers bs) _ (kept_decimal numbers bs) λ v bs.
    after without_origins without_origins (child_field lf nodes (without kept bs)) (child_field lf nodes bs) (λ t bs. is (swap v t) bs) (kept_child nodes bs) λ t bs.
    refl

swapped_ignores : (substituting : Bool) (k : Known) (r : Read Swap) → swapped substituting k (rests without_origins r) ≡ relined (swapped substituting k r)
unfolding swapped relined rests
swapped_ignores substituting k (is s rest) = sym (relined_cond (substituting && above_last above_variable k.swaps s) _ _)
swapped_ignores substituting k bad = refl

swap_line_ignores : (substituting : Bool) (k : Known) (first : ℕ) (bs : List ℕ) → swap_line substituting k first (without kept bs) ≡ relined (swap_line substituting k first bs)
unfolding swap_line relined
swap_line_ignores substituting k first bs =
    rw (relined_cond (ltb (length k.swaps) 256), swap_fields_ignore k.nodes first bs, swapped_ignores substituting k (swap_fields k.nodes first bs)) refl

-- ---- any line

line_ignores : (substituting : Bool) (k : Known) (first : ℕ) (bs : List ℕ)
    → listing_line substituting k first (without (after_first first) bs) ≡ relined (listing_line substituting k first bs)
unfolding listing_line
line_ignores substituting k first bs = elim (ℕ_discrete first 115) [
  | yes q ↦ rw q (swap_line_ignores substituting k 115 bs)
  | no n ↦ rw (ne_eqb first 115 n) (rw (ne_eqb first 115 n) at (node_line_ignores k first bs))
]

-- ---- all lines

after_relined : (bs : List ℕ) (l : Line Known Refusal) (next : Known → List ℕ → Whole Known Refusal) → ShorterLine bs l
    → ((k : Known) (rest : List ℕ) → length rest ≤ length bs → next k (without_origins rest) ≡ next k rest) → after_line (relined l) next ≡ after_line l next
unfolding after_line relined
after_relined bs (goes k rest) next h e = e k rest h
after_relined bs (stops why) next h e = refl

lines_by_lem : (substituting : Bool) (fuel : ℕ) (k : Known) (bs : List ℕ) → length bs ≤ fuel → lines (listing_line substituting) k (without_origins bs) ≡ lines (listing_line substituting) k bs
unfolding without
lines_by_lem substituting zero k [] h = refl
lines_by_lem substituting zero k (b ∷ bs) h = absurd (omega arith)
lines_by_lem substituting (suc fuel) k [] h = refl
lines_by_lem substituting (suc fuel) k (b ∷ bs) h =
    ap (lines (listing_line substituting) k) (first_stays b bs)
    ∙ next_line_lem (listing_line substituting) (listing_shortens substituting) k b (without (after_first b) bs)
    ∙ ap (λ l. after_line l (λ k rest. lines (listing_line substituting) k rest)) (line_ignores substituting k b bs)
    ∙ after_relined bs (listing_line substituting k b bs) _ (listing_shortens substituting k b bs) (λ k rest o. lines_by_lem substituting fuel k rest (omega (arith, o, h)))
    ∙ sym (next_line_lem (listing_line substituting) (listing_shortens substituting) k b bs)

pub lines_ignored : (substituting : Bool) (k : Known) (bs : List ℕ) → lines (listing_line substituting) k (without_origins bs) ≡ lines (listing_line substituting) k bs
lines_ignored substituting k bs = lines_by_lem substituting (length bs) k bs (omega arith)

pub ignored : (substituting : Bool) (bs : List ℕ) (σ : State) → listing substituting (without_origins bs) σ ≡ listing substituting bs σ
unfolding listing
ignored substituting bs σ = ap whole (lines_ignored substituting (known [] [] σ) bs)

pub given_ignored : (substituting : Bool) (bs : List ℕ) (σ : State) → given substituting (without_origins bs) σ ≡ given substituting bs σ
given_ignored substituting bs σ = ap lines_of (lines_ignored substituting (known [] [] σ) bs)
