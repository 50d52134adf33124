-- A listing that is read gives at most 1024 trees, a line one. Assumes nothing.
use mathlib.Core.Bool.{Bool, true, false, cond, ◌&&◌}
use mathlib.Core.List.{List, [], ◌∷◌}
use mathlib.Core.Path.{◌≡◌, refl}
use Prim.Native.Nat.{ℕ, ◌≤◌, ◌<◌}
use native.Mathlib.Omega.{arith}
use borrow.Author.Tests.{ltb-true}
use lib.Dec.{eqb, ltb}
use lib.ListN.{length, length-append}
use Rattle.expression.specs.declared.refusal.Refusal.{Refusal}
use Rattle.expression.specs.Trees.{Tree}
use Rattle.store.specs.Storing as Storing
use Rattle.store.specs.Storing.{State, Answer, gives, intern}
use Rattle.text.specs.Reading.{Read, is, bad}
use Rattle.text.specs.Lines as Lines
use Rattle.text.specs.Lines.{Line, Whole, lines, none, above_last}
use Rattle.node_lines.specs.NodeLines.{node_fields}
use Rattle.listing.specs.Listings.{Swap, Known, known, stored, formed, most_nodes, most_swaps, node_line, swap_fields, above_variable, swapped, swap_line, listing_line, lines_of, given}
use Rattle.calls.proofs.Lining.{LineHas, WholeHas, InLine, InWhole, to_the_end}

Few : Known → Type 0
Few k = length k.nodes ≤ 1024

line_either : (b : Bool) (x y : Line Known Refusal) → (b ≡ true → InLine Few x) → InLine Few y → InLine Few (cond b x y)
line_either true x y p q = p refl
line_either false x y p q = q

stored_few : (k : Known) (rest : List ℕ) (a : Answer) → length k.nodes < 1024 → InLine Few (stored k rest a)
unfolding stored LineHas Few
stored_few k rest (gives t s) l = omega (arith, l, length-append k.nodes (t ∷ []))
stored_few k rest (Storing.refused why s) l = tt

formed_few : (k : Known) (r : Read Tree) → length k.nodes < 1024 → InLine Few (formed k r)
unfolding formed LineHas
formed_few k bad l = tt
formed_few k (is t rest) l = stored_few k rest (intern t k.store) l

swapped_few : (substituting : Bool) (k : Known) (r : Read Swap) → Few k → InLine Few (swapped substituting k r)
unfolding swapped LineHas Few
swapped_few substituting k bad f = tt
swapped_few substituting k (is s rest) f = line_either (substituting && above_last above_variable k.swaps s) _ _ (λ _. f) tt

line_few : (substituting : Bool) (k : Known) (first : ℕ) (bs : List ℕ) → Few k → InLine Few (listing_line substituting k first bs)
unfolding listing_line swap_line node_line LineHas
line_few substituting k first bs f =
    line_either (eqb first 115) _ _
    (λ _. line_either (ltb (length k.swaps) most_swaps) _ _ (λ _. swapped_few substituting k (swap_fields k.nodes first bs) f) tt)
    (line_either (ltb (length k.nodes) most_nodes) _ _ (λ e. formed_few k (cond (none k.swaps) (node_fields k.nodes first bs) bad) (ltb-true (length k.nodes) most_nodes e)) tt)

lines_few : (w : Whole Known Refusal) → InWhole Few w → length (lines_of w) ≤ 1024
unfolding lines_of WholeHas Few
lines_few (Lines.read k) f = f
lines_few (Lines.refused why) f = omega arith

pub given_few : (substituting : Bool) (bs : List ℕ) (σ : State) → length (given substituting bs σ) ≤ 1024
unfolding Few
given_few substituting bs σ = lines_few _ (to_the_end Few (listing_line substituting) (line_few substituting) (known [] [] σ) bs (omega arith))
