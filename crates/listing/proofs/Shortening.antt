-- A line of a listing is taken away from the text: the rest is an end of it, and never longer, so that the fuel of `listing` never runs out.
-- Assumes nothing.
use mathlib.Core.List.{List}
use mathlib.Core.Bool.{Bool, cond, ◌&&◌}
use Prim.Native.Nat.{ℕ}
use lib.ListN.{length}
use lib.Dec.{ltb, eqb}
use Rattle.expression.specs.Trees.{Tree}
use Rattle.store.specs.Storing as Storing
use Rattle.store.specs.Storing.{Answer, intern}
use Rattle.text.specs.Letters.{letter}
use Rattle.text.specs.Reading.{Read, is, bad, tab, lf, ended, decimal_field}
use Rattle.text.specs.Lines.{none, above_last}
use Rattle.text.proofs.Shortening.{Resting, no_longer, Remains, RemainsOfLine, AllRemain, rest_cond, rest_line_cond, rest_then, rest_ended, rest_decimal, Shortens}
use Rattle.node_lines.specs.NodeLines.{child_field, node_fields}
use Rattle.node_lines.proofs.Shortening.{child_rest, node_rest}
use Rattle.listing.specs.Listings.{Known, Swap, stored, formed, node_line, swap_fields, above_variable, swapped, swap_line, listing_line}

module _ {To : (bs rest : List ℕ) → Type 0} (w : Resting To) where
  stored_rest : (k : Known) (bs rest : List ℕ) (a : Answer) → To bs rest → RemainsOfLine To bs (stored k rest a)
  unfolding stored
  stored_rest k bs rest (Storing.gives t s) h = h
  stored_rest k bs rest (Storing.refused why s) h = tt

  formed_rest : (k : Known) (bs : List ℕ) (r : Read Tree) → Remains To bs r → RemainsOfLine To bs (formed k r)
  unfolding formed
  formed_rest k bs (is t rest) h = stored_rest k bs rest (intern t k.store) h
  formed_rest k bs bad h = tt

  swapped_rest : (substituting : Bool) (k : Known) (bs : List ℕ) (r : Read Swap) → Remains To bs r → RemainsOfLine To bs (swapped substituting k r)
  unfolding swapped
  swapped_rest substituting k bs (is s rest) h = rest_line_cond To bs (substituting && above_last above_variable k.swaps s) _ _ h tt
  swapped_rest substituting k bs bad h = tt

  fields_rest : (nodes : List Tree) (first : ℕ) (bs : List ℕ) → Remains To bs (swap_fields nodes first bs)
  unfolding swap_fields
  fields_rest nodes first bs =
      rest_then w bs (ended tab (is first bs)) _ (rest_ended w tab bs (is first bs) (w.all bs)) λ _ bs.
      rest_then w bs (decimal_field tab 65536 bs) _ (rest_decimal w tab 65536 bs) λ v bs.
      rest_then w bs (child_field lf nodes bs) _ (child_rest w lf nodes bs) λ t bs.
      w.all bs

  node_line_rest : (k : Known) (b : ℕ) (bs : List ℕ) → RemainsOfLine To bs (node_line k b bs)
  unfolding node_line
  node_line_rest k b bs =
      rest_line_cond To bs (ltb (length k.nodes) 1024) _ _
      (formed_rest k bs (cond (none k.swaps) (node_fields k.nodes b bs) bad) (rest_cond To bs (none k.swaps) (node_fields k.nodes b bs) bad (node_rest w k.nodes b bs) tt)) tt

  swap_line_rest : (substituting : Bool) (k : Known) (b : ℕ) (bs : List ℕ) → RemainsOfLine To bs (swap_line substituting k b bs)
  unfolding swap_line
  swap_line_rest substituting k b bs =
      rest_line_cond To bs (ltb (length k.swaps) 256) _ _ (swapped_rest substituting k bs (swap_fields k.nodes b bs) (fields_rest k.nodes b bs)) tt

  pub listing_rests : (substituting : Bool) → AllRemain To (listing_line substituting)
  unfolding listing_line
  listing_rests substituting k b bs =
      rest_line_cond To bs (eqb b (letter "s")) (swap_line substituting k b bs) (node_line k b bs) (swap_line_rest substituting k b bs) (node_line_rest k b bs)

pub listing_shortens : (substituting : Bool) → Shortens (listing_line substituting)
listing_shortens = listing_rests no_longer
