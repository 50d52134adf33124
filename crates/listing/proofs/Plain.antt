-- A text without `@` is read as before node lines could end in an origin: the definitions as they were then, and that they give the same listing,
-- refusals and their lines included. Assumes nothing.
use mathlib.Core.Path.{◌≡◌, refl, ap, ◌∙◌}
use mathlib.Core.List.{List, [], ◌∷◌}
use mathlib.Core.Bool.{Bool, true, false, cond, ◌&&◌}
use Prim.Native.Nat.{ℕ, zero, suc}
use lib.ListN.{length, get_or}
use lib.Dec.{ltb, eqb}
use Rattle.expression.specs.declared.refusal.Refusal.{Refusal}
use Rattle.expression.specs.Trees.{Tree, leaf, pi}
use Rattle.expression.specs.Limits.{numbers}
use Rattle.store.specs.Storing as Storing
use Rattle.store.specs.Storing.{State, Answer, intern}
use Rattle.text.specs.Letters.{letter}
use Rattle.text.specs.Reading.{Read, is, bad, then, tab, lf, ended, decimal, decimal_field}
use Rattle.text.specs.Lines.{Line, goes, stops, Whole, at_line, after_line, lines_by, lines, none, above_last}
use Rattle.node_lines.specs.NodeLines.{child_by, child_field, line_by, node_fields}
use Rattle.node_lines.proofs.BesideLine.{Rest, rest_decimal, rest_ended}
use Rattle.node_lines.proofs.Plain.{NoAt, no_at_tail, plain_line_lem, rest_plain}
use Rattle.listing.specs.Listings.{Known, known, line_number, Swap, swap, stored, formed, most_nodes, node_line, swap_fields, above_variable, swapped, swap_line, listing_line, whole, listing, lines_of, given}

-- ---- the definitions as they were

unfoldable pub plain_node_line : Known → (first : ℕ) → List ℕ → Line Known Refusal
plain_node_line k first bs =
    cond (ltb (length k.nodes) most_nodes)
    (formed k (cond (none k.swaps) (line_by (ended lf) k.nodes first bs) bad))
    (stops (Refusal.LongList (line_number k)))

unfoldable pub plain_line : (substituting : Bool) → Known → (first : ℕ) → List ℕ → Line Known Refusal
plain_line substituting k first bs = cond (eqb first (letter "s")) (swap_line substituting k first bs) (plain_node_line k first bs)

-- ---- a text whose lines are read alike

-- the rest after a line has no `@`
abbrev RestLine : {S R : Type 0} → Line S R → Type 0
RestLine (goes s rest) = NoAt rest
RestLine (stops why) = Unit {0}

module _ {S R : Type 0} where
  rest_line_cond : (b : Bool) (l l' : Line S R) → RestLine l → RestLine l' → RestLine (cond b l l')
  rest_line_cond true l l' p q = p
  rest_line_cond false l l' p q = q

  after_alike : (l l' : Line S R) (m n : S → List ℕ → Whole S R) → l ≡ l' → RestLine l → ((s : S) (rest : List ℕ) → NoAt rest → m s rest ≡ n s rest)
      → after_line l m ≡ after_line l' n
  unfolding after_line
  after_alike (goes s rest) l' m n e p h = h s rest p ∙ ap (λ l. after_line l n) e
  after_alike (stops why) l' m n e p h = ap (λ l. after_line l n) e

  module _ {line line' : S → ℕ → List ℕ → Line S R} (same : (s : S) (b : ℕ) (bs : List ℕ) → NoAt (b ∷ bs) → line s b bs ≡ line' s b bs)
      (rest : (s : S) (b : ℕ) (bs : List ℕ) → NoAt (b ∷ bs) → RestLine (line s b bs)) where
    by_alike : (fuel : ℕ) (s : S) (bs : List ℕ) → NoAt bs → lines_by fuel line s bs ≡ lines_by fuel line' s bs
    unfolding lines_by at_line
    by_alike zero s bs p = refl
    by_alike (suc fuel) s [] p = refl
    by_alike (suc fuel) s (b ∷ bs) p = after_alike (line s b bs) (line' s b bs) _ _ (same s b bs p) (rest s b bs p) λ s rest p. by_alike fuel s rest p

    lines_alike : (s : S) (bs : List ℕ) → NoAt bs → lines line s bs ≡ lines line' s bs
    unfolding lines
    lines_alike s bs p = by_alike (length bs) s bs p

-- ---- what stands after a line of the listing has no `@` either

rest_then : {A B : Type 0} (r : Read A) (g : A → List ℕ → Read B) → Rest NoAt r → ((x : A) (rest : List ℕ) → NoAt rest → Rest NoAt (g x rest)) → Rest NoAt (then r g)
unfolding then
rest_then (is x rest) g p h = h x rest p
rest_then bad g p h = tt

child_rest : (nodes : List Tree) (bs : List ℕ) → NoAt bs → Rest NoAt (child_field lf nodes bs)
unfolding child_by
child_rest nodes bs p =
    rest_then (ended lf (decimal (length nodes) bs)) (λ i bs. is (get_or nodes i (leaf pi)) bs) (rest_ended no_at_tail lf (decimal (length nodes) bs) (rest_decimal no_at_tail (length nodes) bs p)) λ i rest q. q

swap_rest : (nodes : List Tree) (first : ℕ) (bs : List ℕ) → NoAt bs → Rest NoAt (swap_fields nodes first bs)
unfolding swap_fields
swap_rest nodes first bs p =
    rest_then (ended tab (is first bs)) _ (rest_ended no_at_tail tab (is first bs) p) λ _ bs p.
    rest_then (decimal_field tab numbers bs) _ (rest_ended no_at_tail tab (decimal numbers bs) (rest_decimal no_at_tail numbers bs p)) λ v bs p.
    rest_then (child_field lf nodes bs) (λ t bs. is (swap v t) bs) (child_rest nodes bs p) λ t bs p. p

swapped_rest : (substituting : Bool) (k : Known) (r : Read Swap) → Rest NoAt r → RestLine (swapped substituting k r)
unfolding swapped
swapped_rest substituting k (is s rest) p = rest_line_cond (substituting && above_last above_variable k.swaps s) _ _ p tt
swapped_rest substituting k bad p = tt

stored_rest : (k : Known) (rest : List ℕ) (a : Answer) → NoAt rest → RestLine (stored k rest a)
unfolding stored
stored_rest k rest (Storing.gives t s) p = p
stored_rest k rest (Storing.refused why s) p = tt

formed_rest : (k : Known) (b : Bool) (r : Read Tree) → Rest NoAt r → RestLine (formed k (cond b r bad))
unfolding formed
formed_rest k true (is t rest) p = stored_rest k rest (intern t k.store) p
formed_rest k true bad p = tt
formed_rest k false r p = tt

node_rest : (nodes : List Tree) (first : ℕ) (bs : List ℕ) → NoAt bs → Rest NoAt (node_fields nodes first bs)
node_rest nodes first bs p = go (node_fields nodes first bs) refl
  where
    go : (r : Read Tree) → node_fields nodes first bs ≡ r → Rest NoAt r
    go (is t rest) e = rest_plain nodes first bs e p
    go bad e = tt

line_rest : (substituting : Bool) (k : Known) (first : ℕ) (bs : List ℕ) → NoAt (first ∷ bs) → RestLine (listing_line substituting k first bs)
unfolding listing_line swap_line node_line
line_rest substituting k first bs p =
    rest_line_cond (eqb first (letter "s")) _ _
    (rest_line_cond (ltb (length k.swaps) 256) _ _ (swapped_rest substituting k (swap_fields k.nodes first bs) (swap_rest k.nodes first bs p.1)) tt)
    (rest_line_cond (ltb (length k.nodes) 1024) _ _ (formed_rest k (none k.swaps) (node_fields k.nodes first bs) (node_rest k.nodes first bs p.1)) tt)

-- ---- so it is read as it was

pub plain_listing_line : (substituting : Bool) (k : Known) (first : ℕ) (bs : List ℕ) → NoAt bs → listing_line substituting k first bs ≡ plain_line substituting k first bs
unfolding listing_line plain_line node_line plain_node_line
plain_listing_line substituting k first bs p = rw (plain_line_lem k.nodes first bs p) refl

pub plain_lines : (substituting : Bool) (k : Known) (bs : List ℕ) → NoAt bs → lines (listing_line substituting) k bs ≡ lines (plain_line substituting) k bs
plain_lines substituting k bs p =
    lines_alike (λ k first bs p. plain_listing_line substituting k first bs p.1) (line_rest substituting) k bs p

pub plain_listing : (substituting : Bool) (bs : List ℕ) (σ : State) → NoAt bs → listing substituting bs σ ≡ whole (lines (plain_line substituting) (known [] [] σ) bs)
unfolding listing
plain_listing substituting bs σ p = ap whole (plain_lines substituting (known [] [] σ) bs p)

pub plain_given : (substituting : Bool) (bs : List ℕ) (σ : State) → NoAt bs → given substituting bs σ ≡ lines_of (lines (plain_line substituting) (known [] [] σ) bs)
plain_given substituting bs σ p = ap lines_of (plain_lines substituting (known [] [] σ) bs p)
