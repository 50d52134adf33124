-- By which numbers is refused: 1 to 20 at all; a listing by 1, 2, 6, 7 or 8, a sheet by 3 or 4, and a job by one of these. Assumes nothing.
use mathlib.Core.Bool.{Bool, true, false, cond, ◌&&◌}
use mathlib.Core.List.{List, [], ◌∷◌}
use Prim.Native.Nat.{ℕ, ◌≤◌}
use native.Mathlib.Omega.{arith}
use lib.Dec.{ltb, eqb}
use lib.ListN.{length}
use Rattle.expression.specs.declared.refusal.Refusal.{Refusal}
use Rattle.expression.specs.Trees.{Tree, size, depth}
use Rattle.expression.specs.Limits.{largest, deepest}
use Rattle.expression.specs.Refusals.{number_of}
use Rattle.text.specs.Reading.{Read, is, bad}
use Rattle.text.specs.Lines as Lines
use Rattle.text.specs.Letters.{letter}
use Rattle.text.specs.Lines.{Line, Whole, lines, none, above_last}
use Rattle.store.specs.Storing as Storing
use Rattle.store.specs.Storing.{State, state, Answer, gives, among, intern, fresh}
use Rattle.listing.specs.Listings as Listings
use Rattle.listing.specs.Listings.{Listing, Swap, accepted, Known, known, stored, formed, most_nodes, most_swaps, node_line, above_variable, swap_fields, swapped, swap_line, listing_line, rooted, whole, listing}
use Rattle.node_lines.specs.NodeLines.{node_fields}
use Rattle.sheet.specs.Rows as Rows
use Rattle.sheet.specs.Rows.{Rows, rows, variable_line, cell_line, function_line, sheet_line, sheet}
use Rattle.calls.specs.Calls as Calls
use Rattle.calls.specs.Calls.{Job, ready, after_listing, with_sheet, job}
use Rattle.calls.proofs.Lining.{LineHas, WholeHas, by_lines}

-- each refusal has a number from 1 to 20; 0 says that there is none
pub refusal_some : (why : Refusal) → (1 ≤ number_of why) × (number_of why ≤ 20)
refusal_some (Refusal.BadList line) = (omega arith, omega arith)
refusal_some (Refusal.LongList line) = (omega arith, omega arith)
refusal_some (Refusal.BadSheet line) = (omega arith, omega arith)
refusal_some (Refusal.LongSheet line) = (omega arith, omega arith)
refusal_some Refusal.BadLimit = (omega arith, omega arith)
refusal_some Refusal.Big = (omega arith, omega arith)
refusal_some Refusal.Deep = (omega arith, omega arith)
refusal_some Refusal.Room = (omega arith, omega arith)
refusal_some (Refusal.Need operation x y) = (omega arith, omega arith)
refusal_some Refusal.Incomplete = (omega arith, omega arith)
refusal_some Refusal.NotReal = (omega arith, omega arith)
refusal_some Refusal.NotANumber = (omega arith, omega arith)
refusal_some Refusal.OutRoom = (omega arith, omega arith)
refusal_some Refusal.LongTape = (omega arith, omega arith)
refusal_some (Refusal.BadTape step) = (omega arith, omega arith)
refusal_some (Refusal.BadNames line) = (omega arith, omega arith)
refusal_some (Refusal.UnknownName line) = (omega arith, omega arith)
refusal_some Refusal.BadBook = (omega arith, omega arith)
refusal_some (Refusal.Many listing) = (omega arith, omega arith)
refusal_some Refusal.NoText = (omega arith, omega arith)

-- ---- the numbers of each part

pub data OfListing : ℕ → Type 0 where
  one : OfListing 1
  two : OfListing 2
  six : OfListing 6
  seven : OfListing 7
  eight : OfListing 8

pub data OfSheet : ℕ → Type 0 where
  three : OfSheet 3
  four : OfSheet 4

pub data OfJob : ℕ → Type 0 where
  of_listing : {k : ℕ} → OfListing k → OfJob k
  of_sheet : {k : ℕ} → OfSheet k → OfJob k

pub listing_most : {k : ℕ} → OfListing k → k ≤ 8
listing_most one = omega arith
listing_most two = omega arith
listing_most six = omega arith
listing_most seven = omega arith
listing_most eight = omega arith

pub sheet_most : {k : ℕ} → OfSheet k → k ≤ 4
sheet_most three = omega arith
sheet_most four = omega arith

pub job_most : {k : ℕ} → OfJob k → k ≤ 8
job_most (of_listing x) = listing_most x
job_most (of_sheet x) = omega (arith, sheet_most x)

-- ---- a text whose lines are refused by the numbers that `Of` tells

module _ {S : Type 0} (Of : ℕ → Type 0) where
  abbrev LineBy : Line S Refusal → Type 0
  LineBy = LineHas (λ _. Unit {0}) (λ why. Of (number_of why))

  abbrev pub WholeBy : Whole S Refusal → Type 0
  WholeBy = WholeHas (λ _. Unit {0}) (λ why. Of (number_of why))

  either_line : (b : Bool) (x y : Line S Refusal) → LineBy x → LineBy y → LineBy (cond b x y)
  either_line true x y p q = p
  either_line false x y p q = q

  text_by : (line : S → ℕ → List ℕ → Line S Refusal) → ((s : S) (b : ℕ) (bs : List ℕ) → LineBy (line s b bs)) → (s : S) (bs : List ℕ) → WholeBy (lines line s bs)
  text_by line f s bs = by_lines (λ _. Unit {0}) (λ why. Of (number_of why)) line (λ s b bs _. f s b bs) s bs tt

-- ---- a listing: 1, 2, 6, 7, 8

AnswerBy : Answer → Type 0
AnswerBy (gives t s) = Unit {0}
AnswerBy (Storing.refused why s) = OfListing (number_of why)

either_answer : (b : Bool) (x y : Answer) → AnswerBy x → AnswerBy y → AnswerBy (cond b x y)
either_answer true x y p q = p
either_answer false x y p q = q

storing_by : (t : Tree) (s : State) → AnswerBy (intern t s)
unfolding intern AnswerBy
storing_by t (state room ts kept tally) =
    either_answer (among ts t) _ _ tt
    (either_answer (ltb largest (size t)) _ _ six
    (either_answer (ltb deepest (depth t)) _ _ seven
    (either_answer (ltb (length ts) room) _ _ tt eight)))

stored_by : (k : Known) (rest : List ℕ) (a : Answer) → AnswerBy a → LineBy OfListing (stored k rest a)
unfolding stored AnswerBy LineHas
stored_by k rest (gives t s) x = tt
stored_by k rest (Storing.refused why s) x = x

formed_by : (k : Known) (r : Read Tree) → LineBy OfListing (formed k r)
unfolding formed LineHas
formed_by k bad = one
formed_by k (is t rest) = stored_by k rest (intern t k.store) (storing_by t k.store)

swapped_by : (substituting : Bool) (k : Known) (r : Read Swap) → LineBy OfListing (swapped substituting k r)
unfolding swapped LineHas
swapped_by substituting k bad = one
swapped_by substituting k (is s rest) = either_line OfListing (substituting && above_last above_variable k.swaps s) _ _ tt one

listing_line_by : (substituting : Bool) (k : Known) (first : ℕ) (bs : List ℕ) → LineBy OfListing (listing_line substituting k first bs)
unfolding listing_line swap_line node_line LineHas
listing_line_by substituting k first bs =
    either_line OfListing (eqb first (letter "s")) _ _
    (either_line OfListing (ltb (length k.swaps) most_swaps) _ _ (swapped_by substituting k (swap_fields k.nodes first bs)) two)
    (either_line OfListing (ltb (length k.nodes) most_nodes) _ _ (formed_by k (cond (none k.swaps) (node_fields k.nodes first bs) bad)) two)

unfoldable pub ListingBy : Listing → Type 0
ListingBy (accepted root swaps store) = Unit {0}
ListingBy (Listings.refused why) = OfListing (number_of why)

rooted_by : (ts : List Tree) (swaps : List Swap) (store : State) → ListingBy (rooted ts swaps store)
unfolding rooted ListingBy
rooted_by [] swaps store = one
rooted_by (t ∷ ts) swaps store = tt

whole_by : (w : Whole Known Refusal) → WholeBy OfListing w → ListingBy (whole w)
unfolding whole WholeHas ListingBy
whole_by (Lines.read k) x = rooted_by k.nodes k.swaps k.store
whole_by (Lines.refused why) x = x

pub listing_numbers : (substituting : Bool) (bs : List ℕ) (store : State) → ListingBy (listing substituting bs store)
unfolding listing
listing_numbers substituting bs store = whole_by _ (text_by OfListing (listing_line substituting) (listing_line_by substituting) (known [] [] store) bs)

-- ---- a sheet: 3, 4

row_by : {A : Type 0} (s : Rows) (inOrder : A → Bool) (with : A → Rows) (r : Read A) → LineBy OfSheet (Rows.formed s inOrder with r)
unfolding Rows.formed LineHas
row_by s inOrder with bad = three
row_by s inOrder with (is x rest) = either_line OfSheet (inOrder x) _ _ tt three

counted_by : {A : Type 0} (s : Rows) (most : ℕ) (before : List A) (l : Line Rows Refusal) → LineBy OfSheet l → LineBy OfSheet (Rows.counted s most before l)
unfolding Rows.counted LineHas
counted_by s most before l x = either_line OfSheet (ltb (length before) most) _ _ x four

sheet_line_by : (s : Rows) (first : ℕ) (bs : List ℕ) → LineBy OfSheet (sheet_line s first bs)
unfolding sheet_line variable_line cell_line function_line LineHas
sheet_line_by s first bs =
    either_line OfSheet (eqb first (letter "v")) _ _ (counted_by s _ s.variables _ (row_by s _ _ _))
    (either_line OfSheet (eqb first (letter "m")) _ _ (counted_by s _ s.cells _ (row_by s _ _ _))
    (either_line OfSheet (eqb first (letter "t")) _ _ (counted_by s _ s.functions _ (row_by s _ _ _)) three))

pub sheet_numbers : (bs : List ℕ) → WholeBy OfSheet (sheet bs)
unfolding sheet
sheet_numbers bs = text_by OfSheet sheet_line sheet_line_by (rows [] [] []) bs

-- ---- a job: 1, 2, 3, 4, 6, 7, 8

unfoldable pub JobBy : Job → Type 0
JobBy (ready root store rows) = Unit {0}
JobBy (Calls.refused why) = OfJob (number_of why)

sheet_job : (root : Tree) (store : State) (w : Whole Rows Refusal) → WholeBy OfSheet w → JobBy (with_sheet root store w)
unfolding with_sheet WholeHas JobBy
sheet_job root store (Lines.read rows) x = tt
sheet_job root store (Lines.refused why) x = of_sheet x

pub job_numbers : (room : ℕ) (list values : List ℕ) → JobBy (job room list values)
unfolding job after_listing ListingBy JobBy
job_numbers room list values = go (listing false list (fresh room 0)) (listing_numbers false list (fresh room 0))
  where
    go : (l : Listing) → ListingBy l → JobBy (after_listing Calls.refused l λ root swaps store. with_sheet root store (sheet values))
    go (accepted root swaps store) x = sheet_job root store (sheet values) (sheet_numbers values)
    go (Listings.refused why) x = of_listing x
