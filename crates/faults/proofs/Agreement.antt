-- What the faults say of a text that is refused: the line that the refusal names is there, the reader that has taken the lines before it does not take it,
-- and the fault is told of that line. Assumes nothing.
use mathlib.Core.Path.{◌≡◌, refl, sym, ap, ◌∙◌}
use mathlib.Core.List.{List, [], ◌∷◌, ◌++◌}
use mathlib.Core.Bool.{Bool, true, false, cond, ◌&&◌}
use Prim.Native.Nat.{ℕ, zero, suc, ◌≤◌, ◌<◌}
use native.Mathlib.Omega.{arith}
use native.Mathlib.Decide.{ℕ_discrete}
use lib.ListN.{length}
use lib.Dec.{ltb}
use borrow.Author.Tests.{eq-eqb, ne_eqb}
use Rattle.expression.specs.declared.refusal.Refusal.{Refusal}
use Rattle.expression.specs.Trees.{Tree, size, depth}
use Rattle.expression.specs.Limits.{largest, deepest, indices}
use Rattle.store.specs.Storing as Storing
use Rattle.store.specs.Storing.{State, state, among, intern}
use Rattle.node_lines.specs.NodeLines.{node_fields}
use Rattle.listing.specs.Listings as Listings
use Rattle.listing.specs.Listings.{Known, known, Swap, above_variable, stored, formed, swap_fields, swapped, swap_line, node_line, listing_line, most_nodes, most_swaps, line_number, rooted, whole, listing}
use Rattle.text.specs.Letters.{letter}
use Rattle.text.specs.Reading.{Read, is, bad}
use Rattle.text.specs.Lines as Lines
use Rattle.text.specs.Lines.{Line, goes, stops, Whole, at_line, lines_by, lines, none, above_last}
use Rattle.sheet.specs.Rows as Rows
use Rattle.sheet.specs.Rows.{rows, fields_after, sheet_line, sheet}
use Rattle.faults.specs.declared.Fault.{Fault}
use Rattle.faults.specs.Faulting.{listing_form, sheet_form, fault_in, line_fault, from_line, listing_fault, sheet_fault}
use Rattle.faults.proofs.Places.{Next, refused_at, ends_at, listing_feedless, sheet_feedless}
use Rattle.faults.proofs.Telling.{nothing_left}
use Rattle.faults.proofs.Passing.{Taken, Stops}
use Rattle.faults.proofs.Feeding.{line_fed, at_fed}
use Rattle.faults.proofs.ListingLines.{listing_took, listing_refused, node_taken}
use Rattle.faults.proofs.SheetLines.{Goes, sheet_took, sheet_refused, sheet_goes}

-- two lines that differ in kind, and a line that is named
differ : {A S R : Type 0} {s : S} {rest : List ℕ} {why : R} → goes s rest ≡ stops why → A
differ e = let z : ◌≡◌ {A = ℕ} 0 1 = cc in absurd (omega arith)

-- ---- a sheet

abbrev Any : Rows.Rows → Type 0
Any s = Unit {0}

sheet_next : (before : Rows.Rows) (b : ℕ) (bs : List ℕ) (after : Rows.Rows) (rest : List ℕ) → Any before → sheet_line before b bs ≡ goes after rest
    → Next Rows.line_number Any before after (b ∷ bs) rest
sheet_next before b bs after rest f e =
    let t = sheet_took before b bs e in
    let h = sheet_feedless b (b ∷ bs) in
    record { ends = ends_at t.passes h.0 h.1; one = t.line; fine = tt }

-- the fault of a line that is there
sheet_told : (text : List ℕ) (k first : ℕ) (rest : List ℕ) → from_line k text ≡ first ∷ rest → sheet_fault text k ≡ fault_in (sheet_form first (first ∷ rest)) (first ∷ rest)
unfolding sheet_fault line_fault
sheet_told text k first rest e = rw e

module _ (s : Rows.Rows) {k : ℕ} where
  long_sheet : {A : Type 0} {n : ℕ} → ◌≡◌ {A = Line Rows.Rows Refusal} (stops (Refusal.LongSheet n)) (stops (Refusal.BadSheet k)) → A
  long_sheet e = let z : ◌≡◌ {A = ℕ} 0 1 = cc in absurd (omega arith)

  bad_formed : {A : Type 0} (inOrder : A → Bool) (with : A → Rows.Rows) (r : Read A) → Rows.formed s inOrder with r ≡ stops (Refusal.BadSheet k) → Rows.line_number s ≡ k
  unfolding Rows.formed
  bad_formed inOrder with bad e = cc
  bad_formed inOrder with (is x rest) e = go (inOrder x) e
    where
      go : (b : Bool) → cond b (goes (with x) rest) (stops (Refusal.BadSheet (Rows.line_number s))) ≡ stops (Refusal.BadSheet k) → Rows.line_number s ≡ k
      go true e = differ e
      go false e = cc

  bad_counted : {A B : Type 0} (most : ℕ) (those : List B) (inOrder : A → Bool) (with : A → Rows.Rows) (r : Read A)
      → Rows.counted s most those (Rows.formed s inOrder with r) ≡ stops (Refusal.BadSheet k) → Rows.line_number s ≡ k
  unfolding Rows.counted
  bad_counted most those inOrder with r e = go (ltb (length those) most) e
    where
      go : (b : Bool) → cond b (Rows.formed s inOrder with r) (stops (Refusal.LongSheet (Rows.line_number s))) ≡ stops (Refusal.BadSheet k) → Rows.line_number s ≡ k
      go true e = bad_formed inOrder with r e
      go false e = long_sheet e

  bad_sheet : (first : ℕ) (bs : List ℕ) → sheet_line s first bs ≡ stops (Refusal.BadSheet k) → Rows.line_number s ≡ k
  unfolding sheet_line Rows.variable_line Rows.cell_line Rows.function_line
  bad_sheet first bs e = elim (ℕ_discrete first 118) [
    | yes q ↦ bad_counted 256 s.variables _ _ (fields_after first bs Rows.variable_fields) (rw (eq-eqb first 118 q) at e)
    | no v ↦ elim (ℕ_discrete first 109) [
      | yes q ↦ bad_counted 1024 s.cells _ _ (fields_after first bs Rows.cell_fields) (rw (ne_eqb first 118 v, eq-eqb first 109 q) at e)
      | no m ↦ elim (ℕ_discrete first 116) [
        | yes q ↦ bad_counted 256 s.functions _ _ (fields_after first bs Rows.row_fields) (rw (ne_eqb first 118 v, ne_eqb first 109 m, eq-eqb first 116 q) at e)
        | no n ↦ let f = rw (ne_eqb first 118 v, ne_eqb first 109 m, ne_eqb first 116 n) at e in cc
      ]
    ]
  ]

-- a line of a sheet that is refused, and its fault
pub record SheetLine (text : List ℕ) (k : ℕ) : Type 0 where
  pub known : Rows.Rows
  pub first : ℕ
  pub rest : List ℕ
  pub there : from_line k text ≡ first ∷ rest
  pub number : Rows.line_number known ≡ k
  pub not_taken : sheet_line known first rest ≡ stops (Refusal.BadSheet k)
  pub fault : sheet_fault text k ≡ fault_in (sheet_form first (first ∷ rest)) (first ∷ rest)

pub sheet_fault_of : (text : List ℕ) (k : ℕ) → sheet text ≡ Lines.refused (Refusal.BadSheet k) → SheetLine text k
unfolding sheet
sheet_fault_of text k e =
    let r = refused_at sheet_line Rows.line_number Any sheet_next (Refusal.BadSheet k) (rows [] [] []) text tt e in
    let n = bad_sheet r.known r.first r.rest r.stop in
    let m : r.taken ≡ k = omega (arith, r.counted, n) in
    let t : from_line k text ≡ r.first ∷ r.rest = rw m at r.there in
    record { known = r.known; first = r.first; rest = r.rest; there = t; number = n; not_taken = r.stop; fault = sheet_told text k r.first r.rest t }

-- ---- a listing

abbrev Few : Known → Type 0
Few k = length k.nodes ≤ most_nodes

listing_next : (substituting : Bool) (before : Known) (b : ℕ) (bs : List ℕ) (after : Known) (rest : List ℕ) → Few before → listing_line substituting before b bs ≡ goes after rest
    → Next line_number Few before after (b ∷ bs) rest
listing_next substituting before b bs after rest f e =
    let t = listing_took substituting before b bs f e in
    let h = listing_feedless b (b ∷ bs) in
    record { ends = ends_at t.passes h.0 h.1; one = t.line; fine = t.few }

listing_told : (text : List ℕ) (k first : ℕ) (rest : List ℕ) → from_line k text ≡ first ∷ rest → listing_fault text k ≡ fault_in (listing_form first (first ∷ rest)) (first ∷ rest)
unfolding listing_fault line_fault
listing_told text k first rest e = rw e

module _ (s : Known) {k : ℕ} where
  -- what storing refuses, it refuses by another number
  bad_stored : {A : Type 0} (rest : List ℕ) (t : Tree) (store : State) → stored s rest (intern t store) ≡ stops (Refusal.BadList k) → A
  unfolding stored intern
  bad_stored {A} rest t (state room trees kept tally) e = go (among trees t) (ltb largest (size t)) (ltb deepest (depth t)) (ltb (length trees) room) e
    where
      go : (a b c d : Bool)
          → stored s rest
          (cond a (Storing.gives t (state room trees kept tally))
          (cond b (Storing.refused Refusal.Big (state room trees kept tally))
          (cond c (Storing.refused Refusal.Deep (state room trees kept tally))
          (cond d (Storing.gives t (state room (trees ++ (t ∷ [])) kept tally)) (Storing.refused Refusal.Room (state room trees kept tally))))))
          ≡ stops (Refusal.BadList k) → A
      go true b c d e = differ e
      go false true c d e = let z : ◌≡◌ {A = ℕ} 0 1 = cc in absurd (omega arith)
      go false false true d e = let z : ◌≡◌ {A = ℕ} 0 1 = cc in absurd (omega arith)
      go false false false true e = differ e
      go false false false false e = let z : ◌≡◌ {A = ℕ} 0 1 = cc in absurd (omega arith)

  bad_node : (r : Read Tree) → formed s r ≡ stops (Refusal.BadList k) → line_number s ≡ k
  unfolding formed
  bad_node (is t rest) e = bad_stored rest t s.store e
  bad_node bad e = cc

  bad_swap : (substituting : Bool) (r : Read Swap) → swapped substituting s r ≡ stops (Refusal.BadList k) → line_number s ≡ k
  unfolding swapped
  bad_swap substituting (is x rest) e = go (substituting && above_last above_variable s.swaps x) e
    where
      go : (b : Bool) → cond b (goes (known s.nodes (s.swaps ++ (x ∷ [])) s.store) rest) (stops (Refusal.BadList (line_number s))) ≡ stops (Refusal.BadList k) → line_number s ≡ k
      go true e = differ e
      go false e = cc
  bad_swap substituting bad e = cc

  not_long : {l : Line Known Refusal} (b : Bool) → (l ≡ stops (Refusal.BadList k) → line_number s ≡ k) → cond b l (stops (Refusal.LongList (line_number s))) ≡ stops (Refusal.BadList k)
      → line_number s ≡ k
  not_long true on e = on e
  not_long false on e = let z : ◌≡◌ {A = ℕ} 0 1 = cc in absurd (omega arith)

  bad_list : (substituting : Bool) (first : ℕ) (bs : List ℕ) → listing_line substituting s first bs ≡ stops (Refusal.BadList k) → line_number s ≡ k
  unfolding listing_line swap_line node_line
  bad_list substituting first bs e = elim (ℕ_discrete first 115) [
    | yes q ↦ not_long (ltb (length s.swaps) most_swaps) (bad_swap substituting (swap_fields s.nodes first bs)) (rw (eq-eqb first 115 q) at e)
    | no n ↦ not_long (ltb (length s.nodes) most_nodes) (bad_node (cond (none s.swaps) (node_fields s.nodes first bs) bad)) (rw (ne_eqb first 115 n) at e)
  ]

-- a line of a listing that is refused, and its fault
pub record ListingLine (substituting : Bool) (text : List ℕ) (k : ℕ) : Type 0 where
  pub known : Known
  pub first : ℕ
  pub rest : List ℕ
  pub there : from_line k text ≡ first ∷ rest
  pub number : line_number known ≡ k
  pub not_taken : listing_line substituting known first rest ≡ stops (Refusal.BadList k)
  pub fault : listing_fault text k ≡ fault_in (listing_form first (first ∷ rest)) (first ∷ rest)

pub listing_fault_of : (substituting : Bool) (text : List ℕ) (k : ℕ) (store : State) → lines (listing_line substituting) (known [] [] store) text ≡ Lines.refused (Refusal.BadList k)
    → ListingLine substituting text k
listing_fault_of substituting text k store e =
    let r = refused_at (listing_line substituting) line_number Few (listing_next substituting) (Refusal.BadList k) (known [] [] store) text (omega arith) e in
    let n = bad_list r.known substituting r.first r.rest r.stop in
    let m : r.taken ≡ k = omega (arith, r.counted, n) in
    let t : from_line k text ≡ r.first ∷ r.rest = rw m at r.there in
    record { known = r.known; first = r.first; rest = r.rest; there = t; number = n; not_taken = r.stop; fault = listing_told text k r.first r.rest t }

-- where lines are read, one of a node is: the first
module _ (substituting : Bool) {k : Known} where
  refused_not_read : {A : Type 0} {why : Refusal} → ◌≡◌ {A = Whole Known Refusal} (Lines.refused why) (Lines.read k) → A
  refused_not_read e = let z : ◌≡◌ {A = ℕ} 0 1 = cc in absurd (omega arith)

  node_after : (line : Line Known Refusal) (fuel : ℕ) (before : Known) (b : ℕ) (bs : List ℕ) → Few before → listing_line substituting before b bs ≡ line
      → ((after : Known) (rest : List ℕ) → Few after → 0 < length after.nodes → lines_by fuel (listing_line substituting) after rest ≡ Lines.read k → 0 < length k.nodes)
      → Lines.after_line line (λ s rest. lines_by fuel (listing_line substituting) s rest) ≡ Lines.read k → 0 < length k.nodes
  unfolding Lines.after_line
  node_after (goes after rest) fuel before b bs f q on e = let t = listing_took substituting before b bs f q in on after rest t.few t.some e
  node_after (stops why) fuel before b bs f q on e = refused_not_read e

  some_node : (fuel : ℕ) (before : Known) (bs : List ℕ) → Few before → 0 < length before.nodes → lines_by fuel (listing_line substituting) before bs ≡ Lines.read k → 0 < length k.nodes
  unfolding lines_by at_line
  some_node zero before bs f h e = let q : before ≡ k = cc in rw q at h
  some_node (suc fuel) before [] f h e = let q : before ≡ k = cc in rw q at h
  some_node (suc fuel) before (b ∷ bs) f h e =
      node_after (listing_line substituting before b bs) fuel before b bs f refl (λ after rest g i e. some_node fuel after rest g i e) e

  first_node : (fuel : ℕ) (before : Known) (b : ℕ) (bs : List ℕ) → Few before → lines_by (suc fuel) (listing_line substituting) before (b ∷ bs) ≡ Lines.read k → 0 < length k.nodes
  unfolding lines_by at_line
  first_node fuel before b bs f e = node_after (listing_line substituting before b bs) fuel before b bs f refl (λ after rest g i e. some_node fuel after rest g i e) e

-- a listing that is refused at a line: it has that line, or it is empty
pub data Explained (substituting : Bool) (text : List ℕ) (k : ℕ) : Type 0 where
  empty : text ≡ [] → listing_fault text k ≡ Fault.NoLine → Explained substituting text k
  at_line_lem : ListingLine substituting text k → Explained substituting text k

no_text : (substituting : Bool) (text : List ℕ) (k : ℕ) → text ≡ [] → Explained substituting text k
unfolding listing_fault line_fault
no_text substituting text k q = empty q (rw (q, nothing_left k))

no_root : {A : Type 0} (nodes : List Tree) (swaps : List Swap) (s : State) {why : Refusal} → 0 < length nodes → rooted nodes swaps s ≡ Listings.refused why → A
unfolding rooted
no_root [] swaps s h e = absurd (omega arith)
no_root (t ∷ ts) swaps s h e = let z : ◌≡◌ {A = ℕ} 0 1 = cc in absurd (omega arith)

pub listing_explained : (substituting : Bool) (text : List ℕ) (k : ℕ) (store : State) → listing substituting text store ≡ Listings.refused (Refusal.BadList k)
    → Explained substituting text k
unfolding listing whole lines
listing_explained substituting [] k store e = no_text substituting [] k refl
listing_explained substituting (b ∷ bs) k store e = go (lines (listing_line substituting) (known [] [] store) (b ∷ bs)) refl e
  where
    go : (w : Whole Known Refusal) → lines (listing_line substituting) (known [] [] store) (b ∷ bs) ≡ w → whole w ≡ Listings.refused (Refusal.BadList k) → Explained substituting (b ∷ bs) k
    go (Lines.read s) q e = no_root s.nodes s.swaps s.store (first_node substituting (length bs) (known [] [] store) b bs (omega arith) q) e
    go (Lines.refused why) q e =
        let y : why ≡ Refusal.BadList k = cc in
        at_line_lem (listing_fault_of substituting (b ∷ bs) k store (q ∙ ap Lines.refused y))

-- ---- what a fault says of the line that is there

module _ (text : List ℕ) (k first : ℕ) (rest : List ℕ) (there : from_line k text ≡ first ∷ rest) where
  -- any but Order: the line is taken nowhere
  pub never_in_a_listing : (listing_fault text k ≡ Fault.Order → ⊥) → (substituting : Bool) (before : Known) → length before.nodes ≤ most_nodes → Stops (listing_line substituting before first rest)
  never_in_a_listing n substituting before few = listing_refused substituting before first rest few λ e. n (listing_told text k first rest there ∙ e)

  pub never_in_a_sheet : (sheet_fault text k ≡ Fault.Order → ⊥) → (before : Rows.Rows) → Stops (sheet_line before first rest)
  never_in_a_sheet n before = sheet_refused before first rest λ e. n (sheet_told text k first rest there ∙ e)

  -- Order: the line is taken elsewhere, that of a node after enough others, that of a sheet as the first
  pub elsewhere_in_a_listing : listing_fault text k ≡ Fault.Order → (first ≡ letter "s" → ⊥) → (earlier : List Tree) → indices ≤ length earlier → Taken (node_fields earlier first rest)
  elsewhere_in_a_listing e n earlier enough = node_taken earlier enough first rest n (sym (listing_told text k first rest there) ∙ e)

  pub elsewhere_in_a_sheet : sheet_fault text k ≡ Fault.Order → Goes (sheet_line (rows [] [] []) first rest)
  elsewhere_in_a_sheet e = sheet_goes first rest (sym (sheet_told text k first rest there) ∙ e)

  -- NoLineFeed: with a line feed after it all its fields read
  pub fed_in_a_listing : listing_fault text k ≡ Fault.NoLineFeed → fault_in (listing_form first (first ∷ (rest ++ (10 ∷ [])))) (first ∷ (rest ++ (10 ∷ []))) ≡ Fault.Order
  unfolding listing_form
  fed_in_a_listing e =
      rw (at_fed (first ∷ rest))
      (line_fed (listing_form first (first ∷ rest)) (first ∷ rest) (listing_feedless first (first ∷ rest)).0 (sym (listing_told text k first rest there) ∙ e))

  pub fed_in_a_sheet : sheet_fault text k ≡ Fault.NoLineFeed → fault_in (sheet_form first (first ∷ rest)) (first ∷ (rest ++ (10 ∷ []))) ≡ Fault.Order
  fed_in_a_sheet e = line_fed (sheet_form first (first ∷ rest)) (first ∷ rest) (sheet_feedless first (first ∷ rest)).0 (sym (sheet_told text k first rest there) ∙ e)
