-- With room for 1024 nodes no listing is refused by 8, since it has at most 1024 node lines and each of them stores at most one node. So evaluating,
-- reading as a real and compiling, which store nothing else, answer the same with any such room. Assumes nothing.
use mathlib.Core.Path.{◌≡◌, refl, sym, ◌∙◌, subst}
use mathlib.Core.Bool.{Bool, true, false, cond, ◌&&◌}
use mathlib.Core.List.{List, [], ◌∷◌}
use Prim.Native.Nat.{ℕ, suc, ◌≤◌, ◌<◌}
use native.Mathlib.Omega.{arith}
use borrow.Author.Tests.{ltb-false, ltb-true}
use lib.Dec.{ltb, eqb}
use lib.ListN.{length, length-append}
use Rattle.std.specs.Prelude.{Err}
use Rattle.expression.specs.declared.refusal.Refusal.{Refusal}
use Rattle.expression.specs.Trees.{Tree, size, depth}
use Rattle.expression.specs.Limits.{largest, deepest}
use Rattle.expression.specs.Refusals.{number_of}
use Rattle.text.specs.Reading.{Read, is, bad}
use Rattle.text.specs.Lines as Lines
use Rattle.text.specs.Lines.{Line, Whole, lines, none, above_last}
use Rattle.store.specs.Storing as Storing
use Rattle.store.specs.Storing.{State, state, Answer, gives, among, intern, fresh}
use Rattle.listing.specs.Listings as Listings
use Rattle.listing.specs.Listings.{Listing, Swap, accepted, Known, known, stored, formed, most_nodes, most_swaps, node_line, above_variable, swap_fields, swapped, swap_line, listing_line, rooted, whole, listing}
use Rattle.node_lines.specs.NodeLines.{node_fields}
use Rattle.sheet.specs.Rows.{Rows, sheet}
use Rattle.evaluation.specs.Reals.{to_real}
use Rattle.tape.specs.Tapes.{compiled}
use Rattle.calls.specs.Calls as Calls
use Rattle.calls.specs.Calls.{after_listing, with_sheet, job, evaluate_job, evaluate_call, to_real_call, compile_call}
use Rattle.calls.specs.Marks.{evaluate_job_marks, evaluate_marks}
use Rattle.calls.proofs.Lining.{LineHas, WholeHas, by_lines}
use Rattle.calls.proofs.Stored.{stored_in, room_in}
use Rattle.calls.proofs.Rooms.{ListingBeside, full, both_accepted, both_refused_by, more_room}

-- ---- a listing

abbrev NotFull : Refusal → Type 0
NotFull why = number_of why ≡ 8 → ⊥

module _ (room : ℕ) (ample : 1024 ≤ room) where
  -- no more trees are stored than node lines were read
  record Few (k : Known) : Type 0 where
    pub roomy : room_in k.store ≡ room
    pub few : length (stored_in k.store) ≤ length k.nodes

  -- storing a tree leaves at most so many, and is not refused by 8
  Stores : ℕ → Answer → Type 0
  Stores most (gives t s) = (room_in s ≡ room) × (length (stored_in s) ≤ most)
  Stores most (Storing.refused why s) = NotFull why

  either_answer : (most : ℕ) (b : Bool) (x y : Answer) → Stores most x → (b ≡ false → Stores most y) → Stores most (cond b x y)
  either_answer most true x y p q = p
  either_answer most false x y p q = q refl

  stores_one : (t : Tree) (s : State) (n : ℕ) → room_in s ≡ room → length (stored_in s) ≤ n → n < 1024 → Stores (suc n) (intern t s)
  unfolding intern stored_in room_in Stores
  stores_one t (state r ts kept tally) n e few l =
      either_answer (suc n) (among ts t) _ _ (e, omega (arith, few)) λ _.
      either_answer (suc n) (ltb largest (size t)) _ _ (λ z. omega (arith, z)) λ _.
      either_answer (suc n) (ltb deepest (depth t)) _ _ (λ z. omega (arith, z)) λ _.
      either_answer (suc n) (ltb (length ts) r) _ _ (e, omega (arith, few, length-append ts (t ∷ []))) λ f.
      absurd (omega (arith, ltb-false (length ts) r f, e, few, l, ample))

  abbrev Lined : Line Known Refusal → Type 0
  Lined = LineHas Few NotFull

  either_line : (b : Bool) (x y : Line Known Refusal) → (b ≡ true → Lined x) → Lined y → Lined (cond b x y)
  either_line true x y p q = p refl
  either_line false x y p q = q

  stored_few : (k : Known) (rest : List ℕ) (a : Answer) → Stores (suc (length k.nodes)) a → Lined (stored k rest a)
  unfolding stored Stores LineHas
  stored_few k rest (gives t s) x = record { roomy = x.0; few = omega (arith, x.1, length-append k.nodes (t ∷ [])) }
  stored_few k rest (Storing.refused why s) x = x

  formed_few : (k : Known) (r : Read Tree) → Few k → length k.nodes < 1024 → Lined (formed k r)
  unfolding formed LineHas
  formed_few k bad g l = λ z. omega (arith, z)
  formed_few k (is t rest) g l = stored_few k rest (intern t k.store) (stores_one t k.store (length k.nodes) g.roomy g.few l)

  swapped_few : (substituting : Bool) (k : Known) (r : Read Swap) → Few k → Lined (swapped substituting k r)
  unfolding swapped LineHas
  swapped_few substituting k bad g = λ z. omega (arith, z)
  swapped_few substituting k (is s rest) g =
      either_line (substituting && above_last above_variable k.swaps s) _ _ (λ _. record { roomy = g.roomy; few = g.few }) λ z. omega (arith, z)

  line_few : (substituting : Bool) (k : Known) (first : ℕ) (bs : List ℕ) → Few k → Lined (listing_line substituting k first bs)
  unfolding listing_line swap_line node_line LineHas
  line_few substituting k first bs g =
      either_line (eqb first 115) _ _
      (λ _. either_line (ltb (length k.swaps) most_swaps) _ _ (λ _. swapped_few substituting k (swap_fields k.nodes first bs) g) λ z. omega (arith, z))
      (either_line (ltb (length k.nodes) most_nodes) _ _
      (λ e. formed_few k (cond (none k.swaps) (node_fields k.nodes first bs) bad) g (ltb-true (length k.nodes) most_nodes e)) λ z. omega (arith, z))

  unfoldable Listed : Listing → Type 0
  Listed (accepted root swaps store) = Unit {0}
  Listed (Listings.refused why) = NotFull why

  rooted_few : (ts : List Tree) (swaps : List Swap) (store : State) → Listed (rooted ts swaps store)
  unfolding rooted Listed
  rooted_few [] swaps store = λ z. omega (arith, z)
  rooted_few (t ∷ ts) swaps store = tt

  whole_few : (w : Whole Known Refusal) → WholeHas Few NotFull w → Listed (whole w)
  unfolding whole WholeHas Listed
  whole_few (Lines.read k) x = rooted_few k.nodes k.swaps k.store
  whole_few (Lines.refused why) x = x

  -- no listing, with s lines or without, is refused by 8
  pub never_full : (substituting : Bool) (bs : List ℕ) → listing substituting bs (fresh room 0) ≡ Listings.refused Refusal.Room → ⊥
  unfolding listing stored_in room_in Listed
  never_full substituting bs e =
      subst Listed e
      (whole_few _ (by_lines Few NotFull (listing_line substituting) (line_few substituting) (known [] [] (fresh room 0)) bs (record { roomy = refl; few = omega arith })))
      refl

-- ---- what looks at the root of a listing alone

module _ {A : Type 0} (f : Listing → A) (rootwise : (root : Tree) (swaps : List Swap) (s s' : State) → f (accepted root swaps s) ≡ f (accepted root swaps s'))
    (list : List ℕ) where
  beside : (l l' : Listing) → (l ≡ Listings.refused Refusal.Room → ⊥) → ListingBeside l l' → f l ≡ f l'
  beside l l' n full = absurd (n refl)
  beside l l' n (both_accepted root swaps) = rootwise root swaps _ _
  beside l l' n (both_refused_by why) = refl

  from_1024 : (room : ℕ) → 1024 ≤ room → f (listing false list (fresh 1024 0)) ≡ f (listing false list (fresh room 0))
  from_1024 room ample = beside _ _ (never_full 1024 (omega arith) false list) (more_room false list 1024 room ample)

  pub alike : (room room' : ℕ) → 1024 ≤ room → 1024 ≤ room' → f (listing false list (fresh room 0)) ≡ f (listing false list (fresh room' 0))
  alike room room' ample ample' = sym (from_1024 room ample) ∙ from_1024 room' ample'

-- ---- the calls

module _ (room room' : ℕ) (ample : 1024 ≤ room) (ample' : 1024 ≤ room') (list : List ℕ) where
  pub evaluate_alike : (values : List ℕ) → evaluate_call room list values ≡ evaluate_call room' list values
  unfolding job after_listing with_sheet evaluate_job
  evaluate_alike values = alike (λ l. evaluate_job (after_listing Calls.refused l λ root swaps store. with_sheet root store (sheet values))) (λ root swaps s s'. go root s s' (sheet values)) list room room' ample ample'
    where
      go : (root : Tree) (s s' : State) (w : Whole Rows Refusal) → evaluate_job (with_sheet root s w) ≡ evaluate_job (with_sheet root s' w)
      go root s s' (Lines.read rows) = refl
      go root s s' (Lines.refused why) = refl

  pub to_real_alike : to_real_call room list ≡ to_real_call room' list
  unfolding to_real_call after_listing
  to_real_alike = alike (λ l. after_listing Err l λ root swaps store. to_real root) (λ root swaps s s'. refl) list room room' ample ample'

  pub compile_alike : (out : List ℕ) → compile_call room list out ≡ compile_call room' list out
  unfolding compile_call after_listing
  compile_alike out = alike (λ l. after_listing (λ why. (Err why, out)) l λ root swaps store. compiled root out) (λ root swaps s s'. refl) list room room' ample ample'

  -- and the rows that evaluating uses
  pub evaluate_marks_alike : (values : List ℕ) → evaluate_marks room list values ≡ evaluate_marks room' list values
  unfolding job after_listing with_sheet evaluate_job_marks
  evaluate_marks_alike values = alike (λ l. evaluate_job_marks (after_listing Calls.refused l λ root swaps store. with_sheet root store (sheet values))) (λ root swaps s s'. go root s s' (sheet values)) list room room' ample ample'
    where
      go : (root : Tree) (s s' : State) (w : Whole Rows Refusal) → evaluate_job_marks (with_sheet root s w) ≡ evaluate_job_marks (with_sheet root s' w)
      go root s s' (Lines.read rows) = refl
      go root s s' (Lines.refused why) = refl
