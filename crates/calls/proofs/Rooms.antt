-- What the room of a store decides about a listing: whether it is refused by 8, and nothing else; and with more room it is not refused by 8 where it was
-- accepted. Assumes nothing.
use mathlib.Core.Path.{◌≡◌, refl, sym, subst}
use mathlib.Core.Bool.{Bool, true, false, cond, ◌&&◌}
use mathlib.Core.List.{List, [], ◌∷◌, ◌++◌}
use mathlib.Core.Logic.{◌⊎◌, inl, inr}
use Prim.Native.Nat.{ℕ, zero, suc, ◌≤◌, ◌<◌}
use native.Mathlib.Omega.{arith}
use native.Mathlib.Decide.{dec_lt}
use borrow.Author.Tests.{ltb-true, lt-ltb}
use lib.Dec.{T, ltb, eqb}
use lib.ListN.{length}
use Rattle.expression.specs.declared.refusal.Refusal.{Refusal}
use Rattle.expression.specs.Trees.{Tree, size, depth}
use Rattle.expression.specs.Limits.{largest, deepest}
use Rattle.text.specs.Reading.{Read, is, bad}
use Rattle.text.specs.Lines as Lines
use Rattle.text.specs.Lines.{Line, goes, stops, Whole, after_line, at_line, lines, lines_by, none, above_last}
use Rattle.store.specs.Storing as Storing
use Rattle.store.specs.Storing.{Kept, Tally, State, state, Answer, gives, among, intern, fresh}
use Rattle.listing.specs.Listings as Listings
use Rattle.listing.specs.Listings.{Listing, Swap, accepted, Known, known, stored, formed, most_nodes, most_swaps, node_line, above_variable, swap_fields, swapped, swap_line, listing_line, rooted, whole, listing}
use Rattle.node_lines.specs.NodeLines.{node_fields}

-- ---- a text read twice, where the first reading may end early, by one refusal

module _ {S R : Type 0} (P : S → S → Type 0) (early : R) where
  data LineBeside : Line S R → Line S R → Type 0 where
    stops_early : {l : Line S R} → LineBeside (stops early) l
    both_go : {s s' : S} (rest : List ℕ) → P s s' → LineBeside (goes s rest) (goes s' rest)
    both_stop : (why : R) → LineBeside (stops why) (stops why)

  data WholeBeside : Whole S R → Whole S R → Type 0 where
    ends_early : {w : Whole S R} → WholeBeside (Lines.refused early) w
    both_read : {s s' : S} → P s s' → WholeBeside (Lines.read s) (Lines.read s')
    both_refused : (why : R) → WholeBeside (Lines.refused why) (Lines.refused why)

  after : {l l' : Line S R} (next : S → List ℕ → Whole S R) → LineBeside l l' → ((s s' : S) (bs : List ℕ) → P s s' → WholeBeside (next s bs) (next s' bs))
      → WholeBeside (after_line l next) (after_line l' next)
  unfolding after_line
  after next stops_early f = ends_early
  after next (both_go {s} {s'} rest p) f = f s s' rest p
  after next (both_stop why) f = both_refused why

  with_fuel : (line : S → ℕ → List ℕ → Line S R) → ((s s' : S) (b : ℕ) (bs : List ℕ) → P s s' → LineBeside (line s b bs) (line s' b bs))
      → (fuel : ℕ) (s s' : S) (bs : List ℕ) → P s s' → WholeBeside (lines_by fuel line s bs) (lines_by fuel line s' bs)
  unfolding lines_by at_line
  with_fuel line f zero s s' bs p = both_read p
  with_fuel line f (suc fuel) s s' [] p = both_read p
  with_fuel line f (suc fuel) s s' (b ∷ bs) p = after (λ s bs. lines_by fuel line s bs) (f s s' b bs p) λ s s' bs q. with_fuel line f fuel s s' bs q

  read_twice : (line : S → ℕ → List ℕ → Line S R) → ((s s' : S) (b : ℕ) (bs : List ℕ) → P s s' → LineBeside (line s b bs) (line s' b bs))
      → (s s' : S) (bs : List ℕ) → P s s' → WholeBeside (lines line s bs) (lines line s' bs)
  unfolding lines
  read_twice line f s s' bs p = with_fuel line f (length bs) s s' bs p

-- ---- a line of a listing, with less and with more room

data Beside : Known → Known → Type 0 where
  beside : (nodes : List Tree) (swaps : List Swap) (room room' : ℕ) (ts : List Tree) (kept : Tree → Kept) (tally : Tally) → room ≤ room'
      → Beside (known nodes swaps (state room ts kept tally)) (known nodes swaps (state room' ts kept tally))

abbrev Lined : Line Known Refusal → Line Known Refusal → Type 0
Lined = LineBeside Beside Refusal.Room

either : (b : Bool) {x y x' y' : Line Known Refusal} → Lined x x' → Lined y y' → Lined (cond b x y) (cond b x' y')
either true p q = p
either false p q = q

module _ (nodes : List Tree) (swaps : List Swap) (room room' : ℕ) (ts : List Tree) (kept : Tree → Kept) (tally : Tally) (more : room ≤ room') where
  abbrev less_known : Known
  less_known = known nodes swaps (state room ts kept tally)

  abbrev more_known : Known
  more_known = known nodes swaps (state room' ts kept tally)

  module _ (t : Tree) (rest : List ℕ) where
    abbrev Stored : Answer → Answer → Type 0
    Stored x x' = Lined (stored less_known rest x) (stored more_known rest x')

    either_way : (b : Bool) (x x' y y' : Answer) → Stored x x' → Stored y y' → Stored (cond b x y) (cond b x' y')
    either_way true x x' y y' p q = p
    either_way false x x' y y' p q = q

    -- where both have room, or the first has none
    new_beside : (b b' : Bool) → (b ≡ true → b' ≡ true)
        → Stored (cond b (gives t (state room (ts ++ (t ∷ [])) kept tally)) (Storing.refused Refusal.Room (state room ts kept tally)))
        (cond b' (gives t (state room' (ts ++ (t ∷ [])) kept tally)) (Storing.refused Refusal.Room (state room' ts kept tally)))
    unfolding stored
    new_beside false b' f = stops_early
    new_beside true true f = both_go rest (beside (nodes ++ (t ∷ [])) swaps room room' (ts ++ (t ∷ [])) kept tally more)
    new_beside true false f = absurd (subst T (sym (f refl)) tt)

    stored_beside : Stored (intern t (state room ts kept tally)) (intern t (state room' ts kept tally))
    unfolding stored intern
    stored_beside =
        either_way (among ts t) _ _ _ _ (both_go rest (beside (nodes ++ (t ∷ [])) swaps room room' ts kept tally more))
        (either_way (ltb largest (size t)) _ _ _ _ (both_stop Refusal.Big)
        (either_way (ltb deepest (depth t)) _ _ _ _ (both_stop Refusal.Deep)
        (new_beside (ltb (length ts) room) (ltb (length ts) room') λ e. lt-ltb (length ts) room' (omega (arith, ltb-true (length ts) room e, more)))))

  formed_beside : (r : Read Tree) → Lined (formed less_known r) (formed more_known r)
  unfolding formed
  formed_beside bad = both_stop _
  formed_beside (is t rest) = stored_beside t rest

  swapped_beside : (substituting : Bool) (r : Read Swap) → Lined (swapped substituting less_known r) (swapped substituting more_known r)
  unfolding swapped
  swapped_beside substituting bad = both_stop _
  swapped_beside substituting (is s rest) =
      either (substituting && above_last above_variable swaps s) (both_go rest (beside nodes (swaps ++ (s ∷ [])) room room' ts kept tally more)) (both_stop _)

line_beside : (substituting : Bool) (k k' : Known) (first : ℕ) (bs : List ℕ) → Beside k k'
    → Lined (listing_line substituting k first bs) (listing_line substituting k' first bs)
unfolding listing_line swap_line node_line
line_beside substituting k k' first bs (beside nodes swaps room room' ts kept tally more) =
    either (eqb first 115)
    (either (ltb (length swaps) most_swaps) (swapped_beside nodes swaps room room' ts kept tally more substituting (swap_fields nodes first bs)) (both_stop _))
    (either (ltb (length nodes) most_nodes)
    (formed_beside nodes swaps room room' ts kept tally more (cond (none swaps) (node_fields nodes first bs) bad)) (both_stop _))

-- ---- a listing

-- the first is refused by 8, or the second is as the first, but for the store
pub data ListingBeside : Listing → Listing → Type 0 where
  full : {l : Listing} → ListingBeside (Listings.refused Refusal.Room) l
  both_accepted : (root : Tree) (swaps : List Swap) {store store' : State} → ListingBeside (accepted root swaps store) (accepted root swaps store')
  both_refused_by : (why : Refusal) → ListingBeside (Listings.refused why) (Listings.refused why)

rooted_beside : (ts : List Tree) (swaps : List Swap) (store store' : State) → ListingBeside (rooted ts swaps store) (rooted ts swaps store')
unfolding rooted
rooted_beside [] swaps store store' = both_refused_by _
rooted_beside (t ∷ ts) swaps store store' = both_accepted _ _

whole_beside : {w w' : Whole Known Refusal} → WholeBeside Beside Refusal.Room w w' → ListingBeside (whole w) (whole w')
unfolding whole
whole_beside ends_early = full
whole_beside (both_read (beside nodes swaps room room' ts kept tally more)) = rooted_beside nodes swaps _ _
whole_beside (both_refused why) = both_refused_by why

one_root : {root root' : Tree} {swaps swaps' : List Swap} {store store' : State} → ListingBeside (accepted root swaps store) (accepted root' swaps' store')
    → (root ≡ root') × (swaps ≡ swaps')
one_root (both_accepted root swaps) = (refl, refl)

module _ (substituting : Bool) (bs : List ℕ) where
  pub more_room : (room room' : ℕ) → room ≤ room' → ListingBeside (listing substituting bs (fresh room 0)) (listing substituting bs (fresh room' 0))
  unfolding listing
  more_room room room' more =
      whole_beside (read_twice Beside Refusal.Room (listing_line substituting) (line_beside substituting) _ _ bs (beside [] [] room room' [] _ _ more))

  -- accepted with this root and these s lines
  abbrev pub Accepts : (room : ℕ) → Tree → List Swap → Type 0
  Accepts room root swaps = (store : State) × (listing substituting bs (fresh room 0) ≡ accepted root swaps store)

  module _ (room room' : ℕ) where
    -- whichever rooms accept it, they accept it with the same root and the same s lines
    pub same_root : {root root' : Tree} {swaps swaps' : List Swap} {store store' : State} → listing substituting bs (fresh room 0) ≡ accepted root swaps store
        → listing substituting bs (fresh room' 0) ≡ accepted root' swaps' store' → (root ≡ root') × (swaps ≡ swaps')
    same_root {root} {root'} {swaps} {swaps'} p q = go (dec_lt room' room)
      where
        go : Dec (room' < room) → (root ≡ root') × (swaps ≡ swaps')
        go (yes l) =
            let r = one_root (rw (p, q) at (more_room room' room (omega (arith, l)))) in
            (sym r.0, sym r.1)
        go (no l) = one_root (rw (p, q) at (more_room room room' (omega (arith, l))))

    module _ {root : Tree} {swaps : List Swap} {store : State} (p : listing substituting bs (fresh room 0) ≡ accepted root swaps store) where
      -- with as much room it is accepted too
      pub accepted_with_more : room ≤ room' → Accepts room' root swaps
      accepted_with_more more = go (listing substituting bs (fresh room' 0)) refl (rw p at (more_room room room' more))
        where
          go : (l : Listing) → listing substituting bs (fresh room' 0) ≡ l → ListingBeside (accepted root swaps store) l → Accepts room' root swaps
          go l e (both_accepted root swaps {store' = store'}) = (store', e)

      -- and with any other room it is, or is refused by 8
      pub accepted_unless_full : (listing substituting bs (fresh room' 0) ≡ Listings.refused Refusal.Room) ⊎ Accepts room' root swaps
      accepted_unless_full = go (dec_lt room' room)
        where
          less : (l : Listing) → listing substituting bs (fresh room' 0) ≡ l → ListingBeside l (accepted root swaps store)
              → (listing substituting bs (fresh room' 0) ≡ Listings.refused Refusal.Room) ⊎ Accepts room' root swaps
          less l e full = inl e
          less l e (both_accepted root swaps {store = store'}) = inr (store', e)

          go : Dec (room' < room) → (listing substituting bs (fresh room' 0) ≡ Listings.refused Refusal.Room) ⊎ Accepts room' root swaps
          go (yes l) = less (listing substituting bs (fresh room' 0)) refl (rw p at (more_room room' room (omega (arith, l))))
          go (no l) = inr (accepted_with_more (omega (arith, l)))
