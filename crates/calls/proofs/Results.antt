-- What a call of `simplify` answers: a count within 01's bound, and a result that is stored, within the limits, and reads back. Assumes nothing.
use mathlib.Core.Path.{◌≡◌, refl, sym, ap, subst}
use mathlib.Core.Bool.{Bool, true, false, cond, ◌&&◌}
use mathlib.Core.List.{List, [], ◌∷◌}
use Prim.Native.Nat.{ℕ, ◌+◌, ◌≤◌}
use native.Mathlib.Omega.{arith}
use lib.Dec.{ltb, eqb}
use lib.ListN.{length}
use Rattle.std.specs.Prelude.{Ok, Result, Err}
use Rattle.memory.specs.Marks.{no_marks}
use Rattle.expression.specs.declared.refusal.Refusal.{Refusal}
use Rattle.expression.specs.Trees.{Tree, size, depth}
use Rattle.expression.specs.Limits.{Limited, Proper, largest, deepest}
use Rattle.text.specs.Reading.{Read, is, bad}
use Rattle.text.specs.Lines as Lines
use Rattle.text.specs.Lines.{Line, Whole, lines, none, above_last}
use Rattle.store.specs.Storing as Storing
use Rattle.store.specs.Storing.{nothing, State, state, Answer, gives, among, intern, recall, fresh}
use Rattle.store.specs.Memory.{room, trees}
use Rattle.store.specs.Desk as Desk
use Rattle.store.specs.Held.{Lent, tree_in, state_in, seen, Built}
use Rattle.store.proofs.Stored.{stored as stored_in_lem, limited, proper}
use Rattle.listing.specs.Listings as Listings
use Rattle.listing.specs.Listings.{Listing, Swap, accepted, Known, known, stored, formed, most_nodes, most_swaps, node_line, swap_fields, swapped, swap_line, listing_line, rooted, whole, listing, above_variable}
use Rattle.node_lines.specs.NodeLines.{node_fields}
use Rattle.writing.specs.Order.{order, text_of}
use Rattle.writing.proofs.ReadBack.{store_of}
use Rattle.writing.proofs.Fits.{written_reads_back}
use Rattle.sheet.specs.Rows.{Rows, sheet}
use Rattle.tasks.specs.Tasks.{is_allowed}
use Rattle.simplification.specs.Bounds.{most_calls}
use Rattle.simplification.specs.Simplifying.{simplify}
use Rattle.simplification.proofs.Counting.{count, Below, bounded, bound_at_ten}
use Rattle.simplification.proofs.Marking.{marks_of}
use Rattle.calls.specs.declared.Simplified.{Simplified}
use Rattle.calls.specs.Lent.{Work, capacity}
use Rattle.calls.specs.Calls as Calls
use Rattle.calls.specs.Calls.{Job, ready, after_listing, with_sheet, job, written_answer, with_calls, calls_in, simplify_job, simplify_call}
use Rattle.calls.specs.Promises.{Simplifies}
use Rattle.calls.proofs.Lining.{LineHas, WholeHas, InLine, InWhole, to_the_end}

-- ---- a store into which a listing was read: nothing is counted, nothing kept and nothing marked

pub record Fresh (s : State) : Type 0 where
  pub uncounted : count s ≡ 0
  pub unkept : (t : Tree) → recall t s ≡ nothing
  pub unmarked : marks_of s ≡ no_marks

FreshIn : Answer → Type 0
FreshIn (gives t s) = Fresh s
FreshIn (Storing.refused why s) = Unit {0}

either_way : (b : Bool) (x y : Answer) → FreshIn x → FreshIn y → FreshIn (cond b x y)
either_way true x y p q = p
either_way false x y p q = q

stores : (t : Tree) (s : State) → Fresh s → FreshIn (intern t s)
unfolding intern FreshIn count recall marks_of
stores t (state room ts kept tally) f =
    either_way (among ts t) _ _ f
    (either_way (ltb largest (size t)) _ _ tt
    (either_way (ltb deepest (depth t)) _ _ tt
    (either_way (ltb (length ts) room) _ _ (record { uncounted = f.uncounted; unkept = f.unkept; unmarked = f.unmarked }) tt)))

FreshKnown : Known → Type 0
FreshKnown k = Fresh k.store

line_either : (b : Bool) (x y : Line Known Refusal) → InLine FreshKnown x → InLine FreshKnown y → InLine FreshKnown (cond b x y)
line_either true x y p q = p
line_either false x y p q = q

stored_fresh : (k : Known) (rest : List ℕ) (a : Answer) → FreshIn a → InLine FreshKnown (stored k rest a)
unfolding stored FreshIn LineHas FreshKnown
stored_fresh k rest (gives t s) x = x
stored_fresh k rest (Storing.refused why s) x = tt

formed_fresh : (k : Known) (r : Read Tree) → Fresh k.store → InLine FreshKnown (formed k r)
unfolding formed LineHas
formed_fresh k bad f = tt
formed_fresh k (is t rest) f = stored_fresh k rest (intern t k.store) (stores t k.store f)

swapped_fresh : (substituting : Bool) (k : Known) (r : Read Swap) → Fresh k.store → InLine FreshKnown (swapped substituting k r)
unfolding swapped LineHas FreshKnown
swapped_fresh substituting k bad f = tt
swapped_fresh substituting k (is s rest) f = line_either (substituting && above_last above_variable k.swaps s) _ _ f tt

line_fresh : (substituting : Bool) (k : Known) (first : ℕ) (bs : List ℕ) → FreshKnown k → InLine FreshKnown (listing_line substituting k first bs)
unfolding listing_line swap_line node_line LineHas FreshKnown
line_fresh substituting k first bs f =
    line_either (eqb first 115) _ _
    (line_either (ltb (length k.swaps) most_swaps) _ _ (swapped_fresh substituting k (swap_fields k.nodes first bs) f) tt)
    (line_either (ltb (length k.nodes) most_nodes) _ _ (formed_fresh k (cond (none k.swaps) (node_fields k.nodes first bs) bad) f) tt)

FreshListing : Listing → Type 0
FreshListing (accepted root swaps store) = Fresh store
FreshListing (Listings.refused why) = Unit {0}

rooted_fresh : (ts : List Tree) (swaps : List Swap) (store : State) → Fresh store → FreshListing (rooted ts swaps store)
unfolding rooted FreshListing
rooted_fresh [] swaps store f = tt
rooted_fresh (t ∷ ts) swaps store f = f

whole_fresh : (w : Whole Known Refusal) → InWhole FreshKnown w → FreshListing (whole w)
unfolding whole WholeHas FreshKnown FreshListing
whole_fresh (Lines.read k) f = rooted_fresh k.nodes k.swaps k.store f
whole_fresh (Lines.refused why) f = tt

fresh_is : (room : ℕ) → Fresh (fresh room 0)
unfolding count recall marks_of
fresh_is room = record { uncounted = refl; unkept = λ t. refl; unmarked = refl }

listing_fresh : (substituting : Bool) (bs : List ℕ) (room : ℕ) → FreshListing (listing substituting bs (fresh room 0))
unfolding listing FreshKnown
listing_fresh substituting bs room =
    whole_fresh (lines (listing_line substituting) (known [] [] (fresh room 0)) bs)
    (to_the_end FreshKnown (listing_line substituting) (line_fresh substituting) (known [] [] (fresh room 0)) bs (fresh_is room))

unfoldable pub FreshJob : Job → Type 0
FreshJob (ready root store rows) = Fresh store
FreshJob (Calls.refused why) = Unit {0}

sheet_fresh : (root : Tree) (store : State) (w : Whole Rows Refusal) → Fresh store → FreshJob (with_sheet root store w)
unfolding with_sheet FreshJob
sheet_fresh root store (Lines.read rows) f = f
sheet_fresh root store (Lines.refused why) f = tt

pub job_fresh : (room : ℕ) (list values : List ℕ) → FreshJob (job room list values)
unfolding job FreshListing after_listing with_sheet FreshJob
job_fresh room list values = go (listing false list (fresh room 0)) (listing_fresh false list room)
  where
    go : (l : Listing) → FreshListing l → FreshJob (after_listing Calls.refused l λ root swaps store. with_sheet root store (sheet values))
    go (accepted root swaps store) f = sheet_fresh root store (sheet values) f
    go (Listings.refused why) f = tt

-- ---- the count

unfoldable pub Within : (most : ℕ) → Result Simplified Refusal → Type 0
Within most (Ok a) = a.calls ≤ most
Within most (Err why) = Unit {0}

answer_within : (n : ℕ) (a : Answer) (w : Result ℕ Refusal) → Below n a → Within n (with_calls (calls_in a) w)
unfolding with_calls calls_in Below count Within
answer_within n (gives t (state room ts kept tally)) (Ok bytes) b = b
answer_within n (gives t (state room ts kept tally)) (Err why) b = tt
answer_within n (Storing.refused why s) (Ok bytes) b = omega arith
answer_within n (Storing.refused why s) (Err why') b = tt

job_within : (limit : ℕ) (out : List ℕ) (j : Job) → FreshJob j → Within (most_calls limit) (simplify_job limit out j).0
unfolding simplify_job FreshJob Within
job_within limit out (Calls.refused why) f = tt
job_within limit out (ready root store rows) f =
    let a = simplify rows limit root store in
    let b : Below (count store + most_calls limit) a = bounded rows limit root store in
    let z : count store + most_calls limit ≡ most_calls limit = omega (arith, f.uncounted) in
    answer_within (most_calls limit) a (written_answer out a).0 (rw z at b)

-- the bound of the limit: "1 at limit 0; else 1 plus twice the bound at 1 less plus four times the bound at 2 less, stopping at 0"
pub calls_within : (room limit : ℕ) (list values out : List ℕ) → Within (most_calls limit) (simplify_call room limit list values out).0
unfolding simplify_call Within
calls_within room limit list values out = go (is_allowed limit)
  where
    go : (b : Bool) → Within (most_calls limit) (cond b (simplify_job limit out (job room list values)) (Err Refusal.BadLimit, out)).0
    go true = job_within limit out (job room list values) (job_fresh room list values)
    go false = tt

pub at_most : (limit : ℕ) (list values out : List ℕ) (w : Work) {bytes calls : ℕ} {out' : List ℕ} {w' : Work}
    → Simplifies limit list values out w (Ok (record { bytes = bytes; calls = calls })) out' w' → calls ≤ most_calls limit
unfolding Within
at_most limit list values out w p = subst (Within (most_calls limit)) (sym (ap (λ x. x.0.0) p)) (calls_within (capacity w) limit list values out)

-- "It is at most 244,531 at limit 10"
pub at_most_at_ten : (list values out : List ℕ) (w : Work) {bytes calls : ℕ} {out' : List ℕ} {w' : Work}
    → Simplifies 10 list values out w (Ok (record { bytes = bytes; calls = calls })) out' w' → calls ≤ 244531
at_most_at_ten list values out w p = omega (arith, at_most 10 list values out w p, bound_at_ten)

-- ---- the result

module _ {want : Answer} {i : ℕ} {l l' : Lent} (b : Built want (Ok i) l l') where
  pub result_is : want ≡ gives (tree_in l' i) (state_in l')
  unfolding seen
  result_is = sym b.answer

  pub result_stored : among (trees l'.rows (Desk.count l'.desk)) (tree_in l' i) ≡ true
  result_stored = stored_in_lem b.step.sound.holds i b.inside

  pub result_limited : Limited (tree_in l' i)
  result_limited = limited b.step.sound.holds i b.inside

  pub result_proper : Proper (tree_in l' i)
  result_proper = proper b.step.sound.holds i

  pub result_reads_back : length (order (tree_in l' i)) ≤ 1024 → (substituting : Bool) (room' : ℕ) → room l'.rows ≤ room'
      → listing substituting (text_of (tree_in l' i)) (fresh room' 0) ≡ accepted (tree_in l' i) [] (store_of room' (order (tree_in l' i)))
  result_reads_back = written_reads_back b.step.sound.holds b.inside
