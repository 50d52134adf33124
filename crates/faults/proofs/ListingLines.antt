-- The lines of a listing. One that the reader takes after some lines has no fault but perhaps its place among others, so that one that is said to
-- have another fault is taken nowhere; and a node line that is said to be out of order is read after enough lines. Assumes nothing.
use mathlib.Core.Path.{◌≡◌, refl, sym, ap, ◌∙◌}
use mathlib.Core.List.{List, [], ◌∷◌, ◌++◌}
use mathlib.Core.Bool.{Bool, true, false, cond, ◌&&◌}
use Prim.Native.Nat.{ℕ, suc, ◌≤◌, ◌<◌}
use native.Mathlib.Omega.{arith}
use native.Mathlib.Decide.{ℕ_discrete}
use lib.ListN.{length, get_or, length-append}
use lib.Dec.{ltb}
use borrow.Author.Tests.{eq-eqb, ne_eqb}
use Rattle.expression.specs.declared.refusal.Refusal.{Refusal}
use Rattle.expression.specs.Trees.{Tree, leaf, pi}
use Rattle.expression.specs.Limits.{numbers, indices}
use Rattle.spelling.specs.Names.{function_names, prefix_names, infix_names}
use Rattle.store.specs.Storing as Storing
use Rattle.store.specs.Storing.{Answer, intern}
use Rattle.text.specs.Letters.{letter, bytes}
use Rattle.text.specs.Reading.{Read, is, bad, then, tab, lf, ended, starts, name_from, decimal, hex, decimal_field, hex_field, name_field}
use Rattle.text.specs.Lines.{goes, none, above_last}
use Rattle.text.proofs.RoundTrip.{ended_here}
use Rattle.text.proofs.Only.{never, ended_only, decimal_only}
use Rattle.node_lines.specs.NodeLines.{child_by, child_field, number_fields, variable_fields, cell_fields, function_fields, prefix_fields, infix_fields, fields_of, pi_line, line_by, node_fields}
use Rattle.origins.specs.Fields.{line_end, origin_text}
use Rattle.origins.proofs.Ending as Ending
use Rattle.origins.proofs.Ending.{end_bad, end_lf, end_field, origin_reads, Tail, at_once, after_origin, line_end_only}
use Rattle.listing.specs.Listings.{Known, known, Swap, above_variable, stored, formed, swap_fields, swapped, swap_line, node_line, listing_line, most_nodes, most_swaps, line_number}
use Rattle.faults.specs.declared.Fault.{Fault}
use Rattle.faults.specs.Faulting.{words_of, read, node_form, has_at, form_with, listing_form, stop_of, fault_in}
use Rattle.faults.proofs.Passing.{Passes, done, field, Taken, taken, Stops, stopped, unread, below, then_only, same_rest, is_if, no_stop, goes_if, wider_number, wider, in_order, stop_more, order_reads}
use Rattle.faults.proofs.Places.{plain_at, origin_at_lem, node_clean}

-- ---- how a line of a node ends

-- its fields read; or these, and after them that of an origin
pub data Ends (form bs rest : List ℕ) : Type 0 where
  plainly : Passes form bs rest → Ends form bs rest
  with_origin_lem : Passes (form ++ (64 ∷ [])) bs rest → Ends form bs rest

on_field : (kind k : ℕ) (ks bs : List ℕ) {v : ℕ} {mid rest : List ℕ} → ended tab (read kind bs) ≡ is v mid → Ends (k ∷ ks) mid rest → Ends (kind ∷ k ∷ ks) bs rest
on_field kind k ks bs {v} {mid} e (plainly p) = let f : ended (stop_of (suc (length ks))) (read kind bs) ≡ is v mid = rw (stop_more (length ks)) e in plainly (field f p)
on_field kind k ks bs {v} {mid} e (with_origin_lem p) =
    let f : ended (stop_of (suc (length (ks ++ (64 ∷ []))))) (read kind bs) ≡ is v mid = rw (stop_more (length (ks ++ (64 ∷ [])))) e in
    with_origin_lem (field f p)

origin_field : (o : ℕ) (rest : List ℕ) → o ≤ 1024 → ended lf (read 64 (origin_text o ++ (10 ∷ rest))) ≡ is o rest
unfolding read
origin_field o rest h = rw (origin_reads o rest h) (ended_here lf o rest)

on_tail : (kind : ℕ) (bs : List ℕ) {x : ℕ} {mid rest : List ℕ} → read kind bs ≡ is x mid → Tail rest mid → Ends (kind ∷ []) bs rest
unfolding stop_of
on_tail kind bs {x} {rest = rest} e (at_once q) = let f : ended lf (read kind bs) ≡ is x rest = rw (e, q) (ended_here lf x rest) in plainly (field f (done refl))
on_tail kind bs {x} {rest = rest} e (after_origin o h q) =
    let f : ended tab (read kind bs) ≡ is x (origin_text o ++ (10 ∷ rest)) = rw (e, q) (ended_here tab x (origin_text o ++ (10 ∷ rest))) in
    with_origin_lem (field f (field (origin_field o rest h) (done refl)))

on_last : (kind : ℕ) (bs : List ℕ) {x : ℕ} {rest : List ℕ} → line_end (read kind bs) ≡ is x rest → Ends (kind ∷ []) bs rest
on_last kind bs {x} {rest} e = let k = line_end_only (read kind bs) x rest e in on_tail kind bs k.read k.tail

-- ---- children

child_on : {P : Type 0} (stop : ℕ) (earlier : List Tree) (bs : List ℕ) {t : Tree} {rest : List ℕ} → length earlier ≤ indices → child_field stop earlier bs ≡ is t rest
    → ((i : ℕ) → decimal_field stop indices bs ≡ is i rest → P) → P
unfolding child_by
child_on stop earlier bs {rest = rest} h e k =
    then_only (decimal_field stop (length earlier) bs) _ e λ i mid p q.
    let z : mid ≡ rest = cc in
    k i (rw z at (wider stop (length earlier) indices bs h p))

child_last : (earlier : List Tree) (bs : List ℕ) {t : Tree} {rest : List ℕ} → length earlier ≤ indices → child_by line_end earlier bs ≡ is t rest → Ends (bytes "I") bs rest
unfolding child_by read
child_last earlier bs {rest = rest} h e =
    then_only (line_end (decimal (length earlier) bs)) _ e λ i last p q.
    let z : last ≡ rest = cc in
    let k = line_end_only (decimal (length earlier) bs) i rest (rw z at p) in
    on_tail 73 bs (wider_number (length earlier) indices bs h k.read) k.tail

-- ---- a line of a node, after its letter and a tab

module _ (bs : List ℕ) {t : Tree} {rest : List ℕ} where
  number_line : number_fields line_end bs ≡ is t rest → Ends (bytes "nHH") (110 ∷ 9 ∷ bs) rest
  unfolding number_fields read words_of name_from starts ended
  number_line e =
      then_only (hex_field tab bs) _ e λ re mid p e.
      then_only (line_end (hex mid)) _ e λ im last q e.
      on_field 110 72 (72 ∷ []) (110 ∷ 9 ∷ bs) refl (on_field 72 72 [] bs p (on_last 72 mid (rw (same_rest e) at q)))

  variable_line_law : variable_fields line_end bs ≡ is t rest → Ends (bytes "vN") (118 ∷ 9 ∷ bs) rest
  unfolding variable_fields read words_of name_from starts ended
  variable_line_law e =
      then_only (line_end (decimal numbers bs)) _ e λ v last p e.
      on_field 118 78 [] (118 ∷ 9 ∷ bs) refl (on_last 78 bs (rw (same_rest e) at p))

  cell_line_law : cell_fields line_end bs ≡ is t rest → Ends (bytes "mNI") (109 ∷ 9 ∷ bs) rest
  unfolding cell_fields read words_of name_from starts ended
  cell_line_law e =
      then_only (decimal_field tab numbers bs) _ e λ region mid p e.
      then_only (line_end (decimal indices mid)) _ e λ index last q e.
      on_field 109 78 (73 ∷ []) (109 ∷ 9 ∷ bs) refl (on_field 78 73 [] bs p (on_last 73 mid (rw (same_rest e) at q)))

  module _ (earlier : List Tree) (few : length earlier ≤ indices) where
    function_line_lem : function_fields line_end earlier bs ≡ is t rest → Ends (bytes "fFI") (102 ∷ 9 ∷ bs) rest
    unfolding function_fields read words_of name_from starts ended
    function_line_lem e =
        then_only (name_field tab function_names bs) _ e λ f mid p e.
        then_only (child_by line_end earlier mid) _ e λ u last q e.
        on_field 102 70 (73 ∷ []) (102 ∷ 9 ∷ bs) refl (on_field 70 73 [] bs p (child_last earlier mid few (rw (same_rest e) at q)))

    prefix_line : prefix_fields line_end earlier bs ≡ is t rest → Ends (bytes "uUI") (117 ∷ 9 ∷ bs) rest
    unfolding prefix_fields read words_of name_from starts ended
    prefix_line e =
        then_only (name_field tab prefix_names bs) _ e λ o mid p e.
        then_only (child_by line_end earlier mid) _ e λ u last q e.
        on_field 117 85 (73 ∷ []) (117 ∷ 9 ∷ bs) refl (on_field 85 73 [] bs p (child_last earlier mid few (rw (same_rest e) at q)))

    infix_line : infix_fields line_end earlier bs ≡ is t rest → Ends (bytes "bBII") (98 ∷ 9 ∷ bs) rest
    unfolding infix_fields read words_of name_from starts ended
    infix_line e =
        then_only (name_field tab infix_names bs) _ e λ o left p e.
        then_only (child_field tab earlier left) _ e λ l right q e.
        then_only (child_by line_end earlier right) _ e λ r last s e.
        child_on tab earlier left few q λ i c.
        on_field 98 66 (73 ∷ 73 ∷ []) (98 ∷ 9 ∷ bs) refl (on_field 66 73 (73 ∷ []) bs p (on_field 73 73 [] left c (child_last earlier right few (rw (same_rest e) at s))))

    fields_line : (first : ℕ) → fields_of line_end earlier first bs ≡ is t rest → Ends (node_form first) (first ∷ 9 ∷ bs) rest
    unfolding fields_of node_form
    fields_line first e = elim (ℕ_discrete first 110) [
      | yes q ↦ rw q (number_line (rw (eq-eqb first 110 q) at e))
      | no n ↦ elim (ℕ_discrete first 118) [
        | yes q ↦ rw q (variable_line_law (rw (ne_eqb first 110 n, eq-eqb first 118 q) at e))
        | no v ↦ elim (ℕ_discrete first 109) [
          | yes q ↦ rw q (cell_line_law (rw (ne_eqb first 110 n, ne_eqb first 118 v, eq-eqb first 109 q) at e))
          | no m ↦ elim (ℕ_discrete first 102) [
            | yes q ↦ rw q (function_line_lem (rw (ne_eqb first 110 n, ne_eqb first 118 v, ne_eqb first 109 m, eq-eqb first 102 q) at e))
            | no f ↦ elim (ℕ_discrete first 117) [
              | yes q ↦ rw q (prefix_line (rw (ne_eqb first 110 n, ne_eqb first 118 v, ne_eqb first 109 m, ne_eqb first 102 f, eq-eqb first 117 q) at e))
              | no u ↦ elim (ℕ_discrete first 98) [
                | yes q ↦ rw q (infix_line (rw (ne_eqb first 110 n, ne_eqb first 118 v, ne_eqb first 109 m, ne_eqb first 102 f, ne_eqb first 117 u, eq-eqb first 98 q) at e))
                | no b ↦ never (rw (ne_eqb first 110 n, ne_eqb first 118 v, ne_eqb first 109 m, ne_eqb first 102 f, ne_eqb first 117 u, ne_eqb first 98 b) at e)
              ]
            ]
          ]
        ]
      ]
    ]

-- ---- a line of a node

pi_line_law : (bs : List ℕ) {t : Tree} {rest : List ℕ} → pi_line line_end bs ≡ is t rest → Ends (bytes "p") (112 ∷ bs) rest
unfolding pi_line read words_of name_from starts
pi_line_law bs {rest = rest} e =
    then_only (line_end (is 0 bs)) _ e λ x last p e.
    let k = line_end_only (is 0 bs) x rest (rw (same_rest e) at p) in
    let r = k.read in
    let z : bs ≡ k.mid = cc in
    on_tail 112 (112 ∷ bs) {x = 1} (ap (is 1) z) k.tail

node_ends : (earlier : List Tree) (first : ℕ) (bs : List ℕ) {t : Tree} {rest : List ℕ} → length earlier ≤ indices → node_fields earlier first bs ≡ is t rest
    → Ends (node_form first) (first ∷ bs) rest
unfolding line_by node_form
node_ends earlier first bs few e = elim (ℕ_discrete first 112) [
  | yes q ↦ rw q (pi_line_law bs (rw (eq-eqb first 112 q) at e))
  | no n ↦
      then_only (ended tab (is first bs)) _ (rw (ne_eqb first 112 n) at e) λ x mid p e.
      let s = ended_only tab (is first bs) x mid p in
      let y : x ≡ first = cc in
      let z : bs ≡ 9 ∷ mid = cc in
      rw z (fields_line mid earlier few first (rw y at e))
]

-- its form has a field for an origin if there is one
settled : (first : ℕ) (bs : List ℕ) {rest : List ℕ} → (first ≡ 115 → ⊥) → Ends (node_form first) (first ∷ bs) rest → Passes (listing_form first (first ∷ bs)) (first ∷ bs) rest
unfolding listing_form form_with
settled first bs n (plainly p) = let c = node_clean first in rw (ne_eqb first 115 n, plain_at (node_form first) p c.0 c.1) p
settled first bs n (with_origin_lem p) = rw (ne_eqb first 115 n, origin_at_lem (node_form first) p (node_clean first).0) p

-- an s line is none of a node
no_swap : (earlier : List Tree) (bs : List ℕ) → node_fields earlier 115 bs ≡ bad
unfolding line_by fields_of then ended
no_swap earlier [] = refl
no_swap earlier (b ∷ bs) = elim (ℕ_discrete b 9) [ yes q ↦ rw (eq-eqb b 9 q) | no n ↦ rw (ne_eqb b 9 n) ]

-- the reader takes it after some lines, no more than there may be: its place is its only fault
pub node_line_lem : (earlier : List Tree) (first : ℕ) (bs : List ℕ) {t : Tree} {rest : List ℕ} → length earlier ≤ indices → node_fields earlier first bs ≡ is t rest
    → Passes (listing_form first (first ∷ bs)) (first ∷ bs) rest
node_line_lem earlier first bs few e = elim (ℕ_discrete first 115) [
  | yes q ↦ never (sym (no_swap earlier bs) ∙ (rw q at e))
  | no n ↦ settled first bs n (node_ends earlier first bs few e)
]

-- ---- a line of a listing

swap_line_lem : (nodes : List Tree) (bs : List ℕ) {s : Swap} {rest : List ℕ} → length nodes ≤ indices → swap_fields nodes 115 bs ≡ is s rest
    → Passes (bytes "sNI") (115 ∷ bs) rest
unfolding swap_fields read words_of name_from starts stop_of
swap_line_lem nodes bs few e =
    then_only (ended tab (is 115 bs)) _ e λ x mid o e.
    then_only (decimal_field tab numbers mid) _ e λ v node p e.
    then_only (child_field lf nodes node) _ e λ t last q e.
    child_on lf nodes node few q λ i c.
    let s = ended_only tab (is 115 bs) x mid o in
    let z : bs ≡ 9 ∷ mid = cc in
    rw z (field (ended_here tab 1 mid) (field p (field c (done (same_rest e)))))

-- it names the line of a node, so there is one
swap_some : (nodes : List Tree) (bs : List ℕ) {s : Swap} {rest : List ℕ} → swap_fields nodes 115 bs ≡ is s rest → 0 < length nodes
unfolding swap_fields child_by
swap_some nodes bs e =
    then_only (ended tab (is 115 bs)) _ e λ x mid o e.
    then_only (decimal_field tab numbers mid) _ e λ v node p e.
    then_only (then (decimal_field lf (length nodes) node) λ i bs. is (get_or nodes i (leaf pi)) bs) _ e λ t last q e.
    then_only (decimal_field lf (length nodes) node) _ q λ i end r q.
    let l = (decimal_only (length nodes) i node (10 ∷ end) (ended_only lf (decimal (length nodes) node) i end r)).0 in
    omega (arith, l)

-- ---- what a line that goes on leaves: its fields read, and it is counted

pub record Took (known after : Known) (form bs rest : List ℕ) : Type 0 where
  pub passes : Passes form bs rest
  pub line : line_number after ≡ suc (line_number known)
  pub few : length after.nodes ≤ most_nodes
  pub some : 0 < length after.nodes

module _ {form bs : List ℕ} (before : Known) {after : Known} {rest : List ℕ} where
  node_stored : (mid : List ℕ) (a : Answer) → length before.nodes < most_nodes → stored before mid a ≡ goes after rest → Passes form bs mid → Took before after form bs rest
  unfolding stored
  node_stored mid (Storing.gives t store) few e p =
      let y : mid ≡ rest = cc in
      let z : known (before.nodes ++ (t ∷ [])) before.swaps store ≡ after = cc in
      record {
        passes = rw y at p;
        line = rw (← z, length-append before.nodes (t ∷ [])) (omega arith);
        few = rw (← z, length-append before.nodes (t ∷ [])) (omega arith);
        some = rw (← z, length-append before.nodes (t ∷ [])) (omega arith);
      }
  node_stored mid (Storing.refused why s) few e p = no_stop e

  node_formed : (r : Read Tree) → length before.nodes < most_nodes → formed before r ≡ goes after rest → ((t : Tree) (mid : List ℕ) → r ≡ is t mid → Passes form bs mid)
      → Took before after form bs rest
  unfolding formed
  node_formed (is t mid) few e on = node_stored mid (intern t before.store) few e (on t mid refl)
  node_formed bad few e on = no_stop e

  swap_formed : (substituting : Bool) (r : Read Swap) → length before.nodes ≤ most_nodes → swapped substituting before r ≡ goes after rest
      → ((s : Swap) (mid : List ℕ) → r ≡ is s mid → Passes form bs mid × (0 < length before.nodes)) → Took before after form bs rest
  unfolding swapped
  swap_formed substituting (is s mid) few e on =
      let f = goes_if (substituting && above_last above_variable before.swaps s) (goes (known before.nodes (before.swaps ++ (s ∷ [])) before.store) mid) (Refusal.BadList (line_number before)) e in
      let y : mid ≡ rest = cc in
      let z : known before.nodes (before.swaps ++ (s ∷ [])) before.store ≡ after = cc in
      record {
        passes = rw y at (on s mid refl).0;
        line = rw (← z, length-append before.swaps (s ∷ [])) (omega arith);
        few = rw (← z) few;
        some = rw (← z) (on s mid refl).1;
      }
  swap_formed substituting bad few e on = no_stop e

-- `before` says what the lines so far are: no more than there may be
pub listing_took : (substituting : Bool) (before : Known) (first : ℕ) (bs : List ℕ) {after : Known} {rest : List ℕ} → length before.nodes ≤ most_nodes
    → listing_line substituting before first bs ≡ goes after rest → Took before after (listing_form first (first ∷ bs)) (first ∷ bs) rest
unfolding listing_line swap_line node_line listing_form
listing_took substituting before first bs few e = elim (ℕ_discrete first 115) [
  | yes q ↦
      let f = goes_if (ltb (length before.swaps) most_swaps) (swapped substituting before (swap_fields before.nodes 115 bs)) (Refusal.LongList (line_number before)) (rw (eq-eqb first 115 q, q) at e) in
      rw q (swap_formed before substituting (swap_fields before.nodes 115 bs) few f λ s mid p. (swap_line_lem before.nodes bs (omega (arith, few)) p, swap_some before.nodes bs p))
  | no n ↦
      let g = rw (ne_eqb first 115 n) at e in
      let r = cond (none before.swaps) (node_fields before.nodes first bs) bad in
      let f = goes_if (ltb (length before.nodes) most_nodes) (formed before r) (Refusal.LongList (line_number before)) g in
      node_formed before r (below (length before.nodes) most_nodes (formed before r) (Refusal.LongList (line_number before)) g) f λ t mid p.
      node_line_lem before.nodes first bs (omega (arith, few)) (is_if (none before.swaps) _ p)
]

-- so its place is its only fault
pub listing_line_lem : (substituting : Bool) (before : Known) (first : ℕ) (bs : List ℕ) {after : Known} {rest : List ℕ} → length before.nodes ≤ most_nodes
    → listing_line substituting before first bs ≡ goes after rest → fault_in (listing_form first (first ∷ bs)) (first ∷ bs) ≡ Fault.Order
listing_line_lem substituting before first bs few e = in_order (listing_took substituting before first bs few e).passes

-- and where it has another, it is refused
pub listing_refused : (substituting : Bool) (before : Known) (first : ℕ) (bs : List ℕ) → length before.nodes ≤ most_nodes
    → (fault_in (listing_form first (first ∷ bs)) (first ∷ bs) ≡ Fault.Order → ⊥) → Stops (listing_line substituting before first bs)
listing_refused substituting before first bs few n = stopped (listing_line substituting before first bs) λ after rest e. n (listing_line_lem substituting before first bs few e)

-- the same of a node line alone
pub node_unread : (earlier : List Tree) (first : ℕ) (bs : List ℕ) → length earlier ≤ indices → (fault_in (listing_form first (first ∷ bs)) (first ∷ bs) ≡ Fault.Order → ⊥)
    → node_fields earlier first bs ≡ bad
node_unread earlier first bs few n = unread (node_fields earlier first bs) λ t rest e. n (in_order (node_line_lem earlier first bs few e))

-- ---- the converse, after enough lines

-- the letter of a line, and a tab
letter_reads : {P : Type 0} (first : ℕ) (bs : List ℕ) {v : ℕ} {mid : List ℕ} → ended tab (is 1 bs) ≡ is v mid → (bs ≡ 9 ∷ mid → P) → P
letter_reads first bs {v} {mid} p on =
    let r = ended_only tab (is 1 bs) v mid p in
    let z : bs ≡ 9 ∷ mid = cc in
    on z

-- a field that is not the last, and the last
field_reads : {P : Type 0} (origin : Bool) (kind k : ℕ) (ks bs : List ℕ) → fault_in (form_with origin (kind ∷ k ∷ ks)) bs ≡ Fault.Order
    → ((v : ℕ) (mid : List ℕ) → ended tab (read kind bs) ≡ is v mid → fault_in (form_with origin (k ∷ ks)) mid ≡ Fault.Order → P) → P
unfolding form_with
field_reads true kind k ks bs e on = order_reads kind (k ∷ (ks ++ (64 ∷ []))) bs e λ v mid p e. on v mid (rw (stop_more (length (ks ++ (64 ∷ [])))) at p) e
field_reads false kind k ks bs e on = order_reads kind (k ∷ ks) bs e λ v mid p e. on v mid (rw (stop_more (length ks)) at p) e

end_origin : (x : ℕ) (mid : List ℕ) {o : ℕ} {rest : List ℕ} → ended lf (read 64 mid) ≡ is o rest → line_end (is x (9 ∷ mid)) ≡ is x rest
unfolding line_end then read
end_origin x mid e = rw e

last_reads : {P : Type 0} (origin : Bool) (kind : ℕ) (bs : List ℕ) → fault_in (form_with origin (kind ∷ [])) bs ≡ Fault.Order
    → ((x : ℕ) (rest : List ℕ) → line_end (read kind bs) ≡ is x rest → P) → P
unfolding form_with stop_of
last_reads true kind bs e on =
    order_reads kind (64 ∷ []) bs e λ x mid p e.
    order_reads 64 [] mid e λ o rest q e.
    on x rest (rw (ended_only tab (read kind bs) x mid p) (end_origin x mid q))
last_reads false kind bs e on = order_reads kind [] bs e λ x rest p e. on x rest (rw (ended_only lf (read kind bs) x rest p) (end_lf x rest))

-- what stood before the end of a line does not matter to it
end_any : (z x : ℕ) {y : ℕ} (bs : List ℕ) {rest : List ℕ} → line_end (is x bs) ≡ is y rest → line_end (is z bs) ≡ is z rest
end_any z x {y} bs {rest} e = go (line_end_only (is x bs) y rest e)
  where
    by : (mid : List ℕ) → bs ≡ mid → Tail rest mid → line_end (is z bs) ≡ is z rest
    by mid q (at_once s) = rw (q, s) (end_lf z rest)
    by mid q (after_origin o h s) = rw (q, s) (end_field z o rest h)

    go : Ending.Ends (is x bs) y rest → line_end (is z bs) ≡ is z rest
    go k = let r = k.read in let q : bs ≡ k.mid = cc in by k.mid q k.tail

module _ (earlier : List Tree) (enough : indices ≤ length earlier) where
  child : (stop : ℕ) (bs : List ℕ) {i : ℕ} {rest : List ℕ} → decimal_field stop indices bs ≡ is i rest → child_field stop earlier bs ≡ is (get_or earlier i (leaf pi)) rest
  unfolding child_by then
  child stop bs p = rw (wider stop indices (length earlier) bs enough p)

  child_end : (bs : List ℕ) {i : ℕ} {rest : List ℕ} → line_end (decimal indices bs) ≡ is i rest → child_by line_end earlier bs ≡ is (get_or earlier i (leaf pi)) rest
  unfolding child_by then
  child_end bs {i} {rest} p =
      let k = line_end_only (decimal indices bs) i rest p in
      rw (wider_number indices (length earlier) bs enough k.read, ← k.read, p)

  module _ (origin : Bool) (bs : List ℕ) where
    number_taken : fault_in (form_with origin (bytes "nHH")) (110 ∷ bs) ≡ Fault.Order → Taken (node_fields earlier 110 bs)
    unfolding line_by fields_of number_fields then read words_of name_from starts
    number_taken e =
        field_reads origin 110 72 (72 ∷ []) (110 ∷ bs) e λ o mid l e.
        field_reads origin 72 72 [] mid e λ re next p e.
        last_reads origin 72 next e λ im last q.
        letter_reads 110 bs l λ z.
        rw (z, ended_here {A = ℕ} tab 110 mid, p, q) taken

    variable_taken : fault_in (form_with origin (bytes "vN")) (118 ∷ bs) ≡ Fault.Order → Taken (node_fields earlier 118 bs)
    unfolding line_by fields_of variable_fields then read words_of name_from starts
    variable_taken e =
        field_reads origin 118 78 [] (118 ∷ bs) e λ o mid l e.
        last_reads origin 78 mid e λ v last p.
        letter_reads 118 bs l λ z.
        rw (z, ended_here {A = ℕ} tab 118 mid, p) taken

    cell_taken : fault_in (form_with origin (bytes "mNI")) (109 ∷ bs) ≡ Fault.Order → Taken (node_fields earlier 109 bs)
    unfolding line_by fields_of cell_fields then read words_of name_from starts
    cell_taken e =
        field_reads origin 109 78 (73 ∷ []) (109 ∷ bs) e λ o mid l e.
        field_reads origin 78 73 [] mid e λ region next p e.
        last_reads origin 73 next e λ index last q.
        letter_reads 109 bs l λ z.
        rw (z, ended_here {A = ℕ} tab 109 mid, p, q) taken

    function_taken : fault_in (form_with origin (bytes "fFI")) (102 ∷ bs) ≡ Fault.Order → Taken (node_fields earlier 102 bs)
    unfolding line_by fields_of function_fields then read words_of name_from starts
    function_taken e =
        field_reads origin 102 70 (73 ∷ []) (102 ∷ bs) e λ o mid l e.
        field_reads origin 70 73 [] mid e λ f next p e.
        last_reads origin 73 next e λ i last q.
        letter_reads 102 bs l λ z.
        rw (z, ended_here {A = ℕ} tab 102 mid, p, child_end next q) taken

    prefix_taken : fault_in (form_with origin (bytes "uUI")) (117 ∷ bs) ≡ Fault.Order → Taken (node_fields earlier 117 bs)
    unfolding line_by fields_of prefix_fields then read words_of name_from starts
    prefix_taken e =
        field_reads origin 117 85 (73 ∷ []) (117 ∷ bs) e λ o mid l e.
        field_reads origin 85 73 [] mid e λ f next p e.
        last_reads origin 73 next e λ i last q.
        letter_reads 117 bs l λ z.
        rw (z, ended_here {A = ℕ} tab 117 mid, p, child_end next q) taken

    infix_taken : fault_in (form_with origin (bytes "bBII")) (98 ∷ bs) ≡ Fault.Order → Taken (node_fields earlier 98 bs)
    unfolding line_by fields_of infix_fields then read words_of name_from starts
    infix_taken e =
        field_reads origin 98 66 (73 ∷ 73 ∷ []) (98 ∷ bs) e λ o mid l e.
        field_reads origin 66 73 (73 ∷ []) mid e λ f left p e.
        field_reads origin 73 73 [] left e λ i right q e.
        last_reads origin 73 right e λ j last r.
        letter_reads 98 bs l λ z.
        rw (z, ended_here {A = ℕ} tab 98 mid, p, child tab left q, child_end right r) taken

    pi_taken : fault_in (form_with origin (bytes "p")) (112 ∷ bs) ≡ Fault.Order → Taken (node_fields earlier 112 bs)
    unfolding line_by pi_line then read words_of name_from starts
    pi_taken e =
        last_reads origin 112 (112 ∷ bs) e λ o last l.
        rw (end_any 0 1 bs l) taken

    -- a first byte that begins no line
    none_taken : {A : Type 0} (first : ℕ) → (first ≡ 110 → ⊥) → fault_in (form_with origin (bytes "n")) (first ∷ bs) ≡ Fault.Order → A
    unfolding read words_of name_from starts
    none_taken first n e =
        last_reads origin 110 (first ∷ bs) e λ o last l.
        never (sym end_bad ∙ (rw (ne_eqb first 110 n) at l))

    form_taken : (first : ℕ) → fault_in (form_with origin (node_form first)) (first ∷ bs) ≡ Fault.Order → Taken (node_fields earlier first bs)
    unfolding node_form
    form_taken first e = elim (ℕ_discrete first 110) [
      | yes q ↦ rw q (number_taken (rw q at e))
      | no n ↦ elim (ℕ_discrete first 112) [
        | yes q ↦ rw q (pi_taken (rw q at e))
        | no p ↦ elim (ℕ_discrete first 118) [
          | yes q ↦ rw q (variable_taken (rw q at e))
          | no v ↦ elim (ℕ_discrete first 109) [
            | yes q ↦ rw q (cell_taken (rw q at e))
            | no m ↦ elim (ℕ_discrete first 102) [
              | yes q ↦ rw q (function_taken (rw q at e))
              | no f ↦ elim (ℕ_discrete first 117) [
                | yes q ↦ rw q (prefix_taken (rw q at e))
                | no u ↦ elim (ℕ_discrete first 98) [
                  | yes q ↦ rw q (infix_taken (rw q at e))
                  | no b ↦ none_taken first n (rw (ne_eqb first 110 n, ne_eqb first 112 p, ne_eqb first 118 v, ne_eqb first 109 m, ne_eqb first 102 f, ne_eqb first 117 u, ne_eqb first 98 b) at e)
                ]
              ]
            ]
          ]
        ]
      ]
    ]

  -- every line but an s line
  pub node_taken : (first : ℕ) (bs : List ℕ) → (first ≡ letter "s" → ⊥) → fault_in (listing_form first (first ∷ bs)) (first ∷ bs) ≡ Fault.Order → Taken (node_fields earlier first bs)
  unfolding listing_form
  node_taken first bs s e = form_taken (has_at (first ∷ bs)) bs first (rw (ne_eqb first 115 s) at e)
