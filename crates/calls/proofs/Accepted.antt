-- Every expression that a listing gives is within 01's limits, its leaves are such as a text can say, and it is stored with all below it; so are the
-- trees that s lines name. The values of a sheet's t rows are pairs of doubles. Assumes nothing.
use mathlib.Core.Path.{◌≡◌, refl, subst}
use mathlib.Core.Bool.{Bool, true, false, cond, ◌&&◌}
use mathlib.Core.List.{List, [], ◌∷◌}
use Prim.Native.Nat.{ℕ, suc, ◌<◌}
use native.Mathlib.Omega.{arith}
use lib.Dec.{ltb, eqb}
use lib.ListN.{length}
use Rattle.complex.specs.Bits.{Fitting}
use Rattle.complex.proofs.Pairs.{of_parts_fitting}
use Rattle.expression.specs.declared.refusal.Refusal.{Refusal}
use Rattle.expression.specs.Trees.{Tree, leaf, pi}
use Rattle.store.specs.Storing as Storing
use Rattle.store.specs.Storing.{State, Answer, gives, intern, recall, fresh}
use Rattle.text.specs.Reading.{Read, is, bad, then, tab, lf, ended, decimal_field, hex_field, name_field, decimal, hex}
use Rattle.text.proofs.Only.{decimal_only, ended_only}
use Rattle.text.specs.Lines as Lines
use Rattle.text.specs.Lines.{Line, Whole, lines, none, above_last}
use Rattle.spelling.specs.Names.{function_names, prefix_names, infix_names, operation_names}
use Rattle.node_lines.specs.NodeLines.{child_by, child_field, number_fields, variable_fields, cell_fields, function_fields, prefix_fields, infix_fields, fields_of, pi_line, line_by, node_fields}
use Rattle.origins.specs.Fields.{line_end}
use Rattle.origins.proofs.Ending.{line_end_only}
use Rattle.listing.specs.Listings as Listings
use Rattle.listing.specs.Listings.{Listing, Swap, accepted, Known, known, stored, formed, most_nodes, most_swaps, node_line, swap_fields, swapped, swap_line, listing_line, last, rooted, whole, listing, above_variable}
use Rattle.sheet.specs.Rows as Rows
use Rattle.sheet.specs.Rows.{Rows, complex_field, second_operand, row_fields, fields_after, sheet_line, variable_line, cell_line, function_line, sheet, rows}
use Rattle.simplification.proofs.Stored.{Given}
use Rattle.calls.specs.Calls as Calls
use Rattle.calls.specs.Calls.{Job, ready, after_listing, with_sheet, job}
use Rattle.calls.proofs.Lining.{LineHas, WholeHas, InLine, InWhole, to_the_end}
use Rattle.calls.proofs.Stored.{Each, each_more, In, New, Good, stored_in, room_in, StoredIn, Sane, limited, GivenIn, stores, tree_of, SwapsIn, value_of, FittingRows}

-- ---- what is read

data Reads {A : Type 0} (P : A → Type 0) : Read A → Type 0 where
  says : {x : A} {rest : List ℕ} → P x → Reads P (is x rest)
  no : Reads P bad

after : {A B : Type 0} {P : A → Type 0} {Q : B → Type 0} {r : Read A} (next : A → List ℕ → Read B) → Reads P r
    → ((x : A) (rest : List ℕ) → P x → Reads Q (next x rest)) → Reads Q (then r next)
unfolding then
after next (says p) f = f _ _ p
after next no f = no

any : {A : Type 0} (r : Read A) → Reads (λ _. Unit {0}) r
any (is x rest) = says tt
any bad = no

either : {A : Type 0} {P : A → Type 0} (b : Bool) {x y : Read A} → Reads P x → Reads P y → Reads P (cond b x y)
either true p q = p
either false p q = q

below : (stop limit : ℕ) (bs : List ℕ) → Reads (λ v. v < limit) (decimal_field stop limit bs)
below stop limit bs = go (decimal_field stop limit bs) refl
  where
    go : (r : Read ℕ) → decimal_field stop limit bs ≡ r → Reads (λ v. v < limit) r
    go bad e = no
    go (is v rest) e = says (decimal_only limit v bs (stop ∷ rest) (ended_only stop _ v rest e)).0

-- at the end of a node line
last_below : (limit : ℕ) (bs : List ℕ) → Reads (λ v. v < limit) (line_end (decimal limit bs))
last_below limit bs = go (line_end (decimal limit bs)) refl
  where
    go : (r : Read ℕ) → line_end (decimal limit bs) ≡ r → Reads (λ v. v < limit) r
    go bad e = no
    go (is v rest) e = let q = line_end_only (decimal limit bs) v rest e in says (decimal_only limit v bs q.mid q.read).0

-- ---- a listing's line: a tree whose operands are stored

module _ (ts nodes : List Tree) (f : Each (In ts) (leaf pi) nodes) where
  child_in : (stop : ℕ) (bs : List ℕ) → Reads (In ts) (child_field stop nodes bs)
  unfolding child_by
  child_in stop bs = after _ (below stop (length nodes) bs) λ i rest l. says (f i l)

  last_child_in : (bs : List ℕ) → Reads (In ts) (child_by line_end nodes bs)
  unfolding child_by
  last_child_in bs = after _ (last_below (length nodes) bs) λ i rest l. says (f i l)

  fields_new : (first : ℕ) (bs : List ℕ) → Reads (New ts) (fields_of line_end nodes first bs)
  unfolding fields_of number_fields variable_fields cell_fields function_fields prefix_fields infix_fields New
  fields_new first bs =
      either (eqb first 110) (after _ (any (hex_field tab bs)) λ re bs _. after _ (any (line_end (hex bs))) λ im bs _. says (of_parts_fitting re im))
      (either (eqb first 118) (after _ (last_below 65536 bs) λ v rest l. says l)
      (either (eqb first 109) (after _ (below tab 65536 bs) λ region bs l. after _ (last_below 4294967296 bs) λ index rest l'. says (l, l'))
      (either (eqb first 102) (after _ (any (name_field tab function_names bs)) λ o bs _. after _ (last_child_in bs) λ t rest i. says i)
      (either (eqb first 117) (after _ (any (name_field tab prefix_names bs)) λ o bs _. after _ (last_child_in bs) λ t rest i. says i)
      (either (eqb first 98)
      (after _ (any (name_field tab infix_names bs)) λ o bs _. after _ (child_in tab bs) λ l bs i. after _ (last_child_in bs) λ r rest j. says (i, j))
      no)))))

  node_new : (first : ℕ) (bs : List ℕ) → Reads (New ts) (node_fields nodes first bs)
  unfolding line_by pi_line New
  node_new first bs =
      either (eqb first 112) (after _ (any (line_end (is 0 bs))) λ _ bs _. says tt) (after _ (any (ended tab (is first bs))) λ first bs _. fields_new first bs)

  swap_in : (first : ℕ) (bs : List ℕ) → Reads (λ w. In ts (tree_of w)) (swap_fields nodes first bs)
  unfolding swap_fields tree_of
  swap_in first bs =
      after _ (any (ended tab (is first bs))) λ _ bs _. after _ (any (decimal_field tab 65536 bs)) λ v bs _. after _ (child_in lf bs) λ t rest i. says i

line_either : {S : Type 0} (P : S → Type 0) (b : Bool) (x y : Line S Refusal) → InLine P x → InLine P y → InLine P (cond b x y)
line_either P true x y p q = p
line_either P false x y p q = q

-- ---- a listing: its nodes, and what its s lines name, are stored

module _ (room : ℕ) where
  record Sound (k : Known) : Type 0 where
    pub sane : Sane room k.store
    pub nodes : Each (StoredIn k.store) (leaf pi) k.nodes
    pub swaps : SwapsIn (stored_in k.store) k.swaps

  stored_sound : (k : Known) (rest : List ℕ) (a : Answer) → Sound k → GivenIn room k.store a → InLine Sound (stored k rest a)
  unfolding stored Given LineHas
  stored_sound k rest (Storing.refused why s) g x = tt
  stored_sound k rest (gives t s) g x = record {
    sane = x.sane;
    nodes = each_more (StoredIn s) (leaf pi) k.nodes t (λ i l. x.stay _ (g.nodes i l)) x.is_in;
    swaps = λ i l. x.stay _ (g.swaps i l);
  }

  formed_sound : (k : Known) {r : Read Tree} → Sound k → Reads (New (stored_in k.store)) r → InLine Sound (formed k r)
  unfolding formed LineHas
  formed_sound k g no = tt
  formed_sound k g (says {x} {rest} p) = stored_sound k rest (intern x k.store) g (stores room x k.store g.sane p)

  swapped_sound : (substituting : Bool) (k : Known) {r : Read Swap} → Sound k → Reads (λ w. StoredIn k.store (tree_of w)) r
      → InLine Sound (swapped substituting k r)
  unfolding swapped LineHas
  swapped_sound substituting k g no = tt
  swapped_sound substituting k g (says {x} p) =
      line_either Sound (substituting && above_last above_variable k.swaps x) _ _
      (record { sane = g.sane; nodes = g.nodes; swaps = each_more (λ w. StoredIn k.store (tree_of w)) _ k.swaps x g.swaps p }) tt

  line_sound : (substituting : Bool) (k : Known) (first : ℕ) (bs : List ℕ) → Sound k → InLine Sound (listing_line substituting k first bs)
  unfolding listing_line swap_line node_line LineHas
  line_sound substituting k first bs g =
      let ts = stored_in k.store in
      line_either Sound (eqb first 115) _ _
      (line_either Sound (ltb (length k.swaps) most_swaps) _ _ (swapped_sound substituting k g (swap_in ts k.nodes g.nodes first bs)) tt)
      (line_either Sound (ltb (length k.nodes) most_nodes) _ _ (formed_sound k g (either (none k.swaps) (node_new ts k.nodes g.nodes first bs) no)) tt)

  unfoldable pub Listed : Listing → Type 0
  Listed (accepted root swaps store) = Sane room store × StoredIn store root × SwapsIn (stored_in store) swaps
  Listed (Listings.refused why) = Unit {0}

  last_in : (ts : List Tree) (t : Tree) (us : List Tree) → Each (In ts) (leaf pi) (t ∷ us) → In ts (last t us)
  unfolding last
  last_in ts t [] f = f 0 (omega arith)
  last_in ts t (u ∷ us) f = last_in ts u us λ k l. f (suc k) (omega (arith, l))

  whole_listed : (w : Whole Known Refusal) → InWhole Sound w → Listed (whole w)
  unfolding whole WholeHas Listed rooted
  whole_listed (Lines.refused why) g = tt
  whole_listed (Lines.read k) g = go k.nodes g.nodes
    where
      go : (ts : List Tree) → Each (StoredIn k.store) (leaf pi) ts → Listed (rooted ts k.swaps k.store)
      go [] f = tt
      go (t ∷ ts) f = (g.sane, last_in (stored_in k.store) t ts f, g.swaps)

  pub listing_listed : (substituting : Bool) (bs : List ℕ) → Listed (listing substituting bs (fresh room 0))
  unfolding listing stored_in room_in recall
  listing_listed substituting bs =
      whole_listed (lines (listing_line substituting) (known [] [] (fresh room 0)) bs)
      (to_the_end Sound (listing_line substituting) (line_sound substituting) (known [] [] (fresh room 0)) bs (record {
        sane = record {
          roomy = refl;
          few = omega arith;
          good = λ k l. absurd (omega arith);
          kept = λ t u e. let z : ◌≡◌ {A = ℕ} 0 1 = cc in absurd (omega arith);
        };
        nodes = λ k l. absurd (omega arith);
        swaps = λ k l. absurd (omega arith);
      }))

pub accepted_good : (substituting : Bool) (bs : List ℕ) (room : ℕ) {root : Tree} {swaps : List Swap} {store : State}
    → listing substituting bs (fresh room 0) ≡ accepted root swaps store → Good root
unfolding Listed
accepted_good substituting bs room e =
    let x = subst (Listed room) e (listing_listed room substituting bs) in record { limited = limited x.0 x.1; proper = x.1.proper }

-- ---- a sheet: its t rows hold pairs of doubles

complex_fits : (stop : ℕ) (bs : List ℕ) → Reads Fitting (complex_field stop bs)
unfolding complex_field
complex_fits stop bs = after _ (any (hex_field tab bs)) λ re bs _. after _ (any (hex_field stop bs)) λ im bs _. says (of_parts_fitting re im)

row_fits : (bs : List ℕ) → Reads (λ r. Fitting (value_of r)) (row_fields bs)
unfolding row_fields value_of
row_fits bs =
    after _ (any (name_field tab operation_names bs)) λ name bs _. after _ (any (complex_field tab bs)) λ x bs _. after _ (any (second_operand name bs)) λ y bs _.
    after _ (complex_fits lf bs) λ z rest f. says f

FittingSheet : Rows → Type 0
FittingSheet R = FittingRows R.functions

sheet_formed : {A : Type 0} {P : A → Type 0} (R : Rows) (most : ℕ) (before : List A) (inOrder : A → Bool) (with : A → Rows) {r : Read A} → Reads P r
    → ((x : A) → P x → FittingSheet (with x)) → InLine FittingSheet (Rows.counted R most before (Rows.formed R inOrder with r))
unfolding Rows.counted Rows.formed LineHas
sheet_formed R most before inOrder with no f = line_either FittingSheet (ltb (length before) most) _ _ tt tt
sheet_formed R most before inOrder with (says {x} p) f =
    line_either FittingSheet (ltb (length before) most) _ _ (line_either FittingSheet (inOrder x) _ _ (f x p) tt) tt

sheet_line_law : (R : Rows) (first : ℕ) (bs : List ℕ) → FittingSheet R → InLine FittingSheet (sheet_line R first bs)
unfolding sheet_line variable_line cell_line function_line FittingSheet LineHas
sheet_line_law R first bs g =
    line_either FittingSheet (eqb first 118) _ _ (sheet_formed R _ _ _ _ (any (fields_after first bs Rows.variable_fields)) λ x _. g)
    (line_either FittingSheet (eqb first 109) _ _ (sheet_formed R _ _ _ _ (any (fields_after first bs Rows.cell_fields)) λ x _. g)
    (line_either FittingSheet (eqb first 116) _ _
    (sheet_formed R _ _ _ _ (after _ (any (ended tab (is first bs))) λ _ bs _. row_fits bs) λ x p.
    each_more (λ r. Fitting (value_of r)) _ R.functions x g p) tt))

sheet_fits : (bs : List ℕ) → InWhole FittingSheet (sheet bs)
unfolding sheet FittingSheet
sheet_fits bs = to_the_end FittingSheet sheet_line sheet_line_law (rows [] [] []) bs λ k l. absurd (omega arith)

-- ---- both
unfoldable pub Jobbed : (room : ℕ) → Job → Type 0
Jobbed room (ready root store R) = Sane room store × StoredIn store root × FittingRows R.functions
Jobbed room (Calls.refused why) = Unit {0}

pub job_in : (room : ℕ) (list values : List ℕ) → Jobbed room (job room list values)
unfolding job after_listing with_sheet Listed Jobbed WholeHas FittingSheet
job_in room list values = go (listing false list (fresh room 0)) (listing_listed room false list) (sheet values) (sheet_fits values)
  where
    go : (l : Listing) → Listed room l → (w : Whole Rows Refusal) → InWhole FittingSheet w
        → Jobbed room (after_listing Calls.refused l λ root swaps store. with_sheet root store w)
    go (Listings.refused why) x w y = tt
    go (accepted root swaps store) x (Lines.refused why) y = tt
    go (accepted root swaps store) x (Lines.read R) y = (x.0, x.1, y)
