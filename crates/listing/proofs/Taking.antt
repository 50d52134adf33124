-- What one line of a listing does to the table and the store, over plain lists and trees: each return of `take_node` and `take_swap`. Assumes nothing.
use Rattle.std.specs.Prelude.{Option, Some, None}
use Rattle.std.specs.Borrow.{Bor}
use mathlib.Core.Path.{◌≡◌, refl, sym, ap, ◌∙◌, subst}
use mathlib.Core.List.{List, [], ◌∷◌, ◌++◌}
use mathlib.Core.Bool.{Bool, true, false}
use Prim.Native.Nat.{ℕ, zero, suc, ◌+◌, ◌-◌, ◌*◌, ◌≤◌, ◌<◌}
use native.Mathlib.Omega.{arith}
use native.Mathlib.Decide.{dec_lt}
use lib.Dec.{ltb}
use lib.ListN.{length, get_or, set, length-set}
use lib.Seq.{get_or-set_same, get_or-set_other}
use borrow.Author.Tests.{lt-ltb, le-ltb, ltb-true, ne_eqb}
use Rattle.std.specs.Prelude.{Result, Ok, Err}
use Rattle.expression.specs.declared.refusal.Refusal.{Refusal}
use Rattle.expression.specs.Trees.{Tree, leaf, pi}
use Rattle.expression.specs.declared.node.Expression.{Expression}
use Rattle.expression.specs.declared.node.Operands.{Operands}
use Rattle.expression.specs.Nodes.{operands_of, with_operands, mapped_to, mapped, grown, Within}
use Rattle.store.specs.Storing.{intern}
use Rattle.store.specs.Memory.{Memory, tree_of}
use Rattle.store.specs.declared.desk.Refused.{Refused}
use Rattle.store.specs.Desk.{count, refusal_on}
use Rattle.store.specs.Held.{Lent, tree_in, state_in, seen, Built, Adds}
use Rattle.store.specs.Tracing.{with_mark, Traced}
use Rattle.store.proofs.Trees.{grown_alike}
use Rattle.store.proofs.Tracing.{relabelled_mark, tree_relabelled, traced_step, traced_mark, sound_marked, state_marked}
use Rattle.memory.specs.Layout.{swaps_from}
use Rattle.memory.specs.Keys.{up_to, key_at, Ascends}
use Rattle.memory.proofs.Values.{length_up_to, at_up_to, up_to_snoc, up_to_alike, up_to_grown}
use Rattle.memory.proofs.Ascending.{ascends_more}
use Rattle.text.specs.Reading.{is}
use Rattle.text.specs.Lines.{goes, stops, none, above_last}
use Rattle.listing.specs.declared.Progress.{Progress}
use Rattle.listing.specs.Listings.{Known, known, Swap, swap, above_variable, stored, formed, node_line, swap_fields, swapped, swap_line, listing_line}
use Rattle.node_lines.specs.NodeLines.{node_fields}
use Rattle.listing.specs.Tables.{moved_to, moved, line_trees, swap_trees, known_at, Listed, Ready, Step, Takes, FindsSwap, Above}
use Rattle.node_lines.specs.Seen.{Line, Finds}

-- ---- whether there are values

none_cons : {A : Type 0} (x : A) (xs : List A) → none (x ∷ xs) ≡ false
unfolding none
none_cons x xs = refl

none_up_to : {A : Type 0} (n : ℕ) (f : ℕ → A) → 0 < n → none (up_to n f) ≡ false
none_up_to n f h = go (up_to n f) (length_up_to n f)
  where
    go : {A : Type 0} (l : List A) → length l ≡ n → none l ≡ false
    go [] e = absurd (omega (arith, e, h))
    go (x ∷ xs) e = none_cons x xs

-- ---- operands by the table

mapped_moved : (table : List ℕ) (e : Expression) → mapped (λ k. get_or table k 0) e ≡ moved table e
unfolding mapped_to moved_to
mapped_moved table e = go (operands_of e)
  where
    go : (o : Operands) → mapped_to (λ k. get_or table k 0) e o ≡ moved_to table e o
    go Operands.Nothing = refl
    go (Operands.One a) = refl
    go (Operands.Two a b) = refl

-- what `map_operands` gives by a look-up in a list
pub looked_up : (table : List ℕ) (e : Expression) {r : Expression} → r ≡ mapped (λ k. get_or table k 0) e → r ≡ moved table e
looked_up table e p = p ∙ mapped_moved table e

moved_tree : (look : ℕ → Tree) (table : List ℕ) (e : Expression) → grown look (moved table e) ≡ grown (λ k. look (get_or table k 0)) e
unfolding grown operands_of with_operands moved_to
moved_tree look table (Expression.Number z) = refl
moved_tree look table Expression.PiConstant = refl
moved_tree look table (Expression.Variable v) = refl
moved_tree look table (Expression.Address r i) = refl
moved_tree look table (Expression.FunctionCall f a) = refl
moved_tree look table (Expression.Prefix o a) = refl
moved_tree look table (Expression.Infix o a b) = refl

moved_within : (table : List ℕ) (lines n : ℕ) (e : Expression) → ((k : ℕ) → k < lines → get_or table k 0 < n) → Within lines e → Within n (moved table e)
unfolding operands_of with_operands moved_to
moved_within table lines n (Expression.Number z) h w = tt
moved_within table lines n Expression.PiConstant h w = tt
moved_within table lines n (Expression.Variable v) h w = tt
moved_within table lines n (Expression.Address r i) h w = tt
moved_within table lines n (Expression.FunctionCall f a) h w = h a w
moved_within table lines n (Expression.Prefix o a) h w = h a w
moved_within table lines n (Expression.Infix o a b) h w = (h a w.0, h b w.1)

-- ---- a node line

module _ {table : List ℕ} {p : Progress} (ready : Ready table p) {l : Lent} (li : Listed l table p.lines p.swaps) where
  lines_long : length (line_trees l.rows table p.lines) ≡ p.lines
  lines_long = length_up_to p.lines (λ k. tree_in l (get_or table k 0))

  swaps_long : length (swap_trees l.rows table p.swaps) ≡ p.swaps
  swaps_long = length_up_to p.swaps _

  module _ (first : ℕ) (s : List ℕ) where
    pub node_long : {l' : Lent} {table' : List ℕ} → 1024 ≤ p.lines
        → Takes (node_line (known_at l table p) first s) p (Err (Refusal.LongList (p.lines + p.swaps))) l' table'
    unfolding node_line
    node_long h = record { answer = sym (rw (lines_long, le-ltb p.lines 1024 h, swaps_long)); after = tt }

    pub node_late : {l' : Lent} {table' : List ℕ} → p.lines < 1024 → 0 < p.swaps
        → Takes (node_line (known_at l table p) first s) p (Err (Refusal.BadList (p.lines + p.swaps))) l' table'
    unfolding node_line formed
    node_late h q = record { answer = sym (rw (lines_long, lt-ltb p.lines 1024 h, none_up_to p.swaps _ q, lines_long, swaps_long)); after = tt }

    -- the fields of a node line stand there
    module _ {r : Line} (few : p.lines < 1024) (unswapped : p.swaps ≤ 0) (f : Finds (λ earlier. node_fields earlier first s) p.lines r) where
      none_yet : none (swap_trees l.rows table p.swaps) ≡ true
      unfolding up_to none
      none_yet = let z : p.swaps ≡ 0 = omega (arith, unswapped) in rw z

      pub node_bad : {l' : Lent} {table' : List ℕ} → r ≡ None
          → Takes (node_line (known_at l table p) first s) p (Err (Refusal.BadList (p.lines + p.swaps))) l' table'
      unfolding node_line formed
      node_bad e =
          let q = f.seen (line_trees l.rows table p.lines) lines_long in
          let z = rw e at q in
          record { answer = sym (rw (lines_long, lt-ltb p.lines 1024 few, none_yet, ← z, lines_long, swaps_long)); after = tt }

      module _ {e : Expression} {rest : Bor (List ℕ)} (is-node : r ≡ Some (e, rest)) where
        pub operands : Within p.lines e
        operands = rw is-node at f.within

        pub operands_stored : Within (count l.desk) (moved table e)
        operands_stored = moved_within table p.lines (count l.desk) e li.lists.nodes operands

        tree_is : grown (λ k. get_or (line_trees l.rows table p.lines) k (leaf pi)) e ≡ tree_of l.rows (moved table e)
        tree_is =
            grown_alike _ (λ k. tree_in l (get_or table k 0)) p.lines e operands (λ k h. at_up_to p.lines (λ k. tree_in l (get_or table k 0)) (leaf pi) k h)
            ∙ sym (moved_tree (tree_in l) table e)

        found : node_line (known_at l table p) first s
            ≡ stored (known_at l table p) rest.now (intern (tree_of l.rows (moved table e)) (state_in l))
        unfolding node_line formed
        found =
            let q = f.seen (line_trees l.rows table p.lines) lines_long in
            let z = rw (is-node, tree_is) at q in
            rw (lines_long, lt-ltb p.lines 1024 few, none_yet, ← z)

        pub node_refused : {r : Result ℕ Refused} {l' : Lent} → Adds (moved table e) r l l' → {refusal : Refused} → r ≡ Err refusal
            → {why : Refusal} {table' : List ℕ} → why ≡ refusal_on l'.desk
            → Takes (node_line (known_at l table p) first s) p (Err why) l' table'
        unfolding stored seen
        node_refused adds h x =
            let built = rw h at (adds li.lists.sound operands_stored) in
            record { answer = ap stops x ∙ sym (found ∙ ap (stored (known_at l table p) rest.now) (sym built.answer)); after = tt }

        module _ {node : ℕ} {l' : Lent} (adds : Adds (moved table e) (Ok node) l l') where
          built : Built (intern (tree_of l.rows (moved table e)) (state_in l)) (Ok node) l l'
          built = adds li.lists.sound operands_stored

          -- the node came from this line
          abbrev marked : Lent
          marked = record { rows = with_mark l'.rows node p.lines; desk = l'.desk }

          same_tree : (k : ℕ) → tree_in marked k ≡ tree_in l' k
          same_tree k = tree_relabelled (relabelled_mark l'.rows node p.lines) k

          pub node_next : {rows : Memory} {table' : List ℕ} → rows ≡ marked.rows → table' ≡ set table p.lines node
              → Takes (node_line (known_at l table p) first s) p
              (Ok (record { lines = p.lines + 1; swaps = p.swaps }, rest)) (record { rows = rows; desk = l'.desk }) table'
          unfolding stored seen
          node_next {rows} {table'} m w =
              rw m (record {
                answer = sym (found ∙ ap (stored (known_at l table p) rest.now) (sym built.answer)
                    ∙ ap (λ ts. goes (known ts (swap_trees l.rows table p.swaps) (state_in l')) rest.now) (sym grows)
                    ∙ ap (λ ss. goes (known (line_trees marked.rows table' (p.lines + 1)) ss (state_in l')) rest.now) nothing_named
                    ∙ ap (λ σ. goes (known (line_trees marked.rows table' (p.lines + 1)) (swap_trees marked.rows table' p.swaps) σ) rest.now) (sym (state_marked l' node p.lines)));
                after = record {
                  listed = record {
                    lists = record { sound = sound_marked node p.lines built.step.sound; nodes = inside; named = λ k h. absurd (omega (arith, h, unswapped)); ascends = record { each = λ j h. absurd (omega (arith, h, unswapped)) } };
                    traced = subst (λ ts. Traced ts marked) (sym grows) origins;
                  };
                  count = omega arith;
                  lines = omega (arith, few);
                  swaps = omega (arith, ready.swaps);
                };
              })
            where
              at_line_law : get_or table' p.lines 0 ≡ node
              at_line_law = rw w (get_or-set_same table p.lines node 0 (omega (arith, few, ready.long)))

              before : (k : ℕ) → k < p.lines → get_or table' k 0 ≡ get_or table k 0
              before k h = rw w (get_or-set_other table p.lines k node 0 (λ z. omega (arith, z, h)))

              grows : line_trees marked.rows table' (p.lines + 1) ≡ line_trees l.rows table p.lines ++ (tree_in l' node ∷ [])
              grows =
                  up_to_grown p.lines (λ k. tree_in marked (get_or table' k 0)) (λ k. tree_in l (get_or table k 0)) (tree_in l' node)
                  (λ k h. rw (before k h) (same_tree _ ∙ built.step.stays _ (li.lists.nodes k h))) (ap (tree_in marked) at_line_law ∙ same_tree node)

              origins : Traced (line_trees l.rows table p.lines ++ (tree_in l' node ∷ [])) marked
              origins =
                  subst (λ line. Traced (line_trees l.rows table p.lines ++ (tree_in l' node ∷ [])) (record { rows = with_mark l'.rows node line; desk = l'.desk })) lines_long
                  (traced_mark node built.step.sound (traced_step li.lists.sound li.traced built.step) built.inside (omega (arith, lines_long, few)))

              nothing_named : swap_trees l.rows table p.swaps ≡ swap_trees marked.rows table' p.swaps
              nothing_named = up_to_alike p.swaps _ _ (λ k h. absurd (omega (arith, h, unswapped)))

              inside : (k : ℕ) → k < p.lines + 1 → get_or table' k 0 < count l'.desk
              inside k o = go (dec_lt k p.lines)
                where
                  go : Dec (k < p.lines) → get_or table' k 0 < count l'.desk
                  go (yes y) = rw (before k y) (omega (arith, li.lists.nodes k y, built.step.grew))
                  go (no g) = let z : k ≡ p.lines = omega arith in rw (z, at_line_law) built.inside

-- ---- an s line

above_snoc : (ss : List Swap) (v v' : ℕ) (t t' : Tree) → above_last above_variable (ss ++ (swap v t ∷ [])) (swap v' t') ≡ ltb v v'
unfolding above_last above_variable
above_snoc [] v v' t t' = refl
above_snoc (s ∷ []) v v' t t' = refl
above_snoc (s ∷ r ∷ ss) v v' t t' = above_snoc (r ∷ ss) v v' t t'

pub above_first : (m : Memory) (table : List ℕ) (swaps v : ℕ) (t : Tree) → swaps ≡ 0 → true ≡ above_last above_variable (swap_trees m table swaps) (swap v t)
unfolding up_to above_last
above_first m table swaps v t e = rw e

pub above_later : (m : Memory) (table : List ℕ) (swaps v : ℕ) (t : Tree) → (swaps ≡ 0 → ⊥) → ltb (get_or table (swaps_from + 2 * (swaps - 1)) 0) v ≡ above_last above_variable (swap_trees m table swaps) (swap v t)
above_later m table zero v t h = absurd (h refl)
above_later m table (suc k) v t h =
    let z : swaps_from + 2 * (suc k - 1) ≡ swaps_from + 2 * k = omega arith in
    rw z (sym (ap (λ ss. above_last above_variable ss (swap v t)) (up_to_snoc k _) ∙ above_snoc (swap_trees m table k) (get_or table (swaps_from + 2 * k) 0) v _ t))

module _ (substituting : Bool) {table : List ℕ} {p : Progress} (ready : Ready table p) {l : Lent} (li : Listed l table p.lines p.swaps) (s : List ℕ) where
  pub swap_long : {l' : Lent} {table' : List ℕ} → 256 ≤ p.swaps
      → Takes (swap_line substituting (known_at l table p) 115 s) p (Err (Refusal.LongList (p.lines + p.swaps))) l' table'
  unfolding swap_line
  swap_long h = record { answer = sym (rw (swaps_long ready li, le-ltb p.swaps 256 h, lines_long ready li)); after = tt }

  module _ {r : Option (ℕ × ℕ × Bor (List ℕ))} (few : p.swaps < 256) (f : FindsSwap s p.lines r) where
    pub swap_bad : {l' : Lent} {table' : List ℕ} → r ≡ None
        → Takes (swap_line substituting (known_at l table p) 115 s) p (Err (Refusal.BadList (p.lines + p.swaps))) l' table'
    unfolding swap_line swapped
    swap_bad e =
        let z = rw e at (f.seen (line_trees l.rows table p.lines) (lines_long ready li)) in
        record { answer = sym (rw (swaps_long ready li, lt-ltb p.swaps 256 few, ← z, lines_long ready li, swaps_long ready li)); after = tt }

    module _ {v line : ℕ} {rest : Bor (List ℕ)} (is-swap : r ≡ Some (v, line, rest)) where
      operand : line < p.lines
      operand = rw is-swap at f.within

      named_tree : Tree
      named_tree = tree_in l (get_or table line 0)

      found_swap : swap_fields (line_trees l.rows table p.lines) 115 s ≡ is (swap v named_tree) rest.now
      unfolding named_tree
      found_swap =
          let z = rw is-swap at (f.seen (line_trees l.rows table p.lines) (lines_long ready li)) in
          sym z ∙ rw (at_up_to p.lines (λ k. tree_in l (get_or table k 0)) (leaf pi) line operand)

      pub swap_unasked : {l' : Lent} {table' : List ℕ} → substituting ≡ false
          → Takes (swap_line substituting (known_at l table p) 115 s) p (Err (Refusal.BadList (p.lines + p.swaps))) l' table'
      unfolding swap_line swapped
      swap_unasked e = record { answer = sym (rw (swaps_long ready li, lt-ltb p.swaps 256 few, found_swap, e, lines_long ready li, swaps_long ready li)); after = tt }

      module _ {a : Bool} (asked : substituting ≡ true) (tests : Above table p.swaps v a) where
        pub swap_low : {l' : Lent} {table' : List ℕ} → a ≡ false
            → Takes (swap_line substituting (known_at l table p) 115 s) p (Err (Refusal.BadList (p.lines + p.swaps))) l' table'
        unfolding swap_line swapped named_tree
        swap_low e =
            let t : above_last above_variable (swap_trees l.rows table p.swaps) (swap v named_tree) ≡ false = sym (tests l.rows named_tree) ∙ e in
            record { answer = sym (rw (swaps_long ready li, lt-ltb p.swaps 256 few, found_swap, asked, t, lines_long ready li, swaps_long ready li)); after = tt }

        pub swap_next : {table₁ table' : List ℕ} {node : ℕ} → a ≡ true → node ≡ get_or table line 0 → table₁ ≡ set table (swaps_from + 2 * p.swaps) v → table' ≡ set table₁ (swaps_from + 2 * p.swaps + 1) node
            → Takes (swap_line substituting (known_at l table p) 115 s) p
            (Ok (record { lines = p.lines; swaps = p.swaps + 1 }, rest)) l table'
        unfolding swap_line swapped named_tree
        swap_next {table₁} {table'} {node} e n w₁ w₂ =
            let t : above_last above_variable (swap_trees l.rows table p.swaps) (swap v named_tree) ≡ true = sym (tests l.rows named_tree) ∙ e in
            record {
              answer = sym (rw (swaps_long ready li, lt-ltb p.swaps 256 few, found_swap, asked, t)
                  (ap (λ ts. goes (known ts (swap_trees l.rows table p.swaps ++ (swap v named_tree ∷ [])) (state_in l)) rest.now) same_lines
                  ∙ ap (λ ss. goes (known (line_trees l.rows table' p.lines) ss (state_in l)) rest.now) (sym grows)));
              after = record {
                listed = record {
                  lists = record { sound = li.lists.sound; nodes = λ k h. rw (kept k (omega (arith, h, ready.lines))) (li.lists.nodes k h); named = inside; ascends = rising };
                  traced = subst (λ ts. Traced ts l) same_lines li.traced;
                };
                count = omega arith;
                lines = ready.lines;
                swaps = omega (arith, few);
              };
            }
          where
            kept : (k : ℕ) → k < swaps_from + 2 * p.swaps → get_or table' k 0 ≡ get_or table k 0
            kept k h = rw w₂ (get_or-set_other table₁ (swaps_from + 2 * p.swaps + 1) k node 0 (λ z. omega (arith, z, h)) ∙ rw w₁ (get_or-set_other table (swaps_from + 2 * p.swaps) k v 0 (λ z. omega (arith, z, h))))

            long₁ : length table₁ ≡ length table
            long₁ = rw w₁ (length-set table (swaps_from + 2 * p.swaps) v)

            variable_there : get_or table' (swaps_from + 2 * p.swaps) 0 ≡ v
            variable_there =
                rw w₂ (get_or-set_other table₁ (swaps_from + 2 * p.swaps + 1) (swaps_from + 2 * p.swaps) node 0 (λ z. omega (arith, z))
                ∙ rw w₁ (get_or-set_same table (swaps_from + 2 * p.swaps) v 0 (omega (arith, few, ready.long))))

            node_there : get_or table' (swaps_from + 2 * p.swaps + 1) 0 ≡ get_or table line 0
            node_there = rw (w₂, n) (get_or-set_same table₁ (swaps_from + 2 * p.swaps + 1) (get_or table line 0) 0 (omega (arith, few, ready.long, long₁)))

            same_lines : line_trees l.rows table p.lines ≡ line_trees l.rows table' p.lines
            same_lines = up_to_alike p.lines _ _ (λ k h. ap (tree_in l) (sym (kept k (omega (arith, h, ready.lines)))))

            grows : swap_trees l.rows table' (p.swaps + 1) ≡ swap_trees l.rows table p.swaps ++ (swap v (tree_in l (get_or table line 0)) ∷ [])
            grows =
                up_to_grown p.swaps (λ k. swap (get_or table' (swaps_from + 2 * k) 0) (tree_in l (get_or table' (swaps_from + 2 * k + 1) 0))) (λ k. swap (get_or table (swaps_from + 2 * k) 0) (tree_in l (get_or table (swaps_from + 2 * k + 1) 0))) (swap v (tree_in l (get_or table line 0)))
                (λ k h. rw (kept (swaps_from + 2 * k) (omega (arith, h)), kept (swaps_from + 2 * k + 1) (omega (arith, h)))) (rw (variable_there, node_there))

            last_below : (j : ℕ) → j + 1 ≡ p.swaps → get_or table (2 * j + swaps_from) 0 < v
            last_below j i =
                let z : 2 * j + swaps_from ≡ swaps_from + 2 * (p.swaps - 1) = omega (arith, i) in
                rw z (ltb-true (get_or table (swaps_from + 2 * (p.swaps - 1)) 0) v (above_later l.rows table p.swaps v named_tree (λ q. omega (arith, q, i)) ∙ sym (tests l.rows named_tree) ∙ e))

            rising : Ascends (key_at table' swaps_from 2) (p.swaps + 1)
            rising =
                let z : 2 * p.swaps + swaps_from ≡ swaps_from + 2 * p.swaps = omega arith in
                ascends_more (key_at table swaps_from 2) (key_at table' swaps_from 2) p.swaps v li.lists.ascends last_below (λ j h. kept (2 * j + swaps_from) (omega (arith, h))) (rw z variable_there)

            inside : (k : ℕ) → k < p.swaps + 1 → get_or table' (swaps_from + 2 * k + 1) 0 < count l.desk
            inside k h = go (dec_lt k p.swaps)
              where
                go : Dec (k < p.swaps) → get_or table' (swaps_from + 2 * k + 1) 0 < count l.desk
                go (yes y) = rw (kept (swaps_from + 2 * k + 1) (omega (arith, y))) (li.lists.named k y)
                go (no g) = let z : k ≡ p.swaps = omega arith in rw (z, node_there) (li.lists.nodes line operand)

-- ---- any line

module _ (substituting : Bool) (k : Known) (first : ℕ) (bs : List ℕ) {table : List ℕ} {p : Progress} {r : Step} {l : Lent} where
  pub is_swap_line : first ≡ 115 → Takes (swap_line substituting k 115 bs) p r l table → Takes (listing_line substituting k first bs) p r l table
  unfolding listing_line
  is_swap_line e t = record { answer = t.answer ∙ sym (rw e); after = t.after }

  pub is_node_line : (first ≡ 115 → ⊥) → Takes (node_line k first bs) p r l table → Takes (listing_line substituting k first bs) p r l table
  unfolding listing_line
  is_node_line e t = record { answer = t.answer ∙ sym (rw (ne_eqb first 115 e)); after = t.after }
