-- The text of the lines that a table orders is that of the tree. Assumes nothing.
use mathlib.Core.Path.{◌≡◌, refl, sym, ap, ◌∙◌, subst}
use mathlib.Core.List.{List, [], ◌∷◌, ◌++◌, append_assoc, append-nil}
use mathlib.Core.Logic.{⊎_elim}
use mathlib.Core.Bool.{true}
use Prim.Native.Nat.{ℕ, zero, suc, ◌+◌, ◌≤◌, ◌<◌}
use native.Mathlib.Nat.{eq-or-lt_of_le}
use native.Mathlib.Omega.{arith}
use lib.ListN.{length, get_or}
use lib.Seq.{sets-eq}
use borrow.Author.Tests.{lt-ltb, le-ltb}
use Rattle.std.specs.Prelude.{Ok, Err}
use Rattle.expression.specs.declared.refusal.Refusal.{Refusal}
use Rattle.expression.specs.Trees.{Tree, leaf, pi}
use Rattle.expression.specs.Alike.{identical}
use Rattle.expression.specs.declared.node.Expression.{Expression}
use Rattle.expression.specs.Nodes.{operands_of, with_operands, grown, Within}
use Rattle.store.specs.Storing.{among, place}
use Rattle.store.specs.Memory.{Memory, expression_at, tree_at, tree_of}
use Rattle.store.specs.Held.{Holds}
use Rattle.store.proofs.Places.{place_within, among_no}
use Rattle.store.proofs.Stored.{read_node}
use Rattle.store.proofs.Trees.{within_more, room_each}
use Rattle.memory.specs.Keys.{up_to}
use Rattle.memory.proofs.Values.{length_up_to, at_up_to, up_to_snoc}
use Rattle.text.specs.Writing.{line}
use Rattle.text.specs.Put.{Put}
use Rattle.writing.specs.Order.{order, line_fields, text, text_of, written}
use Rattle.writing.specs.Ordering.{AllIn, empty, Listed, visited, Visited, above_all, text_fields, line_text, line_at, lines_text, all_text}
use Rattle.memory.specs.Layout.{table_words}
use Rattle.listing.specs.Tables.{line_trees, moved_to, moved}
use Rattle.writing.proofs.Orders.{laid_all, all_is, true_not_false}
use Rattle.writing.proofs.Visiting.{place_of, room_small, expression_kept}

pub from_zero : (n : ℕ) → 0 + n ≡ n
from_zero n = omega arith

-- ---- as lines of the tree

text_snoc : (lines ts : List Tree) (t : Tree) → text lines (ts ++ (t ∷ [])) ≡ text lines ts ++ line (line_fields lines t)
unfolding text
text_snoc lines [] t = append-nil (line (line_fields lines t))
text_snoc lines (s ∷ ts) t = ap (λ (l : List ℕ). line (line_fields lines s) ++ l) (text_snoc lines ts t) ∙ sym (append_assoc (line (line_fields lines s)) (text lines ts) (line (line_fields lines t)))

module _ {m : Memory} {n : ℕ} (h : Holds m n) {rows : Memory} {table : List ℕ} {count : ℕ} (l : Listed m n rows table count) where
  lines_long : length (line_trees m table count) ≡ count
  lines_long = length_up_to count (λ k. tree_at m (get_or table k 0))

  -- the link of each node that is listed is its line
  mark_of : (c : ℕ) → c < n → among (line_trees m table count) (tree_at m c) ≡ true → get_or rows.link c 0 ≡ place (identical (tree_at m c)) (line_trees m table count)
  mark_of c o e =
      ⊎_elim (λ z. true_not_false (sym e ∙ among_no (line_trees m table count) (tree_at m c) z))
      (λ p. let q : place (identical (tree_at m c)) (line_trees m table count) < count = rw lines_long at p in
      rw (place_of h l c o q) at (l.marks (place (identical (tree_at m c)) (line_trees m table count)) q))
      (eq-or-lt_of_le (place_within (identical (tree_at m c)) (line_trees m table count)))

  fields_are : (e : Expression) → Within n e → AllIn (line_trees m table count) (tree_of m e) → line_fields (line_trees m table count) (tree_of m e) ≡ text_fields (moved rows.link e)
  unfolding line_fields text_fields grown operands_of with_operands moved_to
  fields_are (Expression.Number z) w a = refl
  fields_are Expression.PiConstant w a = refl
  fields_are (Expression.Variable v) w a = refl
  fields_are (Expression.Address r i) w a = refl
  fields_are (Expression.FunctionCall f c) w a = rw (mark_of c w (all_is _ (tree_at m c) a.1))
  fields_are (Expression.Prefix o c) w a = rw (mark_of c w (all_is _ (tree_at m c) a.1))
  fields_are (Expression.Infix o c d) w a = rw (mark_of c w.0 (all_is _ (tree_at m c) a.1.0), mark_of d w.1 (all_is _ (tree_at m d) a.1.1))

  pub line_fields_lem : (i : ℕ) → i < count → text_fields (line_at rows table i) ≡ line_fields (line_trees m table count) (tree_at m (get_or table i 0))
  unfolding line_at
  line_fields_lem i o =
      let node = get_or table i 0 in
      let p = read_node h {r = expression_at m node} node (l.nodes i o) refl in
      let a = subst (AllIn (line_trees m table count)) (at_up_to count (λ k. tree_at m (get_or table k 0)) (leaf pi) i o) (laid_all l.laid i (rw lines_long o)) in
      let w = within_more node n (expression_at m node) (omega (arith, l.nodes i o)) p.0 in
      rw (expression_kept m rows l.same node) (sym (fields_are (expression_at m node) w (subst (AllIn (line_trees m table count)) (sym p.1) a)) ∙ ap (line_fields (line_trees m table count)) p.1)

  line_is : (i : ℕ) → i < count → line_text (line_at rows table i) ≡ line (line_fields (line_trees m table count) (tree_at m (get_or table i 0)))
  unfolding line_text
  line_is i o = ap line (line_fields_lem i o)

  first_lines : (i : ℕ) → i ≤ count → lines_text rows table i ≡ text (line_trees m table count) (line_trees m table i)
  unfolding all_text text up_to
  first_lines zero o = refl
  first_lines (suc i) o =
      rw (first_lines i (omega arith), line_is i (omega arith)) (sym (ap (text (line_trees m table count)) (up_to_snoc i _) ∙ text_snoc (line_trees m table count) (line_trees m table i) (tree_at m (get_or table i 0))))

  pub all_lines : lines_text rows table count ≡ text (line_trees m table count) (line_trees m table count)
  all_lines = first_lines count (omega arith)

-- ---- the answer

pub none_listed : (m : Memory) (n : ℕ) (table : List ℕ) → Holds m n → table_words ≤ length table → Listed m n m table 0
unfolding up_to
none_listed m n table h o = record {
  same = refl;
  links = (room_each m n h.fits).links;
  long = o;
  nodes = λ k o. absurd (omega arith);
  laid = empty;
  marks = λ k o. absurd (omega arith);
}

module _ {m : Memory} {n : ℕ} (h : Holds m n) {root count : ℕ} {rows : Memory} {table₀ table : List ℕ} (inside : root < n) (v : Visited m n table₀ root above_all 0 count rows table) where
  pub order_is : line_trees m table count ≡ order (tree_at m root)
  unfolding visited up_to
  order_is = v.done ∙ rw (lt-ltb root above_all (omega (arith, inside, room_small h)))

  pub count_is : length (order (tree_at m root)) ≡ count
  count_is = ap length (sym order_is) ∙ length_up_to count (λ k. tree_at m (get_or table k 0))

  pub text_is : lines_text rows table count ≡ text_of (tree_at m root)
  text_is = all_lines h v.listed ∙ ap (λ ts. text ts ts) order_is

  pub too_long_lem : (out : List ℕ) → 1024 < count → (Err (Refusal.LongList 0), out) ≡ written (tree_at m root) out
  unfolding written
  too_long_lem out o = rw (count_is, lt-ltb 1024 count o)

  module _ (few : count ≤ 1024) where
    pub no_room : (out : List ℕ) (size : ℕ) → size ≡ length (lines_text rows table count) → length out < size
        → (Err Refusal.OutRoom, out) ≡ written (tree_at m root) out
    unfolding written
    no_room out size e o = rw (count_is, le-ltb 1024 count few, lt-ltb (length out) (length (text_of (tree_at m root))) (omega (arith, o, e, ap length text_is)))

    pub wrote : (out out' : List ℕ) (r size : ℕ) → size ≡ length (lines_text rows table count) → size ≤ length out
        → Put out 0 (lines_text rows table count) r out' → (Ok r, out') ≡ written (tree_at m root) out
    unfolding written
    wrote out out' r size e o p =
        let t = text_of (tree_at m root) in
        let q : Put out 0 t r out' = subst (λ x. Put out 0 x r out') text_is p in
        let f : length t ≤ length out = omega (arith, o, e, ap length text_is) in
        let z : r ≡ length t = omega (arith, q.place) in
        let y : 0 + length t ≡ length t = omega arith in
        rw (count_is, le-ltb 1024 count few, le-ltb (length out) (length t) f, z) (ap (λ x. (Ok (length t), x)) (q.stored ∙ sets-eq t out 0 (omega (arith, f)) ∙ rw y))
