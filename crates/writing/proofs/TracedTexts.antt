-- The text with origins of the lines that a table orders is that of the tree, where the tags say where the nodes came from. Assumes nothing.
use mathlib.Core.Path.{◌≡◌, refl, sym, ap, ◌∙◌, subst}
use mathlib.Core.List.{List, [], ◌∷◌, ◌++◌, append_assoc, append-nil}
use Prim.Native.Nat.{ℕ, zero, suc, ◌+◌, ◌≤◌, ◌<◌}
use native.Mathlib.Omega.{arith}
use lib.ListN.{length, get_or}
use lib.Seq.{sets-eq}
use borrow.Author.Tests.{lt-ltb, le-ltb}
use Rattle.std.specs.Prelude.{Ok, Err}
use Rattle.expression.specs.declared.refusal.Refusal.{Refusal}
use Rattle.expression.specs.Trees.{Tree}
use Rattle.expression.specs.declared.node.Expression.{Expression}
use Rattle.memory.specs.Keys.{up_to}
use Rattle.memory.proofs.Values.{up_to_snoc}
use Rattle.origins.specs.Fields.{origin_text}
use Rattle.store.specs.Origins.{origin_of}
use Rattle.store.specs.Memory.{Memory, origin_on, origin_at, tree_at}
use Rattle.store.specs.Desk.{count}
use Rattle.store.specs.Held.{Sound}
use Rattle.store.specs.Tracing.{Traced}
use Rattle.text.specs.Put.{Put}
use Rattle.text.proofs.Putting.{few_digits}
use Rattle.listing.specs.Tables.{line_trees}
use Rattle.writing.specs.Order.{order}
use Rattle.writing.specs.Ordering.{Listed, Visited, above_all, line_text, line_at, traced_text, traced_lines_text, all_text}
use Rattle.writing.specs.Origins as Spec
use Rattle.writing.specs.Origins.{traced_line, traced_text_of, written_traced}
use Rattle.writing.proofs.Texts.{line_fields_lem, order_is, count_is}
use Rattle.writing.proofs.TracedLines.{traced_long}

-- ---- the first lines

-- the origin of a tag is below 2048, so that its number has at most four digits
text_short : (o : ℕ) → o < 2048 → length (origin_text o) ≤ 5
unfolding origin_text
text_short zero h = omega arith
text_short (suc n) h = omega (arith, few_digits 3 n (omega (arith, h)))

pub origin_said : (tag : List ℕ) (k : ℕ) {o n : ℕ} → n ≡ length (origin_text o) → o ≡ origin_on tag k → n ≤ 5
unfolding origin_on
origin_said tag k {o} p q = omega (arith, p, text_short o (omega (arith, q)))

-- the length of a line and of its origin, and one for the tab
pub traced_length_lem : (o : ℕ) (e : Expression) {line origin : ℕ} → line ≡ length (line_text e) → origin ≡ length (origin_text o) → line + origin + 1 ≡ length (traced_text o e)
traced_length_lem o e q r = omega (arith, q, r, traced_long o e)

-- ---- as lines of the tree

text_snoc : (given lines ts : List Tree) (t : Tree) → Spec.traced_text given lines (ts ++ (t ∷ [])) ≡ Spec.traced_text given lines ts ++ traced_line given lines t
unfolding Spec.traced_text
text_snoc given lines [] t = append-nil (traced_line given lines t)
text_snoc given lines (s ∷ ts) t =
    ap (λ (l : List ℕ). traced_line given lines s ++ l) (text_snoc given lines ts t) ∙ sym (append_assoc (traced_line given lines s) (Spec.traced_text given lines ts) (traced_line given lines t))

module _ {m : Memory} {desk : List ℕ} {given : List Tree} (s : Sound (record { rows = m; desk = desk })) (traced : Traced given (record { rows = m; desk = desk })) where
  module _ {rows : Memory} {table : List ℕ} {lines : ℕ} (l : Listed m (count desk) rows table lines) where
    -- the tags have not changed
    origin_is : (i : ℕ) → i < lines → origin_at rows (get_or table i 0) ≡ origin_of given (tree_at m (get_or table i 0))
    origin_is i o = ap (λ (q : Memory). origin_at q (get_or table i 0)) l.same ∙ traced.origins (get_or table i 0) (l.nodes i o)

    line_is : (i : ℕ) → i < lines → traced_text (origin_at rows (get_or table i 0)) (line_at rows table i) ≡ traced_line given (line_trees m table lines) (tree_at m (get_or table i 0))
    unfolding traced_text
    line_is i o = rw (line_fields_lem s.holds l i o, origin_is i o)

    first_lines : (i : ℕ) → i ≤ lines → traced_lines_text rows table i ≡ Spec.traced_text given (line_trees m table lines) (line_trees m table i)
    unfolding all_text Spec.traced_text up_to
    first_lines zero o = refl
    first_lines (suc i) o =
        rw (first_lines i (omega arith), line_is i (omega arith))
        (sym (ap (Spec.traced_text given (line_trees m table lines)) (up_to_snoc i _) ∙ text_snoc given (line_trees m table lines) (line_trees m table i) (tree_at m (get_or table i 0))))

  -- ---- the answer

  module _ {root lines : ℕ} {rows : Memory} {table₀ table : List ℕ} (inside : root < count desk) (v : Visited m (count desk) table₀ root above_all 0 lines rows table) where
    lines_are : length (order (tree_at m root)) ≡ lines
    lines_are = count_is s.holds inside v

    text_is : traced_lines_text rows table lines ≡ traced_text_of given (tree_at m root)
    text_is = first_lines v.listed lines (omega arith) ∙ ap (λ ts. Spec.traced_text given ts ts) (order_is s.holds inside v)

    pub too_long_lem : (out : List ℕ) → 1024 < lines → (Err (Refusal.LongList 0), out) ≡ written_traced given (tree_at m root) out
    unfolding written_traced
    too_long_lem out o = rw (lines_are, lt-ltb 1024 lines o)

    module _ (few : lines ≤ 1024) where
      pub no_room : (out : List ℕ) (size : ℕ) → size ≡ length (traced_lines_text rows table lines) → length out < size
          → (Err Refusal.OutRoom, out) ≡ written_traced given (tree_at m root) out
      unfolding written_traced
      no_room out size e o = rw (lines_are, le-ltb 1024 lines few, lt-ltb (length out) (length (traced_text_of given (tree_at m root))) (omega (arith, o, e, ap length text_is)))

      pub wrote : (out out' : List ℕ) (r size : ℕ) → size ≡ length (traced_lines_text rows table lines) → size ≤ length out
          → Put out 0 (traced_lines_text rows table lines) r out' → (Ok r, out') ≡ written_traced given (tree_at m root) out
      unfolding written_traced
      wrote out out' r size e o p =
          let t = traced_text_of given (tree_at m root) in
          let q : Put out 0 t r out' = subst (λ x. Put out 0 x r out') text_is p in
          let f : length t ≤ length out = omega (arith, o, e, ap length text_is) in
          let z : r ≡ length t = omega (arith, q.place) in
          let y : 0 + length t ≡ length t = omega arith in
          rw (lines_are, le-ltb 1024 lines few, le-ltb (length out) (length t) f, z) (ap (λ x. (Ok (length t), x)) (q.stored ∙ sets-eq t out 0 (omega (arith, f)) ∙ rw y))
