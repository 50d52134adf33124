-- A t row that evaluating does not use can be taken away: the answer is the same, and so are the rows used, by the numbers that they then have.
-- Assumes nothing.
use mathlib.Core.Path.{◌≡◌, refl, sym, ap, ◌∙◌}
use mathlib.Core.List.{List, ◌++◌, map, map-append}
use mathlib.Core.Bool.{false, false≢true}
use Prim.Native.Nat.{ℕ, ◌<◌}
use lib.ListN.{get_or}
use Rattle.complex.specs.declared.Complex.{Complex}
use Rattle.complex.specs.Constants.{zero_number}
use Rattle.expression.specs.declared.InfixOperator.{InfixOperator}
use Rattle.expression.specs.declared.ExpressionFunction.{ExpressionFunction}
use Rattle.expression.specs.declared.refusal.Operation.{Operation}
use Rattle.expression.specs.Trees.{Tree, Leaf, number, pi, variable, cell, leaf, function_call, prefixed, infixed}
use Rattle.memory.specs.Marks.{most_marks, marks_of}
use Rattle.memory.proofs.Marks.{among, among_neither, unmarked}
use Rattle.sheet.specs.Rows.{Rows, Numbered, at, nowhere}
use Rattle.sheet.specs.Without.{without, without_row, renumbered}
use Rattle.sheet.proofs.Numbering.{forgotten, value_forgotten, moved, row_without}
use Rattle.evaluation.specs.declared.Evaluation.{Evaluation}
use Rattle.evaluation.specs.Evaluating.{and_then, given, asked, cis, calculate_function, calculate_infix, leaf_value, evaluate}
use Rattle.evaluation.specs.Using.{found_row, after_value, used_for, used_by_function, used_by_infix, used}
use Rattle.evaluation.proofs.Asking.{found_among}

-- the same answer, and the same rows by other numbers
pub record Same (j : ℕ) (e e' : Evaluation) (rows rows' : List ℕ) : Type 0 where
  pub answer : e' ≡ e
  pub used : rows' ≡ map (renumbered j) rows

moved_value : (j : ℕ) (n : Numbered) → forgotten (moved j n) ≡ forgotten n
unfolding forgotten moved
moved_value j (at i z) = refl
moved_value j nowhere = refl

moved_row : (j : ℕ) (n : Numbered) → found_row (moved j n) ≡ map (renumbered j) (found_row n)
unfolding found_row moved
moved_row j (at i z) = refl
moved_row j nowhere = refl

-- ---- one after another

-- what uses no row
then_plain : (j : ℕ) {e e' : Evaluation} {rows rows' : List ℕ} (next : Complex → Evaluation) → Same j e e' rows rows' → Same j (and_then e next) (and_then e' next) rows rows'
then_plain j next s = record { answer = ap (λ e. and_then e next) s.answer; used = s.used }

module _ (j : ℕ) {next next' : Complex → Evaluation} {rows rows' : Complex → List ℕ} (then : (z : Complex) → among j (rows z) ≡ false → Same j (next z) (next' z) (rows z) (rows' z)) where
  after_value_lem : (e : Evaluation) → among j (after_value e rows) ≡ false → Same j (and_then e next) (and_then e next') (after_value e rows) (after_value e rows')
  unfolding after_value and_then
  after_value_lem (Evaluation.Value z) n = then z n
  after_value_lem Evaluation.Incomplete n = record { answer = refl; used = refl }
  after_value_lem (Evaluation.Need operation x y) n = record { answer = refl; used = refl }

  in_turn : {e e' : Evaluation} {u u' : List ℕ} → (among j u ≡ false → Same j e e' u u') → among j (u ++ after_value e rows) ≡ false
      → Same j (and_then e next) (and_then e' next') (u ++ after_value e rows) (u' ++ after_value e' rows')
  in_turn {e} {u = u} first n =
      let b = among_neither j u (after_value e rows) n in
      let s = first b.0 in
      let a = after_value_lem e b.1 in
      record { answer = ap (λ e. and_then e next') s.answer ∙ a.answer; used = rw (s.answer, s.used, a.used) (sym (map-append (renumbered j) u (after_value e rows))) }

module _ (rows : Rows) (j : ℕ) where
  asked_same : (o : Operation) (x y : Complex) → among j (used_for rows o x y) ≡ false
      → Same j (asked rows o x y) (asked (without_row j rows) o x y) (used_for rows o x y) (used_for (without_row j rows) o x y)
  asked_same o x y n =
      let m = row_without o x y j rows.functions λ z e. false≢true (sym n ∙ found_among e) in
      record {
        answer = ap (given o x y) (value_forgotten o x y (without j rows.functions) ∙ ap forgotten m ∙ moved_value j _ ∙ sym (value_forgotten o x y rows.functions));
        used = ap found_row m ∙ moved_row j _;
      }

  pub function_same : (f : ExpressionFunction) (x : Complex) → among j (used_by_function rows f x) ≡ false
      → Same j (calculate_function rows f x) (calculate_function (without_row j rows) f x) (used_by_function rows f x) (used_by_function (without_row j rows) f x)
  unfolding used_by_function calculate_function cis
  function_same ExpressionFunction.Sine x n = asked_same Operation.Sine x zero_number n
  function_same ExpressionFunction.Cosine x n = asked_same Operation.Cosine x zero_number n
  function_same ExpressionFunction.Exponent x n = asked_same Operation.Exponent x zero_number n
  function_same ExpressionFunction.SquareRoot x n = asked_same Operation.SquareRoot x zero_number n
  function_same ExpressionFunction.Cis x n = in_turn j (λ c n. then_plain j _ (asked_same Operation.Sine x zero_number n)) (λ n. asked_same Operation.Cosine x zero_number n) n

  pub infix_same : (o : InfixOperator) (x y : Complex) → among j (used_by_infix rows o x y) ≡ false
      → Same j (calculate_infix rows o x y) (calculate_infix (without_row j rows) o x y) (used_by_infix rows o x y) (used_by_infix (without_row j rows) o x y)
  unfolding used_by_infix calculate_infix
  infix_same InfixOperator.Plus x y n = record { answer = refl; used = refl }
  infix_same InfixOperator.Minus x y n = record { answer = refl; used = refl }
  infix_same InfixOperator.Star x y n = record { answer = refl; used = refl }
  infix_same InfixOperator.Slash x y n = record { answer = refl; used = refl }
  infix_same InfixOperator.Caret x y n = asked_same Operation.Power x y n

  pub leaf_same : (l : Leaf) → leaf_value (without_row j rows) l ≡ leaf_value rows l
  unfolding leaf_value
  leaf_same (number z) = refl
  leaf_same pi = refl
  leaf_same (variable v) = refl
  leaf_same (cell region index) = refl

  tree_same : (t : Tree) → among j (used rows t) ≡ false → Same j (evaluate rows t) (evaluate (without_row j rows) t) (used rows t) (used (without_row j rows) t)
  unfolding evaluate used
  tree_same (leaf l) n = record { answer = leaf_same l; used = refl }
  tree_same (function_call f t) n = in_turn j (λ x n. function_same f x n) (λ n. tree_same t n) n
  tree_same (prefixed o t) n = then_plain j _ (tree_same t n)
  tree_same (infixed o l r) n = in_turn j (λ x n. in_turn j (λ y n. infix_same o x y n) (λ n. tree_same r n) n) (λ n. tree_same l n) n

  -- a row that is not used can be taken away with no change of the answer
  pub evaluates_without : (t : Tree) → among j (used rows t) ≡ false → evaluate (without_row j rows) t ≡ evaluate rows t
  evaluates_without t n = (tree_same t n).answer

  pub uses_without : (t : Tree) → among j (used rows t) ≡ false → used (without_row j rows) t ≡ map (renumbered j) (used rows t)
  uses_without t n = (tree_same t n).used

  -- so it is where the row's mark is 0
  pub evaluates_unmarked : (t : Tree) → j < most_marks → get_or (marks_of (used rows t)) j 0 ≡ 0 → evaluate (without_row j rows) t ≡ evaluate rows t
  evaluates_unmarked t l m = evaluates_without t (unmarked (used rows t) j l m)
