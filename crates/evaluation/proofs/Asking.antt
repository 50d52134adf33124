-- What evaluating a tree asks of a sheet's t rows: the rows that it uses are those that are found for what it asks, and no others; and each is
-- the first that matches. Assumes nothing.
use mathlib.Core.Path.{◌≡◌, refl, sym, ap, ◌∙◌}
use mathlib.Core.List.{List, ◌++◌}
use mathlib.Core.Bool.{true, or-false, false≢true}
use mathlib.Core.Logic.{inl, inr}
use Prim.Native.Nat.{ℕ}
use lib.ListN.{get_or}
use lib.Dec.{eqb}
use borrow.Author.Tests.{eqb-true, eq-eqb}
use Rattle.complex.specs.declared.Complex.{Complex}
use Rattle.complex.specs.Constants.{zero_number}
use Rattle.expression.specs.declared.InfixOperator.{InfixOperator}
use Rattle.expression.specs.declared.PrefixOperator.{PrefixOperator}
use Rattle.expression.specs.declared.ExpressionFunction.{ExpressionFunction}
use Rattle.expression.specs.declared.refusal.Operation.{Operation}
use Rattle.expression.specs.Trees.{Tree, leaf, function_call, prefixed, infixed}
use Rattle.memory.specs.Marks.{marks_of}
use Rattle.memory.proofs.Marks.{among, among_left, among_right, among_either, marked}
use Rattle.sheet.specs.Rows.{Row, Rows, Numbered, at, nowhere, function_row}
use Rattle.sheet.proofs.Numbering.{Foremost, row_foremost}
use Rattle.evaluation.specs.declared.Evaluation.{Evaluation}
use Rattle.evaluation.specs.Evaluating.{asked_one, evaluate}
use Rattle.evaluation.specs.Using.{found_row, after_value, used_for, used_by_function, used_by_infix, used}

-- ---- what is asked: an operation, of x and y

-- by a function, of z: "cis x asks cos, then sin"
pub data ByFunction (rows : Rows) (z : Complex) : ExpressionFunction → Operation → (x y : Complex) → Type 0 where
  sine : ByFunction rows z ExpressionFunction.Sine Operation.Sine z zero_number
  cosine : ByFunction rows z ExpressionFunction.Cosine Operation.Cosine z zero_number
  exponent : ByFunction rows z ExpressionFunction.Exponent Operation.Exponent z zero_number
  square_root : ByFunction rows z ExpressionFunction.SquareRoot Operation.SquareRoot z zero_number
  cis_cosine : ByFunction rows z ExpressionFunction.Cis Operation.Cosine z zero_number
  cis_sine : {c : Complex} → asked_one rows Operation.Cosine z ≡ Evaluation.Value c → ByFunction rows z ExpressionFunction.Cis Operation.Sine z zero_number

-- by an operator, of a and b
pub data ByInfix (a b : Complex) : InfixOperator → Operation → (x y : Complex) → Type 0 where
  power : ByInfix a b InfixOperator.Caret Operation.Power a b

-- by a tree: in its operands, left before right, as far as they have values; then by its own operation
pub data Asks (rows : Rows) : Tree → Operation → (x y : Complex) → Type 0 where
  in_argument : {f : ExpressionFunction} {t : Tree} {o : Operation} {x y : Complex} → Asks rows t o x y → Asks rows (function_call f t) o x y
  by_function : {f : ExpressionFunction} {t : Tree} {o : Operation} {x y z : Complex} → evaluate rows t ≡ Evaluation.Value z → ByFunction rows z f o x y → Asks rows (function_call f t) o x y
  in_prefixed : {s : PrefixOperator} {t : Tree} {o : Operation} {x y : Complex} → Asks rows t o x y → Asks rows (prefixed s t) o x y
  in_left : {s : InfixOperator} {l r : Tree} {o : Operation} {x y : Complex} → Asks rows l o x y → Asks rows (infixed s l r) o x y
  in_right : {s : InfixOperator} {l r : Tree} {o : Operation} {x y a : Complex} → evaluate rows l ≡ Evaluation.Value a → Asks rows r o x y → Asks rows (infixed s l r) o x y
  by_infix : {s : InfixOperator} {l r : Tree} {o : Operation} {x y a b : Complex} → evaluate rows l ≡ Evaluation.Value a → evaluate rows r ≡ Evaluation.Value b
      → ByInfix a b s o x y → Asks rows (infixed s l r) o x y

-- row j is found for something that is asked
pub record Uses (rows : Rows) (asks : Operation → (x y : Complex) → Type 0) (j : ℕ) : Type 0 where
  pub operation : Operation
  pub left : Complex
  pub right : Complex
  pub value : Complex
  pub asked : asks operation left right
  pub row : function_row operation left right rows.functions ≡ at j value

-- it is the first that matches
pub uses_foremost : {rows : Rows} {asks : Operation → (x y : Complex) → Type 0} {j : ℕ} (u : Uses rows asks j) (other : Row)
    → Foremost u.operation u.left u.right other rows.functions j u.value
uses_foremost {rows} {j = j} u other = row_foremost u.operation u.left u.right other rows.functions j u.value u.row

-- it is found for what asks more
pub uses_more : {rows : Rows} {asks more : Operation → (x y : Complex) → Type 0} {j : ℕ} → Uses rows asks j → ((o : Operation) (x y : Complex) → asks o x y → more o x y) → Uses rows more j
uses_more u f = record { operation = u.operation; left = u.left; right = u.right; value = u.value; asked = f u.operation u.left u.right u.asked; row = u.row }

-- ---- rows and lists of their numbers

record FoundAt (n : Numbered) (j : ℕ) : Type 0 where
  pub value : Complex
  pub is : n ≡ at j value

found_at : (n : Numbered) (j : ℕ) → among j (found_row n) ≡ true → FoundAt n j
unfolding found_row among
found_at (at i z) j e = record { value = z; is = ap (λ k. at k z) (sym (eqb-true j i (sym (or-false (eqb j i)) ∙ e))) }
found_at nowhere j e = absurd (false≢true e)

pub found_among : {n : Numbered} {j : ℕ} {z : Complex} → n ≡ at j z → among j (found_row n) ≡ true
unfolding found_row among
found_among {j = j} e = rw (e, eq-eqb j j refl)

record AfterValue (e : Evaluation) (next : Complex → List ℕ) (j : ℕ) : Type 0 where
  pub value : Complex
  pub is : e ≡ Evaluation.Value value
  pub among_next : among j (next value) ≡ true

after_value_law : (e : Evaluation) (next : Complex → List ℕ) (j : ℕ) → among j (after_value e next) ≡ true → AfterValue e next j
unfolding after_value among
after_value_law (Evaluation.Value z) next j p = record { value = z; is = refl; among_next = p }
after_value_law Evaluation.Incomplete next j p = absurd (false≢true p)
after_value_law (Evaluation.Need operation x y) next j p = absurd (false≢true p)

among_after : {e : Evaluation} {z : Complex} (u : List ℕ) (next : Complex → List ℕ) (j : ℕ) → e ≡ Evaluation.Value z → among j (next z) ≡ true → among j (u ++ after_value e next) ≡ true
unfolding after_value
among_after u next j q p = among_right j u _ (rw q p)

module _ (rows : Rows) (j : ℕ) where
  -- ---- what is used was found for what is asked

  asked_uses : {asks : Operation → (x y : Complex) → Type 0} (o : Operation) (x y : Complex) → asks o x y → among j (used_for rows o x y) ≡ true → Uses rows asks j
  asked_uses o x y a p =
      let f = found_at (function_row o x y rows.functions) j p in
      record { operation = o; left = x; right = y; value = f.value; asked = a; row = f.is }

  pub function_uses : (f : ExpressionFunction) (z : Complex) → among j (used_by_function rows f z) ≡ true → Uses rows (ByFunction rows z f) j
  unfolding used_by_function
  function_uses ExpressionFunction.Sine z p = asked_uses Operation.Sine z zero_number sine p
  function_uses ExpressionFunction.Cosine z p = asked_uses Operation.Cosine z zero_number cosine p
  function_uses ExpressionFunction.Exponent z p = asked_uses Operation.Exponent z zero_number exponent p
  function_uses ExpressionFunction.SquareRoot z p = asked_uses Operation.SquareRoot z zero_number square_root p
  function_uses ExpressionFunction.Cis z p = elim (among_either j (used_for rows Operation.Cosine z zero_number) _ p) [
    | inl q ↦ asked_uses Operation.Cosine z zero_number cis_cosine q
    | inr q ↦
        let v = after_value_law (asked_one rows Operation.Cosine z) _ j q in
        asked_uses Operation.Sine z zero_number (cis_sine v.is) v.among_next
  ]

  pub infix_uses : (s : InfixOperator) (a b : Complex) → among j (used_by_infix rows s a b) ≡ true → Uses rows (ByInfix a b s) j
  unfolding used_by_infix among
  infix_uses InfixOperator.Plus a b p = absurd (false≢true p)
  infix_uses InfixOperator.Minus a b p = absurd (false≢true p)
  infix_uses InfixOperator.Star a b p = absurd (false≢true p)
  infix_uses InfixOperator.Slash a b p = absurd (false≢true p)
  infix_uses InfixOperator.Caret a b p = asked_uses Operation.Power a b power p

  pub tree_uses : (t : Tree) → among j (used rows t) ≡ true → Uses rows (Asks rows t) j
  unfolding used among
  tree_uses (leaf l) p = absurd (false≢true p)
  tree_uses (function_call f t) p = elim (among_either j (used rows t) _ p) [
    | inl q ↦ uses_more (tree_uses t q) λ o x y a. in_argument a
    | inr q ↦ let v = after_value_law (evaluate rows t) _ j q in uses_more (function_uses f v.value v.among_next) λ o x y a. by_function v.is a
  ]
  tree_uses (prefixed s t) p = uses_more (tree_uses t p) λ o x y a. in_prefixed a
  tree_uses (infixed s l r) p = elim (among_either j (used rows l) _ p) [
    | inl q ↦ uses_more (tree_uses l q) λ o x y a. in_left a
    | inr q ↦
        let v = after_value_law (evaluate rows l) _ j q in
        elim (among_either j (used rows r) _ v.among_next) [
          | inl q ↦ uses_more (tree_uses r q) λ o x y a. in_right v.is a
          | inr q ↦
              let w = after_value_law (evaluate rows r) _ j q in
              uses_more (infix_uses s v.value w.value w.among_next) λ o x y a. by_infix v.is w.is a
        ]
  ]

  -- so it is where the row's mark is 1
  pub marked_uses : (t : Tree) → get_or (marks_of (used rows t)) j 0 ≡ 1 → Uses rows (Asks rows t) j
  marked_uses t m = tree_uses t (marked (used rows t) j m)

  -- ---- what is found for what is asked is used

  pub function_used : {f : ExpressionFunction} {o : Operation} {x y z value : Complex} → ByFunction rows z f o x y → function_row o x y rows.functions ≡ at j value
      → among j (used_by_function rows f z) ≡ true
  unfolding used_by_function
  function_used sine e = found_among e
  function_used cosine e = found_among e
  function_used exponent e = found_among e
  function_used square_root e = found_among e
  function_used cis_cosine e = among_left j _ _ (found_among e)
  function_used {z = z} (cis_sine q) e = among_after (used_for rows Operation.Cosine z zero_number) (λ c. used_for rows Operation.Sine z zero_number) j q (found_among e)

  pub infix_used : {s : InfixOperator} {o : Operation} {x y a b value : Complex} → ByInfix a b s o x y → function_row o x y rows.functions ≡ at j value → among j (used_by_infix rows s a b) ≡ true
  unfolding used_by_infix
  infix_used power e = found_among e

  -- what an operator uses after its left operand
  abbrev after_left : InfixOperator → Tree → Complex → List ℕ
  after_left s r x = used rows r ++ after_value (evaluate rows r) λ y. used_by_infix rows s x y

  pub tree_used : {t : Tree} {o : Operation} {x y value : Complex} → Asks rows t o x y → function_row o x y rows.functions ≡ at j value → among j (used rows t) ≡ true
  unfolding used
  tree_used (in_argument a) e = among_left j _ _ (tree_used a e)
  tree_used (by_function {f = f} {t = t} q a) e = among_after (used rows t) (λ x. used_by_function rows f x) j q (function_used a e)
  tree_used (in_prefixed a) e = tree_used a e
  tree_used (in_left a) e = among_left j _ _ (tree_used a e)
  tree_used (in_right {s = s} {l = l} {r = r} q a) e = among_after (used rows l) (after_left s r) j q (among_left j (used rows r) _ (tree_used a e))
  tree_used (by_infix {s = s} {l = l} {r = r} {a = a} q q' h) e =
      among_after (used rows l) (after_left s r) j q (among_after (used rows r) (λ y. used_by_infix rows s a y) j q' (infix_used h e))
