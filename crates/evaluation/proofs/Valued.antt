-- What evaluating does at a node whose operands are numbers, by its kind: each return of `value_of` and of what it calls. Assumes nothing.
use mathlib.Core.Path.{◌≡◌, refl, sym, ap, ◌∙◌, subst}
use mathlib.Core.List.{List, [], ◌∷◌, ◌++◌, append-nil}
use mathlib.Core.Logic.{⊎_elim}
use Prim.Native.Nat.{ℕ, ◌<◌}
use native.Mathlib.Omega.{arith}
use denote.Enum.Declared.{tag_of}
use types.Run.{OneOf}
use Rattle.std.specs.Prelude.{Option, Some, None}
use Rattle.complex.specs.declared.Complex.{Complex}
use Rattle.complex.specs.Arithmetic.{plus, times}
use Rattle.complex.specs.Constants.{zero_number, pi_number}
use Rattle.expression.specs.declared.InfixOperator.{InfixOperator}
use Rattle.expression.specs.declared.PrefixOperator.{PrefixOperator}
use Rattle.expression.specs.declared.ExpressionFunction.{ExpressionFunction}
use Rattle.expression.specs.declared.refusal.Operation.{Operation}
use Rattle.expression.specs.declared.node.Expression.{Expression}
use Rattle.expression.specs.Nodes.{operands_of, grown}
use Rattle.store.specs.Memory.{Memory, expression_at, tree_at, tree_of}
use Rattle.store.specs.Numbers.{IsNumber, number_at, Numbers, OverNumbers, Ordered}
use Rattle.store.proofs.Settling.{number_tree, tree_ordered}
use Rattle.memory.specs.Layout.{numbered}
use Rattle.sheet.specs.declared.Used.{Used}
use Rattle.sheet.specs.Rows.{Rows, value_of, cell_value, at, nowhere, function_row}
use Rattle.sheet.specs.Table.{seen_found, used_in}
use Rattle.sheet.proofs.Numbering.{forgotten, value_forgotten}
use Rattle.expression.specs.contracts.InfixOperator.{the_type as operators}
use Rattle.evaluation.specs.contracts.Evaluation.{the_type}
use Rattle.evaluation.specs.declared.Evaluation.{Evaluation}
use Rattle.evaluation.specs.declared.Asked.{Asked}
use Rattle.evaluation.specs.Using.{found_row, after_value, used_for, used_for_one, used_by_function, used_by_infix, used}
use Rattle.evaluation.specs.Run.{Answers, AnswersOne}
use Rattle.evaluation.specs.Evaluating.{and_then, bound, given, asked, asked_one, imaginary_unit, cis, calculate_function, calculate_infix, calculate_prefix, leaf_value, evaluate}

-- an answer that is no value
abbrev pub Lacks : Evaluation → Type 0
Lacks w = OneOf (1 ∷ 2 ∷ []) (tag_of the_type w)

lacking : (w : Evaluation) (next : Complex → Evaluation) → Lacks w → w ≡ and_then w next
unfolding and_then
lacking (Evaluation.Value z) next k = absurd (⊎_elim (λ e. omega (arith, e)) (λ e. omega (arith, e)) k)
lacking Evaluation.Incomplete next k = refl
lacking (Evaluation.Need operation x y) next k = refl

-- w is what a step should give: its lack is passed on, and its value goes on
pub passed_on : (next : Complex → Evaluation) {w want : Evaluation} → w ≡ want → Lacks w → w ≡ and_then want next
passed_on next {w} p k = lacking w next k ∙ ap (λ v. and_then v next) p

pub goes_on : (next : Complex → Evaluation) {w want : Evaluation} {z : Complex} → w ≡ want → w ≡ Evaluation.Value z → next z ≡ and_then want next
unfolding and_then
goes_on next p e = ap (λ v. and_then v next) (sym e ∙ p)

-- ---- operators

-- one that is not ^
pub not_power : (o : InfixOperator) → OneOf (1 ∷ 2 ∷ 3 ∷ 4 ∷ []) (tag_of operators o) → o ≡ InfixOperator.Caret → ⊥
not_power o k e = ⊎_elim (λ q. omega (arith, q)) (⊎_elim (λ q. omega (arith, q)) (⊎_elim (λ q. omega (arith, q)) λ q. omega (arith, q))) (subst (λ x. OneOf (1 ∷ 2 ∷ 3 ∷ 4 ∷ []) (tag_of operators x)) e k)

-- ---- cis

module _ (rows : Rows) (x : Complex) where
  from_both : (cosine sine : Complex) → Evaluation
  from_both cosine sine = Evaluation.Value (plus cosine (times imaginary_unit sine))

  from_cosine : Complex → Evaluation
  from_cosine cosine = and_then (asked rows Operation.Sine x zero_number) (from_both cosine)

  module _ {zero₁ : Complex} {first : Evaluation} (z₁ : zero₁ ≡ zero_number) (p : first ≡ asked rows Operation.Cosine x zero₁) where
    pub cis_lacks_cosine : Lacks first → first ≡ cis rows x
    unfolding cis from_cosine from_both
    cis_lacks_cosine k = passed_on from_cosine (rw z₁ at p) k

    module _ {cosine zero₂ : Complex} {second : Evaluation} (v : first ≡ Evaluation.Value cosine) (z₂ : zero₂ ≡ zero_number) (q : second ≡ asked rows Operation.Sine x zero₂) where
      pub cis_lacks_sine : Lacks second → second ≡ cis rows x
      unfolding cis from_cosine from_both
      cis_lacks_sine k = passed_on (from_both cosine) (rw z₂ at q) k ∙ goes_on from_cosine (rw z₁ at p) v

      pub cis_is : {sine unit product value : Complex} → second ≡ Evaluation.Value sine → unit ≡ imaginary_unit → product ≡ times unit sine → value ≡ plus cosine product
          → Evaluation.Value value ≡ cis rows x
      unfolding cis from_cosine from_both
      cis_is u i t s = rw (s, t, i) (goes_on (from_both cosine) (rw z₂ at q) u ∙ goes_on from_cosine (rw z₁ at p) v)

-- ---- the rows that were used

-- a row and no other
one_row : (u : Used) {used : List ℕ} → numbered u.first ≡ used → u.second ≡ None → used_in u ≡ used
unfolding numbered
one_row u p q = (λ i. p i ++ numbered (q i)) ∙ append-nil _

pub one_used : (a : Asked) {value : Evaluation} {used : List ℕ} → AnswersOne value used a → Answers value used a
one_used a p = (p.0, one_row a.used p.1 p.2)

module _ (rows : Rows) (o : Operation) (x y : Complex) where
  pub row_answers : {j : ℕ} {z : Complex} → function_row o x y rows.functions ≡ at j z
      → AnswersOne (asked rows o x y) (used_for rows o x y) (record { value = Evaluation.Value z; used = record { first = Some j; second = None } })
  unfolding given forgotten found_row numbered
  row_answers {j} {z} e =
      (sym (ap (given o x y) (value_forgotten o x y rows.functions ∙ ap forgotten e)), sym (ap found_row e), refl)

  pub nothing_answers : (a : Asked) → AnswersOne (Evaluation.Need o x y) [] a → function_row o x y rows.functions ≡ nowhere → AnswersOne (asked rows o x y) (used_for rows o x y) a
  unfolding given forgotten found_row
  nothing_answers a p e = (p.0 ∙ sym (ap (given o x y) (value_forgotten o x y rows.functions ∙ ap forgotten e)), p.1 ∙ sym (ap found_row e), p.2)

none_after : (w : Evaluation) (next : Complex → List ℕ) → Lacks w → after_value w next ≡ []
unfolding after_value
none_after (Evaluation.Value z) next k = absurd (⊎_elim (λ e. omega (arith, e)) (λ e. omega (arith, e)) k)
none_after Evaluation.Incomplete next k = refl
none_after (Evaluation.Need operation x y) next k = refl

module _ (rows : Rows) (x : Complex) {zero₁ : Complex} (z₁ : zero₁ ≡ zero_number) (a : Asked) (p : AnswersOne (asked rows Operation.Cosine x zero₁) (used_for rows Operation.Cosine x zero₁) a) where
  cosine_asked : a.value ≡ asked_one rows Operation.Cosine x
  cosine_asked = rw z₁ at p.0

  cosine_used : numbered a.used.first ≡ used_for_one rows Operation.Cosine x
  cosine_used = rw z₁ at p.1

  pub cis_without_cosine : Lacks a.value → Answers (cis rows x) (used_by_function rows ExpressionFunction.Cis x) a
  unfolding used_by_function
  cis_without_cosine k =
      (cis_lacks_cosine rows x z₁ p.0 k, one_row a.used cosine_used p.2 ∙ sym (append-nil _) ∙ ap (λ l. used_for_one rows Operation.Cosine x ++ l) (sym (none_after a.value _ k) ∙ ap (λ w. after_value w λ cosine. used_for_one rows Operation.Sine x) cosine_asked))

  module _ {cosine zero₂ : Complex} (v : a.value ≡ Evaluation.Value cosine) (z₂ : zero₂ ≡ zero_number) (b : Asked)
      (q : AnswersOne (asked rows Operation.Sine x zero₂) (used_for rows Operation.Sine x zero₂) b) where
    cis_used : numbered a.used.first ++ numbered b.used.first ≡ used_by_function rows ExpressionFunction.Cis x
    unfolding used_by_function after_value
    cis_used = (λ i. cosine_used i ++ (rw z₂ at q.1) i) ∙ ap (λ w. used_for_one rows Operation.Cosine x ++ after_value w λ cosine. used_for_one rows Operation.Sine x) (sym v ∙ cosine_asked)

    pub cis_without_sine : {r : Evaluation} → r ≡ b.value → Lacks r → (r ≡ cis rows x) × (numbered a.used.first ++ numbered b.used.first ≡ used_by_function rows ExpressionFunction.Cis x)
    cis_without_sine e k = (cis_lacks_sine rows x z₁ p.0 v z₂ (e ∙ q.0) k, cis_used)

    pub cis_with_both : {sine unit product value : Complex} → b.value ≡ Evaluation.Value sine → unit ≡ imaginary_unit → product ≡ times unit sine → value ≡ plus cosine product
        → (Evaluation.Value value ≡ cis rows x) × (numbered a.used.first ++ numbered b.used.first ≡ used_by_function rows ExpressionFunction.Cis x)
    cis_with_both u i t s = (cis_is rows x z₁ p.0 v z₂ q.0 u i t s, cis_used)

-- of the operators only ^ uses a row
pub plain_unused : (rows : Rows) (o : InfixOperator) (x y : Complex) → (o ≡ InfixOperator.Caret → ⊥) → [] ≡ used_by_infix rows o x y
unfolding used_by_infix
plain_unused rows InfixOperator.Plus x y k = refl
plain_unused rows InfixOperator.Minus x y k = refl
plain_unused rows InfixOperator.Star x y k = refl
plain_unused rows InfixOperator.Slash x y k = refl
plain_unused rows InfixOperator.Caret x y k = absurd (k refl)

pub unused_answers : (a : Asked) {value want : Evaluation} {u : List ℕ} → AnswersOne value [] a → value ≡ want → [] ≡ u → Answers want u a
unused_answers a p e f = let q = one_used a p in (q.0 ∙ e, q.1 ∙ f)

pub plain_answers : (rows : Rows) (o : InfixOperator) (x y : Complex) {z : Complex} (a : Asked) → AnswersOne (Evaluation.Value z) [] a → (o ≡ InfixOperator.Caret → ⊥)
    → ((o ≡ InfixOperator.Caret → ⊥) → Evaluation.Value z ≡ calculate_infix rows o x y) → Answers (calculate_infix rows o x y) (used_by_infix rows o x y) a
plain_answers rows o x y a p k v = unused_answers a p (v k) (plain_unused rows o x y k)

-- ---- the value of a node whose operands are numbers, by its kind

pub number_value : (rows : Rows) (m : Memory) (k : ℕ) → IsNumber m k → evaluate rows (tree_at m k) ≡ Evaluation.Value (number_at m k)
unfolding evaluate leaf_value
number_value rows m k h = ap (evaluate rows) (number_tree m k h)

-- an operand that is a number goes on with it
with_number : (rows : Rows) (m : Memory) (k : ℕ) → IsNumber m k → {x : Complex} → x ≡ number_at m k → (next : Complex → Evaluation)
    → next x ≡ and_then (evaluate rows (tree_at m k)) next
with_number rows m k h p next = goes_on next refl (number_value rows m k h ∙ ap Evaluation.Value (sym p))

module _ {m : Memory} {n node : ℕ} (o : Ordered m n) (l : node < n) (over : OverNumbers m node) {e : Expression} (e-is : e ≡ expression_at m node) (rows : Rows) where
  module _ {e' : Expression} (told : e ≡ e') where
    of_node : {r : Evaluation} → r ≡ evaluate rows (tree_of m e') → r ≡ evaluate rows (tree_at m node)
    of_node p = p ∙ ap (evaluate rows) (tree_ordered o l e-is told)

    numbers : Numbers m (operands_of e')
    numbers = subst (λ x. Numbers m (operands_of x)) (sym e-is ∙ told) over

  pub function_is : {f : ExpressionFunction} {a : ℕ} {x : Complex} {r : Evaluation} → e ≡ Expression.FunctionCall f a → x ≡ number_at m a
      → r ≡ calculate_function rows f x → r ≡ evaluate rows (tree_at m node)
  unfolding evaluate grown operands_of
  function_is {f} {a} told p q = of_node told (q ∙ with_number rows m a (numbers told) p (calculate_function rows f))

  pub prefix_is : {s : PrefixOperator} {a : ℕ} {x y : Complex} → e ≡ Expression.Prefix s a → x ≡ number_at m a → y ≡ calculate_prefix s x
      → Evaluation.Value y ≡ evaluate rows (tree_at m node)
  unfolding evaluate grown operands_of
  prefix_is {s} {a} told p q = of_node told (ap Evaluation.Value q ∙ with_number rows m a (numbers told) p λ z. Evaluation.Value (calculate_prefix s z))

  pub infix_is : {s : InfixOperator} {a b : ℕ} {x y : Complex} {r : Evaluation} → e ≡ Expression.Infix s a b → x ≡ number_at m a → y ≡ number_at m b
      → r ≡ calculate_infix rows s x y → r ≡ evaluate rows (tree_at m node)
  unfolding evaluate grown operands_of
  infix_is {s} {a} {b} {x} told p q t =
      of_node told (t ∙ with_number rows m b (numbers told).1 q (calculate_infix rows s x) ∙ with_number rows m a (numbers told).0 p (λ z. and_then (evaluate rows (tree_at m b)) (calculate_infix rows s z)))

  pub variable_is : {v : ℕ} {r : Evaluation} → e ≡ Expression.Variable v → (found : Option Complex) → seen_found found ≡ value_of v rows.variables → r ≡ bound (seen_found found)
      → r ≡ evaluate rows (tree_at m node)
  unfolding evaluate grown leaf_value
  variable_is told found p q = of_node told (q ∙ ap bound p)

  pub cell_is : {region index : ℕ} {r : Evaluation} → e ≡ Expression.Address region index → (found : Option Complex) → seen_found found ≡ cell_value region index rows.cells
      → r ≡ bound (seen_found found) → r ≡ evaluate rows (tree_at m node)
  unfolding evaluate grown leaf_value
  cell_is told found p q = of_node told (q ∙ ap bound p)

  pub pi_is : {z : Complex} → e ≡ Expression.PiConstant → z ≡ pi_number → Evaluation.Value z ≡ evaluate rows (tree_at m node)
  unfolding evaluate grown leaf_value
  pi_is told p = of_node told (ap Evaluation.Value p)

  pub number_is : {z : Complex} → e ≡ Expression.Number z → Evaluation.Value z ≡ evaluate rows (tree_at m node)
  unfolding evaluate grown leaf_value
  number_is told = of_node told refl

  -- ---- and the rows that it uses

  module _ {e' : Expression} (told : e ≡ e') where
    uses_of_node : {r : List ℕ} → r ≡ used rows (tree_of m e') → r ≡ used rows (tree_at m node)
    uses_of_node p = p ∙ ap (used rows) (tree_ordered o l e-is told)

  -- an operand that is a number uses none, and goes on with it
  uses_on : (k : ℕ) → IsNumber m k → {x : Complex} → x ≡ number_at m k → (next : Complex → List ℕ) → next x ≡ used rows (tree_at m k) ++ after_value (evaluate rows (tree_at m k)) next
  unfolding after_value used
  uses_on k h p next = ap next p ∙ (λ i. used rows (sym (number_tree m k h) i) ++ after_value (sym (number_value rows m k h) i) next)

  pub function_uses : {f : ExpressionFunction} {a : ℕ} {x : Complex} {u : List ℕ} → e ≡ Expression.FunctionCall f a → x ≡ number_at m a → u ≡ used_by_function rows f x → u ≡ used rows (tree_at m node)
  unfolding used grown operands_of
  function_uses {f} {a} told p q = uses_of_node told (q ∙ uses_on a (numbers told) p (used_by_function rows f))

  pub prefix_uses : {s : PrefixOperator} {a : ℕ} → e ≡ Expression.Prefix s a → [] ≡ used rows (tree_at m node)
  unfolding used grown operands_of
  prefix_uses {s} {a} told = uses_of_node told (ap (used rows) (sym (number_tree m a (numbers told))))

  pub infix_uses : {s : InfixOperator} {a b : ℕ} {x y : Complex} {u : List ℕ} → e ≡ Expression.Infix s a b → x ≡ number_at m a → y ≡ number_at m b
      → u ≡ used_by_infix rows s x y → u ≡ used rows (tree_at m node)
  unfolding used grown operands_of
  infix_uses {s} {a} {b} {x} told p q t =
      uses_of_node told (t ∙ uses_on b (numbers told).1 q (used_by_infix rows s x) ∙ uses_on a (numbers told).0 p (λ z. used rows (tree_at m b) ++ after_value (evaluate rows (tree_at m b)) λ y. used_by_infix rows s z y))

  -- a leaf uses none
  pub leaf_uses : {e' : Expression} → e ≡ e' → [] ≡ used rows (tree_of m e') → [] ≡ used rows (tree_at m node)
  leaf_uses told p = uses_of_node told p
