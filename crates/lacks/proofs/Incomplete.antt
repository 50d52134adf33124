-- What evaluation was refused 10 for is what is named: the leaf that evaluation comes to, with values for all before it, and does not find
-- bound. On trees, and on the bytes of a job. Assumes nothing.
use mathlib.Core.Path.{◌≡◌, refl, sym, ap, ◌∙◌, subst}
use mathlib.Core.List.{List}
use Rattle.std.specs.Prelude.{Option, Some, None, Result, Ok, Err}
use Prim.Native.Nat.{ℕ}
use native.Mathlib.Omega.{arith}
use Rattle.complex.specs.declared.Complex.{Complex}
use Rattle.expression.specs.declared.InfixOperator.{InfixOperator}
use Rattle.expression.specs.declared.PrefixOperator.{PrefixOperator}
use Rattle.expression.specs.declared.ExpressionFunction.{ExpressionFunction}
use Rattle.expression.specs.declared.refusal.Operation.{Operation}
use Rattle.expression.specs.declared.refusal.Refusal.{Refusal}
use Rattle.expression.specs.Refusals.{number_of}
use Rattle.expression.specs.Trees.{Tree, Leaf, number, pi, variable, cell, leaf, function_call, prefixed, infixed}
use Rattle.store.specs.Storing.{State}
use Rattle.sheet.specs.Rows.{Rows, Lookup, found, missing, value_of, cell_value, function_value}
use Rattle.evaluation.specs.declared.Evaluation.{Evaluation}
use Rattle.evaluation.specs.Evaluating.{and_then, bound, given, asked_one, cis, calculate_function, calculate_infix, leaf_value, evaluate}
use Rattle.calls.specs.Calls as Calls
use Rattle.calls.specs.Calls.{Job, ready, job, evaluated, evaluate_job, evaluate_call}
use Rattle.calls.proofs.Refusing.{JobBy, job_most, job_numbers}
use Rattle.lacks.specs.declared.Missing.{Missing}
use Rattle.lacks.specs.Lacking.{unless_bound, or_else, missing_leaf, first_missing, missing_of, missing_in_job}

-- a variable or a cell
pub data Something : Option Missing → Type 0 where
  something : (m : Missing) → Something (Some m)

-- evaluating the tree comes to this leaf, which is not bound; an operand that was evaluated before has a value
pub data Meets (rows : Rows) : Tree → Option Missing → Type 0 where
  at_variable : {v : ℕ} → value_of v rows.variables ≡ missing → Meets rows (leaf (variable v)) (Some (Missing.Variable v))
  at_cell : {region index : ℕ} → cell_value region index rows.cells ≡ missing → Meets rows (leaf (cell region index)) (Some (Missing.Cell region index))
  in_function : {f : ExpressionFunction} {t : Tree} {m : Option Missing} → Meets rows t m → Meets rows (function_call f t) m
  in_prefix : {o : PrefixOperator} {t : Tree} {m : Option Missing} → Meets rows t m → Meets rows (prefixed o t) m
  in_left : {o : InfixOperator} {l r : Tree} {m : Option Missing} → Meets rows l m → Meets rows (infixed o l r) m
  in_right : {o : InfixOperator} {l r : Tree} {m : Option Missing} {x : Complex} → evaluate rows l ≡ Evaluation.Value x → Meets rows r m → Meets rows (infixed o l r) m

pub meets_some : {rows : Rows} {t : Tree} {m : Option Missing} → Meets rows t m → Something m
meets_some (at_variable {v} e) = something (Missing.Variable v)
meets_some (at_cell {region} {index} e) = something (Missing.Cell region index)
meets_some (in_function h) = meets_some h
meets_some (in_prefix h) = meets_some h
meets_some (in_left h) = meets_some h
meets_some (in_right e h) = meets_some h

pub some_first : {m : Option Missing} (n : Option Missing) → Something m → or_else m n ≡ m
unfolding or_else
some_first n (something m) = refl

some_not : {m : Option Missing} → Something m → m ≡ None → ⊥
some_not (something m) p = let z : ◌≡◌ {A = ℕ} 0 1 = cc in omega (arith, z)

-- ---- the three answers differ

unfoldable pub IsIncomplete : Evaluation → Type 0
IsIncomplete (Evaluation.Value z) = ⊥
IsIncomplete Evaluation.Incomplete = Unit {0}
IsIncomplete (Evaluation.Need operation x y) = ⊥

IsValue : Evaluation → Type 0
IsValue (Evaluation.Value z) = Unit {0}
IsValue Evaluation.Incomplete = ⊥
IsValue (Evaluation.Need operation x y) = ⊥

pub incomplete_is : {e : Evaluation} → e ≡ Evaluation.Incomplete → IsIncomplete e
unfolding IsIncomplete
incomplete_is p = subst IsIncomplete (sym p) tt

value_is : {e : Evaluation} {z : Complex} → e ≡ Evaluation.Value z → IsValue e
unfolding IsValue
value_is p = subst IsValue (sym p) tt

-- ---- one after another

-- where two in turn are incomplete, one of them is
data InTurn (e : Evaluation) (next : Complex → Evaluation) : Type 0 where
  before : e ≡ Evaluation.Incomplete → InTurn e next
  after : (z : Complex) → e ≡ Evaluation.Value z → next z ≡ Evaluation.Incomplete → InTurn e next

in_turn : (e : Evaluation) (next : Complex → Evaluation) → and_then e next ≡ Evaluation.Incomplete → InTurn e next
unfolding and_then IsIncomplete
in_turn (Evaluation.Value z) next p = after z refl p
in_turn Evaluation.Incomplete next p = before refl
in_turn (Evaluation.Need operation x y) next p = absurd (incomplete_is p)

-- where they have a value, the first has
record HasValue (e : Evaluation) : Type 0 where
  pub value : Complex
  pub is : e ≡ Evaluation.Value value

first_value : (e : Evaluation) (next : Complex → Evaluation) {z : Complex} → and_then e next ≡ Evaluation.Value z → HasValue e
unfolding and_then IsValue
first_value (Evaluation.Value x) next p = record { value = x; is = refl }
first_value Evaluation.Incomplete next p = absurd (value_is p)
first_value (Evaluation.Need operation x y) next p = absurd (value_is p)

then_value : {e : Evaluation} (next : Complex → Evaluation) {x : Complex} → e ≡ Evaluation.Value x → and_then e next ≡ next x
unfolding and_then
then_value next p = ap (λ e. and_then e next) p

then_incomplete : {e : Evaluation} (next : Complex → Evaluation) → e ≡ Evaluation.Incomplete → and_then e next ≡ Evaluation.Incomplete
unfolding and_then
then_incomplete next p = ap (λ e. and_then e next) p

-- ---- a leaf: it is bound and nothing is named, or it is not bound and is named

pub data Leafy (m : Option Missing) (e : Evaluation) : Type 0 where
  is_bound : (e ≡ Evaluation.Incomplete → ⊥) → m ≡ None → Leafy m e
  is_unbound : e ≡ Evaluation.Incomplete → Something m → Leafy m e

looked_up : (m : Missing) (l : Lookup) → Leafy (unless_bound m l) (bound l)
unfolding unless_bound bound IsIncomplete
looked_up m (found z) = is_bound (λ p. incomplete_is p) refl
looked_up m missing = is_unbound refl (something m)

-- ---- an operation is never incomplete

given_not : (o : Operation) (x y : Complex) (l : Lookup) → given o x y l ≡ Evaluation.Incomplete → ⊥
unfolding given IsIncomplete
given_not o x y (found z) p = incomplete_is p
given_not o x y missing p = incomplete_is p

module _ (rows : Rows) where
  asked_not : (o : Operation) (x y : Complex) → given o x y (function_value o x y rows.functions) ≡ Evaluation.Incomplete → ⊥
  asked_not o x y p = given_not o x y (function_value o x y rows.functions) p

  cis_not : (x : Complex) → cis rows x ≡ Evaluation.Incomplete → ⊥
  unfolding cis IsIncomplete
  cis_not x p = elim (in_turn (asked_one rows Operation.Cosine x) _ p) [
    | before q ↦ asked_not Operation.Cosine x _ q
    | after cosine q r ↦ elim (in_turn (asked_one rows Operation.Sine x) _ r) [
      | before q ↦ asked_not Operation.Sine x _ q
      | after sine q r ↦ incomplete_is r
    ]
  ]

  pub function_not : (f : ExpressionFunction) (x : Complex) → calculate_function rows f x ≡ Evaluation.Incomplete → ⊥
  unfolding calculate_function
  function_not ExpressionFunction.Sine x p = asked_not Operation.Sine x _ p
  function_not ExpressionFunction.Cosine x p = asked_not Operation.Cosine x _ p
  function_not ExpressionFunction.Exponent x p = asked_not Operation.Exponent x _ p
  function_not ExpressionFunction.SquareRoot x p = asked_not Operation.SquareRoot x _ p
  function_not ExpressionFunction.Cis x p = cis_not x p

  pub infix_not : (o : InfixOperator) (x y : Complex) → calculate_infix rows o x y ≡ Evaluation.Incomplete → ⊥
  unfolding calculate_infix IsIncomplete
  infix_not InfixOperator.Plus x y p = incomplete_is p
  infix_not InfixOperator.Minus x y p = incomplete_is p
  infix_not InfixOperator.Star x y p = incomplete_is p
  infix_not InfixOperator.Slash x y p = incomplete_is p
  infix_not InfixOperator.Caret x y p = asked_not Operation.Power x y p

  pub leafy : (l : Leaf) → Leafy (missing_leaf rows l) (leaf_value rows l)
  unfolding missing_leaf leaf_value IsIncomplete
  leafy (number z) = is_bound (λ p. incomplete_is p) refl
  leafy pi = is_bound (λ p. incomplete_is p) refl
  leafy (variable v) = looked_up (Missing.Variable v) (value_of v rows.variables)
  leafy (cell region index) = looked_up (Missing.Cell region index) (cell_value region index rows.cells)

  -- ---- a tree

  -- with a value nothing is named
  pub value_nothing : (t : Tree) {z : Complex} → evaluate rows t ≡ Evaluation.Value z → first_missing rows t ≡ None
  unfolding evaluate first_missing or_else IsValue
  value_nothing (leaf l) {z} p = elim (leafy l) [
    | is_bound n e ↦ e
    | is_unbound q s ↦ absurd (value_is (sym q ∙ p))
  ]
  value_nothing (function_call f t) p = let v = first_value (evaluate rows t) _ p in value_nothing t v.is
  value_nothing (prefixed o t) p = let v = first_value (evaluate rows t) _ p in value_nothing t v.is
  value_nothing (infixed o l r) p =
      let v = first_value (evaluate rows l) _ p in
      let w = first_value (evaluate rows r) _ (sym (then_value _ v.is) ∙ p) in
      ap (λ m. or_else m (first_missing rows r)) (value_nothing l v.is) ∙ value_nothing r w.is

  after_value_law : (l r : Tree) {x : Complex} → evaluate rows l ≡ Evaluation.Value x → or_else (first_missing rows l) (first_missing rows r) ≡ first_missing rows r
  unfolding or_else
  after_value_law l r p = ap (λ m. or_else m (first_missing rows r)) (value_nothing l p)

  unbound_is : (m : Missing) (l : Lookup) → bound l ≡ Evaluation.Incomplete → (l ≡ missing) × (unless_bound m l ≡ Some m)
  unfolding bound unless_bound IsIncomplete
  unbound_is m (found z) p = absurd (incomplete_is p)
  unbound_is m missing p = (refl, refl)

  -- what is named is what evaluation was incomplete for
  pub incomplete_meets : (t : Tree) → evaluate rows t ≡ Evaluation.Incomplete → Meets rows t (first_missing rows t)
  unfolding evaluate first_missing leaf_value missing_leaf IsIncomplete
  incomplete_meets (leaf (number z)) p = absurd (incomplete_is p)
  incomplete_meets (leaf pi) p = absurd (incomplete_is p)
  incomplete_meets (leaf (variable v)) p =
      let u = unbound_is (Missing.Variable v) (value_of v rows.variables) p in
      subst (Meets rows (leaf (variable v))) (sym u.1) (at_variable u.0)
  incomplete_meets (leaf (cell region index)) p =
      let u = unbound_is (Missing.Cell region index) (cell_value region index rows.cells) p in
      subst (Meets rows (leaf (cell region index))) (sym u.1) (at_cell u.0)
  incomplete_meets (function_call f t) p = elim (in_turn (evaluate rows t) _ p) [
    | before q ↦ in_function (incomplete_meets t q)
    | after z q r ↦ absurd (function_not f z r)
  ]
  incomplete_meets (prefixed o t) p = elim (in_turn (evaluate rows t) _ p) [
    | before q ↦ in_prefix (incomplete_meets t q)
    | after z q r ↦ absurd (incomplete_is r)
  ]
  incomplete_meets (infixed o l r) p = elim (in_turn (evaluate rows l) _ p) [
    | before q ↦ let h = incomplete_meets l q in subst (Meets rows (infixed o l r)) (sym (some_first (first_missing rows r) (meets_some h))) (in_left h)
    | after x q p ↦ elim (in_turn (evaluate rows r) _ p) [
      | before q' ↦ subst (Meets rows (infixed o l r)) (sym (after_value_law l r q)) (in_right q (incomplete_meets r q'))
      | after y q' p ↦ absurd (infix_not o x y p)
    ]
  ]

  -- there is no other: evaluation is incomplete wherever it meets such a leaf, and what it meets is what is named
  pub meets_incomplete : {t : Tree} {m : Option Missing} → Meets rows t m → evaluate rows t ≡ Evaluation.Incomplete
  unfolding evaluate leaf_value bound
  meets_incomplete (at_variable e) = ap bound e
  meets_incomplete (at_cell e) = ap bound e
  meets_incomplete (in_function h) = then_incomplete _ (meets_incomplete h)
  meets_incomplete (in_prefix h) = then_incomplete _ (meets_incomplete h)
  meets_incomplete (in_left h) = then_incomplete _ (meets_incomplete h)
  meets_incomplete (in_right e h) = then_value _ e ∙ then_incomplete _ (meets_incomplete h)

  pub meets_first : {t : Tree} {m : Option Missing} → Meets rows t m → m ≡ first_missing rows t
  unfolding first_missing missing_leaf unless_bound
  meets_first (at_variable {v} e) = sym (ap (unless_bound (Missing.Variable v)) e)
  meets_first (at_cell {region} {index} e) = sym (ap (unless_bound (Missing.Cell region index)) e)
  meets_first (in_function h) = meets_first h
  meets_first (in_prefix h) = meets_first h
  meets_first (in_left {r = r} {m = m} h) = sym (some_first (first_missing rows r) (meets_some h)) ∙ ap (λ m. or_else m (first_missing rows r)) (meets_first h)
  meets_first (in_right {l = l} {r = r} e h) = meets_first h ∙ sym (after_value_law l r e)

  -- an incomplete evaluation names a variable or a cell
  pub incomplete_names : (t : Tree) → evaluate rows t ≡ Evaluation.Incomplete → Something (first_missing rows t)
  incomplete_names t p = meets_some (incomplete_meets t p)

  -- and where nothing is named it is not
  pub nothing_complete : (t : Tree) → first_missing rows t ≡ None → evaluate rows t ≡ Evaluation.Incomplete → ⊥
  nothing_complete t e p = some_not (incomplete_names t p) e

-- ---- the bytes of a job

-- a job that was read, and the leaf that evaluating it met
pub record JobMeets (room : ℕ) (list values : List ℕ) : Type 0 where
  pub root : Tree
  pub store : State
  pub rows : Rows
  pub read : job room list values ≡ ready root store rows
  pub meets : Meets rows root (missing_in_job room list values)

pub refused_ten : {why : Refusal} → ◌≡◌ {A = Result Complex Refusal} (Err why) (Err Refusal.Incomplete) → number_of why ≡ 10
refused_ten p = ap number_in p
  where
    number_in : Result Complex Refusal → ℕ
    number_in (Ok z) = 0
    number_in (Err why) = number_of why

HasNone : Result Complex Refusal → Type 0
HasNone (Ok z) = ⊥
HasNone (Err why) = Unit {0}

pub refused_valued : {why : Refusal} {z : Complex} → Err why ≡ Ok z → ⊥
unfolding HasNone
refused_valued p = subst HasNone p tt

was_incomplete : (e : Evaluation) → evaluated e ≡ Err Refusal.Incomplete → e ≡ Evaluation.Incomplete
unfolding evaluated
was_incomplete (Evaluation.Value z) p = absurd (refused_valued (sym p))
was_incomplete Evaluation.Incomplete p = refl
was_incomplete (Evaluation.Need operation x y) p = absurd (omega (arith, refused_ten p))

had_value : (e : Evaluation) {z : Complex} → evaluated e ≡ Ok z → HasValue e
unfolding evaluated
had_value (Evaluation.Value x) p = record { value = x; is = refl }
had_value Evaluation.Incomplete p = absurd (refused_valued p)
had_value (Evaluation.Need operation x y) p = absurd (refused_valued p)

module _ (room : ℕ) (list values : List ℕ) where
  -- "10 INCOMPLETE": what is named is what evaluation met
  pub refused_meets : evaluate_call room list values ≡ Err Refusal.Incomplete → JobMeets room list values
  unfolding evaluate_job missing_of JobBy
  refused_meets p = go (job room list values) refl (job_numbers room list values)
    where
      go : (j : Job) → job room list values ≡ j → JobBy j → JobMeets room list values
      go (ready root store rows) e n =
          let q = incomplete_meets rows root (was_incomplete (evaluate rows root) (ap evaluate_job (sym e) ∙ p)) in
          record { root = root; store = store; rows = rows; read = e; meets = subst (Meets rows root) (sym (ap missing_of e)) q }
      go (Calls.refused why) e n = absurd (omega (arith, job_most n, refused_ten (ap evaluate_job (sym e) ∙ p)))

  pub refused_names : evaluate_call room list values ≡ Err Refusal.Incomplete → Something (missing_in_job room list values)
  refused_names p = meets_some (refused_meets p).meets

  -- an expression that has a value lacks nothing
  pub valued_nothing : {z : Complex} → evaluate_call room list values ≡ Ok z → missing_in_job room list values ≡ None
  unfolding evaluate_job missing_of
  valued_nothing {z} p = go (job room list values) refl
    where
      go : (j : Job) → job room list values ≡ j → missing_in_job room list values ≡ None
      go (ready root store rows) e = ap missing_of e ∙ value_nothing rows root (had_value (evaluate rows root) (ap evaluate_job (sym e) ∙ p)).is
      go (Calls.refused why) e = ap missing_of e
