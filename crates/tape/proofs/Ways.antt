-- Which step fields say by their opcode and sub, and by that how the player comes to its value. Assumes nothing.
use mathlib.Core.Path.{◌≡◌, refl, sym, ap, subst, ◌∙◌}
use mathlib.Core.Bool.{Bool, true, false}
use mathlib.Core.List.{[], ◌∷◌}
use mathlib.Core.Logic.{⊎_elim, inl, inr}
use Prim.Native.Nat.{ℕ, zero, suc, ◌<◌}
use native.Mathlib.Omega.{arith}
use lib.Dec.{eqb}
use denote.Enum.Declared.{tag_of}
use types.Run.{OneOf}
use borrow.Author.Tests.{ne_eqb, eq-eqb, eqb-true}
use Rattle.complex.specs.declared.Complex.{Complex}
use Rattle.complex.specs.Arithmetic.{plus, minus, times, over}
use Rattle.complex.specs.Constants.{of_parts}
use Rattle.expression.specs.declared.InfixOperator.{InfixOperator}
use Rattle.expression.specs.Codes.{infix_of, prefix_of, function_of, numbered}
use Rattle.sheet.specs.Rows.{Rows, Lookup, found, missing}
use Rattle.evaluation.specs.declared.Evaluation.{Evaluation}
use Rattle.evaluation.specs.contracts.Evaluation.{the_type}
use Rattle.evaluation.specs.Evaluating.{bound, leaf_value, calculate_infix}
use Rattle.steps.specs.declared.Step.{Step}
use Rattle.steps.specs.declared.Fields.{Fields}
use Rattle.steps.specs.Steps.{known, step_of}
use Rattle.steps.proofs.Knowing.{one, two, three, four, five, six, seven, other, which, as_infix, as_last}
use Rattle.tape.specs.Tapes.{takes}
use Rattle.tape.specs.Run.{value_of, seen_value, asks}
use Rattle.tape.proofs.Checking.{never}

-- ---- what there is of a value

pub seen_bound : (l : Lookup) → l ≡ seen_value (bound l)
unfolding bound seen_value
seen_bound (found z) = refl
seen_bound missing = refl

abbrev IsFound : Lookup → Type 0
IsFound (found z) = Unit {0}
IsFound missing = ⊥

abbrev value_in : Lookup → Complex → Complex
value_in (found z) y = z
value_in missing y = y

-- a value that is seen is the value
pub seen_is : (w : Evaluation) {z : Complex} → found z ≡ seen_value w → Evaluation.Value z ≡ w
unfolding seen_value
seen_is (Evaluation.Value y) {z} e = ap (λ l. Evaluation.Value (value_in l y)) e
seen_is Evaluation.Incomplete e = absurd (subst IsFound e tt)
seen_is (Evaluation.Need operation x y) e = absurd (subst IsFound e tt)

pub not_seen : {A : Type 0} {z : Complex} → found z ≡ missing → A
not_seen e = absurd (subst IsFound e tt)

-- an answer that is no value
abbrev pub Lacks : Evaluation → Type 0
Lacks w = OneOf (1 ∷ 2 ∷ []) (tag_of the_type w)

pub lacks_missing : (w : Evaluation) → Lacks w → missing ≡ seen_value w
unfolding seen_value
lacks_missing (Evaluation.Value z) k = absurd (⊎_elim (λ e. omega (arith, e)) (λ e. omega (arith, e)) k)
lacks_missing Evaluation.Incomplete k = refl
lacks_missing (Evaluation.Need operation x y) k = refl

pub missing_lacks : (w : Evaluation) → seen_value w ≡ missing → Lacks w
unfolding seen_value
missing_lacks (Evaluation.Value z) e = not_seen e
missing_lacks Evaluation.Incomplete e = inl refl
missing_lacks (Evaluation.Need operation x y) e = inr refl

bound_missing : (l : Lookup) → seen_value (bound l) ≡ missing → Evaluation.Incomplete ≡ bound l
unfolding bound seen_value
bound_missing (found z) e = not_seen e
bound_missing missing e = refl

infix_missing : (rows : Rows) (o : InfixOperator) (x y : Complex) → seen_value (calculate_infix rows o x y) ≡ missing → asks (Step.Infix o) ≡ true
unfolding calculate_infix seen_value asks
infix_missing rows InfixOperator.Plus x y e = not_seen e
infix_missing rows InfixOperator.Minus x y e = not_seen e
infix_missing rows InfixOperator.Star x y e = not_seen e
infix_missing rows InfixOperator.Slash x y e = not_seen e
infix_missing rows InfixOperator.Caret x y e = refl

-- ---- small numbers

pub first_four : (k : ℕ) → 0 < k → k < 5 → OneOf (1 ∷ 2 ∷ 3 ∷ 4 ∷ []) k
first_four zero l m = absurd (omega (arith, l))
first_four (suc zero) l m = inl refl
first_four (suc (suc zero)) l m = inr (inl refl)
first_four (suc (suc (suc zero))) l m = inr (inr (inl refl))
first_four (suc (suc (suc (suc zero)))) l m = inr (inr (inr refl))
first_four (suc (suc (suc (suc (suc k))))) l m = absurd (omega (arith, m))

pub five_six : (k : ℕ) → 4 < k → k < 7 → OneOf (5 ∷ 6 ∷ []) k
five_six zero l m = absurd (omega (arith, l))
five_six (suc zero) l m = absurd (omega (arith, l))
five_six (suc (suc zero)) l m = absurd (omega (arith, l))
five_six (suc (suc (suc zero))) l m = absurd (omega (arith, l))
five_six (suc (suc (suc (suc zero)))) l m = absurd (omega (arith, l))
five_six (suc (suc (suc (suc (suc zero))))) l m = inl refl
five_six (suc (suc (suc (suc (suc (suc zero)))))) l m = inr refl
five_six (suc (suc (suc (suc (suc (suc (suc k))))))) l m = absurd (omega (arith, m))

-- ---- the step that an opcode says

module _ (f : Fields) where
  pub as_number : f.opcode ≡ 1 → step_of f ≡ Step.Number (of_parts f.re f.im)
  unfolding step_of
  as_number e = rw e refl

  pub as_pi : f.opcode ≡ 2 → step_of f ≡ Step.Pi
  unfolding step_of
  as_pi e = rw e refl

  pub as_variable : f.opcode ≡ 3 → step_of f ≡ Step.Variable f.half
  unfolding step_of
  as_variable e = rw e refl

  pub as_cell : f.opcode ≡ 4 → step_of f ≡ Step.Memory f.half f.word
  unfolding step_of
  as_cell e = rw e refl

  pub as_function : f.opcode ≡ 5 → step_of f ≡ Step.Function (function_of f.sub)
  unfolding step_of
  as_function e = rw e refl

  pub as_prefix : f.opcode ≡ 6 → step_of f ≡ Step.Prefix (prefix_of f.sub)
  unfolding step_of
  as_prefix e = rw e refl

  pub as_operator : 4 < f.opcode → (f.opcode ≡ 5 → ⊥) → (f.opcode ≡ 6 → ⊥) → step_of f ≡ Step.Infix (infix_of f.sub)
  as_operator l p q = sym (as_last f l ((tt, p), q))

  -- known fields have an opcode
  pub known_some : known f ≡ true → 0 < f.opcode
  unfolding known
  known_some e = elim (which f.opcode) [
    | one p ↦ omega (arith, p)
    | two p ↦ omega (arith, p)
    | three p ↦ omega (arith, p)
    | four p ↦ omega (arith, p)
    | five p ↦ omega (arith, p)
    | six p ↦ omega (arith, p)
    | seven p ↦ omega (arith, p)
    | other a b c d g h i ↦
        never (rw (ne_eqb f.opcode 1 a, ne_eqb f.opcode 2 b, ne_eqb f.opcode 3 c, ne_eqb f.opcode 4 d, ne_eqb f.opcode 5 g, ne_eqb f.opcode 6 h, ne_eqb f.opcode 7 i) at e)
  ]

  -- ---- how many values it takes

  pub takes_none : 0 < f.opcode → f.opcode < 5 → 0 ≡ takes (step_of f)
  unfolding takes
  takes_none l m = ⊎_elim (λ e. rw (as_number e) refl) (⊎_elim (λ e. rw (as_pi e) refl) (⊎_elim (λ e. rw (as_variable e) refl) (λ e. rw (as_cell e) refl))) (first_four f.opcode l m)

  pub takes_one : 4 < f.opcode → f.opcode < 7 → 1 ≡ takes (step_of f)
  unfolding takes
  takes_one l m = ⊎_elim (λ e. rw (as_function e) refl) (λ e. rw (as_prefix e) refl) (five_six f.opcode l m)

  pub takes_two : 6 < f.opcode → 2 ≡ takes (step_of f)
  unfolding takes
  takes_two l = rw (as_operator (omega (arith, l)) (λ e. omega (arith, l, e)) (λ e. omega (arith, l, e))) refl

  -- an opcode of 0, which no known step has, stands for the last too
  pub takes_other : f.opcode < 1 → 2 ≡ takes (step_of f)
  unfolding takes
  takes_other l =
      ap takes (as_infix f ((((((tt, λ e. omega (arith, l, e)), λ e. omega (arith, l, e)), λ e. omega (arith, l, e)), λ e. omega (arith, l, e)), λ e. omega (arith, l, e)), λ e. omega (arith, l, e)))

  -- ---- what is asked

  pub asks_function : f.opcode ≡ 5 → true ≡ asks (step_of f)
  unfolding asks
  asks_function e = rw (as_function e) refl

  pub asks_prefix : f.opcode ≡ 6 → false ≡ asks (step_of f)
  unfolding asks
  asks_prefix e = rw (as_prefix e) refl

  pub not_function : asks (step_of f) ≡ false → f.opcode ≡ 5 → ⊥
  not_function n e = never (sym (asks_function e ∙ n))

  pub not_prefix : asks (step_of f) ≡ true → f.opcode ≡ 6 → ⊥
  not_prefix n e = never (asks_prefix e ∙ n)

  -- ---- a leaf

  pub is_cell : 0 < f.opcode → f.opcode < 5 → (((Unit {0} × (f.opcode ≡ 1 → ⊥)) × (f.opcode ≡ 2 → ⊥)) × (f.opcode ≡ 3 → ⊥)) → f.opcode ≡ 4
  is_cell l m (((_, p), q), r) = ⊎_elim (λ e. absurd (p e)) (⊎_elim (λ e. absurd (q e)) (⊎_elim (λ e. absurd (r e)) (λ e. e))) (first_four f.opcode l m)

  module _ (rows : Rows) (x y : Complex) (m : seen_value (value_of rows (step_of f) x y) ≡ missing) where
    -- a leaf that has no value is not bound
    pub leaf_missing : 0 < f.opcode → f.opcode < 5 → Evaluation.Incomplete ≡ value_of rows (step_of f) x y
    unfolding value_of leaf_value seen_value
    leaf_missing l k =
        ⊎_elim (λ e. not_seen (rw (as_number e) at m)) (⊎_elim (λ e. not_seen (rw (as_pi e) at m)) (⊎_elim (λ e. rw (as_variable e) (bound_missing _ (rw (as_variable e) at m))) (λ e. rw (as_cell e) (bound_missing _ (rw (as_cell e) at m)))))
        (first_four f.opcode l k)

    prefix_seen : {A : Type 0} → f.opcode ≡ 6 → A
    unfolding value_of seen_value
    prefix_seen e = not_seen (rw (as_prefix e) at m)

    operator_missing : step_of f ≡ Step.Infix (infix_of f.sub) → asks (step_of f) ≡ true
    unfolding value_of
    operator_missing e = ap asks e ∙ infix_missing rows (infix_of f.sub) x y (rw e at m)

    -- and an operation that has none was asked
    pub operation_missing : 4 < f.opcode → asks (step_of f) ≡ true
    operation_missing l = go (eqb f.opcode 5) (eqb f.opcode 6) refl refl
      where
        go : (a b : Bool) → eqb f.opcode 5 ≡ a → eqb f.opcode 6 ≡ b → asks (step_of f) ≡ true
        go true b p q = sym (asks_function (eqb-true f.opcode 5 p))
        go false true p q = prefix_seen (eqb-true f.opcode 6 q)
        go false false p q = operator_missing (as_operator l (λ e. never (sym p ∙ eq-eqb f.opcode 5 e)) (λ e. never (sym q ∙ eq-eqb f.opcode 6 e)))

  module _ (l : 4 < f.opcode) (p : f.opcode ≡ 5 → ⊥) (q : f.opcode ≡ 6 → ⊥) where
    pub asks_operator : 0 < f.sub → f.sub < 5 → false ≡ asks (step_of f)
    unfolding asks numbered
    asks_operator k m = ⊎_elim (λ (e : f.sub ≡ 1). rw (as_operator l p q, e) refl) (⊎_elim (λ (e : f.sub ≡ 2). rw (as_operator l p q, e) refl) (⊎_elim (λ (e : f.sub ≡ 3). rw (as_operator l p q, e) refl) (λ (e : f.sub ≡ 4). rw (as_operator l p q, e) refl))) (first_four f.sub k m)

    caret_is : (f.sub ≡ 1 → ⊥) → (f.sub ≡ 2 → ⊥) → (f.sub ≡ 3 → ⊥) → (f.sub ≡ 4 → ⊥) → infix_of f.sub ≡ InfixOperator.Caret
    unfolding numbered
    caret_is a b c d = rw (ne_eqb f.sub 1 a, ne_eqb f.sub 2 b, ne_eqb f.sub 3 c, ne_eqb f.sub 4 d) refl

    pub asks_caret : (f.sub ≡ 1 → ⊥) → (f.sub ≡ 2 → ⊥) → (f.sub ≡ 3 → ⊥) → (f.sub ≡ 4 → ⊥) → true ≡ asks (step_of f)
    unfolding asks
    asks_caret a b c d = rw (as_operator l p q, caret_is a b c d) refl

    -- ---- + - * /

    module _ (rows : Rows) (x y : Complex) where
      pub value_plus : {r : Complex} → f.sub ≡ 1 → r ≡ plus x y → Evaluation.Value r ≡ value_of rows (step_of f) x y
      unfolding value_of calculate_infix numbered
      value_plus e t = rw (as_operator l p q, e) (ap Evaluation.Value t)

      pub value_minus : {r : Complex} → f.sub ≡ 2 → r ≡ minus x y → Evaluation.Value r ≡ value_of rows (step_of f) x y
      unfolding value_of calculate_infix numbered
      value_minus e t = rw (as_operator l p q, e) (ap Evaluation.Value t)

      pub value_times : {r : Complex} → f.sub ≡ 3 → r ≡ times x y → Evaluation.Value r ≡ value_of rows (step_of f) x y
      unfolding value_of calculate_infix numbered
      value_times e t = rw (as_operator l p q, e) (ap Evaluation.Value t)

      -- what is left where nothing is asked
      pub value_over : {r : Complex} → asks (step_of f) ≡ false → (f.sub ≡ 1 → ⊥) → (f.sub ≡ 2 → ⊥) → (f.sub ≡ 3 → ⊥) → r ≡ over x y → Evaluation.Value r ≡ value_of rows (step_of f) x y
      unfolding value_of calculate_infix numbered
      value_over {r} n a b c t = go (eqb f.sub 4) refl
        where
          is_four : f.sub ≡ 4 → Evaluation.Value r ≡ value_of rows (step_of f) x y
          is_four e = rw (as_operator l p q, e) (ap Evaluation.Value t)

          go : (s : Bool) → eqb f.sub 4 ≡ s → Evaluation.Value r ≡ value_of rows (step_of f) x y
          go true e = is_four (eqb-true f.sub 4 e)
          go false e = never (sym (asks_caret a b c (λ g. never (sym e ∙ eq-eqb f.sub 4 g)) ∙ n))
