-- Known fields are those of the step that they say, and a step is what its fields say. Assumes nothing.
use mathlib.Core.Path.{◌≡◌, refl, sym, ap, subst, ◌∙◌}
use mathlib.Core.Bool.{Bool, true, false, ◌&&◌}
use Prim.Native.Nat.{ℕ, zero, suc, ◌<◌, ◌≤◌}
use native.Mathlib.Omega.{arith}
use native.Mathlib.Decide.{dec_lt}
use lib.Dec.{T, eqb}
use borrow.Author.Tests.{lt-ltb, le-ltb, eqb-true, eq-eqb, ne_eqb}
use Rattle.complex.proofs.Doubles.{double_back}
use Rattle.expression.specs.declared.InfixOperator.{InfixOperator}
use Rattle.expression.specs.declared.PrefixOperator.{PrefixOperator}
use Rattle.expression.specs.declared.ExpressionFunction.{ExpressionFunction}
use Rattle.expression.specs.Codes.{infix_code, infix_of, prefix_code, prefix_of, function_code, function_of}
use Rattle.expression.specs.Limits.{ProperLeaf}
use Rattle.expression.specs.Trees.{number, variable, cell}
use Rattle.expression.proofs.Numbering as Numbering
use Rattle.expression.proofs.Numbering.{infix_back, prefix_back, function_back, infix_known, prefix_known, function_known, infix_code_back, prefix_code_back, function_code_back}
use Rattle.steps.specs.declared.Step.{Step}
use Rattle.steps.specs.declared.Fields.{Fields}
use Rattle.steps.specs.Steps.{fields, fields_of, within, known, step_of}
use Rattle.steps.specs.Same.{same}

never : {A : Type 0} → false ≡ true → A
never e = absurd (subst T (sym e) tt)

pub same_refl : (f : Fields) → same f f ≡ true
unfolding same
same_refl f = rw (eq-eqb f.opcode _ refl, eq-eqb f.sub _ refl, eq-eqb f.half _ refl, eq-eqb f.word _ refl, eq-eqb f.re _ refl, eq-eqb f.im _ refl) refl

-- of two tests
pub first_true : (a b : Bool) → a && b ≡ true → a ≡ true
first_true true b e = refl
first_true false b e = e

pub second_true : (a b : Bool) → a && b ≡ true → b ≡ true
second_true true b e = e
second_true false b e = never e

pub same_is : (f g : Fields) → same f g ≡ true → f ≡ g
unfolding same
same_is f g e =
    let a = eqb-true _ _ (first_true (eqb f.opcode g.opcode) _ e) in
    let e₁ = second_true (eqb f.opcode g.opcode) _ e in
    let b = eqb-true _ _ (first_true (eqb f.sub g.sub) _ e₁) in
    let e₂ = second_true (eqb f.sub g.sub) _ e₁ in
    let c = eqb-true _ _ (first_true (eqb f.half g.half) _ e₂) in
    let e₃ = second_true (eqb f.half g.half) _ e₂ in
    let d = eqb-true _ _ (first_true (eqb f.word g.word) _ e₃) in
    let e₄ = second_true (eqb f.word g.word) _ e₃ in
    let x = eqb-true _ _ (first_true (eqb f.re g.re) _ e₄) in
    let y = eqb-true _ _ (second_true (eqb f.re g.re) _ e₄) in
    λ i. fields (a i) (b i) (c i) (d i) (x i) (y i)

-- ---- the codes of one kind are known from 1 to the last

-- k is a code exactly if it is that of what it stands for
module _ (last : ℕ) (code : ℕ → ℕ) (known-code : (k : ℕ) → Numbering.Known last (code k)) (back : (k : ℕ) → Numbering.Known last k → code k ≡ k) where
  code_within : (k : ℕ) → eqb k (code k) ≡ within last k
  code_within zero = ne_eqb 0 (code 0) λ e. omega (arith, e, (known-code 0).least)
  code_within (suc k) = elim (dec_lt (suc k) (suc last)) [
    | yes l ↦ rw (lt-ltb (suc k) (suc last) l, lt-ltb 0 (suc k) (omega arith)) (eq-eqb (suc k) (code (suc k)) (sym (back (suc k) (record { least = omega arith; most = omega (arith, l) }))))
    | no l ↦ rw (le-ltb (suc k) (suc last) (omega (arith, l)), lt-ltb 0 (suc k) (omega arith)) (ne_eqb (suc k) (code (suc k)) λ e. l (omega (arith, e, (known-code (suc k)).most)))
  ]

function_within : (k : ℕ) → eqb k (function_code (function_of k)) ≡ within 5 k
function_within = code_within 5 (λ k. function_code (function_of k)) (λ k. function_known (function_of k)) function_code_back

prefix_within : (k : ℕ) → eqb k (prefix_code (prefix_of k)) ≡ within 2 k
prefix_within = code_within 2 (λ k. prefix_code (prefix_of k)) (λ k. prefix_known (prefix_of k)) prefix_code_back

infix_within : (k : ℕ) → eqb k (infix_code (infix_of k)) ≡ within 5 k
infix_within = code_within 5 (λ k. infix_code (infix_of k)) (λ k. infix_known (infix_of k)) infix_code_back

-- ---- each opcode

-- which opcode it is
pub data Which (k : ℕ) : Type 0 where
  one : k ≡ 1 → Which k
  two : k ≡ 2 → Which k
  three : k ≡ 3 → Which k
  four : k ≡ 4 → Which k
  five : k ≡ 5 → Which k
  six : k ≡ 6 → Which k
  seven : k ≡ 7 → Which k
  other : (k ≡ 1 → ⊥) → (k ≡ 2 → ⊥) → (k ≡ 3 → ⊥) → (k ≡ 4 → ⊥) → (k ≡ 5 → ⊥) → (k ≡ 6 → ⊥) → (k ≡ 7 → ⊥) → Which k

pub which : (k : ℕ) → Which k
which zero = other (λ e. omega (arith, e)) (λ e. omega (arith, e)) (λ e. omega (arith, e)) (λ e. omega (arith, e)) (λ e. omega (arith, e)) (λ e. omega (arith, e)) (λ e. omega (arith, e))
which (suc zero) = one refl
which (suc (suc zero)) = two refl
which (suc (suc (suc zero))) = three refl
which (suc (suc (suc (suc zero)))) = four refl
which (suc (suc (suc (suc (suc zero))))) = five refl
which (suc (suc (suc (suc (suc (suc zero)))))) = six refl
which (suc (suc (suc (suc (suc (suc (suc zero))))))) = seven refl
which (suc (suc (suc (suc (suc (suc (suc (suc k)))))))) =
    other (λ e. omega (arith, e)) (λ e. omega (arith, e)) (λ e. omega (arith, e)) (λ e. omega (arith, e)) (λ e. omega (arith, e)) (λ e. omega (arith, e)) (λ e. omega (arith, e))

-- any other opcode than 1 to 6 stands for the last
pub as_infix : (f : Fields) → (((((((Unit {0} × (f.opcode ≡ 1 → ⊥)) × (f.opcode ≡ 2 → ⊥)) × (f.opcode ≡ 3 → ⊥)) × (f.opcode ≡ 4 → ⊥)) × (f.opcode ≡ 5 → ⊥)) × (f.opcode ≡ 6 → ⊥)))
    → Step.Infix (infix_of f.sub) ≡ step_of f
unfolding step_of
as_infix f ((((((_, p), q), r), s), t), u) = rw (ne_eqb f.opcode 1 p, ne_eqb f.opcode 2 q, ne_eqb f.opcode 3 r, ne_eqb f.opcode 4 s, ne_eqb f.opcode 5 t, ne_eqb f.opcode 6 u) refl

-- above 6, and 0
pub as_last : (f : Fields) → 4 < f.opcode → ((Unit {0} × (f.opcode ≡ 5 → ⊥)) × (f.opcode ≡ 6 → ⊥)) → Step.Infix (infix_of f.sub) ≡ step_of f
as_last f l ((_, p), q) = as_infix f ((((((tt, λ e. omega (arith, l, e)), λ e. omega (arith, l, e)), λ e. omega (arith, l, e)), λ e. omega (arith, l, e)), p), q)

-- known fields are those of the step that they say
pub known_same : (f : Fields) → same f (fields_of (step_of f)) ≡ known f
unfolding same known step_of
known_same f = elim (which f.opcode) [
  | one e ↦ rw e refl
  | two e ↦ rw e refl
  | three e ↦ rw (e, eq-eqb f.half _ refl) refl
  | four e ↦ rw (e, eq-eqb f.half _ refl, eq-eqb f.word _ refl) refl
  | five e ↦ rw (e, function_within f.sub) refl
  | six e ↦ rw (e, prefix_within f.sub) refl
  | seven e ↦ rw (e, infix_within f.sub) refl
  | other a b c d e g h ↦
      rw (ne_eqb f.opcode 1 a, ne_eqb f.opcode 2 b, ne_eqb f.opcode 3 c, ne_eqb f.opcode 4 d, ne_eqb f.opcode 5 e, ne_eqb f.opcode 6 g, ne_eqb f.opcode 7 h) refl
]

pub known_fields : (f : Fields) → known f ≡ true → fields_of (step_of f) ≡ f
known_fields f e = sym (same_is f (fields_of (step_of f)) (known_same f ∙ e))

-- ---- and back: a step whose numbers are such as a text can say

abbrev pub ProperStep : Step → Type 0
ProperStep (Step.Number z) = ProperLeaf (number z)
ProperStep Step.Pi = Unit {0}
ProperStep (Step.Variable v) = ProperLeaf (variable v)
ProperStep (Step.Memory region index) = ProperLeaf (cell region index)
ProperStep (Step.Function f) = Unit {0}
ProperStep (Step.Prefix o) = Unit {0}
ProperStep (Step.Infix o) = Unit {0}

pub step_back : (s : Step) → ProperStep s → step_of (fields_of s) ≡ s
unfolding step_of
step_back (Step.Number z) p = λ i. Step.Number (record { re = double_back z.re p.re i; im = double_back z.im p.im i })
step_back Step.Pi p = refl
step_back (Step.Variable v) p = refl
step_back (Step.Memory region index) p = refl
step_back (Step.Function f) p = ap Step.Function (function_back f)
step_back (Step.Prefix o) p = ap Step.Prefix (prefix_back o)
step_back (Step.Infix o) p = ap Step.Infix (infix_back o)

pub step_known : (s : Step) → ProperStep s → known (fields_of s) ≡ true
step_known s p = sym (known_same (fields_of s)) ∙ ap (λ s'. same (fields_of s) (fields_of s')) (step_back s p) ∙ same_refl (fields_of s)

-- ---- codes are bytes

pub function_byte : {k : ℕ} (f : ExpressionFunction) → k ≡ function_code f → k ≤ 5
function_byte f e = omega (arith, e, (function_known f).most)

pub prefix_byte : {k : ℕ} (o : PrefixOperator) → k ≡ prefix_code o → k ≤ 2
prefix_byte o e = omega (arith, e, (prefix_known o).most)

pub infix_byte : {k : ℕ} (o : InfixOperator) → k ≡ infix_code o → k ≤ 5
infix_byte o e = omega (arith, e, (infix_known o).most)
