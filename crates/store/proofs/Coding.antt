-- A node and its fields: there and back; and what trees are grown of nodes. Assumes nothing.
use mathlib.Core.Path.{◌≡◌, refl, ap}
use Prim.Native.Nat.{ℕ, zero, suc, ◌%◌, ◌/◌, ◌<◌, ◌≤◌}
use native.Mathlib.Omega.{arith}
use native.Mathlib.Nat.{mod-eq_of_lt}
use Rattle.complex.proofs.Doubles.{double_back}
use Rattle.expression.specs.Codes.{infix_of, infix_code, prefix_code, function_code}
use Rattle.expression.proofs.Numbering.{infix_back, prefix_back, function_back, infix_known, prefix_known, function_known}
use Rattle.expression.specs.declared.node.Expression.{Expression}
use Rattle.store.specs.declared.node.Fields.{Fields}
use Rattle.store.specs.Words.{code_of}
use Rattle.store.specs.Nodes.{fields, fields_of, expression_as, expression_of}
use Rattle.expression.specs.Nodes.{Sound}

-- a kind that is none of the first six
pub as_infix : (k o a b : ℕ)
    → ((((((Unit {0} × (k ≡ 1 → ⊥)) × (k ≡ 2 → ⊥)) × (k ≡ 3 → ⊥)) × (k ≡ 4 → ⊥)) × (k ≡ 5 → ⊥)) × (k ≡ 6 → ⊥))
    → Expression.Infix (infix_of o) a b ≡ expression_as k o a b
unfolding expression_as
as_infix zero o a b h = refl
as_infix (suc zero) o a b h = absurd (h.0.0.0.0.0.1 refl)
as_infix (suc (suc zero)) o a b h = absurd (h.0.0.0.0.1 refl)
as_infix (suc (suc (suc zero))) o a b h = absurd (h.0.0.0.1 refl)
as_infix (suc (suc (suc (suc zero)))) o a b h = absurd (h.0.0.1 refl)
as_infix (suc (suc (suc (suc (suc zero))))) o a b h = absurd (h.0.1 refl)
as_infix (suc (suc (suc (suc (suc (suc zero)))))) o a b h = absurd (h.1 refl)
as_infix (suc (suc (suc (suc (suc (suc (suc k))))))) o a b h = refl

-- ---- what a code holds

pub record Coded (k o : ℕ) : Type 0 where
  pub kind : code_of k o % 8 ≡ k
  pub operator : code_of k o / 8 ≡ o
  pub small : code_of k o < 64

pub coded : (k o : ℕ) → k < 8 → o ≤ 5 → Coded k o
coded k o l m = record { kind = omega arith; operator = omega arith; small = omega arith }

-- ---- fields as an expression, kind by kind

pub of_function : (f : _) (a b : ℕ) → expression_of (fields (code_of 5 (function_code f)) a b) ≡ Expression.FunctionCall f a
unfolding expression_of expression_as
of_function f a b =
    let c = coded 5 (function_code f) (omega arith) (function_known f).most in
    rw (c.kind, c.operator, function_back f) refl

pub of_prefix : (o : _) (a b : ℕ) → expression_of (fields (code_of 6 (prefix_code o)) a b) ≡ Expression.Prefix o a
unfolding expression_of expression_as
of_prefix o a b =
    let c = coded 6 (prefix_code o) (omega arith) (omega (arith, (prefix_known o).most)) in
    rw (c.kind, c.operator, prefix_back o) refl

pub of_infix : (o : _) (a b : ℕ) → expression_of (fields (code_of 7 (infix_code o)) a b) ≡ Expression.Infix o a b
unfolding expression_of expression_as
of_infix o a b =
    let c = coded 7 (infix_code o) (omega arith) (infix_known o).most in
    rw (c.kind, c.operator, infix_back o) refl

-- there and back
pub back : (e : Expression) → Sound e → expression_of (fields_of e) ≡ e
unfolding expression_of expression_as
back (Expression.Number z) h =
    let a = double_back z.re h.re in
    let b = double_back z.im h.im in
    λ i. Expression.Number (record { re = a i; im = b i })
back Expression.PiConstant h = refl
back (Expression.Variable v) h = ap Expression.Variable (mod-eq_of_lt h)
back (Expression.Address r i) h =
    let a = mod-eq_of_lt h.0 in
    let b = mod-eq_of_lt h.1 in
    λ k. Expression.Address (a k) (b k)
back (Expression.FunctionCall f a) h = of_function f a 0
back (Expression.Prefix o a) h = of_prefix o a 0
back (Expression.Infix o a b) h = of_infix o a b

-- every code is below 64
pub code_small : (e : Expression) → (fields_of e).code < 64
code_small (Expression.Number z) = omega arith
code_small Expression.PiConstant = omega arith
code_small (Expression.Variable v) = omega arith
code_small (Expression.Address r i) = omega arith
code_small (Expression.FunctionCall f a) = (coded 5 (function_code f) (omega arith) (function_known f).most).small
code_small (Expression.Prefix o a) = (coded 6 (prefix_code o) (omega arith) (omega (arith, (prefix_known o).most))).small
code_small (Expression.Infix o a b) = (coded 7 (infix_code o) (omega arith) (infix_known o).most).small

-- ---- the same fields, one by one

pub all_same : (f g : Fields) → f.code ≡ g.code → f.first ≡ g.first → f.second ≡ g.second → f ≡ g
all_same f g p q r = λ i. fields (p i) (q i) (r i)
