-- What playing a tape asks of a sheet's t rows: the rows that it uses are those that are found for what it asks, and no others. Assumes nothing.
use mathlib.Core.Path.{◌≡◌, refl}
use mathlib.Core.List.{List, [], ◌∷◌}
use mathlib.Core.Bool.{true, false≢true}
use mathlib.Core.Logic.{inl, inr}
use Prim.Native.Nat.{ℕ}
use lib.ListN.{get_or}
use Rattle.complex.specs.declared.Complex.{Complex}
use Rattle.expression.specs.declared.InfixOperator.{InfixOperator}
use Rattle.expression.specs.declared.ExpressionFunction.{ExpressionFunction}
use Rattle.expression.specs.declared.refusal.Operation.{Operation}
use Rattle.memory.specs.Marks.{marks_of}
use Rattle.memory.proofs.Marks.{among, among_left, among_right, among_either, marked}
use Rattle.sheet.specs.Rows.{Rows, at, function_row}
use Rattle.evaluation.proofs.Asking.{ByFunction, ByInfix, Uses, uses_more, function_uses, infix_uses, function_used, infix_used}
use Rattle.steps.specs.declared.Step.{Step}
use Rattle.tape.specs.Tapes.{steps_in}
use Rattle.tape.specs.Playing.{Outcome, stands, lacks, breaks, step}
use Rattle.tape.specs.Using.{on_stack, used_by_step, used_in_run, used_playing}

-- by steps on a stack, its top first: a step asks for what its function or operator does, of the values on top; then the next on what it leaves
pub data Asks (rows : Rows) : List Step → List Complex → Operation → (x y : Complex) → Type 0 where
  by_function : {f : ExpressionFunction} {ss : List Step} {stack : List Complex} {o : Operation} {x y z : Complex} → ByFunction rows z f o x y → Asks rows (Step.Function f ∷ ss) (z ∷ stack) o x y
  by_infix : {s : InfixOperator} {ss : List Step} {stack : List Complex} {o : Operation} {x y a b : Complex} → ByInfix a b s o x y → Asks rows (Step.Infix s ∷ ss) (b ∷ a ∷ stack) o x y
  later : {s : Step} {ss : List Step} {stack left : List Complex} {o : Operation} {x y : Complex} → step rows s stack ≡ stands left → Asks rows ss left o x y → Asks rows (s ∷ ss) stack o x y

record OnStack (o : Outcome) (next : List Complex → List ℕ) (j : ℕ) : Type 0 where
  pub stack : List Complex
  pub is : o ≡ stands stack
  pub among_next : among j (next stack) ≡ true

on_stack_lem : (o : Outcome) (next : List Complex → List ℕ) (j : ℕ) → among j (on_stack o next) ≡ true → OnStack o next j
unfolding on_stack among
on_stack_lem (stands stack) next j p = record { stack = stack; is = refl; among_next = p }
on_stack_lem (lacks e) next j p = absurd (false≢true p)
on_stack_lem breaks next j p = absurd (false≢true p)

module _ (rows : Rows) (j : ℕ) where
  step_uses : (s : Step) (ss : List Step) (stack : List Complex) → among j (used_by_step rows s stack) ≡ true → Uses rows (Asks rows (s ∷ ss) stack) j
  unfolding used_by_step among
  step_uses (Step.Number z) ss stack p = absurd (false≢true p)
  step_uses Step.Pi ss stack p = absurd (false≢true p)
  step_uses (Step.Variable v) ss stack p = absurd (false≢true p)
  step_uses (Step.Memory region index) ss stack p = absurd (false≢true p)
  step_uses (Step.Function f) ss [] p = absurd (false≢true p)
  step_uses (Step.Function f) ss (z ∷ stack) p = uses_more (function_uses rows j f z p) λ o x y a. by_function a
  step_uses (Step.Prefix s) ss stack p = absurd (false≢true p)
  step_uses (Step.Infix s) ss [] p = absurd (false≢true p)
  step_uses (Step.Infix s) ss (b ∷ []) p = absurd (false≢true p)
  step_uses (Step.Infix s) ss (b ∷ a ∷ stack) p = uses_more (infix_uses rows j s a b p) λ o x y q. by_infix q

  -- what is used was found for what is asked
  pub run_uses : (ss : List Step) (stack : List Complex) → among j (used_in_run rows ss stack) ≡ true → Uses rows (Asks rows ss stack) j
  unfolding used_in_run among
  run_uses [] stack p = absurd (false≢true p)
  run_uses (s ∷ ss) stack p = elim (among_either j (used_by_step rows s stack) _ p) [
    | inl q ↦ step_uses s ss stack q
    | inr q ↦ let v = on_stack_lem (step rows s stack) _ j q in uses_more (run_uses ss v.stack v.among_next) λ o x y a. later v.is a
  ]

  -- so it is where the row's mark is 1
  pub marked_uses : (tape : List ℕ) → get_or (marks_of (used_playing rows tape)) j 0 ≡ 1 → Uses rows (Asks rows (steps_in tape) []) j
  marked_uses tape m = run_uses (steps_in tape) [] (marked (used_playing rows tape) j m)

  -- what is found for what is asked is used
  pub run_used : {ss : List Step} {stack : List Complex} {o : Operation} {x y value : Complex} → Asks rows ss stack o x y → function_row o x y rows.functions ≡ at j value
      → among j (used_in_run rows ss stack) ≡ true
  unfolding used_in_run used_by_step on_stack
  run_used (by_function a) e = among_left j _ _ (function_used rows j a e)
  run_used (by_infix a) e = among_left j _ _ (infix_used rows j a e)
  run_used (later {s = s} {ss = ss} {stack = stack} q a) e = among_right j (used_by_step rows s stack) _ (rw q (run_used a e))
