-- Demand 3 for the t rows that are used: playing the tape of an expression uses those that evaluating it uses, in the same order. Assumes nothing.
use mathlib.Core.Path.{◌≡◌, refl, sym, ap, ◌∙◌}
use mathlib.Core.List.{List, [], ◌∷◌, ◌++◌, append_assoc, append-nil}
use mathlib.Core.Bool.{cond}
use Prim.Native.Nat.{ℕ, ◌+◌, ◌<◌, ◌≤◌, max}
use native.Mathlib.Omega.{arith}
use lib.ListN.{length}
use borrow.Author.Tests.{lt-ltb}
use Rattle.complex.specs.declared.Complex.{Complex}
use Rattle.expression.specs.Trees.{Tree, Leaf, number, pi, variable, cell, leaf, function_call, prefixed, infixed, depth}
use Rattle.expression.specs.Limits.{Proper}
use Rattle.memory.specs.Marks.{marks_of}
use Rattle.sheet.specs.Rows.{Rows}
use Rattle.evaluation.specs.declared.Evaluation.{Evaluation}
use Rattle.evaluation.specs.Evaluating as Evaluating
use Rattle.evaluation.specs.Evaluating.{calculate_function, calculate_infix, calculate_prefix, leaf_value, evaluate}
use Rattle.evaluation.specs.Using.{after_value, used_by_function, used_by_infix, used}
use Rattle.steps.specs.declared.Step.{Step}
use Rattle.tape.specs.Tapes.{leaf_step, steps, tape}
use Rattle.tape.specs.Playing.{stands, breaks, push, step}
use Rattle.tape.specs.Using.{on_stack, used_by_step, used_in_run, used_playing}
use Rattle.tape.proofs.Demand.{steps_proper, steps_back}

-- ---- what is used after a value

on_pushed : (e : Evaluation) (stack : List Complex) (next : List Complex → List ℕ) → length stack < 64 → on_stack (push e stack) next ≡ after_value e (λ z. next (z ∷ stack))
unfolding on_stack push after_value
on_pushed (Evaluation.Value z) stack next l = ap (λ b. on_stack (cond b (stands (z ∷ stack)) breaks) next) (lt-ltb (length stack) 64 l)
on_pushed Evaluation.Incomplete stack next l = refl
on_pushed (Evaluation.Need operation x y) stack next l = refl

after_same : (e : Evaluation) {f g : Complex → List ℕ} → ((z : Complex) → f z ≡ g z) → after_value e f ≡ after_value e g
unfolding after_value
after_same (Evaluation.Value z) p = p z
after_same Evaluation.Incomplete p = refl
after_same (Evaluation.Need operation x y) p = refl

after_none : (e : Evaluation) → after_value e (λ z. []) ≡ []
unfolding after_value
after_none (Evaluation.Value z) = refl
after_none Evaluation.Incomplete = refl
after_none (Evaluation.Need operation x y) = refl

module _ (e : Evaluation) (then : Complex → Evaluation) (next : Complex → List ℕ) where
  plainly : after_value e (λ x. after_value (then x) next) ≡ after_value (Evaluating.and_then e then) next
  unfolding after_value Evaluating.and_then
  plainly = elim e as (λ e. after_value e (λ x. after_value (then x) next) ≡ after_value (Evaluating.and_then e then) next) [ Evaluation.Value z ↦ refl | Evaluation.Incomplete ↦ refl | Evaluation.Need operation x y ↦ refl ]

  in_turn : (rows : Complex → List ℕ) → after_value e (λ x. rows x ++ after_value (then x) next) ≡ after_value e rows ++ after_value (Evaluating.and_then e then) next
  unfolding after_value Evaluating.and_then
  in_turn rows = elim e as (λ e. after_value e (λ x. rows x ++ after_value (then x) next) ≡ after_value e rows ++ after_value (Evaluating.and_then e then) next) [ Evaluation.Value z ↦ refl | Evaluation.Incomplete ↦ refl | Evaluation.Need operation x y ↦ refl ]

-- ---- a tree's steps use what the tree does

max_left : (a b : ℕ) → a ≤ max a b
max_left a b = omega arith

max_right : (a b : ℕ) → b ≤ max a b
max_right a b = omega arith

module _ (rows : Rows) where
  leaf_uses : (l : Leaf) (ss : List Step) (stack : List Complex) → used_in_run rows (leaf_step l ∷ ss) stack ≡ on_stack (push (leaf_value rows l) stack) (λ stack. used_in_run rows ss stack)
  unfolding used_in_run used_by_step step leaf_step
  leaf_uses (number z) ss stack = refl
  leaf_uses pi ss stack = refl
  leaf_uses (variable v) ss stack = refl
  leaf_uses (cell region index) ss stack = refl

  -- what is used after a step that leaves a value on the stack
  stepped : (e : Evaluation) (ss : List Step) (stack : List Complex) → length stack < 64
      → on_stack (push e stack) (λ stack. used_in_run rows ss stack) ≡ after_value e (λ z. used_in_run rows ss (z ∷ stack))
  stepped e ss stack l = on_pushed e stack (λ stack. used_in_run rows ss stack) l

  tree_uses : (t : Tree) (ss : List Step) (stack : List Complex) → length stack + depth t ≤ 64
      → used_in_run rows (steps t ++ ss) stack ≡ used rows t ++ after_value (evaluate rows t) (λ z. used_in_run rows ss (z ∷ stack))
  unfolding steps used_in_run used_by_step step evaluate used depth
  tree_uses (leaf l) ss stack d = leaf_uses l ss stack ∙ stepped (leaf_value rows l) ss stack (omega (arith, d))
  tree_uses (function_call f t) ss stack d =
      ap (λ us. used_in_run rows us stack) (append_assoc (steps t) (Step.Function f ∷ []) ss)
      ∙ tree_uses t (Step.Function f ∷ ss) stack (omega (arith, d))
      ∙ ap (λ u. used rows t ++ u)
      (after_same (evaluate rows t) (λ x. ap (λ u. used_by_function rows f x ++ u) (stepped (calculate_function rows f x) ss stack (omega (arith, d))))
      ∙ in_turn (evaluate rows t) (calculate_function rows f) (λ z. used_in_run rows ss (z ∷ stack)) (used_by_function rows f))
      ∙ sym (append_assoc (used rows t) _ _)
  tree_uses (prefixed o t) ss stack d =
      ap (λ us. used_in_run rows us stack) (append_assoc (steps t) (Step.Prefix o ∷ []) ss)
      ∙ tree_uses t (Step.Prefix o ∷ ss) stack (omega (arith, d))
      ∙ ap (λ u. used rows t ++ u)
      (after_same (evaluate rows t) (λ x. stepped (Evaluation.Value (calculate_prefix o x)) ss stack (omega (arith, d)))
      ∙ plainly (evaluate rows t) (λ x. Evaluation.Value (calculate_prefix o x)) (λ z. used_in_run rows ss (z ∷ stack)))
  tree_uses (infixed o l r) ss stack d =
      let m = max_left (depth l) (depth r) in
      let n = max_right (depth l) (depth r) in
      ap (λ us. used_in_run rows us stack) (append_assoc (steps l) (steps r ++ (Step.Infix o ∷ [])) ss)
      ∙ tree_uses l ((steps r ++ (Step.Infix o ∷ [])) ++ ss) stack (omega (arith, d, m))
      ∙ ap (λ u. used rows l ++ u)
      (after_same (evaluate rows l)
      (λ x.
      ap (λ us. used_in_run rows us (x ∷ stack)) (append_assoc (steps r) (Step.Infix o ∷ []) ss)
      ∙ tree_uses r (Step.Infix o ∷ ss) (x ∷ stack) (omega (arith, d, n))
      ∙ ap (λ u. used rows r ++ u)
      (after_same (evaluate rows r) (λ y. ap (λ u. used_by_infix rows o x y ++ u) (stepped (calculate_infix rows o x y) ss stack (omega (arith, d))))
      ∙ in_turn (evaluate rows r) (calculate_infix rows o x) (λ z. used_in_run rows ss (z ∷ stack)) (used_by_infix rows o x))
      ∙ sym (append_assoc (used rows r) _ _))
      ∙ in_turn (evaluate rows l) (λ x. Evaluating.and_then (evaluate rows r) (calculate_infix rows o x)) (λ z. used_in_run rows ss (z ∷ stack))
      (λ x. used rows r ++ after_value (evaluate rows r) (used_by_infix rows o x)))
      ∙ sym (append_assoc (used rows l) _ _)

  -- playing an expression's tape uses the rows that evaluating the expression uses, in the same order
  pub tape_uses : (t : Tree) → Proper t → depth t ≤ 64 → used_playing rows (tape t) ≡ used rows t
  unfolding used_in_run
  tape_uses t p d =
      ap (λ ss. used_in_run rows ss []) (steps_back (steps t) (steps_proper t p) ∙ sym (append-nil (steps t)))
      ∙ tree_uses t [] [] (omega (arith, d))
      ∙ ap (used rows t ++◌) (after_none (evaluate rows t))
      ∙ append-nil (used rows t)

  -- so the marks are the same
  pub tape_marks : (t : Tree) → Proper t → depth t ≤ 64 → marks_of (used_playing rows (tape t)) ≡ marks_of (used rows t)
  tape_marks t p d = ap marks_of (tape_uses t p d)
