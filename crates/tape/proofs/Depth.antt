-- How many values the stack holds: at no step of an expression's tape more than the expression is deep, and in any sound tape never too few
-- nor more than 64. Assumes nothing.
use mathlib.Core.Path.{◌≡◌, refl, sym, ap, subst, ◌∙◌}
use mathlib.Core.List.{List, [], ◌∷◌, ◌++◌, map, append_assoc, append-nil}
use mathlib.Core.Bool.{Bool, true, false, cond}
use Prim.Native.Nat.{ℕ, zero, suc, ◌+◌, ◌<◌, ◌≤◌, max, ◌-◌}
use native.Mathlib.Omega.{arith}
use lib.ListN.{length}
use lib.Dec.{ltb}
use borrow.Author.Tests.{lt-ltb}
use Rattle.std.specs.Prelude.{Ok}
use Rattle.complex.specs.declared.Complex.{Complex}
use Rattle.expression.specs.declared.InfixOperator.{InfixOperator}
use Rattle.expression.specs.Trees.{Tree, Leaf, number, pi, variable, cell, leaf, function_call, prefixed, infixed, depth}
use Rattle.sheet.specs.Rows.{Rows}
use Rattle.evaluation.specs.declared.Evaluation.{Evaluation}
use Rattle.evaluation.specs.Evaluating.{calculate_function, calculate_infix, calculate_prefix, leaf_value}
use Rattle.steps.specs.declared.Step.{Step}
use Rattle.steps.specs.declared.Fields.{Fields}
use Rattle.steps.specs.Steps.{step_of}
use Rattle.tape.specs.Tapes.{leaf_step, steps, fields_of_all, count, steps_in, takes, after, check_from, check}
use Rattle.tape.specs.Playing.{Outcome, stands, lacks, breaks, push, and_then, step, run}
use Rattle.tape.proofs.Checking.{on_sound, one_left, sound_is}

-- ---- the count of values through a run

-- after some steps
unfoldable pub values : (start : ℕ) → List Step → ℕ
values start [] = start
values start (s ∷ ss) = values (after start s) ss

-- the most at any step
unfoldable pub most : (start : ℕ) → List Step → ℕ
most start [] = start
most start (s ∷ ss) = max start (most (after start s) ss)

-- what a tree needs: its left operand alone, then its right one on top of the left one's value
unfoldable pub need : Tree → ℕ
need (leaf l) = 1
need (function_call f t) = need t
need (prefixed o t) = need t
need (infixed o l r) = max (need l) (suc (need r))

most_first : (start : ℕ) (ss : List Step) → start ≤ most start ss
unfolding most
most_first start [] = omega arith
most_first start (s ∷ ss) = omega arith

leaf_after : (l : Leaf) (start : ℕ) → after start (leaf_step l) ≡ suc start
unfolding takes leaf_step
leaf_after (number z) start = omega arith
leaf_after pi start = omega arith
leaf_after (variable v) start = omega arith
leaf_after (cell region index) start = omega arith

need_some : (t : Tree) → 1 ≤ need t
unfolding need
need_some (leaf l) = omega arith
need_some (function_call f t) = need_some t
need_some (prefixed o t) = need_some t
need_some (infixed o l r) = omega (arith, need_some l)

-- the most values while a tree is played on top of others, and then more steps
tree_most : (t : Tree) (start : ℕ) (ss : List Step) → most start (steps t ++ ss) ≡ max (start + need t) (most (suc start) ss)
unfolding steps need most takes
tree_most (leaf l) start ss = rw (leaf_after l start) (omega (arith, most_first (suc start) ss))
tree_most (function_call f t) start ss =
    let p : after (suc start) (Step.Function f) ≡ suc start = omega arith in
    rw (append_assoc (steps t) (Step.Function f ∷ []) ss, tree_most t start (Step.Function f ∷ ss), p) (omega (arith, most_first (suc start) ss))
tree_most (prefixed o t) start ss =
    let p : after (suc start) (Step.Prefix o) ≡ suc start = omega arith in
    rw (append_assoc (steps t) (Step.Prefix o ∷ []) ss, tree_most t start (Step.Prefix o ∷ ss), p) (omega (arith, most_first (suc start) ss))
tree_most (infixed o l r) start ss =
    let p : after (suc (suc start)) (Step.Infix o) ≡ suc start = omega arith in
    let q = need_some r in
    rw (
      append_assoc (steps l) (steps r ++ (Step.Infix o ∷ [])) ss,
      tree_most l start ((steps r ++ (Step.Infix o ∷ [])) ++ ss),
      append_assoc (steps r) (Step.Infix o ∷ []) ss,
      tree_most r (suc start) (Step.Infix o ∷ ss),
      p,
    ) (omega (arith, q))

-- the maximum over the run is what the tree needs
pub most_is : (t : Tree) → most 0 (steps t) ≡ need t
unfolding most
most_is t = ap (most 0) (sym (append-nil (steps t))) ∙ tree_most t 0 [] ∙ omega (arith, need_some t)

-- and that is at most its depth
pub need_depth : (t : Tree) → need t ≤ depth t
unfolding need depth
need_depth (leaf l) = omega arith
need_depth (function_call f t) = omega (arith, need_depth t)
need_depth (prefixed o t) = omega (arith, need_depth t)
need_depth (infixed o l r) = omega (arith, need_depth l, need_depth r)

-- "The stack never holds more than the expression's depth"
pub most_depth : (t : Tree) → most 0 (steps t) ≤ depth t
most_depth t = omega (arith, most_is t, need_depth t)

-- it is attained: l op (l op (.. op l)), any number of times
unfoldable pub chain : InfixOperator → Leaf → ℕ → Tree
chain o l zero = leaf l
chain o l (suc k) = infixed o (leaf l) (chain o l k)

pub chain_attains : (o : InfixOperator) (l : Leaf) (k : ℕ) → (most 0 (steps (chain o l k)) ≡ suc k) × (depth (chain o l k) ≡ suc k)
unfolding chain need depth
chain_attains o l k = (most_is (chain o l k) ∙ needs k, deep k)
  where
    needs : (k : ℕ) → need (chain o l k) ≡ suc k
    needs zero = refl
    needs (suc k) = omega (arith, needs k)

    deep : (k : ℕ) → depth (chain o l k) ≡ suc k
    deep zero = refl
    deep (suc k) = omega (arith, deep k)

-- ---- the stack itself

-- an outcome's stack has so many values
abbrev pub Counted : ℕ → Outcome → Type 0
Counted n (stands stack) = length stack ≡ n
Counted n (lacks e) = Unit {0}
Counted n breaks = Unit {0}

-- an outcome that did not run out of stack
abbrev pub Whole : Outcome → Type 0
Whole (stands stack) = Unit {0}
Whole (lacks e) = Unit {0}
Whole breaks = ⊥

push_counted : (e : Evaluation) (stack : List Complex) {n : ℕ} → suc (length stack) ≡ n → Counted n (push e stack)
unfolding push
push_counted (Evaluation.Value z) stack {n} p = go (ltb (length stack) 64)
  where
    go : (b : Bool) → Counted n (cond b (stands (z ∷ stack)) breaks)
    go true = p
    go false = tt
push_counted Evaluation.Incomplete stack p = tt
push_counted (Evaluation.Need operation x y) stack p = tt

push_whole : (e : Evaluation) (stack : List Complex) → length stack < 64 → Whole (push e stack)
unfolding push
push_whole (Evaluation.Value z) stack l = subst (λ b. Whole (cond b (stands (z ∷ stack)) breaks)) (sym (lt-ltb (length stack) 64 l)) tt
push_whole Evaluation.Incomplete stack l = tt
push_whole (Evaluation.Need operation x y) stack l = tt

module _ (rows : Rows) where
  step_counted : (s : Step) (stack : List Complex) → Counted (after (length stack) s) (step rows s stack)
  unfolding step takes
  step_counted (Step.Number z) stack = push_counted (leaf_value rows (number z)) stack (omega arith)
  step_counted Step.Pi stack = push_counted (leaf_value rows pi) stack (omega arith)
  step_counted (Step.Variable v) stack = push_counted (leaf_value rows (variable v)) stack (omega arith)
  step_counted (Step.Memory region index) stack = push_counted (leaf_value rows (cell region index)) stack (omega arith)
  step_counted (Step.Function f) [] = tt
  step_counted (Step.Function f) (x ∷ stack) = push_counted (calculate_function rows f x) stack (omega arith)
  step_counted (Step.Prefix o) [] = tt
  step_counted (Step.Prefix o) (x ∷ stack) = push_counted (Evaluation.Value (calculate_prefix o x)) stack (omega arith)
  step_counted (Step.Infix o) [] = tt
  step_counted (Step.Infix o) (y ∷ []) = tt
  step_counted (Step.Infix o) (y ∷ x ∷ stack) = push_counted (calculate_infix rows o x y) stack (omega arith)

  step_whole : (s : Step) (stack : List Complex) → takes s ≤ length stack → length stack - takes s < 64 → Whole (step rows s stack)
  unfolding step takes
  step_whole (Step.Number z) stack l m = push_whole (leaf_value rows (number z)) stack (omega (arith, m))
  step_whole Step.Pi stack l m = push_whole (leaf_value rows pi) stack (omega (arith, m))
  step_whole (Step.Variable v) stack l m = push_whole (leaf_value rows (variable v)) stack (omega (arith, m))
  step_whole (Step.Memory region index) stack l m = push_whole (leaf_value rows (cell region index)) stack (omega (arith, m))
  step_whole (Step.Function f) [] l m = absurd (omega (arith, l))
  step_whole (Step.Function f) (x ∷ stack) l m = push_whole (calculate_function rows f x) stack (omega (arith, m))
  step_whole (Step.Prefix o) [] l m = absurd (omega (arith, l))
  step_whole (Step.Prefix o) (x ∷ stack) l m = push_whole (Evaluation.Value (calculate_prefix o x)) stack (omega (arith, m))
  step_whole (Step.Infix o) [] l m = absurd (omega (arith, l))
  step_whole (Step.Infix o) (y ∷ []) l m = absurd (omega (arith, l))
  step_whole (Step.Infix o) (y ∷ x ∷ stack) l m = push_whole (calculate_infix rows o x y) stack (omega (arith, m))

  run_counted : (ss : List Step) (stack : List Complex) → Counted (values (length stack) ss) (run rows ss stack)
  unfolding run values and_then
  run_counted [] stack = refl
  run_counted (s ∷ ss) stack = go (step rows s stack) (step_counted s stack) (λ next. run_counted ss next)
    where
      go : (o : Outcome) → Counted (after (length stack) s) o → ((next : List Complex) → Counted (values (length next) ss) (run rows ss next))
          → Counted (values (after (length stack) s) ss) (and_then o (λ stack. run rows ss stack))
      go (stands next) c more = subst (λ n. Counted (values n ss) (run rows ss next)) c (more next)
      go (lacks e) c more = tt
      go breaks c more = tt

  values_most : (start : ℕ) (ss us : List Step) → values start ss ≤ most start (ss ++ us)
  unfolding values most
  values_most start [] us = most_first start us
  values_most start (s ∷ ss) us = omega (arith, values_most (after start s) ss us)

  -- after each step of an expression's tape, under any sheet, the stack holds no more values than the expression is deep
  pub stack_depth : (t : Tree) (ss us : List Step) (stack : List Complex) → steps t ≡ ss ++ us → run rows ss [] ≡ stands stack → length stack ≤ depth t
  stack_depth t ss us stack e p =
      let c : length stack ≡ values 0 ss = subst (Counted (values 0 ss)) p (run_counted ss []) in
      let m = values_most 0 ss us in
      let q = ap (most 0) e in
      omega (arith, c, m, q, most_depth t)

  -- ---- any sound tape

  then_whole : (o : Outcome) (n : ℕ) (next : List Complex → Outcome) → Whole o → Counted n o → ((stack : List Complex) → length stack ≡ n → Whole (next stack)) → Whole (and_then o next)
  unfolding and_then
  then_whole (stands stack) n next w c more = more stack c
  then_whole (lacks x) n next w c more = tt
  then_whole breaks n next w c more = w

  run_whole : (at : ℕ) (fs : List Fields) (stack : List Complex) → check_from at (length stack) fs ≡ Ok tt → Whole (run rows (map step_of fs) stack)
  unfolding run
  run_whole at [] stack e = tt
  run_whole at (f ∷ fs) stack e =
      let a = on_sound at (length stack) f fs e in
      then_whole (step rows (step_of f) stack) (after (length stack) (step_of f)) (λ stack. run rows (map step_of fs) stack) (step_whole (step_of f) stack a.0.enough (omega (arith, a.0.room)))
      (step_counted (step_of f) stack) λ next c. run_whole (suc at) fs next (ap (λ n. check_from (suc at) n fs) c ∙ a.1)

  run_one : (at : ℕ) (fs : List Fields) (n : ℕ) → check_from at n fs ≡ Ok tt → values n (map step_of fs) ≡ 1
  unfolding values
  run_one at [] n e = one_left at n e
  run_one at (f ∷ fs) n e = run_one (suc at) fs (after n (step_of f)) (on_sound at n f fs e).1

  -- "A tape from anywhere else is refused before its first step or plays without running out of stack": no pop of an empty stack, never more than
  -- 64 values, and where no value is lacking one is left at the end
  pub sound_plays : (bs : List ℕ) → check bs ≡ Ok tt → Whole (run rows (steps_in bs) []) × Counted 1 (run rows (steps_in bs) [])
  sound_plays bs e =
      let s = (sound_is bs e).steps in
      (run_whole 0 (fields_of_all (count bs) bs) [] s, subst (λ n. Counted n (run rows (steps_in bs) [])) (run_one 0 (fields_of_all (count bs) bs) 0 s) (run_counted (steps_in bs) []))
