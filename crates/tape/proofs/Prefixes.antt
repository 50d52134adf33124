-- The stack after each step of a tape, and what the last one leaves: neither the tape of an expression nor any other sound one runs out of stack, and
-- it holds at most as many values as the expression is deep, or 64. Assumes nothing.
use mathlib.Core.Path.{◌≡◌, refl, sym, ap, subst, ◌∙◌}
use mathlib.Core.List.{List, [], ◌∷◌, ◌++◌}
use mathlib.Core.Bool.{Bool, true, false, cond}
use Prim.Native.Nat.{ℕ, ◌≤◌}
use native.Mathlib.Omega.{arith}
use lib.ListN.{length, take, drop, take-append-drop}
use lib.Dec.{ltb}
use borrow.Author.Tests.{ltb-true}
use Rattle.std.specs.Prelude.{Ok}
use Rattle.complex.specs.declared.Complex.{Complex}
use Rattle.expression.specs.declared.refusal.Operation.{Operation}
use Rattle.expression.specs.Trees.{Tree, number, pi, variable, cell, size, depth}
use Rattle.expression.specs.Limits.{Proper}
use Rattle.sheet.specs.Rows.{Rows}
use Rattle.evaluation.specs.declared.Evaluation.{Evaluation}
use Rattle.evaluation.specs.Evaluating.{calculate_function, calculate_infix, calculate_prefix, leaf_value}
use Rattle.steps.specs.declared.Step.{Step}
use Rattle.tape.specs.Tapes.{steps, tape, steps_in, check}
use Rattle.tape.specs.Playing.{Outcome, stands, lacks, breaks, push, and_then, step, run}
use Rattle.tape.proofs.Demand.{steps_proper, steps_back, tape_sound}
use Rattle.tape.proofs.Depth.{Counted, Whole, sound_plays, stack_depth}

-- it did not run out of stack, and holds at most so many values
abbrev pub AtMost : (most : ℕ) → Outcome → Type 0
AtMost most (stands stack) = length stack ≤ most
AtMost most (lacks e) = Unit {0}
AtMost most breaks = ⊥

-- what a sound tape leaves: one value, or 9 or 10 where one is lacking
pub data Ends : Outcome → Type 0 where
  one_value : (z : Complex) → Ends (stands (z ∷ []))
  lacks_function : (operation : Operation) (x y : Complex) → Ends (lacks (Evaluation.Need operation x y))
  lacks_binding : Ends (lacks Evaluation.Incomplete)

at_most : (most : ℕ) (o : Outcome) → Whole o → ((stack : List Complex) → o ≡ stands stack → length stack ≤ most) → AtMost most o
at_most most (stands stack) w f = f stack refl
at_most most (lacks e) w f = tt
at_most most breaks w f = w

-- ---- what any steps leave: at most 64 values, or a lack, which is no value

Left : Outcome → Type 0
Left (stands stack) = length stack ≤ 64
Left (lacks (Evaluation.Value z)) = ⊥
Left (lacks Evaluation.Incomplete) = Unit {0}
Left (lacks (Evaluation.Need operation x y)) = Unit {0}
Left breaks = Unit {0}

push_left : (e : Evaluation) (stack : List Complex) → Left (push e stack)
unfolding push Left
push_left (Evaluation.Value z) stack = go (ltb (length stack) 64) refl
  where
    go : (b : Bool) → ltb (length stack) 64 ≡ b → Left (cond b (stands (z ∷ stack)) breaks)
    go true e = omega (arith, ltb-true (length stack) 64 e)
    go false e = tt
push_left Evaluation.Incomplete stack = tt
push_left (Evaluation.Need operation x y) stack = tt

then_left : (o : Outcome) (next : List Complex → Outcome) → Left o → ((stack : List Complex) → length stack ≤ 64 → Left (next stack)) → Left (and_then o next)
unfolding and_then Left
then_left (stands stack) next l more = more stack l
then_left (lacks e) next l more = l
then_left breaks next l more = tt

ends : (o : Outcome) → Whole o → Counted 1 o → Left o → Ends o
unfolding Left
ends (stands []) w c l = absurd (omega (arith, c))
ends (stands (z ∷ [])) w c l = one_value z
ends (stands (z ∷ y ∷ stack)) w c l = absurd (omega (arith, c))
ends (lacks (Evaluation.Value z)) w c l = absurd l
ends (lacks Evaluation.Incomplete) w c l = lacks_binding
ends (lacks (Evaluation.Need operation x y)) w c l = lacks_function operation x y
ends breaks w c l = absurd w

-- ---- some steps after others

in_turn : (o : Outcome) (f g h : List Complex → Outcome) → ((stack : List Complex) → f stack ≡ and_then (g stack) h) → and_then o f ≡ and_then (and_then o g) h
unfolding and_then
in_turn (stands stack) f g h p = p stack
in_turn (lacks e) f g h p = refl
in_turn breaks f g h p = refl

before : (o : Outcome) (next : List Complex → Outcome) → Whole (and_then o next) → Whole o
unfolding and_then
before (stands stack) next w = tt
before (lacks e) next w = tt
before breaks next w = w

module _ (rows : Rows) where
  step_left : (s : Step) (stack : List Complex) → Left (step rows s stack)
  unfolding step Left
  step_left (Step.Number z) stack = push_left (leaf_value rows (number z)) stack
  step_left Step.Pi stack = push_left (leaf_value rows pi) stack
  step_left (Step.Variable v) stack = push_left (leaf_value rows (variable v)) stack
  step_left (Step.Memory region index) stack = push_left (leaf_value rows (cell region index)) stack
  step_left (Step.Function f) [] = tt
  step_left (Step.Function f) (x ∷ stack) = push_left (calculate_function rows f x) stack
  step_left (Step.Prefix o) [] = tt
  step_left (Step.Prefix o) (x ∷ stack) = push_left (Evaluation.Value (calculate_prefix o x)) stack
  step_left (Step.Infix o) [] = tt
  step_left (Step.Infix o) (y ∷ []) = tt
  step_left (Step.Infix o) (y ∷ x ∷ stack) = push_left (calculate_infix rows o x y) stack

  run_left : (ss : List Step) (stack : List Complex) → length stack ≤ 64 → Left (run rows ss stack)
  unfolding run Left
  run_left [] stack l = l
  run_left (s ∷ ss) stack l = then_left (step rows s stack) (λ stack. run rows ss stack) (step_left s stack) λ next m. run_left ss next m

  pub run_append : (ss us : List Step) (stack : List Complex) → run rows (ss ++ us) stack ≡ and_then (run rows ss stack) (λ stack. run rows us stack)
  unfolding run and_then
  run_append [] us stack = refl
  run_append (s ∷ ss) us stack =
      in_turn (step rows s stack) (λ stack. run rows (ss ++ us) stack) (λ stack. run rows ss stack) (λ stack. run rows us stack) λ next. run_append ss us next

  -- steps that do not run out of stack have not after the first ones
  first_whole : (ss : List Step) (k : ℕ) → Whole (run rows ss []) → Whole (run rows (take k ss) [])
  first_whole ss k w =
      before (run rows (take k ss) []) (λ stack. run rows (drop k ss) stack)
      (subst Whole (ap (λ us. run rows us []) (sym (take-append-drop k ss)) ∙ run_append (take k ss) (drop k ss) []) w)

  -- ---- a sound tape

  module _ (bs : List ℕ) (sound : check bs ≡ Ok tt) where
    pub sound_prefix : (k : ℕ) → AtMost 64 (run rows (take k (steps_in bs)) [])
    unfolding Left
    sound_prefix k =
        at_most 64 (run rows (take k (steps_in bs)) []) (first_whole (steps_in bs) k (sound_plays rows bs sound).0) λ stack e.
        subst Left e (run_left (take k (steps_in bs)) [] (omega arith))

    pub sound_ends : Ends (run rows (steps_in bs) [])
    sound_ends = ends (run rows (steps_in bs) []) (sound_plays rows bs sound).0 (sound_plays rows bs sound).1 (run_left (steps_in bs) [] (omega arith))

  -- ---- the tape of an expression

  pub tape_prefix : (t : Tree) → Proper t → depth t ≤ 64 → size t ≤ 512 → (k : ℕ) → AtMost (depth t) (run rows (take k (steps_in (tape t))) [])
  tape_prefix t p d l k =
      let ss = steps_in (tape t) in
      at_most (depth t) (run rows (take k ss) []) (first_whole ss k (sound_plays rows (tape t) (tape_sound t p d l)).0) λ stack e.
      stack_depth rows t (take k ss) (drop k ss) stack (sym (take-append-drop k ss ∙ steps_back (steps t) (steps_proper t p))) e
