-- Demand 3 on trees: the tape of an expression is sound, plays what evaluating gives, and needs no more stack than the expression is deep; and
-- no sound tape runs out of stack. Assumes nothing.
use mathlib.Core.Path.{◌≡◌, refl, sym, ap, ◌∙◌}
use mathlib.Core.List.{List, [], ◌∷◌, ◌++◌, map, append_assoc, append-nil}
use mathlib.Core.Bool.{true, cond}
use Prim.Native.Nat.{ℕ, suc, ◌+◌, ◌<◌, ◌≤◌, max, ◌-◌}
use native.Mathlib.Omega.{arith}
use lib.ListN.{length}
use borrow.Author.Tests.{lt-ltb}
use Rattle.std.specs.Prelude.{Ok}
use Rattle.complex.specs.declared.Complex.{Complex}
use Rattle.expression.specs.Trees.{Tree, Leaf, number, pi, variable, cell, leaf, function_call, prefixed, infixed, size, depth}
use Rattle.expression.specs.Limits.{Proper, ProperLeaf}
use Rattle.sheet.specs.Rows.{Rows}
use Rattle.evaluation.specs.declared.Evaluation.{Evaluation}
use Rattle.evaluation.specs.Evaluating as Evaluating
use Rattle.evaluation.specs.Evaluating.{calculate_function, calculate_infix, calculate_prefix, leaf_value, evaluate}
use Rattle.steps.specs.declared.Step.{Step}
use Rattle.steps.specs.declared.Fields.{Fields}
use Rattle.steps.specs.Steps.{fields_of, tape_of, step_of}
use Rattle.steps.proofs.Knowing.{ProperStep, step_back, step_known}
use Rattle.steps.proofs.Writing.{tape_size}
use Rattle.steps.proofs.Inverse.{encoded_fields, after_encoded}
use Rattle.tape.specs.Tapes.{leaf_step, steps, tape, fields_of_all, count, steps_in, takes, after, allowed, check_from, check}
use Rattle.tape.specs.Playing.{Outcome, stands, lacks, breaks, push, and_then, result, step, run, played}
use Rattle.tape.proofs.Checking.{check_on, check_whole}
use Rattle.tape.proofs.Emitting.{tape_length}

-- ---- the steps of a tree that a text can say, there and back

abbrev pub AllProper : List Step → Type 0
AllProper [] = Unit {0}
AllProper (s ∷ ss) = ProperStep s × AllProper ss

proper_append : (ss us : List Step) → AllProper ss → AllProper us → AllProper (ss ++ us)
proper_append [] us p q = q
proper_append (s ∷ ss) us p q = (p.0, proper_append ss us p.1 q)

leaf_proper : (l : Leaf) → ProperLeaf l → ProperStep (leaf_step l)
unfolding leaf_step
leaf_proper (number z) p = p
leaf_proper pi p = p
leaf_proper (variable v) p = p
leaf_proper (cell region index) p = p

pub steps_proper : (t : Tree) → Proper t → AllProper (steps t)
unfolding steps
steps_proper (leaf l) p = (leaf_proper l p, tt)
steps_proper (function_call f t) p = proper_append (steps t) _ (steps_proper t p) (tt, tt)
steps_proper (prefixed o t) p = proper_append (steps t) _ (steps_proper t p) (tt, tt)
steps_proper (infixed o l r) p = proper_append (steps l) _ (steps_proper l p.0) (proper_append (steps r) _ (steps_proper r p.1) (tt, tt))

tape_fields : (ss : List Step) → AllProper ss → fields_of_all (length ss) (tape_of ss) ≡ map fields_of ss
unfolding fields_of_all tape_of
tape_fields [] p = refl
tape_fields (s ∷ ss) p = λ i. encoded_fields s (tape_of ss) p.0 i ∷ (ap (fields_of_all (length ss)) (after_encoded s (tape_of ss)) ∙ tape_fields ss p.1) i

fields_steps : (ss : List Step) → AllProper ss → map step_of (map fields_of ss) ≡ ss
fields_steps [] p = refl
fields_steps (s ∷ ss) p = λ i. step_back s p.0 i ∷ fields_steps ss p.1 i

tape_count : (ss : List Step) → count (tape_of ss) ≡ length ss
tape_count ss = omega (arith, tape_size ss)

-- the tape's bytes determine the steps: decoding what was encoded gives it back
pub steps_back : (ss : List Step) → AllProper ss → steps_in (tape_of ss) ≡ ss
steps_back ss p = ap (λ k. map step_of (fields_of_all k (tape_of ss))) (tape_count ss) ∙ ap (map step_of) (tape_fields ss p) ∙ fields_steps ss p

-- so different steps have different bytes
pub one_tape : (ss us : List Step) → AllProper ss → AllProper us → tape_of ss ≡ tape_of us → ss ≡ us
one_tape ss us p q e = sym (steps_back ss p) ∙ ap steps_in e ∙ steps_back us q

-- ---- it is sound

max_left : (a b : ℕ) → a ≤ max a b
max_left a b = omega arith

max_right : (a b : ℕ) → b ≤ max a b
max_right a b = omega arith

size_some : (t : Tree) → 1 ≤ size t
unfolding size depth
size_some (leaf l) = omega arith
size_some (function_call f t) = omega arith
size_some (prefixed o t) = omega arith
size_some (infixed o l r) = omega arith

module _ (s : Step) (p : ProperStep s) where
  -- a proper step that finds what it takes and leaves no more than 64
  passes : (values : ℕ) → takes s ≤ values → values - takes s < 64 → allowed values (fields_of s) ≡ true
  passes values l m =
      rw (step_known s p, step_back s p, lt-ltb (takes s) (suc values) (omega (arith, l)), lt-ltb (after values s) 65 (omega (arith, m))) refl

  checks : (at values : ℕ) (fs : List Fields) → takes s ≤ values → values - takes s < 64 → check_from at values (fields_of s ∷ fs) ≡ check_from (suc at) (after values s) fs
  checks at values fs l m = check_on at values (fields_of s) fs (passes values l m) ∙ ap (λ s. check_from (suc at) (after values s) fs) (step_back s p)

leaf_takes : (l : Leaf) → takes (leaf_step l) ≡ 0
unfolding takes leaf_step
leaf_takes (number z) = refl
leaf_takes pi = refl
leaf_takes (variable v) = refl
leaf_takes (cell region index) = refl

-- the fields of the steps of a tree, and then others
fields_then : List Step → List Fields → List Fields
fields_then [] fs = fs
fields_then (s ∷ ss) fs = fields_of s ∷ fields_then ss fs

then_append : (ss us : List Step) (fs : List Fields) → fields_then (ss ++ us) fs ≡ fields_then ss (fields_then us fs)
unfolding fields_then
then_append [] us fs = refl
then_append (s ∷ ss) us fs = ap (λ (gs : List Fields). fields_of s ∷ gs) (then_append ss us fs)

then_none : (ss : List Step) → fields_then ss [] ≡ map fields_of ss
unfolding fields_then
then_none [] = refl
then_none (s ∷ ss) = ap (λ (gs : List Fields). fields_of s ∷ gs) (then_none ss)

same_place : {a a' v v' : ℕ} (fs : List Fields) → a ≡ a' → v ≡ v' → check_from a v fs ≡ check_from a' v' fs
same_place fs p q = λ i. check_from (p i) (q i) fs

-- a tree's steps leave one value more
tree_checks : (t : Tree) → Proper t → (at values : ℕ) (fs : List Fields) → values + depth t ≤ 64 → check_from at values (fields_then (steps t) fs) ≡ check_from (at + size t) (suc values) fs
unfolding steps size depth fields_then takes
tree_checks (leaf l) p at values fs d =
    let z = leaf_takes l in
    checks (leaf_step l) (leaf_proper l p) at values fs (omega (arith, z)) (omega (arith, z, d)) ∙ same_place fs (omega arith) (omega (arith, z))
tree_checks (function_call f t) p at values fs d =
    ap (check_from at values) (then_append (steps t) (Step.Function f ∷ []) fs)
    ∙ tree_checks t p at values (fields_of (Step.Function f) ∷ fs) (omega (arith, d))
    ∙ checks (Step.Function f) tt (at + size t) (suc values) fs (omega arith) (omega (arith, d))
    ∙ same_place fs (omega arith) (omega arith)
tree_checks (prefixed o t) p at values fs d =
    ap (check_from at values) (then_append (steps t) (Step.Prefix o ∷ []) fs)
    ∙ tree_checks t p at values (fields_of (Step.Prefix o) ∷ fs) (omega (arith, d))
    ∙ checks (Step.Prefix o) tt (at + size t) (suc values) fs (omega arith) (omega (arith, d))
    ∙ same_place fs (omega arith) (omega arith)
tree_checks (infixed o l r) p at values fs d =
    let m = max_left (depth l) (depth r) in
    let n = max_right (depth l) (depth r) in
    ap (check_from at values) (then_append (steps l) (steps r ++ (Step.Infix o ∷ [])) fs)
    ∙ tree_checks l p.0 at values (fields_then (steps r ++ (Step.Infix o ∷ [])) fs) (omega (arith, d, m))
    ∙ ap (check_from (at + size l) (suc values)) (then_append (steps r) (Step.Infix o ∷ []) fs)
    ∙ tree_checks r p.1 (at + size l) (suc values) (fields_of (Step.Infix o) ∷ fs) (omega (arith, d, n))
    ∙ checks (Step.Infix o) tt (at + size l + size r) (suc (suc values)) fs (omega arith) (omega (arith, d, m))
    ∙ same_place fs (omega arith) (omega arith)

-- "It compiles": its bytes are sound
pub tape_sound : (t : Tree) → Proper t → depth t ≤ 64 → size t ≤ 512 → check (tape t) ≡ Ok tt
unfolding check_from
tape_sound t p d l =
    let n = tape_length t in
    let s = size_some t in
    let c : count (tape t) ≡ length (steps t) = tape_count (steps t) in
    sym
    (check_whole (tape t) (omega (arith, n)) (λ e. omega (arith, n, s, e)) (omega (arith, n, l))
    (sym
    (ap (λ k. check_from 0 0 (fields_of_all k (tape t))) c
    ∙ ap (check_from 0 0) (tape_fields (steps t) (steps_proper t p) ∙ sym (then_none (steps t)))
    ∙ tree_checks t p 0 0 [] (omega (arith, d)))))

-- ---- it plays what evaluating gives

-- a value goes on, a lack ends the run
afterwards : Evaluation → (Complex → Outcome) → Outcome
afterwards (Evaluation.Value z) next = next z
afterwards Evaluation.Incomplete next = lacks Evaluation.Incomplete
afterwards (Evaluation.Need operation x y) next = lacks (Evaluation.Need operation x y)

in_turn : (e : Evaluation) (k : Complex → Evaluation) (next : Complex → Outcome) → afterwards (Evaluating.and_then e k) next ≡ afterwards e (λ z. afterwards (k z) next)
unfolding afterwards Evaluating.and_then
in_turn (Evaluation.Value z) k next = refl
in_turn Evaluation.Incomplete k next = refl
in_turn (Evaluation.Need operation x y) k next = refl

pushed : (e : Evaluation) (stack : List Complex) (next : List Complex → Outcome) → length stack < 64 → and_then (push e stack) next ≡ afterwards e (λ z. next (z ∷ stack))
unfolding afterwards and_then push
pushed (Evaluation.Value z) stack next l = ap (λ b. and_then (cond b (stands (z ∷ stack)) breaks) next) (lt-ltb (length stack) 64 l)
pushed Evaluation.Incomplete stack next l = refl
pushed (Evaluation.Need operation x y) stack next l = refl

afterwards_same : (e : Evaluation) {f g : Complex → Outcome} → ((z : Complex) → f z ≡ g z) → afterwards e f ≡ afterwards e g
unfolding afterwards
afterwards_same (Evaluation.Value z) p = p z
afterwards_same Evaluation.Incomplete p = refl
afterwards_same (Evaluation.Need operation x y) p = refl

module _ (rows : Rows) where
  leaf_step_lem : (l : Leaf) (stack : List Complex) → step rows (leaf_step l) stack ≡ push (leaf_value rows l) stack
  unfolding step leaf_step
  leaf_step_lem (number z) stack = refl
  leaf_step_lem pi stack = refl
  leaf_step_lem (variable v) stack = refl
  leaf_step_lem (cell region index) stack = refl

  tree_plays : (t : Tree) (ss : List Step) (stack : List Complex) → length stack + depth t ≤ 64
      → run rows (steps t ++ ss) stack ≡ afterwards (evaluate rows t) (λ z. run rows ss (z ∷ stack))
  unfolding steps run step evaluate size depth
  tree_plays (leaf l) ss stack d =
      ap (λ o. and_then o (λ stack. run rows ss stack)) (leaf_step_lem l stack) ∙ pushed (leaf_value rows l) stack (λ stack. run rows ss stack) (omega (arith, d))
  tree_plays (function_call f t) ss stack d =
      ap (λ us. run rows us stack) (append_assoc (steps t) (Step.Function f ∷ []) ss)
      ∙ tree_plays t (Step.Function f ∷ ss) stack (omega (arith, d))
      ∙ afterwards_same (evaluate rows t) (λ x. pushed (calculate_function rows f x) stack (λ stack. run rows ss stack) (omega (arith, d)))
      ∙ sym (in_turn (evaluate rows t) (calculate_function rows f) (λ z. run rows ss (z ∷ stack)))
  tree_plays (prefixed o t) ss stack d =
      ap (λ us. run rows us stack) (append_assoc (steps t) (Step.Prefix o ∷ []) ss)
      ∙ tree_plays t (Step.Prefix o ∷ ss) stack (omega (arith, d))
      ∙ afterwards_same (evaluate rows t) (λ x. pushed (Evaluation.Value (calculate_prefix o x)) stack (λ stack. run rows ss stack) (omega (arith, d)))
      ∙ sym (in_turn (evaluate rows t) (λ x. Evaluation.Value (calculate_prefix o x)) (λ z. run rows ss (z ∷ stack)))
  tree_plays (infixed o l r) ss stack d =
      let m = max_left (depth l) (depth r) in
      let n = max_right (depth l) (depth r) in
      ap (λ us. run rows us stack) (append_assoc (steps l) (steps r ++ (Step.Infix o ∷ [])) ss)
      ∙ tree_plays l ((steps r ++ (Step.Infix o ∷ [])) ++ ss) stack (omega (arith, d, m))
      ∙ afterwards_same (evaluate rows l)
      (λ x.
      ap (λ us. run rows us (x ∷ stack)) (append_assoc (steps r) (Step.Infix o ∷ []) ss)
      ∙ tree_plays r (Step.Infix o ∷ ss) (x ∷ stack) (omega (arith, d, n))
      ∙ afterwards_same (evaluate rows r) (λ y. pushed (calculate_infix rows o x y) stack (λ stack. run rows ss stack) (omega (arith, d)))
      ∙ sym (in_turn (evaluate rows r) (calculate_infix rows o x) (λ z. run rows ss (z ∷ stack))))
      ∙ sym (in_turn (evaluate rows l) (λ x. Evaluating.and_then (evaluate rows r) (calculate_infix rows o x)) (λ z. run rows ss (z ∷ stack)))

  ended : (e : Evaluation) → result (afterwards e (λ z. run rows [] (z ∷ []))) ≡ e
  unfolding result afterwards run
  ended (Evaluation.Value z) = refl
  ended Evaluation.Incomplete = refl
  ended (Evaluation.Need operation x y) = refl

  -- "playing that tape gives what evaluating the expression gives, bit for bit: the value, INCOMPLETE, or the same missing function value"
  pub tape_plays : (t : Tree) → Proper t → depth t ≤ 64 → played rows (tape t) ≡ evaluate rows t
  tape_plays t p d =
      ap (λ ss. result (run rows ss [])) (steps_back (steps t) (steps_proper t p) ∙ sym (append-nil (steps t)))
      ∙ ap result (tree_plays t [] [] (omega (arith, d)))
      ∙ ended (evaluate rows t)
