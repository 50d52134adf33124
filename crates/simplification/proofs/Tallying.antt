-- Simplifying passes the tally on: from states that differ in their tallies alone it gives the same tree, the same trees stored and the same results
-- kept, or refuses alike, with tallies that are related as those were, if counting a call and noting rows keep them so. Assumes nothing.
use mathlib.Core.Bool.{Bool, true, false, cond}
use mathlib.Core.List.{List, [], ◌∷◌, ◌++◌}
use Prim.Native.Nat.{ℕ, zero, suc}
use lib.Dec.{ltb}
use lib.ListN.{length}
use Rattle.memory.specs.Marks.{noted}
use Rattle.expression.specs.declared.refusal.Refusal.{Refusal}
use Rattle.expression.specs.Trees.{Tree, number, leaf, infixed, size, depth}
use Rattle.expression.specs.Alike.{equal}
use Rattle.expression.specs.Limits.{largest, deepest}
use Rattle.store.specs.Storing.{Kept, nothing, result, Tally, State, state, Answer, gives, refused, and_then, among, intern, recall, keep, noting}
use Rattle.sheet.specs.Rows.{Rows}
use Rattle.evaluation.specs.declared.Evaluation.{Evaluation}
use Rattle.evaluation.specs.Evaluating.{calculate_function, calculate_infix}
use Rattle.evaluation.specs.Using.{used_by_function, used_by_infix}
use Rattle.tasks.specs.Tasks.{Task, number_of_pi, itself, calling, prefixing, infixing, task_at}
use Rattle.arms.specs.Arms.{Plan, smaller, function_plan, prefix_plan, the, new, folded, called, negation, combined, S, lesser, affine, minus, sum, product}
use Rattle.arms.specs.Ordered.{infix_plan}
use Rattle.simplification.specs.Simplifying.{Simplifier, counted, folded_to, again, keeping, carry_out, simplify_function_call, simplify_prefix, simplify_infix, perform, resume, step, simplify_by}

-- two states that differ in their tallies alone
pub data Beside (Related : Tally → Tally → Type 0) : State → State → Type 0 where
  beside : (room : ℕ) (stored : List Tree) (kept : Tree → Kept) (a b : Tally) → Related a b → Beside Related (state room stored kept a) (state room stored kept b)

-- two answers, likewise
pub data Both (Related : Tally → Tally → Type 0) : Answer → Answer → Type 0 where
  both_give : (t : Tree) (s s' : State) → Beside Related s s' → Both Related (gives t s) (gives t s')
  both_refuse : (why : Refusal) (s s' : State) → Beside Related s s' → Both Related (refused why s) (refused why s')

-- what is done to tallies keeps them related
pub record Passing (Related : Tally → Tally → Type 0) (more more' : ℕ → ℕ) : Type 0 where
  pub counts : (a b : Tally) → Related a b → Related (record { calls = more a.calls; marks = a.marks }) (record { calls = more' b.calls; marks = b.marks })
  pub notes : (js : List ℕ) (a b : Tally) → Related a b → Related (record { calls = a.calls; marks = noted js a.marks }) (record { calls = b.calls; marks = noted js b.marks })

module _ (Related : Tally → Tally → Type 0) where
  -- ---- storing and keeping

  either_way : (b : Bool) {x x' y y' : Answer} → Both Related x x' → Both Related y y' → Both Related (cond b x y) (cond b x' y')
  either_way true p q = p
  either_way false p q = q

  -- what is done after two such answers
  next : {a a' : Answer} (f g : Simplifier) → Both Related a a' → ((t : Tree) (s s' : State) → Beside Related s s' → Both Related (f t s) (g t s')) → Both Related (and_then a f) (and_then a' g)
  unfolding and_then
  next f g (both_give t s s' x) h = h t s s' x
  next f g (both_refuse why s s' x) h = both_refuse why s s' x

  pub stores : (t : Tree) (s s' : State) → Beside Related s s' → Both Related (intern t s) (intern t s')
  unfolding intern
  stores t s s' (beside room stored kept a b x) =
      let same = beside room stored kept a b x in
      either_way (among stored t) (both_give t _ _ same)
      (either_way (ltb largest (size t)) (both_refuse _ _ _ same)
      (either_way (ltb deepest (depth t)) (both_refuse _ _ _ same)
      (either_way (ltb (length stored) room) (both_give t _ _ (beside room (stored ++ (t ∷ [])) kept a b x)) (both_refuse _ _ _ same))))

  pub folds : (v : Evaluation) (s s' : State) → Beside Related s s' → Both Related (folded_to v s) (folded_to v s')
  unfolding folded_to
  folds (Evaluation.Value z) s s' x = stores (leaf (number z)) s s' x
  folds Evaluation.Incomplete s s' x = both_refuse _ s s' x
  folds (Evaluation.Need operation y z) s s' x = both_refuse _ s s' x

  pub keeps : (t : Tree) {a a' : Answer} → Both Related a a' → Both Related (keeping t a) (keeping t a')
  unfolding keeping keep and_then
  keeps t (both_give u s s' (beside room stored kept a b x)) = both_give u _ _ (beside room stored (λ v. cond (equal t v) (result u) (kept v)) a b x)
  keeps t (both_refuse why s s' x) = both_refuse why s s' x

  -- ---- plans

  module _ (more more' : ℕ → ℕ) (law : Passing Related more more') (R : Rows) where
    Agree : (σ τ : Simplifier) → Type 0
    Agree σ τ = (t : Tree) (s s' : State) → Beside Related s s' → Both Related (σ t s) (τ t s')

    notes : (js : List ℕ) (s s' : State) → Beside Related s s' → Beside Related (noting js s) (noting js s')
    unfolding noting
    notes js s s' (beside room stored kept a b x) = beside room stored kept _ _ (law.notes js a b x)

    folds_noted : (js : List ℕ) (v : Evaluation) (s s' : State) → Beside Related s s' → Both Related (folded_to v (noting js s)) (folded_to v (noting js s'))
    folds_noted js v s s' x = folds v (noting js s) (noting js s') (notes js s s' x)

    again_agree : (σ τ : Simplifier) → Agree σ τ → Agree (again σ) (again τ)
    unfolding again Agree
    again_agree σ τ h t s s' x = next σ τ (stores t s s' x) h

    carries : (σ τ : Simplifier) → Agree σ τ → (p : Plan) (s s' : State) → Beside Related s s' → Both Related (carry_out R σ p s) (carry_out R τ p s')
    unfolding carry_out Agree
    carries σ τ h (the t) s s' x = both_give t s s' x
    carries σ τ h (new t) s s' x = stores t s s' x
    carries σ τ h (folded op y z) s s' x = folds_noted (used_by_infix R op y z) (calculate_infix R op y z) s s' x
    carries σ τ h (called f y) s s' x = folds_noted (used_by_function R f y) (calculate_function R f y) s s' x
    carries σ τ h (negation p) s s' x = next _ _ (carries σ τ h p s s' x) λ t. stores (minus t)
    carries σ τ h (combined op p q) s s' x = next _ _ (carries σ τ h p s s' x) λ t s s' x. next _ _ (carries σ τ h q s s' x) λ u. stores (infixed op t u)
    carries σ τ h (S p) s s' x = next σ τ (carries σ τ h p s s' x) h
    carries σ τ h (lesser p q) s s' x = next _ _ (carries σ τ h p s s' x) λ t s s' x. next _ _ (carries σ τ h q s s' x) λ u s s' x. both_give (smaller t u) s s' x
    carries σ τ h (affine a y b) s s' x =
        next _ _ (again_agree σ τ h a s s' x) λ u s s' x.
        next _ _ (again_agree σ τ h b s s' x) λ v s s' x.
        next _ _ (again_agree σ τ h (product u y) s s' x) λ w s s' x.
        again_agree σ τ h (sum w v) s s' x

    -- ---- one call of simplify

    module _ (σ τ σ' τ' : Simplifier) (h : Agree σ τ) (h' : Agree σ' τ') where
      performs : (task : Task) (s s' : State) → Beside Related s s' → Both Related (perform R σ σ' task s) (perform R τ τ' task s')
      unfolding perform simplify_function_call simplify_prefix simplify_infix Agree
      performs number_of_pi s s' x = stores _ s s' x
      performs (itself t) s s' x = both_give t s s' x
      performs (calling f t) s s' x = next _ _ (h t s s' x) λ y. carries σ' τ' h' (function_plan f y)
      performs (prefixing o t) s s' x = next _ _ (h t s s' x) λ y. carries σ' τ' h' (prefix_plan o y)
      performs (infixing o l r) s s' x = next _ _ (h l s s' x) λ y s s' x. next _ _ (h r s s' x) λ z. carries σ' τ' h' (infix_plan o y z)

      resumes : (k : Kept) (limit : ℕ) (t : Tree) (s s' : State) → Beside Related s s' → Both Related (resume R σ σ' k limit t s) (resume R τ τ' k limit t s')
      unfolding resume
      resumes (result u) limit t s s' x = both_give u s s' x
      resumes nothing limit t s s' x = keeps t (performs (task_at limit t) s s' x)

      steps : (limit : ℕ) → Agree (step more R σ σ' limit) (step more' R τ τ' limit)
      unfolding step Agree recall counted
      steps limit t s s' (beside room stored kept a b x) = resumes (kept t) limit t _ _ (beside room stored kept _ _ (law.counts a b x))

    gives_agree : Agree gives gives
    unfolding Agree
    gives_agree = both_give

    agree : (k : ℕ) → Agree (simplify_by more R k) (simplify_by more' R k)
    unfolding simplify_by Agree
    agree zero t s s' x = steps gives gives gives gives gives_agree gives_agree 0 t s s' x
    agree (suc zero) t s s' x = steps (simplify_by more R 0) (simplify_by more' R 0) (simplify_by more R 0) (simplify_by more' R 0) (agree zero) (agree zero) 1 t s s' x
    agree (suc (suc k)) t s s' x =
        steps (simplify_by more R (suc k)) (simplify_by more' R (suc k)) (simplify_by more R k) (simplify_by more' R k) (agree (suc k)) (agree k) (suc (suc k)) t s s' x

    pub passed : (limit : ℕ) (t : Tree) (s s' : State) → Beside Related s s' → Both Related (simplify_by more R limit t s) (simplify_by more' R limit t s')
    unfolding Agree
    passed = agree
