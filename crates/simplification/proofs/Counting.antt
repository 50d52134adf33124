-- The count of simplify calls is at most the bound of 01's recurrence: 244,531 at limit 10.
-- Assumes nothing.
use mathlib.Core.Path.{◌≡◌, refl, ap, subst}
use mathlib.Core.Bool.{Bool, true, false, cond}
use mathlib.Core.List.{List}
use Prim.Native.Nat.{ℕ, zero, suc, ◌+◌, ◌*◌, ◌-◌, ◌≤◌}
use native.Mathlib.Omega.{arith}
use lib.Dec.{ltb}
use lib.ListN.{length}
use Rattle.expression.specs.Trees.{Tree, number, leaf, infixed, size, depth}
use Rattle.expression.specs.Limits.{largest, deepest}
use Rattle.store.specs.Storing.{Kept, nothing, result, State, state, Answer, gives, refused, and_then, among, intern, recall, keep, noting}
use Rattle.sheet.specs.Rows.{Rows}
use Rattle.evaluation.specs.declared.Evaluation.{Evaluation}
use Rattle.evaluation.specs.Evaluating.{calculate_function, calculate_infix}
use Rattle.evaluation.specs.Using.{used_by_function, used_by_infix}
use Rattle.tasks.specs.Tasks.{Task, number_of_pi, itself, calling, prefixing, infixing, task_at}
use Rattle.arms.specs.Arms.{Plan, smaller, function_plan, prefix_plan, the, new, folded, called, negation, combined, S, lesser, affine, minus, sum, product}
use Rattle.arms.specs.Ordered.{infix_plan}
use Rattle.simplification.specs.Bounds.{most_calls}
use Rattle.simplification.specs.Simplifying.{Simplifier, counted, folded_to, again, keeping, carry_out, simplify_function_call, simplify_prefix, simplify_infix, perform, resume, step, simplify_by, simplify}
use Rattle.simplification.proofs.Shapes.{weight, Closed, Fine, fine_infix, fine_function, fine_prefix}

unfoldable pub count : State → ℕ
count (state room stored kept tally) = tally.calls

-- the count of an answer is at most n
unfoldable pub Below : ℕ → Answer → Type 0
Below n (gives t s) = count s ≤ n
Below n (refused why s) = Unit {0}

-- a simplifier that makes at most n calls
Makes : Simplifier → ℕ → Type 0
Makes σ n = (t : Tree) (s : State) → Below (count s + n) (σ t s)

more : {n m : ℕ} (a : Answer) → n ≤ m → Below n a → Below m a
unfolding Below
more (gives t s) l b = omega (arith, l, b)
more (refused why s) l b = tt

then_below : (n m : ℕ) (a : Answer) (f : Simplifier) → Below n a → ((t : Tree) (s : State) → count s ≤ n → Below m (f t s)) → Below m (and_then a f)
unfolding Below and_then
then_below n m (gives t s) f b g = g t s b
then_below n m (refused why s) f b g = tt

-- ---- storing and noting count nothing

either_way : (n : ℕ) (b : Bool) (x y : Answer) → Below n x → Below n y → Below n (cond b x y)
either_way n true x y p q = p
either_way n false x y p q = q

stores : (t : Tree) (s : State) → Below (count s) (intern t s)
unfolding Below count intern
stores t (state room stored kept tally) =
    either_way _ (among stored t) _ _ (omega arith)
    (either_way _ (ltb largest (size t)) _ _ tt
    (either_way _ (ltb deepest (depth t)) _ _ tt
    (either_way _ (ltb (length stored) room) _ _ (omega arith) tt)))

folds : (v : Evaluation) (s : State) → Below (count s) (folded_to v s)
unfolding folded_to Below
folds (Evaluation.Value z) s = stores (leaf (number z)) s
folds Evaluation.Incomplete s = tt
folds (Evaluation.Need operation x y) s = tt

notes : (js : List ℕ) (s : State) → count (noting js s) ≡ count s
unfolding count noting
notes js (state room stored kept tally) = refl

-- a value that was folded once rows were noted
folds_noted : (n : ℕ) (js : List ℕ) (v : Evaluation) (s : State) → Below (count s + 0 * n) (folded_to v (noting js s))
folds_noted n js v s = more (folded_to v (noting js s)) (omega (arith, notes js s)) (folds v (noting js s))

keeps : (n : ℕ) (t : Tree) (a : Answer) → Below n a → Below n (keeping t a)
unfolding keeping Below count keep and_then
keeps n t (gives u (state room stored kept tally)) b = b
keeps n t (refused why s) b = tt

-- ---- plans

sum_le : (c a b n : ℕ) {x y : ℕ} → x ≤ c + a * n → y ≤ x + b * n → y ≤ c + (a + b) * n
sum_le c a b n l k = omega (arith, l, k)

one_le : (c a n : ℕ) {x : ℕ} → x ≤ c + a * n → x + n ≤ c + (a + 1) * n
one_le c a n l = omega (arith, l)

again_makes : (σ : Simplifier) (n : ℕ) → Makes σ n → Makes (again σ) n
unfolding again Makes
again_makes σ n f t s = then_below _ _ (intern t s) σ (stores t s) λ u s' l. more (σ u s') (omega (arith, l)) (f u s')

carries : (R : Rows) (σ : Simplifier) (n : ℕ) → Makes σ n → (p : Plan) (s : State) → Below (count s + weight p * n) (carry_out R σ p s)
unfolding carry_out weight Makes Below
carries R σ n f (the t) s = omega arith
carries R σ n f (new t) s = more (intern t s) (omega arith) (stores t s)
carries R σ n f (folded op x y) s = folds_noted n (used_by_infix R op x y) (calculate_infix R op x y) s
carries R σ n f (called g x) s = folds_noted n (used_by_function R g x) (calculate_function R g x) s
carries R σ n f (negation p) s =
    then_below _ _ (carry_out R σ p s) (λ t s. intern (minus t) s) (carries R σ n f p s) λ t s' l. more (intern (minus t) s') l (stores (minus t) s')
carries R σ n f (combined op p q) s =
    then_below _ _ (carry_out R σ p s) (λ t s. and_then (carry_out R σ q s) λ u s. intern (infixed op t u) s) (carries R σ n f p s) λ t s' l.
    then_below _ _ (carry_out R σ q s') (λ u s. intern (infixed op t u) s) (carries R σ n f q s') λ u s'' k.
    more (intern (infixed op t u) s'') (sum_le (count s) (weight p) (weight q) n l k) (stores (infixed op t u) s'')
carries R σ n f (S p) s =
    then_below _ _ (carry_out R σ p s) σ (carries R σ n f p s) λ t s' l. more (σ t s') (one_le (count s) (weight p) n l) (f t s')
carries R σ n f (lesser p q) s =
    then_below _ _ (carry_out R σ p s) (λ t s. and_then (carry_out R σ q s) λ u s. gives (smaller t u) s) (carries R σ n f p s) λ t s' l.
    then_below _ _ (carry_out R σ q s') (λ u s. gives (smaller t u) s) (carries R σ n f q s') λ u s'' k.
    sum_le (count s) (weight p) (weight q) n l k
carries R σ n f (affine a x b) s =
    then_below _ _ (again σ a s) (λ u s. and_then (again σ b s) λ v s. and_then (again σ (product u x) s) λ w s. again σ (sum w v) s) (again_makes σ n f a s) λ u s₁ i.
    then_below _ _ (again σ b s₁) (λ v s. and_then (again σ (product u x) s) λ w s. again σ (sum w v) s) (again_makes σ n f b s₁) λ v s₂ j.
    then_below _ _ (again σ (product u x) s₂) (λ w s. again σ (sum w v) s) (again_makes σ n f (product u x) s₂) λ w s₃ k.
    more (again σ (sum w v) s₃) (omega (arith, i, j, k)) (again_makes σ n f (sum w v) s₃)

-- of the arms' plans nothing else matters here
Any : Tree → Type 0
Any t = Unit {0}

any : Closed Any Any
unfolding Any
any = record {
  numeral = λ a b. tt;
  opposite = λ x. tt;
  call = λ f x. tt;
  minus_of = λ x. tt;
  infix_of = λ op x y. tt;
  call_part = λ x. tt;
  prefix_part = λ x. tt;
  infix_parts = λ x. (tt, tt);
}

-- ---- one call of simplify

four : (R : Rows) (σ : Simplifier) (n : ℕ) → Makes σ n → (p : Plan) → Fine Any Any p → (s : State) → Below (count s + 4 * n) (carry_out R σ p s)
four R σ n f p x s = more (carry_out R σ p s) (heavy (count s) (weight p) n x.light) (carries R σ n f p s)
  where
    rest : (a : ℕ) → a ≤ 4 → a + (4 - a) ≡ 4
    rest a l = omega (arith, l)

    heavy : (c a n : ℕ) → a ≤ 4 → c + a * n ≤ c + 4 * n
    heavy c a n l = omega (arith, ap (λ x. x * n) (rest a l))

once_more : (s : State) → count (counted suc s) ≤ count s + 1
unfolding count counted
once_more (state room stored kept tally) = omega arith

module _ (R : Rows) (b f : Simplifier) (m n : ℕ) (x : Makes b m) (y : Makes f n) where
  performs : (task : Task) (s : State) → Below (count s + (2 * m + 4 * n)) (perform R b f task s)
  unfolding perform simplify_function_call simplify_prefix simplify_infix Below Makes Any
  performs number_of_pi s = more (intern _ s) (omega arith) (stores _ s)
  performs (itself t) s = omega arith
  performs (calling g a) s =
      then_below _ _ (b a s) (λ z s. carry_out R f (function_plan g z) s) (x a s) λ z s' l.
      more (carry_out R f (function_plan g z) s') (omega (arith, l)) (four R f n y (function_plan g z) (fine_function Any Any any g z tt) s')
  performs (prefixing o a) s =
      then_below _ _ (b a s) (λ z s. carry_out R f (prefix_plan o z) s) (x a s) λ z s' l.
      more (carry_out R f (prefix_plan o z) s') (omega (arith, l)) (four R f n y (prefix_plan o z) (fine_prefix Any Any any o z tt) s')
  performs (infixing o a c) s =
      then_below _ _ (b a s) (λ z s. and_then (b c s) λ w s. carry_out R f (infix_plan o z w) s) (x a s) λ z s' l.
      then_below _ _ (b c s') (λ w s. carry_out R f (infix_plan o z w) s) (x c s') λ w s'' k.
      more (carry_out R f (infix_plan o z w) s'') (omega (arith, l, k)) (four R f n y (infix_plan o z w) (fine_infix Any Any any o z w tt tt) s'')

  resumes : (k : Kept) (limit : ℕ) (t : Tree) (s : State) → Below (count s + (2 * m + 4 * n)) (resume R b f k limit t s)
  unfolding resume Below
  resumes (result u) limit t s = omega arith
  resumes nothing limit t s = keeps _ t (perform R b f (task_at limit t) s) (performs (task_at limit t) s)

  steps : (limit : ℕ) → Makes (step suc R b f limit) (1 + 2 * m + 4 * n)
  unfolding step Makes
  steps limit t s = more (resume R b f (recall t s) limit t (counted suc s)) (omega (arith, once_more s)) (resumes (recall t s) limit t (counted suc s))

-- ---- the bound

gives_makes : Makes gives 0
unfolding Makes Below
gives_makes t s = omega arith

makes_bound : (R : Rows) (k : ℕ) → Makes (simplify R k) (most_calls k)
unfolding simplify_by most_calls Makes
makes_bound R zero t s = steps R gives gives 0 0 gives_makes gives_makes 0 t s
makes_bound R (suc zero) t s = steps R (simplify R 0) (simplify R 0) 1 1 (makes_bound R zero) (makes_bound R zero) 1 t s
makes_bound R (suc (suc k)) t s =
    steps R (simplify R (suc k)) (simplify R k) (most_calls (suc k)) (most_calls k) (makes_bound R (suc k)) (makes_bound R k) (suc (suc k)) t s

-- "It is at most 244,531 at limit 10"
pub bounded : (R : Rows) (k : ℕ) (t : Tree) (s : State) → Below (count s + most_calls k) (simplify R k t s)
unfolding Makes
bounded R k t s = makes_bound R k t s

pub bound_at_ten : most_calls 10 ≡ 244531
unfolding most_calls
bound_at_ten = refl

grows : (k : ℕ) → most_calls k ≤ most_calls (suc k)
unfolding most_calls
grows zero = omega arith
grows (suc zero) = omega arith
grows (suc (suc k)) = omega (arith, grows (suc k), grows k)

grows_by : (k d e : ℕ) → e ≡ d + k → most_calls k ≤ most_calls e
grows_by k zero e p = subst (λ n. most_calls k ≤ most_calls n) (same k e p) (omega arith)
  where
    same : (k e : ℕ) → e ≡ 0 + k → k ≡ e
    same k e p = omega (arith, p)
grows_by k (suc d) e p = subst (λ n. most_calls k ≤ most_calls n) (next k d e p) (omega (arith, grows_by k d (d + k) refl, grows (d + k)))
  where
    next : (k d e : ℕ) → e ≡ suc d + k → suc (d + k) ≡ e
    next k d e p = omega (arith, p)

pub bound_to_ten : (k : ℕ) → k ≤ 10 → most_calls k ≤ 244531
bound_to_ten k l = omega (arith, bound_at_ten, grows_by k (10 - k) 10 (back k l))
  where
    back : (k : ℕ) → k ≤ 10 → 10 ≡ 10 - k + k
    back k l = omega (arith, l)
