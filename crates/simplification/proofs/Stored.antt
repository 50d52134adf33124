-- What is so of all stored trees is so of what simplifying gives: if their parts are such, and if storing what is made of them, keeping a result,
-- counting a call and noting rows leave the stored trees such. Assumes nothing.
use mathlib.Core.Path.{◌≡◌, refl}
use mathlib.Core.Bool.{Bool, true, false, cond}
use mathlib.Core.List.{List}
use Prim.Native.Nat.{ℕ, zero, suc}
use lib.Dec.{ltb}
use Rattle.complex.specs.declared.Complex.{Complex}
use Rattle.expression.specs.declared.InfixOperator.{InfixOperator}
use Rattle.expression.specs.declared.ExpressionFunction.{ExpressionFunction}
use Rattle.expression.specs.Trees.{Tree, Leaf, number, pi, variable, cell, leaf, function_call, prefixed, infixed, size}
use Rattle.store.specs.Storing.{Kept, nothing, result, State, Answer, gives, refused, and_then, intern, recall, keep, noting}
use Rattle.sheet.specs.Rows.{Rows}
use Rattle.evaluation.specs.declared.Evaluation.{Evaluation}
use Rattle.evaluation.specs.Evaluating.{calculate_function, calculate_infix}
use Rattle.evaluation.specs.Using.{used_by_function, used_by_infix}
use Rattle.tasks.specs.Tasks.{leaf_task, task_at}
use Rattle.arms.specs.Arms.{Plan, smaller, function_plan, prefix_plan, the, new, folded, called, negation, combined, S, lesser, affine, minus, sum, product}
use Rattle.arms.specs.Ordered.{infix_plan}
use Rattle.simplification.specs.Simplifying.{Simplifier, counted, folded_to, again, keeping, carry_out, simplify_function_call, simplify_prefix, simplify_infix, perform, resume, step, simplify_by}
use Rattle.simplification.proofs.Shapes.{Closed, Over, fine_infix, fine_function, fine_prefix}

-- from a state to a later one, in which this tree is given
pub record Got (Sane : State → Type 0) (In : State → Tree → Type 0) (s s' : State) (t : Tree) : Type 0 where
  pub sane : Sane s'
  pub is_in : In s' t
  pub stay : (u : Tree) → In s u → In s' u

module _ (Sane : State → Type 0) (In : State → Tree → Type 0) where
  unfoldable pub Given : State → Answer → Type 0
  Given s (gives t s') = Got Sane In s s' t
  Given s (refused why s') = Unit {0}

  pub got : {s : State} {t : Tree} → Sane s → In s t → Got Sane In s s t
  got g i = record { sane = g; is_in = i; stay = λ u x. x }

  -- what is given from a state on is given from an earlier one on
  sooner : (s s' : State) (a : Answer) → ((u : Tree) → In s u → In s' u) → Given s' a → Given s a
  unfolding Given
  sooner s s' (refused why s'') f y = tt
  sooner s s' (gives t s'') f y = record { sane = y.sane; is_in = y.is_in; stay = λ u z. y.stay u (f u z) }

  pub then_given : (s : State) (a : Answer) (f : Simplifier) → Given s a
      → ((t : Tree) (s' : State) → Got Sane In s s' t → Given s' (f t s')) → Given s (and_then a f)
  unfolding Given and_then
  then_given s (refused why s') f x h = tt
  then_given s (gives t s') f x h = sooner s s' (f t s') x.stay (h t s' x)

-- what an operation gives, if it is a number
unfoldable pub Gives : (Complex → Type 0) → Evaluation → Type 0
Gives N (Evaluation.Value z) = N z
Gives N Evaluation.Incomplete = Unit {0}
Gives N (Evaluation.Need operation x y) = Unit {0}

pub record Numbers (N : Complex → Type 0) (R : Rows) : Type 0 where
  pub functions : (f : ExpressionFunction) (x : Complex) → Gives N (calculate_function R f x)
  pub infixes : (op : InfixOperator) (x y : Complex) → Gives N (calculate_infix R op x y)

-- `In s` is so of the trees that are stored, `New s` of what is stored next
pub record Lasting (Sane : State → Type 0) (In New : State → Tree → Type 0) (N : Complex → Type 0) : Type 0 where
  pub closed : (s : State) → Closed (In s) (New s)
  pub value : (s : State) (z : Complex) → N z → New s (leaf (number z))
  pub remain : {s s' : State} → ((u : Tree) → In s u → In s' u) → (t : Tree) → New s t → New s' t
  pub stores : (t : Tree) (s : State) → Sane s → New s t → Given Sane In s (intern t s)
  pub recalls : (t u : Tree) (s : State) → Sane s → recall t s ≡ result u → In s u
  pub keeps : (t u : Tree) (s : State) → Sane s → In s u → Got Sane In s (keep t u s) u
  pub counts : (more : ℕ → ℕ) (t : Tree) (s : State) → Sane s → In s t → Got Sane In s (counted more s) t
  pub notes : (js : List ℕ) (s : State) → Sane s → Sane (noting js s) × ((u : Tree) → In s u → In (noting js s) u)

module _ (Sane : State → Type 0) (In New : State → Tree → Type 0) (N : Complex → Type 0) (law : Lasting Sane In New N) (R : Rows) (numbers : Numbers N R) where
  Passes : Simplifier → Type 0
  Passes σ = (t : Tree) (s : State) → Sane s → In s t → Given Sane In s (σ t s)

  folds : (v : Evaluation) (s : State) → Sane s → Gives N v → Given Sane In s (folded_to v s)
  unfolding folded_to Gives Given
  folds (Evaluation.Value z) s g x = law.stores (leaf (number z)) s g (law.value s z x)
  folds Evaluation.Incomplete s g x = tt
  folds (Evaluation.Need operation y z) s g x = tt

  -- a value that was folded once rows were noted
  folds_noted : (js : List ℕ) (v : Evaluation) (s : State) → Sane s → Gives N v → Given Sane In s (folded_to v (noting js s))
  folds_noted js v s g x = let noted = law.notes js s g in sooner Sane In s (noting js s) (folded_to v (noting js s)) noted.1 (folds v (noting js s) noted.0 x)

  -- ---- plans

  module _ (σ : Simplifier) (h : Passes σ) where
    again_given : (t : Tree) (s : State) → Sane s → New s t → Given Sane In s (again σ t s)
    unfolding again Passes
    again_given t s g x = then_given Sane In s (intern t s) σ (law.stores t s g x) λ u s' y. h u s' y.sane y.is_in

    one_of : (s : State) (b : Bool) (t u : Tree) → In s t → In s u → In s (cond b t u)
    one_of s true t u x y = x
    one_of s false t u x y = y

    -- a plan over the trees of an earlier state s₀
    carries : (p : Plan) (s₀ s : State) → Over (In s₀) (New s₀) p → Sane s → ((u : Tree) → In s₀ u → In s u) → Given Sane In s (carry_out R σ p s)
    unfolding carry_out Over Given Passes smaller
    carries (the t) s₀ s x g f = got Sane In g (f t x)
    carries (new t) s₀ s x g f = law.stores t s g (law.remain f t x)
    carries (folded op y z) s₀ s x g f = folds_noted (used_by_infix R op y z) (calculate_infix R op y z) s g (numbers.infixes op y z)
    carries (called k y) s₀ s x g f = folds_noted (used_by_function R k y) (calculate_function R k y) s g (numbers.functions k y)
    carries (negation p) s₀ s x g f =
        then_given Sane In s (carry_out R σ p s) _ (carries p s₀ s x g f) λ t s' y. law.stores (minus t) s' y.sane ((law.closed s').minus_of y.is_in)
    carries (combined op p q) s₀ s x g f =
        then_given Sane In s (carry_out R σ p s) _ (carries p s₀ s x.0 g f) λ t s' y.
        then_given Sane In s' (carry_out R σ q s') _ (carries q s₀ s' x.1 y.sane λ u z. y.stay u (f u z)) λ u s'' z.
        law.stores (infixed op t u) s'' z.sane ((law.closed s'').infix_of op (z.stay t y.is_in) z.is_in)
    carries (S p) s₀ s x g f = then_given Sane In s (carry_out R σ p s) σ (carries p s₀ s x g f) λ t s' y. h t s' y.sane y.is_in
    carries (lesser p q) s₀ s x g f =
        then_given Sane In s (carry_out R σ p s) _ (carries p s₀ s x.0 g f) λ t s' y.
        then_given Sane In s' (carry_out R σ q s') _ (carries q s₀ s' x.1 y.sane λ u z. y.stay u (f u z)) λ u s'' z.
        got Sane In z.sane (one_of s'' (ltb (size u) (size t)) u t z.is_in (z.stay t y.is_in))
    carries (affine a w b) s₀ s x g f =
        then_given Sane In s (again σ a s) _ (again_given a s g (law.remain f a x.0)) λ u s₁ y.
        then_given Sane In s₁ (again σ b s₁) _ (again_given b s₁ y.sane (law.remain (λ v z. y.stay v (f v z)) b x.2)) λ v s₂ y'.
        then_given Sane In s₂ (again σ (product u w) s₂) _
        (again_given (product u w) s₂ y'.sane ((law.closed s₂).infix_of InfixOperator.Star (y'.stay u y.is_in) (y'.stay w (y.stay w (f w x.1))))) λ z s₃ y''.
        again_given (sum z v) s₃ y''.sane ((law.closed s₃).infix_of InfixOperator.Plus y''.is_in (y''.stay v y'.is_in))

  -- ---- one call of simplify

  module _ (b f : Simplifier) (hb : Passes b) (hf : Passes f) where
    performs_leaf : (l : Leaf) (s : State) → Sane s → In s (leaf l) → Given Sane In s (perform R b f (leaf_task l) s)
    unfolding perform leaf_task Given
    performs_leaf (number z) s g i = got Sane In g i
    performs_leaf pi s g i = law.stores _ s g ((law.closed s).numeral _ _)
    performs_leaf (variable v) s g i = got Sane In g i
    performs_leaf (cell region index) s g i = got Sane In g i

    carried : (p : Plan) (s : State) → Over (In s) (New s) p → Sane s → Given Sane In s (carry_out R f p s)
    carried p s x g = carries f hf p s s x g λ u i. i

    performs : (limit : ℕ) (t : Tree) (s : State) → Sane s → In s t → Given Sane In s (perform R b f (task_at limit t) s)
    unfolding perform task_at simplify_function_call simplify_prefix simplify_infix Passes Given
    performs zero (leaf l) s g i = performs_leaf l s g i
    performs zero (function_call k t) s g i = got Sane In g i
    performs zero (prefixed o t) s g i = got Sane In g i
    performs zero (infixed o t u) s g i = got Sane In g i
    performs (suc n) (leaf l) s g i = performs_leaf l s g i
    performs (suc n) (function_call k t) s g i =
        then_given Sane In s (b t s) _ (hb t s g ((law.closed s).call_part i)) λ x s' y.
        carried (function_plan k x) s' (fine_function (In s') (New s') (law.closed s') k x y.is_in).over y.sane
    performs (suc n) (prefixed o t) s g i =
        then_given Sane In s (b t s) _ (hb t s g ((law.closed s).prefix_part i)) λ x s' y.
        carried (prefix_plan o x) s' (fine_prefix (In s') (New s') (law.closed s') o x y.is_in).over y.sane
    performs (suc n) (infixed o t u) s g i =
        then_given Sane In s (b t s) _ (hb t s g ((law.closed s).infix_parts i).0) λ x s' y.
        then_given Sane In s' (b u s') _ (hb u s' y.sane (y.stay u ((law.closed s).infix_parts i).1)) λ z s'' y'.
        carried (infix_plan o x z) s'' (fine_infix (In s'') (New s'') (law.closed s'') o x z (y'.stay x y.is_in) y'.is_in).over y'.sane

    steps : (more : ℕ → ℕ) (limit : ℕ) → Passes (step more R b f limit)
    unfolding step resume keeping and_then Passes Given
    steps more limit t s g i = go (recall t s) refl
      where
        go : (k : Kept) → recall t s ≡ k → Given Sane In s (resume R b f k limit t (counted more s))
        go (result u) e = law.counts more u s g (law.recalls t u s g e)
        go nothing e =
            then_given Sane In s (gives t (counted more s)) (λ t s. keeping t (perform R b f (task_at limit t) s)) (law.counts more t s g i) λ t s' y.
            then_given Sane In s' (perform R b f (task_at limit t) s') _ (performs limit t s' y.sane y.is_in) λ u s'' z.
            law.keeps t u s'' z.sane z.is_in

  passes : (more : ℕ → ℕ) (k : ℕ) → Passes (simplify_by more R k)
  unfolding simplify_by Passes Given
  passes more zero t s g i = steps gives gives (λ t s g i. got Sane In g i) (λ t s g i. got Sane In g i) more 0 t s g i
  passes more (suc zero) t s g i = steps (simplify_by more R 0) (simplify_by more R 0) (passes more zero) (passes more zero) more 1 t s g i
  passes more (suc (suc k)) t s g i =
      steps (simplify_by more R (suc k)) (simplify_by more R k) (passes more (suc k)) (passes more k) more (suc (suc k)) t s g i

  pub simplified_is_in : (more : ℕ → ℕ) (limit : ℕ) (t : Tree) (s : State) → Sane s → In s t → Given Sane In s (simplify_by more R limit t s)
  unfolding Passes
  simplified_is_in more limit = passes more limit
