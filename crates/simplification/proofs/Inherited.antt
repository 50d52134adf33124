-- What is so of every leaf of an expression and of all numbers is so of every leaf of the result; and simplifying refuses by 6 to 9 alone, never by
-- 10 INCOMPLETE. Assumes nothing.
use mathlib.Core.Path.{◌≡◌, refl, ap, sym, ◌∙◌, subst}
use mathlib.Core.Bool.{Bool, true, false, cond}
use mathlib.Core.List.{List}
use Prim.Native.Nat.{ℕ, zero, suc, ◌≤◌}
use native.Mathlib.Omega.{arith}
use lib.Dec.{ltb}
use lib.ListN.{length}
use Rattle.complex.specs.declared.Complex.{Complex}
use Rattle.complex.specs.Arithmetic.{negated}
use Rattle.complex.specs.Constants.{of_parts, pi_number}
use Rattle.expression.specs.Trees.{Tree, Leaf, number, pi, variable, cell, leaf, function_call, prefixed, infixed, size, depth}
use Rattle.expression.specs.Alike.{equal}
use Rattle.expression.specs.Limits.{largest, deepest}
use Rattle.expression.specs.Refusals.{number_of}
use Rattle.store.specs.Storing.{Kept, nothing, result, State, state, Answer, gives, refused, and_then, among, intern, recall, keep, noting}
use Rattle.sheet.specs.Rows.{Rows}
use Rattle.evaluation.specs.declared.Evaluation.{Evaluation}
use Rattle.evaluation.specs.Evaluating.{calculate_function, calculate_infix}
use Rattle.evaluation.specs.Using.{used_by_function, used_by_infix}
use Rattle.tasks.specs.Tasks.{leaf_task, task_at}
use Rattle.evaluation.proofs.Known.{Known, function_known, infix_known}
use Rattle.arms.specs.Arms.{Plan, smaller, function_plan, prefix_plan, the, new, folded, called, negation, combined, S, lesser, affine, minus, sum, product}
use Rattle.arms.specs.Ordered.{infix_plan}
use Rattle.simplification.specs.Simplifying.{Simplifier, counted, folded_to, again, keeping, carry_out, simplify_function_call, simplify_prefix, simplify_infix, perform, resume, step, simplify_by, simplify}
use Rattle.simplification.proofs.Shapes.{Closed, Over, fine_infix, fine_function, fine_prefix}

-- all results that are kept are such as P says
unfoldable pub KeptAll : (Tree → Type 0) → State → Type 0
KeptAll P s = (t u : Tree) → recall t s ≡ result u → P u

-- and what is given; or it is refused by one of 6 BIG, 7 DEEP, 8 ROOM, 9 NEED
unfoldable pub Gives : (Tree → Type 0) → Answer → Type 0
Gives P (gives t s) = P t × KeptAll P s
Gives P (refused why s) = (6 ≤ number_of why) × (number_of why ≤ 9)

kept_or : Kept → Tree → Tree
kept_or nothing t = t
kept_or (result u) t = u

-- nothing is kept in a store into which a listing was read
pub unkept_all : (P : Tree → Type 0) (s : State) → ((t : Tree) → recall t s ≡ nothing) → KeptAll P s
unfolding KeptAll
unkept_all P s n t u e = absurd (subst Empty (sym e ∙ n t) tt)
  where
    Empty : Kept → Type 0
    Empty nothing = ⊥
    Empty (result u) = Unit {0}

module _ (P : Tree → Type 0) (closed : Closed P P) (numbers : (z : Complex) → P (leaf (number z))) where
  pub then_gives : (a : Answer) (f : Simplifier) → Gives P a → ((t : Tree) (s : State) → P t → KeptAll P s → Gives P (f t s)) → Gives P (and_then a f)
  unfolding Gives and_then
  then_gives (gives t s) f x g = g t s x.0 x.1
  then_gives (refused why s) f x g = x

  either_way : (b : Bool) (x y : Answer) → Gives P x → Gives P y → Gives P (cond b x y)
  either_way true x y p q = p
  either_way false x y p q = q

  pub stores : (t : Tree) (s : State) → P t → KeptAll P s → Gives P (intern t s)
  unfolding Gives KeptAll intern recall
  stores t (state room stored kept tally) x k =
      either_way (among stored t) _ _ (x, k)
      (either_way (ltb largest (size t)) _ _ (omega arith)
      (either_way (ltb deepest (depth t)) _ _ (omega arith)
      (either_way (ltb (length stored) room) _ _ (x, k) (omega arith))))

  folds : (v : Evaluation) (s : State) → Known v → KeptAll P s → Gives P (folded_to v s)
  unfolding folded_to Gives
  folds (Evaluation.Value z) s h k = stores (leaf (number z)) s (numbers z) k
  folds Evaluation.Incomplete s h k = absurd h
  folds (Evaluation.Need operation x y) s h k = omega arith

  noted_all : (js : List ℕ) (s : State) → KeptAll P s → KeptAll P (noting js s)
  unfolding KeptAll noting recall
  noted_all js (state room stored kept tally) k = k

  pub keeps : (t : Tree) (a : Answer) → Gives P a → Gives P (keeping t a)
  unfolding keeping Gives KeptAll keep recall and_then kept_or
  keeps t (refused why s) x = x
  keeps t (gives u (state room stored kept tally)) x = (x.0, λ v w e. go v w (equal t v) e)
    where
      go : (v w : Tree) (b : Bool) → cond b (result u) (kept v) ≡ result w → P w
      go v w true e = rw (ap (λ k. kept_or k u) e) at x.0
      go v w false e = x.1 v w e

  module _ (more : ℕ → ℕ) (R : Rows) where
    -- ---- plans

    module _ (σ : Simplifier) (f : (t : Tree) (s : State) → P t → KeptAll P s → Gives P (σ t s)) where
      again_gives : (t : Tree) (s : State) → P t → KeptAll P s → Gives P (again σ t s)
      unfolding again
      again_gives t s x k = then_gives (intern t s) σ (stores t s x k) f

      pub carries : (p : Plan) (s : State) → Over P P p → KeptAll P s → Gives P (carry_out R σ p s)
      unfolding carry_out Over Gives smaller
      carries (the t) s x k = (x, k)
      carries (new t) s x k = stores t s x k
      carries (folded op y z) s x k = folds (calculate_infix R op y z) (noting (used_by_infix R op y z) s) (infix_known R op y z) (noted_all (used_by_infix R op y z) s k)
      carries (called g y) s x k = folds (calculate_function R g y) (noting (used_by_function R g y) s) (function_known R g y) (noted_all (used_by_function R g y) s k)
      carries (negation p) s x k =
          then_gives (carry_out R σ p s) (λ t s. intern (minus t) s) (carries p s x k) λ t s' y l. stores (minus t) s' (closed.minus_of y) l
      carries (combined op p q) s x k =
          then_gives (carry_out R σ p s) (λ t s. and_then (carry_out R σ q s) λ u s. intern (infixed op t u) s) (carries p s x.0 k) λ t s' y l.
          then_gives (carry_out R σ q s') (λ u s. intern (infixed op t u) s) (carries q s' x.1 l) λ u s'' z m.
          stores (infixed op t u) s'' (closed.infix_of op y z) m
      carries (S p) s x k = then_gives (carry_out R σ p s) σ (carries p s x k) f
      carries (lesser p q) s x k =
          then_gives (carry_out R σ p s) (λ t s. and_then (carry_out R σ q s) λ u s. gives (smaller t u) s) (carries p s x.0 k) λ t s' y l.
          then_gives (carry_out R σ q s') (λ u s. gives (smaller t u) s) (carries q s' x.1 l) λ u s'' z m.
          (one_of (ltb (size u) (size t)) u t z y, m)
        where
          one_of : (b : Bool) (u t : Tree) → P u → P t → P (cond b u t)
          one_of true u t z y = z
          one_of false u t z y = y
      carries (affine a w b) s x k =
          then_gives (again σ a s) (λ u s. and_then (again σ b s) λ v s. and_then (again σ (product u w) s) λ z s. again σ (sum z v) s) (again_gives a s x.0 k) λ u s₁ y l.
          then_gives (again σ b s₁) (λ v s. and_then (again σ (product u w) s) λ z s. again σ (sum z v) s) (again_gives b s₁ x.2 l) λ v s₂ y' l'.
          then_gives (again σ (product u w) s₂) (λ z s. again σ (sum z v) s) (again_gives (product u w) s₂ (closed.infix_of _ y x.1) l') λ z s₃ y'' l''.
          again_gives (sum z v) s₃ (closed.infix_of _ y'' y') l''

    -- ---- one call of simplify

    Passes : Simplifier → Type 0
    Passes σ = (t : Tree) (s : State) → P t → KeptAll P s → Gives P (σ t s)

    counted_all : (s : State) → KeptAll P s → KeptAll P (counted more s)
    unfolding KeptAll counted recall
    counted_all (state room stored kept tally) k = k

    module _ (b f : Simplifier) where
      performs_leaf : (l : Leaf) (s : State) → P (leaf l) → KeptAll P s → Gives P (perform R b f (leaf_task l) s)
      unfolding perform leaf_task Gives
      performs_leaf (number z) s x k = (x, k)
      performs_leaf pi s x k = stores (leaf (number pi_number)) s (numbers pi_number) k
      performs_leaf (variable v) s x k = (x, k)
      performs_leaf (cell region index) s x k = (x, k)

      performs_none : (t : Tree) (s : State) → P t → KeptAll P s → Gives P (perform R b f (task_at 0 t) s)
      unfolding perform task_at Gives
      performs_none (leaf l) s x k = performs_leaf l s x k
      performs_none (function_call g t) s x k = (x, k)
      performs_none (prefixed o t) s x k = (x, k)
      performs_none (infixed o t u) s x k = (x, k)

      performs : (k : ℕ) → Passes b → Passes f → (t : Tree) (s : State) → P t → KeptAll P s → Gives P (perform R b f (task_at (suc k) t) s)
      unfolding perform task_at simplify_function_call simplify_prefix simplify_infix Passes
      performs n hb hf (leaf l) s x k = performs_leaf l s x k
      performs n hb hf (function_call g t) s x k =
          then_gives (b t s) (λ x s. carry_out R f (function_plan g x) s) (hb t s (closed.call_part x) k) λ u s' y l.
          carries f hf (function_plan g u) s' (fine_function P P closed g u y).over l
      performs n hb hf (prefixed o t) s x k =
          then_gives (b t s) (λ x s. carry_out R f (prefix_plan o x) s) (hb t s (closed.prefix_part x) k) λ u s' y l.
          carries f hf (prefix_plan o u) s' (fine_prefix P P closed o u y).over l
      performs n hb hf (infixed o t u) s x k =
          then_gives (b t s) (λ x s. and_then (b u s) λ z s. carry_out R f (infix_plan o x z) s) (hb t s (closed.infix_parts x).0 k) λ v s' y l.
          then_gives (b u s') (λ z s. carry_out R f (infix_plan o v z) s) (hb u s' (closed.infix_parts x).1 l) λ w s'' z m.
          carries f hf (infix_plan o v w) s'' (fine_infix P P closed o v w y z).over m

      pub steps : (limit : ℕ) (t : Tree) (s : State) → KeptAll P s → ((s : State) → KeptAll P s → Gives P (perform R b f (task_at limit t) s))
          → Gives P (step more R b f limit t s)
      unfolding step resume Gives KeptAll
      steps limit t s k p = go (recall t s) refl
        where
          go : (r : Kept) → recall t s ≡ r → Gives P (resume R b f r limit t (counted more s))
          go (result u) e = (k t u e, counted_all s k)
          go nothing e = keeps t (perform R b f (task_at limit t) (counted more s)) (p (counted more s) (counted_all s k))

    simplify_gives : (limit : ℕ) (t : Tree) (s : State) → P t → KeptAll P s → Gives P (simplify_by more R limit t s)
    unfolding simplify_by Passes
    simplify_gives zero t s x k = steps gives gives 0 t s k λ s l. performs_none gives gives t s x l
    simplify_gives (suc zero) t s x k =
        steps (simplify_by more R 0) (simplify_by more R 0) 1 t s k λ s l. performs (simplify_by more R 0) (simplify_by more R 0) 0 (simplify_gives zero) (simplify_gives zero) t s x l
    simplify_gives (suc (suc n)) t s x k =
        steps (simplify_by more R (suc n)) (simplify_by more R n) (suc (suc n)) t s k λ s l.
        performs (simplify_by more R (suc n)) (simplify_by more R n) (suc n) (simplify_gives (suc n)) (simplify_gives n) t s x l

-- ---- leaves

abbrev pub Leaves : (Leaf → Type 0) → Tree → Type 0
Leaves P (leaf l) = P l
Leaves P (function_call f t) = Leaves P t
Leaves P (prefixed o t) = Leaves P t
Leaves P (infixed o l r) = Leaves P l × Leaves P r

module _ (P : Leaf → Type 0) (numbers : (z : Complex) → P (number z)) where
  pub leaves_closed : Closed (Leaves P) (Leaves P)
  leaves_closed = record {
    numeral = λ a b. numbers (of_parts a b);
    opposite = λ {z} x. numbers (negated z);
    call = λ f x. x;
    minus_of = λ x. x;
    infix_of = λ op x y. (x, y);
    call_part = λ x. x;
    prefix_part = λ x. x;
    infix_parts = λ x. x;
  }

  pub simplify_leaves : (R : Rows) (limit : ℕ) (t : Tree) (s : State) → Leaves P t → KeptAll (Leaves P) s → Gives (Leaves P) (simplify R limit t s)
  simplify_leaves = simplify_gives (Leaves P) leaves_closed numbers suc

-- ---- refusals

-- nothing is asked of any tree
Any : Tree → Type 0
Any t = Unit {0}

any_closed : Closed Any Any
unfolding Any
any_closed = record { numeral = λ a b. tt; opposite = λ x. tt; call = λ f x. tt; minus_of = λ x. tt; infix_of = λ op x y. tt; call_part = λ x. tt; prefix_part = λ x. tt; infix_parts = λ x. (tt, tt) }

-- a tree, or a refusal by 6 BIG, 7 DEEP, 8 ROOM or 9 NEED
abbrev pub SixToNine : Answer → Type 0
SixToNine (gives t s) = Unit {0}
SixToNine (refused why s) = (6 ≤ number_of why) × (number_of why ≤ 9)

-- so simplifying never answers 10 INCOMPLETE, however its calls are counted
pub six_to_nine : (more : ℕ → ℕ) (R : Rows) (limit : ℕ) (t : Tree) (s : State) → SixToNine (simplify_by more R limit t s)
unfolding Gives KeptAll Any
six_to_nine more R limit t s = go (simplify_by more R limit t s) (simplify_gives Any any_closed (λ z. tt) more R limit t s tt λ t u e. tt)
  where
    go : (a : Answer) → Gives Any a → SixToNine a
    go (gives t s) x = tt
    go (refused why s) x = x
