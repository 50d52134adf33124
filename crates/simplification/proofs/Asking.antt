-- What simplifying asks of a sheet's t rows: each fold that is carried out asks for what its function or operator does. A row that it marks was found for
-- what it asks, and one that is found for what it asks is marked. Assumes nothing.
use mathlib.Core.Path.{◌≡◌, refl, sym, ap, ◌∙◌, subst}
use mathlib.Core.Bool.{Bool, true, false, cond, false≢true}
use mathlib.Core.List.{List, [], ◌++◌}
use mathlib.Core.Logic.{◌⊎◌, inl, inr}
use Prim.Native.Nat.{ℕ, zero, suc, ◌<◌}
use native.Mathlib.Omega.{arith}
use native.Mathlib.Decide.{dec_lt}
use lib.ListN.{length, get_or}
use Rattle.memory.specs.Marks.{no_marks, noted}
use Rattle.memory.proofs.Slices.{get_or_out}
use Rattle.memory.proofs.Marks.{among, noted_append, noted_length, mark_noted, mark_stays, marked}
use Rattle.complex.specs.declared.Complex.{Complex}
use Rattle.expression.specs.declared.refusal.Operation.{Operation}
use Rattle.expression.specs.Trees.{Tree, infixed}
use Rattle.store.specs.Storing.{Kept, nothing, result, State, Answer, gives, refused, and_then, intern, recall, noting}
use Rattle.sheet.specs.Rows.{Rows}
use Rattle.evaluation.specs.declared.Evaluation.{Evaluation}
use Rattle.evaluation.specs.Evaluating.{calculate_function, calculate_infix}
use Rattle.evaluation.specs.Using.{used_by_function, used_by_infix}
use Rattle.evaluation.proofs.Asking.{ByFunction, ByInfix, Uses, uses_more, function_uses, infix_uses, function_used, infix_used}
use Rattle.tasks.specs.Tasks.{Task, number_of_pi, itself, calling, prefixing, infixing, task_at}
use Rattle.arms.specs.Arms.{Plan, smaller, function_plan, prefix_plan, the, new, folded, called, negation, combined, S, lesser, affine, minus, sum, product}
use Rattle.arms.specs.Ordered.{infix_plan}
use Rattle.simplification.specs.Simplifying.{Simplifier, counted, folded_to, again, keeping, carry_out, simplify_function_call, simplify_prefix, simplify_infix, perform, resume, step, simplify_by}
use Rattle.simplification.proofs.Marking.{marks_of, marks_after, Grown, stores_marks, folds_marks, keeps_marks, counted_marks, noted_marks}

-- ---- what is asked on the way to an answer: an operation, of x and y

abbrev Asking : Type 1
Asking = Operation → (x y : Complex) → Type 0

abbrev none : Asking
none o x y = ⊥

-- one after another: after a refusal nothing is asked
pub data Then (a : Answer) (first : Asking) (next : Tree → State → Asking) (o : Operation) (x y : Complex) : Type 0 where
  sooner : first o x y → Then a first next o x y
  later : {t : Tree} {s : State} → a ≡ gives t s → next t s o x y → Then a first next o x y

module _ (rows : Rows) where
  -- by a plan, where S asks `askedIn`
  module _ (simplified : Simplifier) (askedIn : Tree → State → Asking) where
    unfoldable pub asked_again : Tree → State → Asking
    asked_again t s = Then (intern t s) none askedIn

    unfoldable pub asked_carrying : Plan → State → Asking
    asked_carrying (the t) s = none
    asked_carrying (new t) s = none
    asked_carrying (folded op a b) s = ByInfix a b op
    asked_carrying (called f z) s = ByFunction rows z f
    asked_carrying (negation p) s = asked_carrying p s
    asked_carrying (combined op p q) s = Then (carry_out rows simplified p s) (asked_carrying p s) λ t s. asked_carrying q s
    asked_carrying (S p) s = Then (carry_out rows simplified p s) (asked_carrying p s) askedIn
    asked_carrying (lesser p q) s = Then (carry_out rows simplified p s) (asked_carrying p s) λ t s. asked_carrying q s
    asked_carrying (affine a x b) s =
        Then (again simplified a s) (asked_again a s) λ sum-as s.
        Then (again simplified b s) (asked_again b s) λ sum-bs s.
        Then (again simplified (product sum-as x) s) (asked_again (product sum-as x) s) λ mul-as-x s.
        asked_again (sum mul-as-x sum-bs) s

  -- by an operation: in its operands, then by its plan; a result that is kept asks nothing
  module _ (below further : Simplifier) (askedBelow askedFurther : Tree → State → Asking) where
    unfoldable pub asked_performing : Task → State → Asking
    asked_performing number_of_pi s = none
    asked_performing (itself t) s = none
    asked_performing (calling f t) s = Then (below t s) (askedBelow t s) λ x s. asked_carrying further askedFurther (function_plan f x) s
    asked_performing (prefixing o t) s = Then (below t s) (askedBelow t s) λ x s. asked_carrying further askedFurther (prefix_plan o x) s
    asked_performing (infixing o l r) s =
        Then (below l s) (askedBelow l s) λ x s. Then (below r s) (askedBelow r s) λ y s. asked_carrying further askedFurther (infix_plan o x y) s

    unfoldable pub asked_resuming : Kept → (limit : ℕ) → Tree → State → Asking
    asked_resuming (result u) limit t s = none
    asked_resuming nothing limit t s = asked_performing (task_at limit t) s

module _ (more : ℕ → ℕ) (rows : Rows) where
  unfoldable pub asked_step : (below further : Simplifier) (askedBelow askedFurther : Tree → State → Asking) (limit : ℕ) → Tree → State → Asking
  asked_step below further askedBelow askedFurther limit t s = asked_resuming rows below further askedBelow askedFurther (recall t s) limit t (counted more s)

  -- by simplifying a tree at a limit
  unfoldable pub Asks : (limit : ℕ) → Tree → State → Asking
  Asks zero t s = asked_step gives gives (λ t s. none) (λ t s. none) 0 t s
  Asks (suc zero) t s = asked_step (simplify_by more rows zero) (simplify_by more rows zero) (Asks zero) (Asks zero) 1 t s
  Asks (suc (suc k)) t s = asked_step (simplify_by more rows (suc k)) (simplify_by more rows k) (Asks (suc k)) (Asks k) (suc (suc k)) t s

-- ---- what is marked was found for what is asked, and what is found for what is asked is marked

marked_then : (a m : List ℕ) (j : ℕ) → get_or (noted a m) j 0 ≡ 1 → (among j a ≡ true) ⊎ (get_or m j 0 ≡ 1)
marked_then a m j e = elim (dec_lt j (length m)) [
  | yes h ↦ go (among j a) refl (sym (mark_noted a m j h) ∙ e)
  | no h ↦ absurd (omega (arith, e, get_or_out (noted a m) j 0 (rw (noted_length a m) (omega arith))))
]
  where
    go : (b : Bool) → among j a ≡ b → cond b 1 (get_or m j 0) ≡ 1 → (among j a ≡ true) ⊎ (get_or m j 0 ≡ 1)
    go true q e = inl q
    go false q e = inr e

not_grown : {before after : List ℕ} → after ≡ before → Grown before after
unfolding noted
not_grown e = record { rows = []; are = e }

grown_on : {before between after : List ℕ} → Grown before between → Grown between after → Grown before after
grown_on {before} g h = record { rows = g.rows ++ h.rows; are = h.are ∙ ap (noted h.rows) g.are ∙ sym (noted_append g.rows h.rows before) }

module _ (more : ℕ → ℕ) (rows : Rows) (j : ℕ) where
  record Marks (f : State → Answer) (asked : State → Asking) : Type 0 where
    pub grows : (s : State) → Grown (marks_of s) (marks_after (f s))
    pub uses : (s : State) → get_or (marks_after (f s)) j 0 ≡ 1 → (get_or (marks_of s) j 0 ≡ 1) ⊎ Uses rows (asked s) j
    pub used : (s : State) → j < length (marks_of s) → Uses rows (asked s) j → get_or (marks_after (f s)) j 0 ≡ 1

  abbrev MarksAll : (f : Simplifier) (asked : Tree → State → Asking) → Type 0
  MarksAll f asked = (t : Tree) → Marks (f t) (asked t)

  -- ---- one after another

  sooner_uses : {P : Type 0} {a : Answer} {first : Asking} {next : Tree → State → Asking} → P ⊎ Uses rows first j → P ⊎ Uses rows (Then a first next) j
  sooner_uses (inl p) = inl p
  sooner_uses (inr u) = inr (uses_more u λ o x y q. sooner q)

  module _ (h : Simplifier) (next : Tree → State → Asking) (l : MarksAll h next) where
    grows_after : (a : Answer) → Grown (marks_after a) (marks_after (and_then a h))
    unfolding and_then marks_after
    grows_after (gives t s) = (l t).grows s
    grows_after (refused why s) = not_grown refl

    uses_after : {P : Type 0} (a : Answer) {first : Asking} → (get_or (marks_after a) j 0 ≡ 1 → P ⊎ Uses rows first j) → get_or (marks_after (and_then a h)) j 0 ≡ 1
        → P ⊎ Uses rows (Then a first next) j
    unfolding and_then marks_after
    uses_after (gives t s) f m = elim ((l t).uses s m) [
      | inl n ↦ sooner_uses (f n)
      | inr u ↦ inr (uses_more u λ o x y q. later refl q)
    ]
    uses_after (refused why s) f m = sooner_uses (f m)

    used_after : (a : Answer) {first : Asking} → j < length (marks_after a) → (Uses rows first j → get_or (marks_after a) j 0 ≡ 1) → Uses rows (Then a first next) j
        → get_or (marks_after (and_then a h)) j 0 ≡ 1
    unfolding and_then marks_after
    used_after a {first} i f u = go u.asked
      where
        found_for : {asks : Asking} → asks u.operation u.left u.right → Uses rows asks j
        found_for q = record { operation = u.operation; left = u.left; right = u.right; value = u.value; asked = q; row = u.row }

        go : Then a first next u.operation u.left u.right → get_or (marks_after (and_then a h)) j 0 ≡ 1
        go (sooner q) = let g = grows_after a in rw g.are (mark_stays g.rows (marks_after a) j (f (found_for q)))
        go (later {t} {s} e q) = subst (λ a. get_or (marks_after (and_then a h)) j 0 ≡ 1) (sym e) ((l t).used s (rw e at i) (found_for q))

  in_turn : {f : State → Answer} {first : State → Asking} (h : Simplifier) {next : Tree → State → Asking} → Marks f first → MarksAll h next
      → Marks (λ s. and_then (f s) h) (λ s. Then (f s) (first s) next)
  in_turn {f} h {next} m l = record {
    grows = λ s. grown_on (m.grows s) (grows_after h next l (f s));
    uses = λ s x. uses_after h next l (f s) (m.uses s) x;
    used = λ s i u. let g = m.grows s in used_after h next l (f s) (rw (g.are, noted_length g.rows (marks_of s)) i) (m.used s i) u;
  }

  -- what comes after asks nothing
  plain : {f : State → Answer} {first : State → Asking} (h : Simplifier) → Marks f first → MarksAll h (λ t s. none) → Marks (λ s. and_then (f s) h) first
  plain {f} {first} h m l = let t = in_turn h m l in record {
    grows = t.grows;
    uses = λ s x. elim (t.uses s x) [ inl n ↦ inl n | inr u ↦ inr (uses_more u λ o x y q. only_first q) ];
    used = λ s i u. t.used s i (uses_more u λ o x y q. sooner q);
  }
    where
      only_first : {a : Answer} {first : Asking} {o : Operation} {x y : Complex} → Then a first (λ t s. none) o x y → first o x y
      only_first (sooner q) = q
      only_first (later e q) = absurd q

  -- ---- storing, keeping and folding

  gives_mark : MarksAll gives (λ t s. none)
  unfolding marks_after
  gives_mark t = record { grows = λ s. not_grown refl; uses = λ s m. inl m; used = λ s i u. absurd u.asked }

  stores_mark : MarksAll intern (λ t s. none)
  stores_mark t = record { grows = λ s. not_grown (stores_marks t s); uses = λ s m. inl (rw (stores_marks t s) at m); used = λ s i u. absurd u.asked }

  keeps_mark : (t : Tree) {f : State → Answer} {asked : State → Asking} → Marks f asked → Marks (λ s. keeping t (f s)) asked
  keeps_mark t {f} m = record {
    grows = λ s. rw (keeps_marks t (f s)) (m.grows s);
    uses = λ s x. m.uses s (rw (keeps_marks t (f s)) at x);
    used = λ s i u. rw (keeps_marks t (f s)) (m.used s i u);
  }

  folds_mark : (v : Evaluation) (js : List ℕ) {asked : Asking} → (among j js ≡ true → Uses rows asked j) → (Uses rows asked j → among j js ≡ true)
      → Marks (λ s. folded_to v (noting js s)) (λ s. asked)
  folds_mark v js uses used = record {
    grows = λ s. record { rows = js; are = folds_marks v (noting js s) ∙ noted_marks js s };
    uses = λ s m. elim (marked_then js (marks_of s) j (rw (folds_marks v (noting js s), noted_marks js s) at m)) [ inl a ↦ inr (uses a) | inr n ↦ inl n ];
    used = λ s i u. rw (folds_marks v (noting js s), noted_marks js s, mark_noted js (marks_of s) j i, used u) refl;
  }

  -- ---- plans

  module _ (σ : Simplifier) (asked : Tree → State → Asking) (l : MarksAll σ asked) where
    again_mark : MarksAll (again σ) (asked_again rows σ asked)
    unfolding again asked_again
    again_mark t = in_turn σ (stores_mark t) l

    carries : (p : Plan) → Marks (carry_out rows σ p) (asked_carrying rows σ asked p)
    unfolding carry_out asked_carrying
    carries (the t) = gives_mark t
    carries (new t) = stores_mark t
    carries (folded op a b) = folds_mark (calculate_infix rows op a b) (used_by_infix rows op a b) (infix_uses rows j op a b) λ u. infix_used rows j u.asked u.row
    carries (called f z) = folds_mark (calculate_function rows f z) (used_by_function rows f z) (function_uses rows j f z) λ u. function_used rows j u.asked u.row
    carries (negation p) = plain _ (carries p) λ t. stores_mark (minus t)
    carries (combined op p q) = in_turn _ (carries p) λ t. plain _ (carries q) λ u. stores_mark (infixed op t u)
    carries (S p) = in_turn σ (carries p) l
    carries (lesser p q) = in_turn _ (carries p) λ t. plain _ (carries q) λ u. gives_mark (smaller t u)
    carries (affine a x b) =
        in_turn _ (again_mark a) λ u.
        in_turn _ (again_mark b) λ v.
        in_turn _ (again_mark (product u x)) λ w.
        again_mark (sum w v)

  -- ---- one call of simplify

  module _ (σ σ' : Simplifier) (asked asked' : Tree → State → Asking) (l : MarksAll σ asked) (l' : MarksAll σ' asked') where
    performs : (task : Task) → Marks (perform rows σ σ' task) (asked_performing rows σ σ' asked asked' task)
    unfolding perform simplify_function_call simplify_prefix simplify_infix asked_performing
    performs number_of_pi = stores_mark _
    performs (itself t) = gives_mark t
    performs (calling f t) = in_turn _ (l t) λ x. carries σ' asked' l' (function_plan f x)
    performs (prefixing o t) = in_turn _ (l t) λ x. carries σ' asked' l' (prefix_plan o x)
    performs (infixing o t u) = in_turn _ (l t) λ x. in_turn _ (l u) λ y. carries σ' asked' l' (infix_plan o x y)

    resumes : (k : Kept) (limit : ℕ) → MarksAll (resume rows σ σ' k limit) (asked_resuming rows σ σ' asked asked' k limit)
    unfolding resume asked_resuming
    resumes (result u) limit t = gives_mark u
    resumes nothing limit t = keeps_mark t (performs (task_at limit t))

    steps : (limit : ℕ) → MarksAll (step more rows σ σ' limit) (asked_step more rows σ σ' asked asked' limit)
    unfolding step asked_step
    steps limit t = record {
      grows = λ s. rw (counted_marks more s) at ((resumes (recall t s) limit t).grows (counted more s));
      uses = λ s m. rw (counted_marks more s) at ((resumes (recall t s) limit t).uses (counted more s) m);
      used = λ s i u. (resumes (recall t s) limit t).used (counted more s) (rw (counted_marks more s) i) u;
    }

  simplifies : (k : ℕ) → MarksAll (simplify_by more rows k) (Asks more rows k)
  unfolding simplify_by Asks
  simplifies zero = steps gives gives (λ t s. none) (λ t s. none) gives_mark gives_mark 0
  simplifies (suc zero) = steps (simplify_by more rows 0) (simplify_by more rows 0) (Asks more rows 0) (Asks more rows 0) (simplifies zero) (simplifies zero) 1
  simplifies (suc (suc k)) =
      steps (simplify_by more rows (suc k)) (simplify_by more rows k) (Asks more rows (suc k)) (Asks more rows k) (simplifies (suc k)) (simplifies k) (suc (suc k))

  -- where none was marked before
  pub marked_uses : (limit : ℕ) (t : Tree) (s : State) → marks_of s ≡ no_marks → get_or (marks_after (simplify_by more rows limit t s)) j 0 ≡ 1 → Uses rows (Asks more rows limit t s) j
  unfolding noted among
  marked_uses limit t s e m = elim ((simplifies limit t).uses s m) [
    | inl n ↦ absurd (false≢true (marked [] j (rw e at n)))
    | inr u ↦ u
  ]

  pub used_marked : (limit : ℕ) (t : Tree) (s : State) → j < length (marks_of s) → Uses rows (Asks more rows limit t s) j → get_or (marks_after (simplify_by more rows limit t s)) j 0 ≡ 1
  used_marked limit t = (simplifies limit t).used
