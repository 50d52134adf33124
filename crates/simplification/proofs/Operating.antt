-- What is done at a node, from the operations to `simplify`: each return of the simplifiers. Assumes nothing.
use mathlib.Core.Path.{◌≡◌, refl, sym, ap, ◌∙◌}
use mathlib.Core.List.{List}
use Prim.Native.Nat.{ℕ, zero, suc, ◌-◌, ◌<◌}
use native.Mathlib.Omega.{arith}
use lib.ListN.{length}
use Rattle.std.specs.Prelude.{Option, Some, None, Result, Ok, Err, IsErr}
use Rattle.expression.specs.declared.InfixOperator.{InfixOperator}
use Rattle.expression.specs.Trees.{Tree, number, pi, variable, cell, leaf, function_call, prefixed, infixed}
use Rattle.expression.specs.declared.node.Expression.{Expression}
use Rattle.store.specs.Storing.{Kept, State, Answer, gives, recall, keep, result, nothing, noting}
use Rattle.store.specs.Memory.{Memory, tree_at, tree_of, kept_as}
use Rattle.store.specs.declared.desk.Refused.{Refused}
use Rattle.store.specs.Desk.{count, calls_on, marks_on, tally_on, with_calls}
use Rattle.store.specs.Held.{Lent, tree_in, state_in, Sound, Built, Keeps, Recalls}
use Rattle.store.proofs.Building.{of, older, named, stays, then_node, then_refused, sound_on, on_desk}
use Rattle.store.proofs.Asking.{calls_set, count_kept, marks_kept, length_kept}
use Rattle.sheet.specs.Rows.{Rows}
use Rattle.evaluation.specs.declared.Evaluation.{Evaluation}
use Rattle.tasks.specs.declared.Task.{Task}
use Rattle.tasks.specs.Tasks.{leaf_task, task_at}
use Rattle.tasks.specs.Deciding.{one_more}
use Rattle.tasks.specs.Deciding.{task_of, TaskIn, Decides}
use Rattle.arms.specs.declared.Arm.{Arm}
use Rattle.arms.specs.Arms.{Plan}
use Rattle.arms.specs.Ordered.{infix_plan}
use Rattle.arms.specs.Choosing.{Sits, Chosen, ArmIn, plan_of}
use Rattle.simplification.specs.Simplifying.{Simplifier, counted, folded_to, keeping, carry_out, perform, resume, step, simplify_by}

-- ---- a limit

-- the operation at 1 less, further S calls at 1 less again; at 0 nothing is simplified further
at_zero : (R : Rows) (b f b' f' : Simplifier) (k : Kept) (t : Tree) (s : State) → resume R b f k 0 t s ≡ resume R b' f' k 0 t s
unfolding resume perform task_at leaf_task
at_zero R b f b' f' (result u) t s = refl
at_zero R b f b' f' nothing (leaf (number z)) s = refl
at_zero R b f b' f' nothing (leaf pi) s = refl
at_zero R b f b' f' nothing (leaf (variable v)) s = refl
at_zero R b f b' f' nothing (leaf (cell region index)) s = refl
at_zero R b f b' f' nothing (function_call g t) s = refl
at_zero R b f b' f' nothing (prefixed o t) s = refl
at_zero R b f b' f' nothing (infixed o l r) s = refl

once : (k : ℕ) → suc k ≡ suc (suc k) - 1
once k = omega arith

twice : (k : ℕ) → k ≡ suc (suc k) - 1 - 1
twice k = omega arith

-- however a call is counted
module _ (more : ℕ → ℕ) (R : Rows) where
  pub unrolled : (k : ℕ) (t : Tree) (s : State) → simplify_by more R k t s ≡ step more R (simplify_by more R (k - 1)) (simplify_by more R (k - 1 - 1)) k t s
  unfolding simplify_by step
  unrolled zero t s = at_zero R gives gives (simplify_by more R 0) (simplify_by more R 0) (recall t s) t (counted more s)
  unrolled (suc zero) t s = refl
  unrolled (suc (suc k)) t s = λ i. step more R (simplify_by more R (once k i)) (simplify_by more R (twice k i)) (suc (suc k)) t s

-- ---- an arm, and a task

module _ (R : Rows) where
  -- an arm that was chosen is carried out, where the limit is 1 less
  pub carried : {low k : ℕ} {arm : Arm} {plan : Plan} (s : State) {r : Result ℕ Refused} {l l' : Lent} → low ≡ k → Chosen l.rows (count l.desk) arm plan
      → (ArmIn (count l.desk) arm → Built (carry_out R (simplify_by one_more R low) (plan_of l.rows arm) s) r l l') → Built (carry_out R (simplify_by one_more R k) plan s) r l l'
  carried s e c b = named (λ i. carry_out R (simplify_by one_more R (e i)) (c.wants i) s) (b c.inside)

  -- the task of a node is done
  pub performed : (b f : Simplifier) {limit node : ℕ} {e : Expression} {task : Task} (s : State) {r : Result ℕ Refused} {l l' : Lent}
      → Decides limit node e task → Sits l.rows (count l.desk) node e
      → (TaskIn (count l.desk) task → Built (perform R b f (task_of (tree_at l.rows) task) s) r l l')
      → Built (perform R b f (task_at limit (tree_of l.rows e)) s) r l l'
  performed b f s {l = l} d x done =
      named (ap (λ q. perform R b f q s) (d.wants (tree_at l.rows) x.at.tree)) (done (d.inside (count l.desk) x.at.inside x.within))

-- ---- the cache

-- the answer is kept
kept_on_lem : {want : Answer} {answer : Result ℕ Refused} (r : ℕ) {node : ℕ} {l : Lent} {m m' : Memory} {desk : List ℕ}
    → node < count l.desk → Built want answer l (of m desk) → answer ≡ Ok r → Keeps m m' node r
    → Built (keeping (tree_in l node) want) (Ok r) l (of m' desk)
unfolding keeping
kept_on_lem r {node} {l} {m} {m'} {desk} o b x q =
    then_node (λ u s. gives u (keep (tree_in l node) u s)) b x λ p.
    named (ap (λ t. gives (tree_at m r) (keep t (tree_at m r) (state_in (of m desk)))) (p.stays node o))
    (q desk p.sound (older p o) p.inside)

-- a refusal is not
refused_lem : {want : Answer} {answer r : Result ℕ Refused} {why : Refused} (t : Tree) {l l' : Lent} → Built want answer l l' → answer ≡ Err why → IsErr r
    → Built (keeping t want) r l l'
unfolding keeping
refused_lem t b x v = then_refused (λ u s. gives u (keep t u s)) b x v

-- the call is counted first
module _ (desk : List ℕ) {desk' : List ℕ} (q : desk' ≡ with_calls desk (one_more (calls_on desk))) where
  count_same : count desk' ≡ count desk
  count_same = ap count q ∙ count_kept desk _

  pub still : {node : ℕ} → node < count desk → node < count desk'
  still o = rw count_same o

  pub sound_counted : (m : Memory) → Sound (of m desk) → Sound (of m desk')
  sound_counted m h = sound_on m count_same (ap length q ∙ length_kept desk _) h

  state_counted : (m : Memory) → Sound (of m desk) → state_in (of m desk') ≡ counted one_more (state_in (of m desk))
  unfolding state_in counted
  state_counted m h =
      let x : calls_on desk' ≡ one_more (calls_on desk) = ap calls_on q ∙ calls_set desk _ h.long in
      let y : marks_on desk' ≡ marks_on desk = ap marks_on q ∙ marks_kept desk _ in
      rw (count_same, x, y) refl

module _ (R : Rows) (k : ℕ) (kept : Option ℕ) {m : Memory} {desk desk' : List ℕ} {node : ℕ} (o : node < count desk) (h : Sound (of m desk))
    (q : desk' ≡ with_calls desk (one_more (calls_on desk))) (c : Recalls m node kept) where
  started : (u : Option ℕ) → kept ≡ u → step one_more R (simplify_by one_more R (k - 1)) (simplify_by one_more R (k - 1 - 1)) k (tree_at m node) (state_in (of m desk))
      ≡ resume R (simplify_by one_more R (k - 1)) (simplify_by one_more R (k - 1 - 1)) (kept_as m u) k (tree_at m node) (state_in (of m desk'))
  unfolding step state_in
  started u e =
      λ i. resume R (simplify_by one_more R (k - 1)) (simplify_by one_more R (k - 1 - 1)) ((sym (c (count desk) (tally_on desk) h.holds o).1 ∙ ap (kept_as m) e) i) k (tree_at m node) (sym (state_counted desk q m h) i)

  pub was_kept : {r : ℕ} → kept ≡ Some r → Built (simplify_by one_more R k (tree_at m node) (state_in (of m desk))) (Ok r) (of m desk) (of m desk')
  unfolding resume
  was_kept x =
      let z = rw x at (c (count desk) (tally_on desk) h.holds o).0 in
      on_desk m (count_same desk q)
      (named (sym (unrolled one_more R k (tree_at m node) (state_in (of m desk)) ∙ started _ x))
      (stays (sound_counted desk q m h) (omega (arith, z, count_same desk q)) refl))

  -- nothing is kept: what is done at the node
  module _ {e : Expression} {answer : Result ℕ Refused} {m₁ : Memory} {desk₁ : List ℕ} (x : kept ≡ None) (z : Sits m (count desk') node e)
      (b : Built (perform R (simplify_by one_more R (k - 1)) (simplify_by one_more R (k - 1 - 1)) (task_at k (tree_of m e)) (state_in (of m desk'))) answer (of m desk') (of m₁ desk₁)) where
    resumed : keeping (tree_at m node) (perform R (simplify_by one_more R (k - 1)) (simplify_by one_more R (k - 1 - 1)) (task_at k (tree_of m e)) (state_in (of m desk')))
        ≡ simplify_by one_more R k (tree_at m node) (state_in (of m desk))
    unfolding resume
    resumed =
        ap (λ t. keeping (tree_at m node) (perform R (simplify_by one_more R (k - 1)) (simplify_by one_more R (k - 1 - 1)) (task_at k t) (state_in (of m desk')))) (sym z.at.tree)
        ∙ sym (unrolled one_more R k (tree_at m node) (state_in (of m desk)) ∙ started None x)

    pub was_done : {r : ℕ} {m₂ : Memory} → answer ≡ Ok r → Keeps m₁ m₂ node r → Built (simplify_by one_more R k (tree_at m node) (state_in (of m desk))) (Ok r) (of m desk) (of m₂ desk₁)
    was_done {r} y w = on_desk m (count_same desk q) (named resumed (kept_on_lem r (still desk q o) b y w))

    pub was_refused : {r : Result ℕ Refused} {why : Refused} → answer ≡ Err why → IsErr r → Built (simplify_by one_more R k (tree_at m node) (state_in (of m desk))) r (of m desk) (of m₁ desk₁)
    was_refused y v = on_desk m (count_same desk q) (named resumed (refused_lem (tree_at m node) b y v))

-- ---- the second operand, which was simplified in a store that had grown

pub later : (R : Rows) (k : ℕ) (s : State) {t u : Tree} {r : Result ℕ Refused} {l l' : Lent} → t ≡ u → Built (simplify_by one_more R k t s) r l l' → Built (simplify_by one_more R k u s) r l l'
later R k s e b = named (ap (λ t. simplify_by one_more R k t s) e) b

pub chosen_later : (op : InfixOperator) {t v : Tree} (u : Tree) {arm : Arm} {n : ℕ} {m : Memory} → t ≡ v → Chosen m n arm (infix_plan op t u) → Chosen m n arm (infix_plan op v u)
chosen_later op u e c = record { inside = c.inside; wants = c.wants ∙ ap (λ t. infix_plan op t u) e }

-- a value that was folded, and the rows that were found for it
pub folded_by : {value value' : Evaluation} {js js' : List ℕ} (s : State) {r : Result ℕ Refused} {l l' : Lent} → (value ≡ value') × (js ≡ js')
    → Built (folded_to value (noting js s)) r l l' → Built (folded_to value' (noting js' s)) r l l'
folded_by s e b = named (λ i. folded_to (e.0 i) (noting (e.1 i) s)) b
