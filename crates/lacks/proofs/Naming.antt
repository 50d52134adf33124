-- What is named at a node, itself and below it: each return of `first_missing` and of what it calls. Assumes nothing.
use mathlib.Core.Path.{◌≡◌, refl, sym, ap, ◌∙◌, subst}
use mathlib.Core.List.{[], ◌∷◌}
use mathlib.Core.Logic.{⊎_elim}
use Prim.Native.Nat.{ℕ, ◌<◌}
use native.Mathlib.Omega.{arith}
use denote.Enum.Declared.{tag_of}
use types.Run.{OneOf}
use Rattle.std.specs.Prelude.{Option, Some, None}
use Rattle.complex.specs.declared.Complex.{Complex}
use Rattle.complex.specs.Bits.{Fitting}
use Rattle.expression.specs.declared.node.Expression.{Expression}
use Rattle.expression.specs.declared.node.Operands.{Operands}
use Rattle.expression.specs.Trees.{Tree, variable, cell}
use Rattle.expression.specs.Nodes.{operands_of, grown}
use Rattle.expression.specs.contracts.node.Expression.{the_type as expressions}
use Rattle.store.specs.Memory.{Memory, expression_at, tree_at}
use Rattle.store.specs.Numbers.{with_number, Ordered, Settling}
use Rattle.store.proofs.Trees.{tree_own}
use Rattle.store.proofs.Settling.{Compositional, settles, settles_nothing, settles_both}
use Rattle.sheet.specs.Rows.{Rows, value_of, cell_value}
use Rattle.sheet.specs.Table.{seen_found}
use Rattle.lacks.specs.declared.Missing.{Missing}
use Rattle.lacks.specs.Lacking.{unless_bound, or_else, missing_leaf, first_missing}
use Rattle.lacks.specs.Run.{missing_here, missing_operands, NamesFirst}

-- ---- one after the other

pub naming : (m : Missing) (next : Option Missing) → Some m ≡ or_else (Some m) next
unfolding or_else
naming m next = refl

-- w is what the first should be: it names m, or it is nothing and the second goes
pub is_first : {w want : Option Missing} {m : Missing} (next : Option Missing) → w ≡ want → w ≡ Some m → Some m ≡ or_else want next
is_first {m = m} next p k = naming m next ∙ ap (λ v. or_else v next) (sym k ∙ p)

pub is_second : {w want next r : Option Missing} → w ≡ want → w ≡ None → r ≡ next → r ≡ or_else want next
unfolding or_else
is_second {next = next} p e q = q ∙ ap (λ v. or_else v next) (sym e ∙ p)

-- ---- a node: what it lacks itself, and then what its operands lack

or_nothing : (w : Option Missing) → w ≡ or_else w None
unfolding or_else
or_nothing None = refl
or_nothing (Some m) = refl

-- a kind that is neither a variable nor a cell
kind_other : (rows : Rows) (e : Expression) → OneOf (1 ∷ 2 ∷ 3 ∷ 4 ∷ 5 ∷ []) (tag_of expressions e) → None ≡ missing_here rows e
unfolding missing_here
kind_other rows (Expression.Number z) k = refl
kind_other rows Expression.PiConstant k = refl
kind_other rows (Expression.Variable v) k =
    absurd (⊎_elim (λ q. omega (arith, q)) (⊎_elim (λ q. omega (arith, q)) (⊎_elim (λ q. omega (arith, q)) (⊎_elim (λ q. omega (arith, q)) λ q. omega (arith, q)))) k)
kind_other rows (Expression.Address region index) k =
    absurd (⊎_elim (λ q. omega (arith, q)) (⊎_elim (λ q. omega (arith, q)) (⊎_elim (λ q. omega (arith, q)) (⊎_elim (λ q. omega (arith, q)) λ q. omega (arith, q)))) k)
kind_other rows (Expression.FunctionCall f a) k = refl
kind_other rows (Expression.Prefix o a) k = refl
kind_other rows (Expression.Infix o a b) k = refl

module _ (rows : Rows) where
  first_of : (look : ℕ → Tree) (e : Expression) → or_else (missing_here rows e) (missing_operands rows look (operands_of e)) ≡ first_missing rows (grown look e)
  unfolding first_missing grown missing_here missing_operands operands_of or_else missing_leaf
  first_of look (Expression.Number z) = refl
  first_of look Expression.PiConstant = refl
  first_of look (Expression.Variable v) = sym (or_nothing (missing_leaf rows (variable v)))
  first_of look (Expression.Address region index) = sym (or_nothing (missing_leaf rows (cell region index)))
  first_of look (Expression.FunctionCall f a) = refl
  first_of look (Expression.Prefix o a) = refl
  first_of look (Expression.Infix o a b) = refl

  -- it hangs on the parts of a tree only through what they lack
  by_parts : Compositional (first_missing rows)
  unfolding first_missing
  by_parts = record { calls = λ f t u p. p; prefixes = λ o t u p. p; infixes = λ o s t u v p q. (λ i. or_else (p i) (q i)) }

  module _ {e x : Expression} (e-is : e ≡ x) where
    pub at_variable : {v : ℕ} {r : Option Missing} (found : Option Complex) → e ≡ Expression.Variable v → seen_found found ≡ value_of v rows.variables
        → r ≡ unless_bound (Missing.Variable v) (seen_found found) → r ≡ missing_here rows x
    unfolding missing_here missing_leaf
    at_variable {v} found told q p = p ∙ ap (unless_bound (Missing.Variable v)) q ∙ ap (missing_here rows) (sym told ∙ e-is)

    pub at_cell : {region index : ℕ} {r : Option Missing} (found : Option Complex) → e ≡ Expression.Address region index → seen_found found ≡ cell_value region index rows.cells
        → r ≡ unless_bound (Missing.Cell region index) (seen_found found) → r ≡ missing_here rows x
    unfolding missing_here missing_leaf
    at_cell {region} {index} found told q p = p ∙ ap (unless_bound (Missing.Cell region index)) q ∙ ap (missing_here rows) (sym told ∙ e-is)

    -- any other kind
    pub at_other : OneOf (1 ∷ 2 ∷ 3 ∷ 4 ∷ 5 ∷ []) (tag_of expressions e) → None ≡ missing_here rows x
    at_other k = kind_other rows e k ∙ ap (missing_here rows) e-is

  module _ {m : Memory} {n node : ℕ} (o : Ordered m n) (l : node < n) where
    of_node : or_else (missing_here rows (expression_at m node)) (missing_operands rows (tree_at m) (operands_of (expression_at m node))) ≡ first_missing rows (tree_at m node)
    of_node = first_of (tree_at m) (expression_at m node) ∙ ap (first_missing rows) (sym (tree_own m node (o.within node l)))

    module _ {own : Option Missing} (p : own ≡ missing_here rows (expression_at m node)) where
      pub own_first : {w : Missing} → own ≡ Some w → NamesFirst rows n m m (Some w) (first_missing rows (tree_at m node))
      own_first k = record { answer = is_first _ p k ∙ of_node; settling = settles_nothing o }

      module _ {m' : Memory} {x : Option Missing} (e : own ≡ None) (s : NamesFirst rows n m m' x (missing_operands rows (tree_at m) (operands_of (expression_at m node)))) where
        below_first : NamesFirst rows n m m' x (first_missing rows (tree_at m node))
        below_first = record { answer = is_second p e s.answer ∙ of_node; settling = s.settling }

        pub below_names : {w : Missing} → x ≡ Some w → NamesFirst rows n m m' (Some w) (first_missing rows (tree_at m node))
        below_names q = subst (λ r. NamesFirst rows n m m' r (first_missing rows (tree_at m node))) q below_first

        -- nothing is lacking, and the node becomes a number
        pub nothing_first : {m'' : Memory} {z : Complex} → x ≡ None → m'' ≡ with_number m' node z → Fitting z → NamesFirst rows n m m'' None (first_missing rows (tree_at m node))
        unfolding first_missing missing_leaf
        nothing_first {z = z} none q f = let d = sym none ∙ below_first.answer in record {
          answer = d;
          settling = subst (Settling (first_missing rows) n m) (sym q) (settles_both s.settling (settles by_parts s.settling.ordered l f (d ∙ sym (s.settling.same node l))));
        }

    -- ---- the operands

    module _ {operands : Operands} (is : operands ≡ operands_of (expression_at m node)) where
      those : {r : Option Missing} → r ≡ missing_operands rows (tree_at m) operands → r ≡ missing_operands rows (tree_at m) (operands_of (expression_at m node))
      those p = p ∙ ap (missing_operands rows (tree_at m)) is

      pub no_operands : operands ≡ Operands.Nothing → NamesFirst rows n m m None (missing_operands rows (tree_at m) (operands_of (expression_at m node)))
      unfolding missing_operands
      no_operands told = record { answer = those (ap (missing_operands rows (tree_at m)) (sym told)); settling = settles_nothing o }

      module _ {m' : Memory} {a : ℕ} {x : Option Missing} (s : NamesFirst rows n m m' x (first_missing rows (tree_at m a))) where
        pub one_operand : operands ≡ Operands.One a → NamesFirst rows n m m' x (missing_operands rows (tree_at m) (operands_of (expression_at m node)))
        unfolding missing_operands
        one_operand told = record { answer = those (s.answer ∙ ap (missing_operands rows (tree_at m)) (sym told)); settling = s.settling }

        module _ {b : ℕ} (told : operands ≡ Operands.Two a b) where
          pub left_operand : {w : Missing} → x ≡ Some w → NamesFirst rows n m m' (Some w) (missing_operands rows (tree_at m) (operands_of (expression_at m node)))
          unfolding missing_operands
          left_operand k = record { answer = those (is_first (first_missing rows (tree_at m b)) s.answer k ∙ ap (missing_operands rows (tree_at m)) (sym told)); settling = s.settling }

          pub both_operands : {m'' : Memory} {y : Option Missing} → x ≡ None → b < n → NamesFirst rows n m' m'' y (first_missing rows (tree_at m' b))
              → NamesFirst rows n m m'' y (missing_operands rows (tree_at m) (operands_of (expression_at m node)))
          unfolding missing_operands
          both_operands e j t = record {
            answer = those (is_second s.answer e (t.answer ∙ s.settling.same b j) ∙ ap (missing_operands rows (tree_at m)) (sym told));
            settling = settles_both s.settling t.settling;
          }
