-- The rows that a tree uses, by those of its parts, and that a node which became its value marks nothing more: where its rows are marked, whatever
-- stands above it leaves the same marks as before. Assumes nothing.
use mathlib.Core.Path.{◌≡◌, refl, sym, ap, ◌∙◌, subst}
use mathlib.Core.List.{List, [], ◌++◌, append_assoc, append-nil}
use Prim.Native.Nat.{ℕ, ◌<◌}
use Rattle.complex.specs.declared.Complex.{Complex}
use Rattle.expression.specs.declared.InfixOperator.{InfixOperator}
use Rattle.expression.specs.declared.PrefixOperator.{PrefixOperator}
use Rattle.expression.specs.declared.ExpressionFunction.{ExpressionFunction}
use Rattle.expression.specs.declared.node.Expression.{Expression}
use Rattle.expression.specs.declared.node.Operands.{Operands}
use Rattle.expression.specs.Trees.{Tree, function_call, prefixed, infixed}
use Rattle.expression.specs.Nodes.{operands_of, grown}
use Rattle.expression.proofs.Under.{IsOne, IsTwo, one_under, two_under}
use Rattle.memory.specs.Marks.{noted}
use Rattle.memory.proofs.Marks.{noted_append, noted_again, noted_more}
use Rattle.store.specs.Memory.{Memory, tree_at}
use Rattle.store.specs.Numbers.{Settling}
use Rattle.store.proofs.Settling.{Compositional}
use Rattle.sheet.specs.Rows.{Rows}
use Rattle.evaluation.specs.declared.Evaluation.{Evaluation}
use Rattle.evaluation.specs.Evaluating.{and_then, calculate_function, calculate_infix, calculate_prefix, evaluate}
use Rattle.evaluation.specs.Using.{after_value, used_by_function, used_by_infix, used}
use Rattle.evaluation.specs.Run.{NoValue, given}

-- ---- the rows that a tree uses, and those of its parts

-- w is where u begins
pub record Begins (w u : List ℕ) : Type 0 where
  pub rest : List ℕ
  pub parts : u ≡ w ++ rest

-- what is marked at first and then again is marked once
pub begun_covered : {w u : List ℕ} (m : List ℕ) → Begins w u → noted u (noted w m) ≡ noted u m
begun_covered {w} {u} m b =
    ap (λ x. noted x (noted w m)) b.parts ∙ noted_append w b.rest (noted w m) ∙ ap (noted b.rest) (noted_again w m) ∙ sym (noted_append w b.rest m)
    ∙ ap (λ x. noted x m) (sym b.parts)

-- after a lack nothing is used
pub none_after : (w : Evaluation) (next : Complex → List ℕ) → NoValue w → after_value w next ≡ []
unfolding after_value
none_after (Evaluation.Value z) next k = absurd k
none_after Evaluation.Incomplete next k = refl
none_after (Evaluation.Need operation x y) next k = refl

pub after_value_lem : {w : Evaluation} {z : Complex} (next : Complex → List ℕ) → w ≡ Evaluation.Value z → after_value w next ≡ next z
unfolding after_value
after_value_lem next e = rw e refl

-- an operation on two operands
pub record InfixOf (e : Expression) (a b : ℕ) : Type 0 where
  pub operator : InfixOperator
  pub is : e ≡ Expression.Infix operator a b

pub infix_under : (e : Expression) (a b : ℕ) → operands_of e ≡ Operands.Two a b → InfixOf e a b
unfolding operands_of IsTwo
infix_under (Expression.Number z) a b q = absurd (two_under (Expression.Number z) a b q)
infix_under Expression.PiConstant a b q = absurd (two_under Expression.PiConstant a b q)
infix_under (Expression.Variable v) a b q = absurd (two_under (Expression.Variable v) a b q)
infix_under (Expression.Address region index) a b q = absurd (two_under (Expression.Address region index) a b q)
infix_under (Expression.FunctionCall f c) a b q = absurd (two_under (Expression.FunctionCall f c) a b q)
infix_under (Expression.Prefix o c) a b q = absurd (two_under (Expression.Prefix o c) a b q)
infix_under (Expression.Infix o c d) a b q = let i = two_under (Expression.Infix o c d) a b q in record { operator = o; is = λ j. Expression.Infix o (i.0 j) (i.1 j) }

module _ (rows : Rows) where
  module _ (marks : List ℕ) where
    -- what a function, or the right operand and an operator, make of what the operand gives
    called : ExpressionFunction → Evaluation × List ℕ → Evaluation × List ℕ
    called f w = (and_then w.0 (λ x. calculate_function rows f x), noted (after_value w.0 λ x. used_by_function rows f x) w.1)

    call_given : (f : ExpressionFunction) (t : Tree) → given rows marks (function_call f t) ≡ called f (given rows marks t)
    unfolding evaluate used called given
    call_given f t = ap (λ x. (and_then (evaluate rows t) (λ x. calculate_function rows f x), x)) (noted_append (used rows t) _ marks)

    signed : PrefixOperator → Evaluation × List ℕ → Evaluation × List ℕ
    signed o w = (and_then w.0 (λ x. Evaluation.Value (calculate_prefix o x)), w.1)

    sign_given : (o : PrefixOperator) (t : Tree) → given rows marks (prefixed o t) ≡ signed o (given rows marks t)
    unfolding evaluate used signed given
    sign_given o t = refl

    before : InfixOperator → Tree → Evaluation × List ℕ → Evaluation × List ℕ
    before o t w =
        (and_then w.0 (λ x. and_then (evaluate rows t) λ y. calculate_infix rows o x y), noted (after_value w.0 λ x. used rows t ++ after_value (evaluate rows t) λ y. used_by_infix rows o x y) w.1)

    infix_given : (o : InfixOperator) (s t : Tree) → given rows marks (infixed o s t) ≡ before o t (given rows marks s)
    unfolding evaluate used before given
    infix_given o s t = ap (λ x. (and_then (evaluate rows s) (λ x. and_then (evaluate rows t) λ y. calculate_infix rows o x y), x)) (noted_append (used rows s) _ marks)

    last : InfixOperator → Complex → Evaluation × List ℕ → Evaluation × List ℕ
    last o x w = (and_then w.0 (λ y. calculate_infix rows o x y), noted (after_value w.0 λ y. used_by_infix rows o x y) w.1)

    same_last : (t v : Tree) (a : List ℕ) → given rows marks t ≡ given rows marks v → given rows (noted a marks) t ≡ given rows (noted a marks) v
    unfolding given
    same_last t v a q = λ i. ((q i).0, noted_more (used rows t) (used rows v) a marks (λ j. (q j).1) i)

    of_last : (o : InfixOperator) (x : Complex) (t : Tree) (m : List ℕ)
        → ◌≡◌ {A = Evaluation × List ℕ} (and_then (evaluate rows t) (λ y. calculate_infix rows o x y), noted (used rows t ++ after_value (evaluate rows t) λ y. used_by_infix rows o x y) m)
        (last o x (given rows m t))
    unfolding last given
    of_last o x t m = ap (λ u. (and_then (evaluate rows t) (λ y. calculate_infix rows o x y), u)) (noted_append (used rows t) _ m)

    right : (o : InfixOperator) (t v : Tree) (w : Evaluation) (a : List ℕ) → given rows marks t ≡ given rows marks v → before o t (w, noted a marks) ≡ before o v (w, noted a marks)
    unfolding before and_then after_value
    right o t v (Evaluation.Value x) a q = of_last o x t (noted a marks) ∙ ap (last o x) (same_last t v a q) ∙ sym (of_last o x v (noted a marks))
    right o t v Evaluation.Incomplete a q = refl
    right o t v (Evaluation.Need operation x y) a q = refl

    -- what a tree gives hangs on its parts only through what they give
    pub by_parts : Compositional (given rows marks)
    unfolding given
    by_parts = record {
      calls = λ f t u p. call_given f t ∙ ap (called f) p ∙ sym (call_given f u);
      prefixes = λ o t u p. sign_given o t ∙ ap (signed o) p ∙ sym (sign_given o u);
      infixes = λ o s t u v p q. infix_given o s t ∙ ap (before o t) p ∙ right o t v (evaluate rows u) (used rows u) q ∙ sym (infix_given o u v);
    }

  -- where more is marked the same nodes give the same
  pub with_more : {n : ℕ} {m m' : Memory} (marks : List ℕ) {marks' : List ℕ} (w : List ℕ) → marks' ≡ noted w marks → Settling (given rows marks) n m m' → Settling (given rows marks') n m m'
  unfolding given
  with_more {n} {m} {m'} marks w e s = subst (λ x. Settling (given rows x) n m m') (sym e) record {
    ordered = s.ordered;
    same = λ k l i. ((s.same k l i).0, noted_more (used rows (tree_at m' k)) (used rows (tree_at m k)) w marks (λ j. (s.same k l j).1) i);
    rows = s.rows;
  }

  module _ {n : ℕ} {m m' : Memory} (marks : List ℕ) (s : Settling (given rows marks) n m m') where
    pub same_value : (k : ℕ) → k < n → evaluate rows (tree_at m' k) ≡ evaluate rows (tree_at m k)
    unfolding given
    same_value k l = λ i. (s.same k l i).0

    pub same_marks : (k : ℕ) → k < n → noted (used rows (tree_at m' k)) marks ≡ noted (used rows (tree_at m k)) marks
    unfolding given
    same_marks k l = λ i. (s.same k l i).1

  -- a node's rows begin with those of its operands; at a lack of an operand there are no others
  pub one_begins : (look : ℕ → Tree) (e : Expression) (a : ℕ) → operands_of e ≡ Operands.One a → Begins (used rows (look a)) (used rows (grown look e))
  unfolding operands_of IsOne used grown
  one_begins look (Expression.Number z) a q = absurd (one_under (Expression.Number z) a q)
  one_begins look Expression.PiConstant a q = absurd (one_under Expression.PiConstant a q)
  one_begins look (Expression.Variable v) a q = absurd (one_under (Expression.Variable v) a q)
  one_begins look (Expression.Address region index) a q = absurd (one_under (Expression.Address region index) a q)
  one_begins look (Expression.FunctionCall f b) a q =
      record { rest = after_value (evaluate rows (look b)) λ x. used_by_function rows f x; parts = ap (λ k. used rows (look k) ++ after_value (evaluate rows (look b)) λ x. used_by_function rows f x) (one_under (Expression.FunctionCall f b) a q) }
  one_begins look (Expression.Prefix o b) a q = record { rest = []; parts = ap (λ k. used rows (look k)) (one_under (Expression.Prefix o b) a q) ∙ sym (append-nil (used rows (look a))) }
  one_begins look (Expression.Infix o b c) a q = absurd (one_under (Expression.Infix o b c) a q)

  pub one_all : (look : ℕ → Tree) (e : Expression) (a : ℕ) → operands_of e ≡ Operands.One a → NoValue (evaluate rows (look a)) → used rows (grown look e) ≡ used rows (look a)
  unfolding operands_of IsOne used grown
  one_all look (Expression.Number z) a q k = absurd (one_under (Expression.Number z) a q)
  one_all look Expression.PiConstant a q k = absurd (one_under Expression.PiConstant a q)
  one_all look (Expression.Variable v) a q k = absurd (one_under (Expression.Variable v) a q)
  one_all look (Expression.Address region index) a q k = absurd (one_under (Expression.Address region index) a q)
  one_all look (Expression.FunctionCall f b) a q k =
      ap (λ k. used rows (look k) ++ after_value (evaluate rows (look k)) λ x. used_by_function rows f x) (one_under (Expression.FunctionCall f b) a q)
      ∙ ap (λ x. used rows (look a) ++ x) (none_after (evaluate rows (look a)) _ k) ∙ append-nil (used rows (look a))
  one_all look (Expression.Prefix o b) a q k = ap (λ k. used rows (look k)) (one_under (Expression.Prefix o b) a q)
  one_all look (Expression.Infix o b c) a q k = absurd (one_under (Expression.Infix o b c) a q)

  -- the same of two operands, where the left one lacks, or has a value
  module _ (look : ℕ → Tree) (e : Expression) (a b : ℕ) (q : operands_of e ≡ Operands.Two a b) where
    two_used : used rows (grown look e) ≡ used rows (look a) ++ after_value (evaluate rows (look a)) λ x. used rows (look b) ++ after_value (evaluate rows (look b)) λ y. used_by_infix rows (infix_under e a b q).operator x y
    unfolding used grown
    two_used = ap (λ e. used rows (grown look e)) (infix_under e a b q).is

    pub left_all : NoValue (evaluate rows (look a)) → used rows (grown look e) ≡ used rows (look a)
    left_all k = two_used ∙ ap (λ x. used rows (look a) ++ x) (none_after (evaluate rows (look a)) _ k) ∙ append-nil (used rows (look a))

    module _ {z : Complex} (v : evaluate rows (look a) ≡ Evaluation.Value z) where
      pub both_used : used rows (grown look e) ≡ (used rows (look a) ++ used rows (look b)) ++ after_value (evaluate rows (look b)) λ y. used_by_infix rows (infix_under e a b q).operator z y
      both_used = two_used ∙ ap (λ x. used rows (look a) ++ x) (after_value_lem _ v) ∙ sym (append_assoc (used rows (look a)) (used rows (look b)) _)

      pub both_begin : Begins (used rows (look a) ++ used rows (look b)) (used rows (grown look e))
      both_begin = record { rest = _; parts = both_used }

      pub both_all : NoValue (evaluate rows (look b)) → used rows (grown look e) ≡ used rows (look a) ++ used rows (look b)
      both_all k = both_used ∙ ap (λ x. (used rows (look a) ++ used rows (look b)) ++ x) (none_after (evaluate rows (look b)) _ k) ∙ append-nil (used rows (look a) ++ used rows (look b))
