-- Nodes that become their values: each return of `settle` and of what it calls. Assumes nothing.
use mathlib.Core.Path.{◌≡◌, refl, sym, ap, ◌∙◌, subst}
use mathlib.Core.Bool.{Bool, true, false}
use mathlib.Core.List.{List, [], ◌++◌}
use mathlib.Core.Logic.{⊎_elim}
use Prim.Native.Nat.{ℕ, ◌<◌}
use native.Mathlib.Omega.{arith}
use lib.Dec.{T}
use Rattle.std.specs.Prelude.{Result, Ok, Err, IsErrAnd}
use Rattle.complex.specs.declared.Complex.{Complex}
use Rattle.complex.specs.Bits.{Fitting}
use Rattle.expression.specs.declared.node.Expression.{Expression}
use Rattle.expression.specs.declared.node.Operands.{Operands}
use Rattle.expression.specs.Trees.{Tree}
use Rattle.expression.specs.Nodes.{operands_of, grown}
use Rattle.expression.proofs.Under.{IsOne, IsTwo, one_under, two_under}
use Rattle.memory.specs.Marks.{noted}
use Rattle.memory.proofs.Marks.{noted_append, noted_again}
use Rattle.store.specs.Memory.{Memory, expression_at, tree_at}
use Rattle.store.specs.Numbers.{Tells, IsNumber, number_at, with_number, Numbers, OverNumbers, Ordered, Settling}
use Rattle.store.proofs.Trees.{tree_own}
use Rattle.store.proofs.Settling.{number_tree, put_is_number, settles, settles_nothing, settles_both, stays_number, over_numbers}
use Rattle.sheet.specs.Rows.{Rows}
use Rattle.evaluation.specs.declared.Evaluation.{Evaluation}
use Rattle.evaluation.specs.Evaluating.{and_then, calculate_function, calculate_infix, calculate_prefix, leaf_value, evaluate}
use Rattle.evaluation.specs.Using.{used}
use Rattle.evaluation.specs.Run.{WorkedOut, NoValue, LacksAt, given, Settled, Ended, Finished}
use Rattle.evaluation.proofs.Valued.{Lacks, number_value}
use Rattle.evaluation.proofs.Used.{Begins, begun_covered, by_parts, with_more, same_value, same_marks, one_begins, one_all, left_all, both_begin, both_all}

-- ---- lacks

no_value : (w : Evaluation) → Lacks w → NoValue w
no_value (Evaluation.Value z) k = ⊎_elim (λ e. omega (arith, e)) (λ e. omega (arith, e)) k
no_value Evaluation.Incomplete k = tt
no_value (Evaluation.Need operation x y) k = tt

-- a lack is passed on
passed : (w : Evaluation) (next : Complex → Evaluation) → NoValue w → w ≡ and_then w next
unfolding and_then
passed (Evaluation.Value z) next k = absurd k
passed Evaluation.Incomplete next k = refl
passed (Evaluation.Need operation x y) next k = refl

-- no answer is both
not_err : {A : Type 0} {k : ℕ} → ◌≡◌ {A = Result (Unit {0}) ℕ} (Ok tt) (Err k) → A
not_err q = let z : ◌≡◌ {A = ℕ} 0 1 = cc in absurd (omega arith)

same_err : {j k : ℕ} → ◌≡◌ {A = Result (Unit {0}) ℕ} (Err j) (Err k) → j ≡ k
same_err q = cc

-- what is handed on is the same lack
pub handed_on : (r : Result (Unit {0}) ℕ) {k : ℕ} → IsErrAnd r (λ e. e ≡ k) → r ≡ Err k
handed_on (Ok _) x = absurd x
handed_on (Err e) x = ap Err x

module _ (rows : Rows) where
  -- the first lack of a node is that of its one operand, or of its left one
  one_lacks : (look : ℕ → Tree) (e : Expression) (a : ℕ) → operands_of e ≡ Operands.One a → NoValue (evaluate rows (look a))
      → evaluate rows (look a) ≡ evaluate rows (grown look e)
  unfolding operands_of IsOne evaluate grown
  one_lacks look (Expression.Number z) a q k = absurd (one_under (Expression.Number z) a q)
  one_lacks look Expression.PiConstant a q k = absurd (one_under Expression.PiConstant a q)
  one_lacks look (Expression.Variable v) a q k = absurd (one_under (Expression.Variable v) a q)
  one_lacks look (Expression.Address region index) a q k = absurd (one_under (Expression.Address region index) a q)
  one_lacks look (Expression.FunctionCall f b) a q k =
      passed _ _ k ∙ ap (λ x. and_then (evaluate rows (look x)) λ x. calculate_function rows f x) (sym (one_under (Expression.FunctionCall f b) a q))
  one_lacks look (Expression.Prefix o b) a q k =
      passed _ _ k ∙ ap (λ x. and_then (evaluate rows (look x)) λ x. Evaluation.Value (calculate_prefix o x)) (sym (one_under (Expression.Prefix o b) a q))
  one_lacks look (Expression.Infix o b c) a q k = absurd (one_under (Expression.Infix o b c) a q)

  left_lacks : (look : ℕ → Tree) (e : Expression) (a b : ℕ) → operands_of e ≡ Operands.Two a b → NoValue (evaluate rows (look a))
      → evaluate rows (look a) ≡ evaluate rows (grown look e)
  unfolding operands_of IsTwo evaluate grown
  left_lacks look (Expression.Number z) a b q k = absurd (two_under (Expression.Number z) a b q)
  left_lacks look Expression.PiConstant a b q k = absurd (two_under Expression.PiConstant a b q)
  left_lacks look (Expression.Variable v) a b q k = absurd (two_under (Expression.Variable v) a b q)
  left_lacks look (Expression.Address region index) a b q k = absurd (two_under (Expression.Address region index) a b q)
  left_lacks look (Expression.FunctionCall f c) a b q k = absurd (two_under (Expression.FunctionCall f c) a b q)
  left_lacks look (Expression.Prefix o c) a b q k = absurd (two_under (Expression.Prefix o c) a b q)
  left_lacks look (Expression.Infix o c d) a b q k =
      passed _ _ k ∙ ap (λ x. and_then (evaluate rows (look x)) λ x. and_then (evaluate rows (look d)) λ y. calculate_infix rows o x y) (sym (two_under (Expression.Infix o c d) a b q).0)

  -- or, where the left one has a value, of its right one
  right_lacks : (look : ℕ → Tree) (e : Expression) (a b : ℕ) → operands_of e ≡ Operands.Two a b → (z : Complex) → evaluate rows (look a) ≡ Evaluation.Value z
      → NoValue (evaluate rows (look b)) → evaluate rows (look b) ≡ evaluate rows (grown look e)
  unfolding operands_of IsTwo evaluate grown and_then
  right_lacks look (Expression.Number z) a b q v p k = absurd (two_under (Expression.Number z) a b q)
  right_lacks look Expression.PiConstant a b q v p k = absurd (two_under Expression.PiConstant a b q)
  right_lacks look (Expression.Variable w) a b q v p k = absurd (two_under (Expression.Variable w) a b q)
  right_lacks look (Expression.Address region index) a b q v p k = absurd (two_under (Expression.Address region index) a b q)
  right_lacks look (Expression.FunctionCall f c) a b q v p k = absurd (two_under (Expression.FunctionCall f c) a b q)
  right_lacks look (Expression.Prefix o c) a b q v p k = absurd (two_under (Expression.Prefix o c) a b q)
  right_lacks look (Expression.Infix o c d) a b q v p k =
      let i = two_under (Expression.Infix o c d) a b q in
      passed _ (calculate_infix rows o v) k
      ∙ ap (λ w. and_then w λ x. and_then (evaluate rows (look b)) λ y. calculate_infix rows o x y) (sym p)
      ∙ (λ j. and_then (evaluate rows (look (sym i.0 j))) λ x. and_then (evaluate rows (look (sym i.1 j))) λ y. calculate_infix rows o x y)

  -- ---- a node whose operands are numbers

  module _ {m : Memory} {n node : ℕ} (o : Ordered m n) (l : node < n) {marks : List ℕ} where
    pub ended : {m' : Memory} {z : Complex} → Evaluation.Value z ≡ evaluate rows (tree_at m node) → noted (used rows (tree_at m node)) marks ≡ marks → m' ≡ with_number m node z → Fitting z
        → Ended rows n node true m m' marks
    unfolding evaluate leaf_value used noted given
    ended {z = z} p q e f = subst (λ x. Ended rows n node true m x marks) (sym e) record {
      settling = settles (by_parts rows marks) o l f (λ i. (p i, sym q i));
      done = λ x. put_is_number (by_parts rows marks) o l f;
      lack = λ x. absurd (subst T x tt);
    }

    pub not_ended : {w : Evaluation} → OverNumbers m node → w ≡ evaluate rows (tree_at m node) → Lacks w → Ended rows n node false m m marks
    not_ended {w} over p k = record {
      settling = settles_nothing o;
      done = λ x. absurd (subst T (sym x) tt);
      lack = λ x. record { inside = l; ready = over; same = refl; none = subst NoValue p (no_value w k) };
    }

    -- no row, or the rows of what was asked, are marked then
    pub none_noted : [] ≡ used rows (tree_at m node) → noted (used rows (tree_at m node)) marks ≡ marks
    unfolding noted
    none_noted u = ap (λ x. noted x marks) (sym u)

    pub unmarked_finished : {r : Bool} {m' : Memory} → [] ≡ used rows (tree_at m node) → Ended rows n node r m m' marks → Finished rows n node r m m' marks marks
    unmarked_finished u e = record { ended = e; marked = sym (none_noted u) }

    pub marked_finished : {r : Bool} {m' : Memory} {u marks' : List ℕ} → marks' ≡ noted u marks → u ≡ used rows (tree_at m node) → (noted (used rows (tree_at m node)) marks' ≡ marks' → Ended rows n node r m m' marks')
        → Finished rows n node r m m' marks marks'
    marked_finished p q f =
        let e = p ∙ ap (λ u. noted u marks) q in
        record { ended = f (ap (noted (used rows (tree_at m node))) e ∙ noted_again (used rows (tree_at m node)) marks ∙ sym e); marked = e }

    -- ---- a node

    pub is_settled : {b : Bool} → Tells b (IsNumber m node) → b ≡ true → Settled rows n node (Ok tt) m m (IsNumber m node) marks marks
    is_settled h e = record { settling = settles_nothing o; covered = refl; done = λ x. subst (λ b. Tells b (IsNumber m node)) e h; lack = λ k q. not_err q; all = λ k q. not_err q }

  module _ {m m' : Memory} {n node : ℕ} {r : Result (Unit {0}) ℕ} {D : Type 0} {marks marks' : List ℕ} (l : node < n) (s : Settled rows n node r m m' D marks marks') where
    pub lack_settled : {E : Type 0} {k : ℕ} → r ≡ Err k → Settled rows n node (Err k) m m' E marks marks'
    lack_settled q = record { settling = s.settling; covered = s.covered; done = λ x. not_err (sym x); lack = λ k x. s.lack k (q ∙ x); all = λ k x. s.all k (q ∙ x) }

    module _ {m'' : Memory} {b : Bool} {marks'' : List ℕ} (f : Finished rows n node b m' m'' marks' marks'') where
      all_marked : marks'' ≡ noted (used rows (tree_at m node)) marks
      all_marked = f.marked ∙ same_marks rows marks' s.settling node l ∙ s.covered

      both_settling : Settling (given rows marks'') n m m''
      both_settling = settles_both (with_more rows marks' (used rows (tree_at m' node)) f.marked s.settling) f.ended.settling

      all_covered : noted (used rows (tree_at m node)) marks'' ≡ noted (used rows (tree_at m node)) marks
      all_covered = ap (noted (used rows (tree_at m node))) all_marked ∙ noted_again (used rows (tree_at m node)) marks

      pub value_settled : b ≡ true → Settled rows n node (Ok tt) m m'' (IsNumber m'' node) marks marks''
      value_settled e = record { settling = both_settling; covered = all_covered; done = λ x. f.ended.done e; lack = λ k q. not_err q; all = λ k q. not_err q }

      pub last_lacks : b ≡ false → Settled rows n node (Err node) m m'' (IsNumber m'' node) marks marks''
      last_lacks e = record {
        settling = both_settling;
        covered = all_covered;
        done = λ x. not_err (sym x);
        lack = λ k q. subst (LacksAt rows m'' n node) (same_err q) (f.ended.lack e);
        all = λ k q. all_marked;
      }

  -- a number's tree uses no row
  number_uses : (m : Memory) (k : ℕ) → IsNumber m k → used rows (tree_at m k) ≡ []
  unfolding used
  number_uses m k h = ap (used rows) (number_tree m k h)

  module _ {m m' : Memory} {n node : ℕ} {r : Result (Unit {0}) ℕ} {marks marks' : List ℕ} (s : Settled rows n node r m m' (IsNumber m' node) marks marks') (l : node < n) where
    pub settled_marks : marks' ≡ noted (used rows (tree_at m node)) marks
    unfolding noted
    settled_marks = go r refl
      where
        go : (q : Result (Unit {0}) ℕ) → r ≡ q → marks' ≡ noted (used rows (tree_at m node)) marks
        go (Ok _) q = ap (λ u. noted u marks') (sym (number_uses m' node (s.done q))) ∙ same_marks rows marks' s.settling node l ∙ s.covered
        go (Err k) q = s.all k q

    pub settled_value : r ≡ Ok tt → {z : Complex} → z ≡ number_at m' node → WorkedOut rows (tree_at m node) (Evaluation.Value z) marks marks'
    settled_value q p = record { value = ap Evaluation.Value p ∙ sym (number_value rows m' node (s.done q)) ∙ same_value rows marks' s.settling node l; marked = settled_marks }

    pub settled_lack : {k : ℕ} → r ≡ Err k → {w : Evaluation} → w ≡ evaluate rows (tree_at m' k) → WorkedOut rows (tree_at m node) w marks marks'
    settled_lack q p = record { value = p ∙ (s.lack _ q).same ∙ same_value rows marks' s.settling node l; marked = settled_marks }

  -- ---- the operands of a node

  module _ {m : Memory} {n node : ℕ} (o : Ordered m n) (l : node < n) {operands : Operands} (is : operands ≡ operands_of (expression_at m node)) where
    pub no_operands : {marks : List ℕ} → operands ≡ Operands.Nothing → Settled rows n node (Ok tt) m m (OverNumbers m node) marks marks
    no_operands told = record { settling = settles_nothing o; covered = refl; done = λ x. subst (Numbers m) (sym told ∙ is) tt; lack = λ k q. not_err q; all = λ k q. not_err q }

    own : tree_at m node ≡ grown (tree_at m) (expression_at m node)
    own = tree_own m node (o.within node l)

    -- the lack of an operand is that of the node
    of_operand : {m' : Memory} {a k : ℕ} (marks' : List ℕ) → Settling (given rows marks') n m m' → a < n → (NoValue (evaluate rows (tree_at m a)) → evaluate rows (tree_at m a) ≡ evaluate rows (grown (tree_at m) (expression_at m node)))
        → LacksAt rows m' n a k → LacksAt rows m' n node k
    of_operand {a = a} marks' s i first x = record {
      inside = x.inside;
      ready = x.ready;
      same = x.same ∙ same_value rows marks' s a i ∙ first (subst NoValue (x.same ∙ same_value rows marks' s a i) x.none) ∙ ap (evaluate rows) (sym own) ∙ sym (same_value rows marks' s node l);
      none = x.none;
    }

    -- it has no value
    lacking : {m' : Memory} {a k : ℕ} (marks' : List ℕ) → Settling (given rows marks') n m m' → a < n → LacksAt rows m' n a k → NoValue (evaluate rows (tree_at m a))
    lacking {a = a} marks' s i x = subst NoValue (x.same ∙ same_value rows marks' s a i) x.none

    -- rows that the node's begin with were marked, or all of them
    some_marked : (marks : List ℕ) {w marks' : List ℕ} → marks' ≡ noted w marks → Begins w (used rows (grown (tree_at m) (expression_at m node))) → noted (used rows (tree_at m node)) marks' ≡ noted (used rows (tree_at m node)) marks
    some_marked marks e b = rw own (ap (noted _) e ∙ begun_covered marks b)

    every_marked : (marks : List ℕ) {w marks' : List ℕ} → marks' ≡ noted w marks → used rows (grown (tree_at m) (expression_at m node)) ≡ w → marks' ≡ noted (used rows (tree_at m node)) marks
    every_marked marks e u = e ∙ ap (λ x. noted x marks) (sym u ∙ ap (used rows) (sym own))

    module _ {m' : Memory} {a : ℕ} {r : Result (Unit {0}) ℕ} {marks marks' : List ℕ} (s : Settled rows n a r m m' (IsNumber m' a) marks marks') (i : a < n) where
      pub one_operand : operands ≡ Operands.One a → Settled rows n node r m m' (OverNumbers m' node) marks marks'
      one_operand told = record {
        settling = s.settling;
        covered = some_marked marks (settled_marks s i) (one_begins rows (tree_at m) (expression_at m node) a (sym is ∙ told));
        done = λ x. over_numbers s.settling node (subst (Numbers m') (sym told ∙ is) (s.done x));
        lack = λ k q. of_operand marks' s.settling i (one_lacks (tree_at m) (expression_at m node) a (sym is ∙ told)) (s.lack k q);
        all = λ k q. every_marked marks (settled_marks s i) (one_all rows (tree_at m) (expression_at m node) a (sym is ∙ told) (lacking marks' s.settling i (s.lack k q)));
      }

      module _ {b : ℕ} (told : operands ≡ Operands.Two a b) where
        pub left_operand : {k : ℕ} → r ≡ Err k → Settled rows n node (Err k) m m' (OverNumbers m' node) marks marks'
        left_operand {k} q =
            let whole = every_marked marks (settled_marks s i) (left_all rows (tree_at m) (expression_at m node) a b (sym is ∙ told) (lacking marks' s.settling i (s.lack k q))) in
            record {
              settling = s.settling;
              covered = ap (noted (used rows (tree_at m node))) whole ∙ noted_again (used rows (tree_at m node)) marks;
              done = λ x. not_err (sym x);
              lack = λ k x. of_operand marks' s.settling i (left_lacks (tree_at m) (expression_at m node) a b (sym is ∙ told)) (s.lack k (q ∙ x));
              all = λ k x. whole;
            }

        module _ {m'' : Memory} {r' : Result (Unit {0}) ℕ} {marks'' : List ℕ} (z : r ≡ Ok tt) (j : b < n) (t : Settled rows n b r' m' m'' (IsNumber m'' b) marks' marks'') where
          left_value : evaluate rows (tree_at m a) ≡ Evaluation.Value (number_at m' a)
          left_value = sym (same_value rows marks' s.settling a i) ∙ number_value rows m' a (s.done z)

          both : Settling (given rows marks'') n m m''
          both = settles_both (with_more rows marks' (used rows (tree_at m' b)) (settled_marks t j) s.settling) t.settling

          both_marked : marks'' ≡ noted (used rows (tree_at m a) ++ used rows (tree_at m b)) marks
          both_marked = settled_marks t j ∙ same_marks rows marks' s.settling b j ∙ ap (noted (used rows (tree_at m b))) (settled_marks s i) ∙ sym (noted_append (used rows (tree_at m a)) (used rows (tree_at m b)) marks)

          pub both_operands : Settled rows n node r' m m'' (OverNumbers m'' node) marks marks''
          both_operands = record {
            settling = both;
            covered = some_marked marks both_marked (both_begin rows (tree_at m) (expression_at m node) a b (sym is ∙ told) left_value);
            done = λ x. over_numbers both node (subst (Numbers m'') (sym told ∙ is) (stays_number t.settling a (s.done z), t.done x));
            lack = λ k q. of_operand marks'' both j (right_lacks (tree_at m) (expression_at m node) a b (sym is ∙ told) (number_at m' a) left_value) (t.lack k q);
            all = λ k q. every_marked marks both_marked (both_all rows (tree_at m) (expression_at m node) a b (sym is ∙ told) left_value (lacking marks'' both j (t.lack k q)));
          }
