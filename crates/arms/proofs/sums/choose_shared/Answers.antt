-- `choose_shared` meets its contract. Assumes nothing.
use mathlib.Core.Path.{◌∙◌}
use Rattle.std.specs.Prelude.{Some, None}
use Rattle.expression.specs.declared.InfixOperator.{InfixOperator}
use Rattle.store.specs.Memory.{memory}
use Rattle.arms.specs.Arms.{sharing}
use Rattle.arms.proofs.Looking.{so, both_true, not_first, not_second, either_first, either_second, neither, tree_of_lem, within_of, found_along, compared}
use Rattle.arms.proofs.Choosing.{hit, past, infix_of_lem, affine_of}
use Rattle.arms.proofs.sums.choose_shared.Goals as goal

pub returns-in_err-ax : goal.returns-in_err-ax
unfolding sharing
returns-in_err-ax c = λ n h w v. rw c.from_residual.ensures (not_first _ (not_first _ (c.in_err-ax.ensures _ n w)))

pub returns-in_err-ay : goal.returns-in_err-ay
unfolding sharing
returns-in_err-ay c = λ n h w v. rw c.from_residual-in_err-ay.ensures (not_first _ (not_second _ (c.in_err-ay.ensures _ n v)))

pub returns-in_err-p : goal.returns-in_err-p
unfolding sharing
returns-in_err-p c = λ n h w v. let P = c.in_ok-ax.ensures (memory c.args.store.now) n w in let Q = c.in_ok-ay.ensures (memory c.args.store.now) n v in rw c.from_residual-in_err-p.ensures (not_second _ (not_first _ (not_first _ (found_along (memory c.args.store.now) n InfixOperator.Star None (tree_of_lem h P.1.0.inside c.expression_at.ensures ∙ P.1.0.tree) (c.in_err-p.ensures (memory c.args.store.now) n (within_of h P.1.0.inside c.expression_at.ensures))))))

pub returns-in_err-s : goal.returns-in_err-s
unfolding sharing
returns-in_err-s c = λ n h w v. let P = c.in_ok-ax.ensures (memory c.args.store.now) n w in let Q = c.in_ok-ay.ensures (memory c.args.store.now) n v in rw c.from_residual-in_err-s.ensures (not_second _ (not_first _ (not_second _ (found_along (memory c.args.store.now) n InfixOperator.Star None (tree_of_lem h Q.1.0.inside c.expression_at-2.ensures ∙ Q.1.0.tree) (c.in_err-s.ensures (memory c.args.store.now) n (within_of h Q.1.0.inside c.expression_at-2.ensures))))))

pub returns-then-equal_at : goal.returns-then-equal_at
unfolding sharing
returns-then-equal_at c = λ n h w v. let P = c.in_ok-ax.ensures (memory c.args.store.now) n w in let Q = c.in_ok-ay.ensures (memory c.args.store.now) n v in let R = found_along (memory c.args.store.now) n InfixOperator.Star (Some _) (tree_of_lem h P.1.0.inside c.expression_at.ensures ∙ P.1.0.tree) (c.in_ok-p.ensures (memory c.args.store.now) n (within_of h P.1.0.inside c.expression_at.ensures)) in let U = found_along (memory c.args.store.now) n InfixOperator.Star (Some _) (tree_of_lem h Q.1.0.inside c.expression_at-2.ensures ∙ Q.1.0.tree) (c.in_ok-s.ensures (memory c.args.store.now) n (within_of h Q.1.0.inside c.expression_at-2.ensures)) in let e = (so (compared c.equal_at.ensures h R.1.0 U.1.0) c.if-equal_at.true) in (both_true (both_true P.0 Q.0) (both_true (both_true R.0 U.0) (either_first _ e)), hit _ e (affine_of (infix_of_lem R.1.1 U.1.1) R.1.0 (infix_of_lem P.1.1 Q.1.1)))

pub returns-then-equal_at-2 : goal.returns-then-equal_at-2
unfolding sharing
returns-then-equal_at-2 c = λ n h w v. let P = c.in_ok-ax.ensures (memory c.args.store.now) n w in let Q = c.in_ok-ay.ensures (memory c.args.store.now) n v in let R = found_along (memory c.args.store.now) n InfixOperator.Star (Some _) (tree_of_lem h P.1.0.inside c.expression_at.ensures ∙ P.1.0.tree) (c.in_ok-p.ensures (memory c.args.store.now) n (within_of h P.1.0.inside c.expression_at.ensures)) in let U = found_along (memory c.args.store.now) n InfixOperator.Star (Some _) (tree_of_lem h Q.1.0.inside c.expression_at-2.ensures ∙ Q.1.0.tree) (c.in_ok-s.ensures (memory c.args.store.now) n (within_of h Q.1.0.inside c.expression_at-2.ensures)) in let e = (so (compared c.equal_at-2.ensures h R.1.0 U.1.1) c.if-equal_at-2.true) in (both_true (both_true P.0 Q.0) (both_true (both_true R.0 U.0) (either_second _ (either_first _ e))), past _ (so (compared c.equal_at.ensures h R.1.0 U.1.0) c.if-equal_at.false) (hit _ e (affine_of (infix_of_lem R.1.1 U.1.0) R.1.0 (infix_of_lem P.1.1 Q.1.1))))

pub returns-then-equal_at-3 : goal.returns-then-equal_at-3
unfolding sharing
returns-then-equal_at-3 c = λ n h w v. let P = c.in_ok-ax.ensures (memory c.args.store.now) n w in let Q = c.in_ok-ay.ensures (memory c.args.store.now) n v in let R = found_along (memory c.args.store.now) n InfixOperator.Star (Some _) (tree_of_lem h P.1.0.inside c.expression_at.ensures ∙ P.1.0.tree) (c.in_ok-p.ensures (memory c.args.store.now) n (within_of h P.1.0.inside c.expression_at.ensures)) in let U = found_along (memory c.args.store.now) n InfixOperator.Star (Some _) (tree_of_lem h Q.1.0.inside c.expression_at-2.ensures ∙ Q.1.0.tree) (c.in_ok-s.ensures (memory c.args.store.now) n (within_of h Q.1.0.inside c.expression_at-2.ensures)) in let e = (so (compared c.equal_at-3.ensures h R.1.1 U.1.0) c.if-equal_at-3.true) in (both_true (both_true P.0 Q.0) (both_true (both_true R.0 U.0) (either_second _ (either_second _ (either_first _ e)))), past _ (so (compared c.equal_at.ensures h R.1.0 U.1.0) c.if-equal_at.false) (past _ (so (compared c.equal_at-2.ensures h R.1.0 U.1.1) c.if-equal_at-2.false) (hit _ e (affine_of (infix_of_lem R.1.0 U.1.1) R.1.1 (infix_of_lem P.1.1 Q.1.1)))))

pub returns-then-equal_at-4 : goal.returns-then-equal_at-4
unfolding sharing
returns-then-equal_at-4 c = λ n h w v. let P = c.in_ok-ax.ensures (memory c.args.store.now) n w in let Q = c.in_ok-ay.ensures (memory c.args.store.now) n v in let R = found_along (memory c.args.store.now) n InfixOperator.Star (Some _) (tree_of_lem h P.1.0.inside c.expression_at.ensures ∙ P.1.0.tree) (c.in_ok-p.ensures (memory c.args.store.now) n (within_of h P.1.0.inside c.expression_at.ensures)) in let U = found_along (memory c.args.store.now) n InfixOperator.Star (Some _) (tree_of_lem h Q.1.0.inside c.expression_at-2.ensures ∙ Q.1.0.tree) (c.in_ok-s.ensures (memory c.args.store.now) n (within_of h Q.1.0.inside c.expression_at-2.ensures)) in let e = (so (compared c.equal_at-4.ensures h R.1.1 U.1.1) c.if-equal_at-4.true) in (both_true (both_true P.0 Q.0) (both_true (both_true R.0 U.0) (either_second _ (either_second _ (either_second _ (e))))), past _ (so (compared c.equal_at.ensures h R.1.0 U.1.0) c.if-equal_at.false) (past _ (so (compared c.equal_at-2.ensures h R.1.0 U.1.1) c.if-equal_at-2.false) (past _ (so (compared c.equal_at-3.ensures h R.1.1 U.1.0) c.if-equal_at-3.false) (affine_of (infix_of_lem R.1.0 U.1.0) U.1.1 (infix_of_lem P.1.1 Q.1.1)))))

pub returns : goal.returns
unfolding sharing
returns c = λ n h w v. let P = c.in_ok-ax.ensures (memory c.args.store.now) n w in let Q = c.in_ok-ay.ensures (memory c.args.store.now) n v in let R = found_along (memory c.args.store.now) n InfixOperator.Star (Some _) (tree_of_lem h P.1.0.inside c.expression_at.ensures ∙ P.1.0.tree) (c.in_ok-p.ensures (memory c.args.store.now) n (within_of h P.1.0.inside c.expression_at.ensures)) in let U = found_along (memory c.args.store.now) n InfixOperator.Star (Some _) (tree_of_lem h Q.1.0.inside c.expression_at-2.ensures ∙ Q.1.0.tree) (c.in_ok-s.ensures (memory c.args.store.now) n (within_of h Q.1.0.inside c.expression_at-2.ensures)) in not_second _ (not_second _ (neither (so (compared c.equal_at.ensures h R.1.0 U.1.0) c.if-equal_at.false) (neither (so (compared c.equal_at-2.ensures h R.1.0 U.1.1) c.if-equal_at-2.false) (neither (so (compared c.equal_at-3.ensures h R.1.1 U.1.0) c.if-equal_at-3.false) (so (compared c.equal_at-4.ensures h R.1.1 U.1.1) c.if-equal_at-4.false)))))
