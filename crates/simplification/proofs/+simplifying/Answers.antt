-- The cycle of simplifying meets its contracts. Assumes nothing.
use Rattle.simplification.proofs.Carrying.{added_refused, added_second, added_node, within_older, affine_refused, affine_second, affine_node, again_refused, again_node, lesser_refused, lesser_second, lesser_node, added_later, double_refused, double_node, inverse_refused, inverse_node, regroup_refused, regroup_node, regroup_later, outer_older}
use mathlib.Core.Path.{refl, ◌≡◌}
use lib.Dec.{lit<}
use Prim.Native.Nat.{ℕ, ◌<◌, ◌+◌, ◌*◌, ◌-◌}
use Rattle.expression.specs.Nodes.{grown}
use Rattle.simplification.proofs.Operating.{folded_by, performed, sound_counted, still, was_kept, was_done, was_refused, carried, later, chosen_later}
use Rattle.store.proofs.Building.{stays, named, older, then_node, then_refused}
use Rattle.simplification.specs.Simplifying.{carry_out, perform, simplify_function_call, simplify_infix, simplify_prefix}
use native.Mathlib.Omega.{arith}
use Rattle.tasks.proofs.Deciding.{decided}
use Rattle.arms.proofs.Looking.{sits}
use Rattle.simplification.proofs.+simplifying.Goals as goal

-- a call at the same limit goes to a member of a lower rank
pub down : (m a b : ℕ) {t : ℕ} → 16 * m + b ≡ t → a < b → 16 * m + a < t
down m a b e h = omega arith

-- a call at the limit less one, which stays at 0, goes to a member of a lower rank too
pub lowered : (m k a b : ℕ) {t : ℕ} → 16 * m + b ≡ t → k ≡ m - 1 → a < b → 16 * k + a < t
lowered m k a b e l h = omega arith

-- a call at the limit less one, where the limit is not 0, may go to any rank below 16
pub falls_to : (m k a : ℕ) {t : ℕ} → 16 * m + 0 ≡ t → (m ≡ 0 → ⊥) → k ≡ m - 1 → a < 16 → 16 * k + a < t
falls_to m k a e p l h = omega arith

pub add_simplified-again-requires-2 : goal.add_simplified-again-requires-2
add_simplified-again-requires-2 t c = (down c.args.limit.0 2 3 c.decreases (lit< tt), tt)

pub add_simplified-returns-in_err-left : goal.add_simplified-returns-in_err-left
add_simplified-returns-in_err-left t c = λ held h w. added_refused _ _ _ _ _ (c.again.ensures held h w.0) c.in_err-left.was c.from_residual.ensures.0

pub add_simplified-again-requires : goal.add_simplified-again-requires
add_simplified-again-requires t c = (down c.args.limit.0 2 3 c.decreases (lit< tt), tt)

pub add_simplified-returns-in_err-right : goal.add_simplified-returns-in_err-right
add_simplified-returns-in_err-right t c = λ held h w. added_second _ _ _ c.args.b _ w.1 (c.again.ensures held h w.0) c.in_ok-left.was (λ p. c.again-2.ensures held p.sound (within_older p c.args.b w.1)) c.in_err-right.was c.from_residual-in_err-right.ensures.0

pub add_simplified-again-requires-3 : goal.add_simplified-again-requires-3
add_simplified-again-requires-3 t c = (down c.args.limit.0 2 3 c.decreases (lit< tt), tt)

pub add_simplified-returns : goal.add_simplified-returns
add_simplified-returns t c = λ held h w. added_node _ _ _ c.args.b _ w.1 (c.again.ensures held h w.0) c.in_ok-left.was (λ p. c.again-2.ensures held p.sound (within_older p c.args.b w.1)) c.in_ok-right.was λ g x y. c.again-3.ensures held g (x, y)

pub affine-again-requires : goal.affine-again-requires
affine-again-requires t c = (down c.args.limit.0 2 4 c.decreases (lit< tt), tt)

pub affine-returns-in_err-sum_as : goal.affine-returns-in_err-sum_as
unfolding grown
affine-returns-in_err-sum_as t c = λ held h w. affine_refused _ _ _ c.args.a c.args.x c.args.b _ (c.again.ensures held h w.0) c.in_err-sum_as.was c.from_residual.ensures.0

pub affine-again-requires-2 : goal.affine-again-requires-2
affine-again-requires-2 t c = (down c.args.limit.0 2 4 c.decreases (lit< tt), tt)

pub affine-returns-in_err-sum_bs : goal.affine-returns-in_err-sum_bs
unfolding grown
affine-returns-in_err-sum_bs t c = λ held h w. affine_second _ _ _ c.args.a c.args.x c.args.b _ w.2 (c.again.ensures held h w.0) c.in_ok-sum_as.was (λ p. c.again-2.ensures held p.sound (within_older p c.args.b w.2)) c.in_err-sum_bs.was c.from_residual-in_err-sum_bs.ensures.0

pub affine-regroup-requires : goal.affine-regroup-requires
affine-regroup-requires t c = (down c.args.limit.0 3 4 c.decreases (lit< tt), tt)

pub affine-returns : goal.affine-returns
unfolding grown
affine-returns t c = λ held h w. affine_node _ _ _ c.args.a c.args.x c.args.b _ w.1 w.2 (c.again.ensures held h w.0) c.in_ok-sum_as.was (λ p. c.again-2.ensures held p.sound (within_older p c.args.b w.2)) c.in_ok-sum_bs.was λ g i x j. c.regroup.ensures held g ((i, x), j)

pub again-returns-in_err-added : goal.again-returns-in_err-added
unfolding grown
again-returns-in_err-added t c = λ held h w. again_refused _ _ _ _ (c.add.ensures h w) c.in_err-added.was c.from_residual.ensures.0

pub again-simplify-requires : goal.again-simplify-requires
again-simplify-requires t c = (down c.args.limit.0 1 2 c.decreases (lit< tt), tt)

pub again-returns : goal.again-returns
unfolding grown
again-returns t c = λ held h w. again_node _ _ _ _ (c.add.ensures h w) c.in_ok-added.was λ p. c.simplify.ensures held p.sound p.inside

pub carry_out-store_value-requires-in-Call : goal.carry_out-store_value-requires-in-Call
carry_out-store_value-requires-in-Call t c = tt

pub carry_out-again-requires : goal.carry_out-again-requires
carry_out-again-requires t c = (down c.args.limit.0 2 5 c.decreases (lit< tt), tt)

pub carry_out-inverse-requires : goal.carry_out-inverse-requires
carry_out-inverse-requires t c = (down c.args.limit.0 3 5 c.decreases (lit< tt), tt)

pub carry_out-regroup-requires : goal.carry_out-regroup-requires
carry_out-regroup-requires t c = (down c.args.limit.0 3 5 c.decreases (lit< tt), tt)

pub carry_out-smaller_regrouped-requires : goal.carry_out-smaller_regrouped-requires
carry_out-smaller_regrouped-requires t c = (down c.args.limit.0 4 5 c.decreases (lit< tt), tt)

pub carry_out-distribute-requires : goal.carry_out-distribute-requires
carry_out-distribute-requires t c = (down c.args.limit.0 4 5 c.decreases (lit< tt), tt)

pub carry_out-double-requires : goal.carry_out-double-requires
carry_out-double-requires t c = (down c.args.limit.0 4 5 c.decreases (lit< tt), tt)

pub carry_out-affine-requires : goal.carry_out-affine-requires
carry_out-affine-requires t c = (down c.args.limit.0 4 5 c.decreases (lit< tt), tt)

pub carry_out-returns-in-Use : goal.carry_out-returns-in-Use
unfolding carry_out
carry_out-returns-in-Use t c = rw c.in-Use.is λ held h l. stays h l refl

pub carry_out-returns-in-Build : goal.carry_out-returns-in-Build
unfolding carry_out
carry_out-returns-in-Build t c = rw c.in-Build.is λ held h w. c.add.ensures h w

pub carry_out-returns-in-Fold : goal.carry_out-returns-in-Fold
unfolding carry_out
carry_out-returns-in-Fold t c = rw c.in-Fold.is λ held h w. folded_by _ (c.calculate_infix-asked.ensures held) (c.store_value.ensures h tt)

pub carry_out-returns-in-Call : goal.carry_out-returns-in-Call
unfolding carry_out
carry_out-returns-in-Call t c = rw c.in-Call.is λ held h w. folded_by _ (c.calculate_function-asked.ensures held) (c.store_value-in-Call.ensures h tt)

pub carry_out-returns-in-Again : goal.carry_out-returns-in-Again
unfolding carry_out
carry_out-returns-in-Again t c = rw c.in-Again.is c.again.ensures

pub carry_out-returns-in-Inverse : goal.carry_out-returns-in-Inverse
unfolding carry_out
carry_out-returns-in-Inverse t c = rw c.in-Inverse.is c.inverse.ensures

pub carry_out-returns-in-Regroup : goal.carry_out-returns-in-Regroup
unfolding carry_out
carry_out-returns-in-Regroup t c = rw c.in-Regroup.is c.regroup.ensures

pub carry_out-returns-in-Smaller : goal.carry_out-returns-in-Smaller
unfolding carry_out
carry_out-returns-in-Smaller t c = rw c.in-Smaller.is c.smaller_regrouped.ensures

pub carry_out-returns-in-Distribute : goal.carry_out-returns-in-Distribute
unfolding carry_out
carry_out-returns-in-Distribute t c = rw c.in-Distribute.is c.distribute.ensures

pub carry_out-returns-in-Double : goal.carry_out-returns-in-Double
unfolding carry_out
carry_out-returns-in-Double t c = rw c.in-Double.is c.double.ensures

pub carry_out-returns-in-Affine : goal.carry_out-returns-in-Affine
unfolding carry_out
carry_out-returns-in-Affine t c = rw c.in-Affine.is c.affine.ensures

pub distribute-returns-in_err-product : goal.distribute-returns-in_err-product
distribute-returns-in_err-product t c = λ held h w. lesser_refused _ _ _ _ _ (c.add.ensures h w.0) c.in_err-product.was c.from_residual.ensures.0

pub distribute-add_simplified-requires : goal.distribute-add_simplified-requires
distribute-add_simplified-requires t c = (down c.args.limit.0 3 4 c.decreases (lit< tt), tt)

pub distribute-returns-in_err-sum : goal.distribute-returns-in_err-sum
distribute-returns-in_err-sum t c = λ held h w. lesser_second _ _ _ _ _ (c.add.ensures h w.0) c.in_ok-product.was (λ p. named (added_later _ _ p c.args.a c.args.b w.1 w.2 _) (c.add_simplified.ensures held p.sound (within_older p c.args.a w.1, within_older p c.args.b w.2))) c.in_err-sum.was c.from_residual-in_err-sum.ensures.0

pub distribute-returns : goal.distribute-returns
distribute-returns t c = λ held h w. lesser_node _ _ _ _ _ (c.add.ensures h w.0) c.in_ok-product.was (λ p. named (added_later _ _ p c.args.a c.args.b w.1 w.2 _) (c.add_simplified.ensures held p.sound (within_older p c.args.a w.1, within_older p c.args.b w.2))) c.in_ok-sum.was (λ g. c.smaller.ensures _ g.holds)

pub double-returns-in_err-factor : goal.double-returns-in_err-factor
unfolding grown
double-returns-in_err-factor t c = λ held h w. double_refused _ _ _ _ _ _ _ (rw c.two.ensures at (c.add.ensures h tt)) c.in_err-factor.was c.from_residual.ensures.0

pub double-add_simplified-requires : goal.double-add_simplified-requires
double-add_simplified-requires t c = (down c.args.limit.0 3 4 c.decreases (lit< tt), tt)

pub double-returns : goal.double-returns
unfolding grown
double-returns t c = λ held h w. double_node _ _ _ _ _ _ _ w.0 w.1 w.2 (rw c.two.ensures at (c.add.ensures h tt)) c.in_ok-factor.was λ p. c.add_simplified.ensures held p.sound ((p.inside, older p w.0), (older p w.1, older p w.2))

pub inverse-returns-in_err-dividend : goal.inverse-returns-in_err-dividend
unfolding grown
inverse-returns-in_err-dividend t c = λ held h l. inverse_refused _ _ _ _ _ (rw c.one.ensures at (c.add.ensures h tt)) c.in_err-dividend.was c.from_residual.ensures.0

pub inverse-again-requires : goal.inverse-again-requires
inverse-again-requires t c = (down c.args.limit.0 2 3 c.decreases (lit< tt), tt)

pub inverse-returns : goal.inverse-returns
unfolding grown
inverse-returns t c = λ held h l. inverse_node _ _ _ _ _ l (rw c.one.ensures at (c.add.ensures h tt)) c.in_ok-dividend.was λ p. c.again.ensures held p.sound (p.inside, older p l)

pub perform-simplify_function_call-requires : goal.perform-simplify_function_call-requires
perform-simplify_function_call-requires t c = (falls_to c.args.limit.0 _ 6 c.decreases (λ z. rw c.in-FunctionCall.is at ((decided _ _ _ c.task_at-task.ensures).rests z)) c.lowered-limit.ensures (lit< tt), tt)

pub perform-simplify_infix-requires : goal.perform-simplify_infix-requires
perform-simplify_infix-requires t c = (falls_to c.args.limit.0 _ 6 c.decreases (λ z. rw c.in-Infix.is at ((decided _ _ _ c.task_at-task.ensures).rests z)) c.lowered-limit.ensures (lit< tt), tt)

pub perform-simplify_prefix-requires : goal.perform-simplify_prefix-requires
perform-simplify_prefix-requires t c = (falls_to c.args.limit.0 _ 6 c.decreases (λ z. rw c.in-Prefix.is at ((decided _ _ _ c.task_at-task.ensures).rests z)) c.lowered-limit.ensures (lit< tt), tt)

pub perform-returns-in-NumberOfPi : goal.perform-returns-in-NumberOfPi
unfolding perform grown
perform-returns-in-NumberOfPi t c = λ held h x. performed _ _ _ _ (rw c.in-NumberOfPi.is at (decided _ _ _ c.task_at-task.ensures)) x λ w. rw c.pi.ensures at (c.add.ensures h tt)

pub perform-returns-in-Itself : goal.perform-returns-in-Itself
unfolding perform
perform-returns-in-Itself t c = λ held h x. performed _ _ _ _ (rw c.in-Itself.is at (decided _ _ _ c.task_at-task.ensures)) x λ w. stays h w refl

pub perform-returns-in-FunctionCall : goal.perform-returns-in-FunctionCall
unfolding perform
perform-returns-in-FunctionCall t c = λ held h x. performed _ _ _ _ (rw c.in-FunctionCall.is at (decided _ _ _ c.task_at-task.ensures)) x λ w. rw c.lowered-limit.ensures at (c.simplify_function_call.ensures held h w)

pub perform-returns-in-Infix : goal.perform-returns-in-Infix
unfolding perform
perform-returns-in-Infix t c = λ held h x. performed _ _ _ _ (rw c.in-Infix.is at (decided _ _ _ c.task_at-task.ensures)) x λ w. rw c.lowered-limit.ensures at (c.simplify_infix.ensures held h w)

pub perform-returns-in-Prefix : goal.perform-returns-in-Prefix
unfolding perform
perform-returns-in-Prefix t c = λ held h x. performed _ _ _ _ (rw c.in-Prefix.is at (decided _ _ _ c.task_at-task.ensures)) x λ w. rw c.lowered-limit.ensures at (c.simplify_prefix.ensures held h w)

pub regroup-again-requires : goal.regroup-again-requires
regroup-again-requires t c = (down c.args.limit.0 2 3 c.decreases (lit< tt), tt)

pub regroup-returns-in_err-it : goal.regroup-returns-in_err-it
regroup-returns-in_err-it t c = λ held h w. regroup_refused _ _ _ c.args.inner c.args.outer _ (c.again.ensures held h w.0) c.in_err-it.was c.from_residual.ensures.0

pub regroup-again-requires-2 : goal.regroup-again-requires-2
regroup-again-requires-2 t c = (down c.args.limit.0 2 3 c.decreases (lit< tt), tt)

pub regroup-returns : goal.regroup-returns
regroup-returns t c = λ held h w. regroup_node _ _ _ c.args.inner c.args.outer _ w.1 c.applied.ensures (c.again.ensures held h w.0) c.in_ok-it.was λ p v. c.again-2.ensures held p.sound v

pub simplify-returns-in-Some : goal.simplify-returns-in-Some
simplify-returns-in-Some t c = λ held h l. was_kept _ _ _ l h c.count_call.ensures c.kept_at.ensures c.in-Some.is

pub simplify-perform-requires : goal.simplify-perform-requires
simplify-perform-requires t c = (down c.args.limit.0 0 1 c.decreases (lit< tt), tt)

pub simplify-returns-in_err-answer : goal.simplify-returns-in_err-answer
simplify-returns-in_err-answer t c =
    λ held h l.
    let s = sound_counted _ c.count_call.ensures _ h in
    let e = sits s.holds (still _ c.count_call.ensures l) c.expression_at-e.ensures in
    was_refused _ _ _ l h c.count_call.ensures c.kept_at.ensures c.in_default.is e (c.perform.ensures held s e) c.in_err-answer.was c.from_residual.ensures.0

pub simplify-returns : goal.simplify-returns
simplify-returns t c =
    λ held h l.
    let s = sound_counted _ c.count_call.ensures _ h in
    let e = sits s.holds (still _ c.count_call.ensures l) c.expression_at-e.ensures in
    was_done _ _ _ l h c.count_call.ensures c.kept_at.ensures c.in_default.is e (c.perform.ensures held s e) c.in_ok-answer.was c.keep.ensures

pub simplify_function_call-simplify-requires : goal.simplify_function_call-simplify-requires
simplify_function_call-simplify-requires t c = (down c.args.limit.0 1 6 c.decreases (lit< tt), tt)

pub simplify_function_call-returns-in_err-x : goal.simplify_function_call-returns-in_err-x
unfolding simplify_function_call
simplify_function_call-returns-in_err-x t c = λ held h l. then_refused _ (c.simplify.ensures held h l) c.in_err-x.was c.from_residual.ensures.0

pub simplify_function_call-carry_out-requires : goal.simplify_function_call-carry_out-requires
simplify_function_call-carry_out-requires t c = (lowered c.args.limit.0 _ 5 6 c.decreases c.lowered-limit.ensures (lit< tt), tt)

pub simplify_function_call-returns : goal.simplify_function_call-returns
unfolding simplify_function_call
simplify_function_call-returns t c = λ held h l. then_node _ (c.simplify.ensures held h l) c.in_ok-x.was λ p. carried _ _ c.lowered-limit.ensures (c.choose_function-arm.ensures _ p.sound.holds p.inside) (c.carry_out.ensures held p.sound)

pub simplify_infix-simplify-requires : goal.simplify_infix-simplify-requires
simplify_infix-simplify-requires t c = (down c.args.limit.0 1 6 c.decreases (lit< tt), tt)

pub simplify_infix-returns-in_err-x : goal.simplify_infix-returns-in_err-x
unfolding simplify_infix
simplify_infix-returns-in_err-x t c = λ held h w. then_refused _ (c.simplify.ensures held h w.0) c.in_err-x.was c.from_residual.ensures.0

pub simplify_infix-simplify-requires-2 : goal.simplify_infix-simplify-requires-2
simplify_infix-simplify-requires-2 t c = (down c.args.limit.0 1 6 c.decreases (lit< tt), tt)

pub simplify_infix-returns-in_err-y : goal.simplify_infix-returns-in_err-y
unfolding simplify_infix
simplify_infix-returns-in_err-y t c = λ held h w. then_node _ (c.simplify.ensures held h w.0) c.in_ok-x.was λ p. then_refused _ (later _ _ _ (p.stays _ w.1) (c.simplify-2.ensures held p.sound (older p w.1))) c.in_err-y.was c.from_residual-in_err-y.ensures.0

pub simplify_infix-carry_out-requires : goal.simplify_infix-carry_out-requires
simplify_infix-carry_out-requires t c = (lowered c.args.limit.0 _ 5 6 c.decreases c.lowered-limit.ensures (lit< tt), tt)

pub simplify_infix-returns : goal.simplify_infix-returns
unfolding simplify_infix
simplify_infix-returns t c = λ held h w. then_node _ (c.simplify.ensures held h w.0) c.in_ok-x.was λ p. then_node _ (later _ _ _ (p.stays _ w.1) (c.simplify-2.ensures held p.sound (older p w.1))) c.in_ok-y.was λ q. carried _ _ c.lowered-limit.ensures (chosen_later _ _ (q.stays _ p.inside) (c.choose_infix-arm.ensures _ q.sound.holds (older q p.inside) q.inside)) (c.carry_out.ensures held q.sound)

pub simplify_prefix-simplify-requires : goal.simplify_prefix-simplify-requires
simplify_prefix-simplify-requires t c = (down c.args.limit.0 1 6 c.decreases (lit< tt), tt)

pub simplify_prefix-returns-in_err-x : goal.simplify_prefix-returns-in_err-x
unfolding simplify_prefix
simplify_prefix-returns-in_err-x t c = λ held h l. then_refused _ (c.simplify.ensures held h l) c.in_err-x.was c.from_residual.ensures.0

pub simplify_prefix-carry_out-requires : goal.simplify_prefix-carry_out-requires
simplify_prefix-carry_out-requires t c = (lowered c.args.limit.0 _ 5 6 c.decreases c.lowered-limit.ensures (lit< tt), tt)

pub simplify_prefix-returns : goal.simplify_prefix-returns
unfolding simplify_prefix
simplify_prefix-returns t c = λ held h l. then_node _ (c.simplify.ensures held h l) c.in_ok-x.was λ p. carried _ _ c.lowered-limit.ensures (c.choose_prefix-arm.ensures _ p.sound.holds p.inside) (c.carry_out.ensures held p.sound)

pub smaller_regrouped-returns-in_err-first : goal.smaller_regrouped-returns-in_err-first
smaller_regrouped-returns-in_err-first t c = λ held h w. lesser_refused _ _ _ _ _ (c.add.ensures h w.0) c.in_err-first.was c.from_residual.ensures.0

pub smaller_regrouped-regroup-requires : goal.smaller_regrouped-regroup-requires
smaller_regrouped-regroup-requires t c = (down c.args.limit.0 3 4 c.decreases (lit< tt), tt)

pub smaller_regrouped-returns-in_err-second : goal.smaller_regrouped-returns-in_err-second
smaller_regrouped-returns-in_err-second t c = λ held h w. lesser_second _ _ _ _ _ (c.add.ensures h w.0) c.in_ok-first.was (λ p. named (regroup_later _ _ p c.args.e c.args.outer w.1 w.2 _) (c.regroup.ensures held p.sound (within_older p c.args.e w.1, outer_older p c.args.outer w.2))) c.in_err-second.was c.from_residual-in_err-second.ensures.0

pub smaller_regrouped-returns : goal.smaller_regrouped-returns
smaller_regrouped-returns t c = λ held h w. lesser_node _ _ _ _ _ (c.add.ensures h w.0) c.in_ok-first.was (λ p. named (regroup_later _ _ p c.args.e c.args.outer w.1 w.2 _) (c.regroup.ensures held p.sound (within_older p c.args.e w.1, outer_older p c.args.outer w.2))) c.in_ok-second.was (λ g. c.smaller.ensures _ g.holds)
