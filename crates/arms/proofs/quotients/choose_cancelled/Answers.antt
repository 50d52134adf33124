-- `choose_cancelled` meets its contract. Assumes nothing.
use mathlib.Core.Path.{refl}
use Rattle.arms.specs.Tables.{cancelled}
use Rattle.arms.proofs.Choosing.{hit, past, use_it, inverse}
use Rattle.arms.proofs.quotients.choose_cancelled.Goals as goal

pub returns-in-Some : goal.returns-in-Some
unfolding cancelled
returns-in-Some c = λ n h x y. let p = c.in-Some.ensures n _ h x.within y.at in hit _ p.0 (use_it p.1)

pub returns-in-Some-beside_last : goal.returns-in-Some-beside_last
unfolding cancelled
returns-in-Some-beside_last c = λ n h x y. let p = c.in-Some-beside_last.ensures n _ h x.within y.at in past _ (c.in_default.ensures n _ h x.within y.at) (hit _ p.0 (use_it p.1))

pub returns-in-Some-beside_first : goal.returns-in-Some-beside_first
unfolding cancelled
returns-in-Some-beside_first c = λ n h x y. let p = c.in-Some-beside_first.ensures n _ h y.within x.at in past _ (c.in_default.ensures n _ h x.within y.at) (past _ (c.in_default-beside_last.ensures n _ h x.within y.at) (hit _ p.0 (inverse p.1)))

pub returns-in-Some-beside_last-2 : goal.returns-in-Some-beside_last-2
unfolding cancelled
returns-in-Some-beside_last-2 c = λ n h x y. let p = c.in-Some-beside_last-2.ensures n _ h y.within x.at in past _ (c.in_default.ensures n _ h x.within y.at) (past _ (c.in_default-beside_last.ensures n _ h x.within y.at) (past _ (c.in_default-beside_first.ensures n _ h y.within x.at) (hit _ p.0 (inverse p.1))))

pub returns : goal.returns
unfolding cancelled
returns c = λ n h x y. past _ (c.in_default.ensures n _ h x.within y.at) (past _ (c.in_default-beside_last.ensures n _ h x.within y.at) (past _ (c.in_default-beside_first.ensures n _ h y.within x.at) (past _ (c.in_default-beside_last-2.ensures n _ h y.within x.at) (c.choose_split.ensures _ n x y refl))))
