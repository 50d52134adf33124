-- `complex::equality::identical` meets its contract: both parts are. Assumes nothing.
use Rattle.std.proofs.Common.{◌∙◌}
use Rattle.complex.specs.Equality.{identical_doubles, identical}
use Rattle.complex.proofs.Tests.{both_yes, first_no}
use Rattle.complex.proofs.equality.identical.Goals as goal

pub returns-then-identical_doubles : goal.returns-then-identical_doubles
unfolding identical
returns-then-identical_doubles c = both_yes c.if-identical_doubles.true c.identical_doubles.ensures c.identical_doubles-then-identical_doubles.ensures

pub returns-else-identical_doubles : goal.returns-else-identical_doubles
unfolding identical
returns-else-identical_doubles c =
    let s = c.args in
    c.if-identical_doubles.false ∙ first_no (identical_doubles s.x.im s.y.im) c.if-identical_doubles.false c.identical_doubles.ensures
