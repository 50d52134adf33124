-- `complex::equality::equal` meets its contract: both parts are. Assumes nothing.
use Rattle.std.proofs.Common.{◌∙◌}
use Rattle.complex.specs.Equality.{equal_doubles, equal}
use Rattle.complex.proofs.Tests.{both_yes, first_no}
use Rattle.complex.proofs.equality.equal.Goals as goal

pub returns-then-equal_doubles : goal.returns-then-equal_doubles
unfolding equal
returns-then-equal_doubles c = both_yes c.if-equal_doubles.true c.equal_doubles.ensures c.equal_doubles-then-equal_doubles.ensures

pub returns-else-equal_doubles : goal.returns-else-equal_doubles
unfolding equal
returns-else-equal_doubles c =
    let s = c.args in
    c.if-equal_doubles.false ∙ first_no (equal_doubles s.x.im s.y.im) c.if-equal_doubles.false c.equal_doubles.ensures
