-- `read_field` meets its contract: the tests on the kind pick the case of the definition. Assumes nothing.
use borrow.Author.Tests.{eq-eqb, ne_eqb}
use Rattle.faults.specs.Faulting.{read}
use Rattle.faults.proofs.fields.read_field.Goals as goal

pub returns-then-kind-eq72 : goal.returns-then-kind-eq72
unfolding read
returns-then-kind-eq72 c = rw (eq-eqb _ _ c.if-kind-eq72.true) c.read_hex.ensures

pub returns-then-kind-eq78 : goal.returns-then-kind-eq78
unfolding read
returns-then-kind-eq78 c = rw (ne_eqb _ _ c.if-kind-eq72.false, eq-eqb _ _ c.if-kind-eq78.true) c.read_decimal.ensures

pub returns-then-kind-eq73 : goal.returns-then-kind-eq73
unfolding read
returns-then-kind-eq73 c = rw (ne_eqb _ _ c.if-kind-eq72.false, ne_eqb _ _ c.if-kind-eq78.false, eq-eqb _ _ c.if-kind-eq73.true) c.read_decimal-then-kind-eq73.ensures

pub returns-then-kind-eq64 : goal.returns-then-kind-eq64
unfolding read
returns-then-kind-eq64 c = rw (ne_eqb _ _ c.if-kind-eq72.false, ne_eqb _ _ c.if-kind-eq78.false, ne_eqb _ _ c.if-kind-eq73.false, eq-eqb _ _ c.if-kind-eq64.true) c.read_origin.ensures

pub returns : goal.returns
unfolding read
returns c = rw (ne_eqb _ _ c.if-kind-eq72.false, ne_eqb _ _ c.if-kind-eq78.false, ne_eqb _ _ c.if-kind-eq73.false, ne_eqb _ _ c.if-kind-eq64.false) c.read_words.ensures
