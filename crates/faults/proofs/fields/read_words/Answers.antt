-- `read_words` meets its contract: the tests on the kind pick the case of the definition. Assumes nothing.
use borrow.Author.Tests.{eq-eqb, ne_eqb}
use Rattle.faults.specs.Faulting.{words_of}
use Rattle.faults.proofs.fields.read_words.Goals as goal

pub returns-then-kind-eq70 : goal.returns-then-kind-eq70
unfolding words_of
returns-then-kind-eq70 c = rw (eq-eqb _ _ c.if-kind-eq70.true) c.first_function.ensures

pub returns-then-kind-eq79 : goal.returns-then-kind-eq79
unfolding words_of
returns-then-kind-eq79 c = rw (ne_eqb _ _ c.if-kind-eq70.false, eq-eqb _ _ c.if-kind-eq79.true) c.first_operation.ensures

pub returns-then-kind-eq85 : goal.returns-then-kind-eq85
unfolding words_of
returns-then-kind-eq85 c = rw (ne_eqb _ _ c.if-kind-eq70.false, ne_eqb _ _ c.if-kind-eq79.false, eq-eqb _ _ c.if-kind-eq85.true) c.first_prefix.ensures

pub returns-then-kind-eq66 : goal.returns-then-kind-eq66
unfolding words_of
returns-then-kind-eq66 c = rw (ne_eqb _ _ c.if-kind-eq70.false, ne_eqb _ _ c.if-kind-eq79.false, ne_eqb _ _ c.if-kind-eq85.false, eq-eqb _ _ c.if-kind-eq66.true) c.first_infix.ensures

pub returns-then-kind-eq90 : goal.returns-then-kind-eq90
unfolding words_of
returns-then-kind-eq90 c = rw (ne_eqb _ _ c.if-kind-eq70.false, ne_eqb _ _ c.if-kind-eq79.false, ne_eqb _ _ c.if-kind-eq85.false, ne_eqb _ _ c.if-kind-eq66.false, eq-eqb _ _ c.if-kind-eq90.true) c.one_word.ensures

pub returns : goal.returns
unfolding words_of
returns c = rw (ne_eqb _ _ c.if-kind-eq70.false, ne_eqb _ _ c.if-kind-eq79.false, ne_eqb _ _ c.if-kind-eq85.false, ne_eqb _ _ c.if-kind-eq66.false, ne_eqb _ _ c.if-kind-eq90.false) c.one_word-2.ensures
