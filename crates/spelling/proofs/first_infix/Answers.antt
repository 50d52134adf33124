-- `first_infix` meets its contract: by the first byte. Assumes nothing.
use Rattle.std.proofs.Common.{arith, ne_eqb}
use Rattle.text.specs.Reading.{name_from, starts}
use Rattle.std.proofs.lemmas.List.{nil_from_length}
use Rattle.spelling.proofs.first_infix.Goals as goal

pub returns-in_err-b : goal.returns-in_err-b
unfolding name_from starts
returns-in_err-b c = rw (c.from_residual.ensures, nil_from_length c.args.s.now c.in_err-b.ensures.cases)

pub returns-in-43 : goal.returns-in-43
unfolding name_from starts
returns-in-43 c = rw (c.in_ok-b.ensures.cases.0, c.in-43.is)

pub returns-in-45 : goal.returns-in-45
unfolding name_from starts
returns-in-45 c = rw (c.in_ok-b.ensures.cases.0, c.in-45.is)

pub returns-in-42 : goal.returns-in-42
unfolding name_from starts
returns-in-42 c = rw (c.in_ok-b.ensures.cases.0, c.in-42.is)

pub returns-in-47 : goal.returns-in-47
unfolding name_from starts
returns-in-47 c = rw (c.in_ok-b.ensures.cases.0, c.in-47.is)

pub returns-in-94 : goal.returns-in-94
unfolding name_from starts
returns-in-94 c = rw (c.in_ok-b.ensures.cases.0, c.in-94.is)

pub returns-in_default : goal.returns-in_default
unfolding name_from starts
returns-in_default c = rw (c.in_ok-b.ensures.cases.0, ne_eqb c.in_ok-b.field-0-0.now 43 (λ e. omega (arith, e)), ne_eqb c.in_ok-b.field-0-0.now 45 (λ e. omega (arith, e)), ne_eqb c.in_ok-b.field-0-0.now 42 (λ e. omega (arith, e)), ne_eqb c.in_ok-b.field-0-0.now 47 (λ e. omega (arith, e)), ne_eqb c.in_ok-b.field-0-0.now 94 (λ e. omega (arith, e)))
