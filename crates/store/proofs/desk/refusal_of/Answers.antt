-- `refusal_of` meets its contract: by the number. Assumes nothing.
use Rattle.std.proofs.Common.{rules}
use Rattle.std.proofs.lemmas.Bool.Decides.{nat_tests}
use native.Mathlib.Omega.{arith}
use Rattle.store.specs.Desk.{refusal_on, why_on}
use Rattle.store.proofs.desk.refusal_of.Goals as goal

pub returns-in-6 : goal.returns-in-6
unfolding refusal_on why_on
returns-in-6 c = search rules

pub returns-in-7 : goal.returns-in-7
unfolding refusal_on why_on
returns-in-7 c = search rules

pub returns-in-8 : goal.returns-in-8
unfolding refusal_on why_on
returns-in-8 c = search rules

pub returns-in-9 : goal.returns-in-9
unfolding refusal_on why_on
returns-in-9 c = rw c.in-9.is c.need_on.ensures

pub returns-in_default : goal.returns-in_default
unfolding refusal_on why_on
returns-in_default c = grind (arith, nat_tests)
