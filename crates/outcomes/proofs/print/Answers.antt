-- `print` meets its contract. Assumes nothing.
use Rattle.outcomes.proofs.Telling.{prints_standing, prints_refusal, prints_too_long}
use Rattle.outcomes.proofs.print.Goals as goal

pub returns-in-Printed : goal.returns-in-Printed
returns-in-Printed c = prints_standing c.in-Printed.is c.requires.1

pub returns-in-Printed-2 : goal.returns-in-Printed-2
returns-in-Printed-2 c = prints_standing c.in-Printed.is c.requires.1

pub returns-in-Refused : goal.returns-in-Refused
returns-in-Refused c = prints_refusal c.in-Refused.is (c.print_refusal.ensures.put, c.print_refusal.ensures.within)

pub returns-in-TooLong : goal.returns-in-TooLong
returns-in-TooLong c = prints_too_long c.in-TooLong.is (c.write_refused.ensures.put, c.write_refused.ensures.within)
