-- `say` meets its contract. Assumes nothing.
use Rattle.outcomes.specs.declared.Outcome.{Outcome}
use Rattle.outcomes.proofs.Telling.{nothing_said, says_of}
use Rattle.outcomes.proofs.say.Goals as goal

pub returns-in-Printed : goal.returns-in-Printed
returns-in-Printed c = record { put = (says_of (Outcome.Printed _) c.in-Printed.is (nothing_said _)).0; within = (says_of (Outcome.Printed _) c.in-Printed.is (nothing_said _)).1 }

pub returns-in-Simplified : goal.returns-in-Simplified
returns-in-Simplified c = record { put = (says_of (Outcome.Simplified _ _) c.in-Simplified.is (c.write_calls.ensures.put, c.write_calls.ensures.within)).0; within = (says_of (Outcome.Simplified _ _) c.in-Simplified.is (c.write_calls.ensures.put, c.write_calls.ensures.within)).1 }

pub returns-in-Refused : goal.returns-in-Refused
returns-in-Refused c = record { put = (says_of (Outcome.Refused _ _) c.in-Refused.is (c.write_sentence.ensures.put, c.write_sentence.ensures.within)).0; within = (says_of (Outcome.Refused _ _) c.in-Refused.is (c.write_sentence.ensures.put, c.write_sentence.ensures.within)).1 }

pub returns-in-TooLong : goal.returns-in-TooLong
returns-in-TooLong c = record { put = (says_of Outcome.TooLong c.in-TooLong.is (c.write_too_long.ensures.put, c.write_too_long.ensures.within)).0; within = (says_of Outcome.TooLong c.in-TooLong.is (c.write_too_long.ensures.put, c.write_too_long.ensures.within)).1 }
