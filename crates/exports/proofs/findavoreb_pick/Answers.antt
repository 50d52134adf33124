-- `findavoreb_pick` meets its contract. Assumes nothing.
use Rattle.exports.proofs.Answers.{picks_first, picks_second, picks_nothing}
use Rattle.exports.proofs.findavoreb_pick.Goals as goal

pub returns-in-First : goal.returns-in-First
returns-in-First c = picks_first _ _ c.which-choice.ensures c.in-First.is c.put_two.ensures

pub returns-in-Second : goal.returns-in-Second
returns-in-Second c = picks_second _ _ c.which-choice.ensures c.in-Second.is c.put_two-in-Second.ensures

pub returns-in-Nothing : goal.returns-in-Nothing
returns-in-Nothing c = picks_nothing _ _ c.which-choice.ensures c.in-Nothing.is c.put_two-in-Nothing.ensures
