-- `one_word` meets its contract. Assumes nothing.
use Rattle.std.proofs.Common.{sym, ◌∙◌}
use Rattle.text.proofs.Fields.{name_here, name_later, name_none}
use Rattle.faults.proofs.fields.one_word.Goals as goal

pub returns-in_err-rest : goal.returns-in_err-rest
returns-in_err-rest c = rw c.from_residual.ensures (sym (name_later _ _ _ _ c.in_err-rest.ensures.cases ∙ name_none _ _))

pub returns : goal.returns
returns c = sym (name_here _ _ _ _ c.in_ok-rest.ensures.cases.0 c.in_ok-rest.ensures.cases.1)
