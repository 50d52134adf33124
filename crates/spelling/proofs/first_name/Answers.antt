-- `first_name` meets its contract: the first of the words that stands there. Assumes nothing.
use Rattle.std.proofs.Common.{sym, ◌∙◌}
use Rattle.text.proofs.Fields.{name_here, name_later, name_none}
use Rattle.spelling.proofs.first_name.Goals as goal

pub returns-in-Some : goal.returns-in-Some
returns-in-Some c = sym (name_here _ _ _ _ c.in-Some.ensures.cases.0 c.in-Some.ensures.cases.1)

pub returns-in-Some-strip_prefix : goal.returns-in-Some-strip_prefix
returns-in-Some-strip_prefix c = sym (name_later _ _ _ _ c.in_default.ensures.cases ∙ name_here _ _ _ _ c.in-Some-strip_prefix.ensures.cases.0 c.in-Some-strip_prefix.ensures.cases.1)

pub returns-in-Some-strip_prefix-2 : goal.returns-in-Some-strip_prefix-2
returns-in-Some-strip_prefix-2 c = sym (name_later _ _ _ _ c.in_default.ensures.cases ∙ name_later _ _ _ _ c.in_default-strip_prefix.ensures.cases ∙ name_here _ _ _ _ c.in-Some-strip_prefix-2.ensures.cases.0 c.in-Some-strip_prefix-2.ensures.cases.1)

pub returns-in-Some-strip_prefix-3 : goal.returns-in-Some-strip_prefix-3
returns-in-Some-strip_prefix-3 c = sym (name_later _ _ _ _ c.in_default.ensures.cases ∙ name_later _ _ _ _ c.in_default-strip_prefix.ensures.cases ∙ name_later _ _ _ _ c.in_default-strip_prefix-2.ensures.cases ∙ name_here _ _ _ _ c.in-Some-strip_prefix-3.ensures.cases.0 c.in-Some-strip_prefix-3.ensures.cases.1)

pub returns-in_err-rest : goal.returns-in_err-rest
returns-in_err-rest c = rw c.from_residual.ensures (sym (name_later _ _ _ _ c.in_default.ensures.cases ∙ name_later _ _ _ _ c.in_default-strip_prefix.ensures.cases ∙ name_later _ _ _ _ c.in_default-strip_prefix-2.ensures.cases ∙ name_later _ _ _ _ c.in_default-strip_prefix-3.ensures.cases ∙ name_later _ _ _ _ c.in_err-rest.ensures.cases ∙ name_none _ _))

pub returns : goal.returns
returns c = sym (name_later _ _ _ _ c.in_default.ensures.cases ∙ name_later _ _ _ _ c.in_default-strip_prefix.ensures.cases ∙ name_later _ _ _ _ c.in_default-strip_prefix-2.ensures.cases ∙ name_later _ _ _ _ c.in_default-strip_prefix-3.ensures.cases ∙ name_here _ _ _ _ c.in_ok-rest.ensures.cases.0 c.in_ok-rest.ensures.cases.1)
