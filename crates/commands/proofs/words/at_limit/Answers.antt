-- `at_limit` meets its contract. Assumes nothing.
use Rattle.std.proofs.Common.{◌∙◌, arith}
use Rattle.commands.proofs.Requests.{limit_inside, limit_read, no_limit}
use Rattle.commands.proofs.words.at_limit.Goals as goal

pub overflow_sub-words : goal.overflow_sub-words
overflow_sub-words c = let l = limit_inside c.args.words.now c.args.at c.min.ensures _ c.decimal_field.ensures c.in-Some.is in omega (arith, l)

pub returns-in-Some : goal.returns-in-Some
returns-in-Some c = c.simplify_at.ensures ∙ limit_read c.args.words.now c.args.at c.min.ensures _ c.decimal_field.ensures c.in-Some.is

pub returns-in-None : goal.returns-in-None
returns-in-None c = c.simplify_at-in-None.ensures ∙ no_limit c.args.words.now c.args.at c.min.ensures _ c.decimal_field.ensures c.in-None.is
