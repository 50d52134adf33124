-- `with_file` meets its contract. Assumes nothing.
use Rattle.std.proofs.Common.{sym, ◌∙◌}
use Rattle.commands.proofs.Requests.{no_file, too_many_lem, one_file}
use Rattle.commands.proofs.words.with_file.Goals as goal

pub returns-then-words-at : goal.returns-then-words-at
returns-then-words-at c = no_file c.args.words.now c.args.command c.args.at c.if-words-at.true

pub returns-then-not-is_empty : goal.returns-then-not-is_empty
returns-then-not-is_empty c = (too_many_lem c.args.words.now c.args.command c.args.at c.if-words-at.false c.next_line.ensures (sym c.is_empty.ensures ∙ c.if-not-is_empty.true), tt)

pub returns : goal.returns
returns c = one_file c.args.words.now c.args.command c.args.at c.if-words-at.false c.next_line.ensures (sym c.is_empty.ensures ∙ c.if-not-is_empty.false)
