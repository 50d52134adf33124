-- `read_words` meets its contract. Assumes nothing.
use mathlib.Core.Path.{◌∙◌}
use Rattle.commands.proofs.Requests.{then_file}
use Rattle.commands.specs.Words.{with_file}
use Rattle.commands.proofs.words.read_words.Goals as goal

pub returns-in-Job : goal.returns-in-Job
unfolding with_file
returns-in-Job c = (c.with_file.ensures.0 ∙ then_file _ c.first_word-first.ensures _ c.in-Job.is, c.with_file.ensures.1)

pub returns-in-Help : goal.returns-in-Help
unfolding with_file
returns-in-Help c = (then_file _ c.first_word-first.ensures _ c.in-Help.is, tt)

pub returns-in-Version : goal.returns-in-Version
unfolding with_file
returns-in-Version c = (then_file _ c.first_word-first.ensures _ c.in-Version.is, tt)

pub returns-in-Nothing : goal.returns-in-Nothing
unfolding with_file
returns-in-Nothing c = (then_file _ c.first_word-first.ensures _ c.in-Nothing.is, tt)

pub returns-in-Unknown : goal.returns-in-Unknown
unfolding with_file
returns-in-Unknown c = (then_file _ c.first_word-first.ensures _ c.in-Unknown.is, tt)

pub returns-in-TooMany : goal.returns-in-TooMany
unfolding with_file
returns-in-TooMany c = (then_file _ c.first_word-first.ensures _ c.in-TooMany.is, tt)
