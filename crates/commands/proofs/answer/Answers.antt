-- `answer` meets its contract. Assumes nothing.
use mathlib.Core.Path.{refl}
use Rattle.commands.specs.declared.words.Asked.{Asked}
use Rattle.commands.specs.Printing.{output_of, said_of}
use Rattle.commands.proofs.Answering.{answers_job, answers_out, answers_said, names_word}
use Rattle.commands.proofs.answer.Goals as goal

pub returns-in-Job : goal.returns-in-Job
unfolding output_of said_of
returns-in-Job c = answers_job c.read_words-asked.ensures.0 c.args.input.now c.args.out.now c.in-Job.is c.run_job.ensures

pub returns-in-Help : goal.returns-in-Help
unfolding output_of said_of
returns-in-Help c = answers_out c.read_words-asked.ensures.0 c.args.input.now c.args.out.now Asked.Help c.in-Help.is (c.write_help.ensures.put, c.write_help.ensures.within) refl

pub returns-in-Version : goal.returns-in-Version
unfolding output_of said_of
returns-in-Version c = answers_out c.read_words-asked.ensures.0 c.args.input.now c.args.out.now Asked.Version c.in-Version.is (c.write_version.ensures.put, c.write_version.ensures.within) refl

pub returns-in-Nothing : goal.returns-in-Nothing
unfolding output_of said_of
returns-in-Nothing c = answers_said c.read_words-asked.ensures.0 c.args.input.now c.args.out.now Asked.Nothing c.in-Nothing.is (c.write_usage.ensures.put, c.write_usage.ensures.within) refl

pub returns-in-Unknown : goal.returns-in-Unknown
unfolding output_of said_of
returns-in-Unknown c = answers_said c.read_words-asked.ensures.0 c.args.input.now c.args.out.now Asked.Unknown c.in-Unknown.is (names_word c.first_length-n.ensures.words_value (c.write_unknown.ensures.put, c.write_unknown.ensures.within)) refl

pub returns-in-TooMany : goal.returns-in-TooMany
unfolding output_of said_of
returns-in-TooMany c = answers_said c.read_words-asked.ensures.0 c.args.input.now c.args.out.now Asked.TooMany c.in-TooMany.is (c.write_too_many.ensures.put, c.write_too_many.ensures.within) refl
