-- `job_word` meets its contract. Assumes nothing.
use mathlib.Core.Path.{◌∙◌}
use Rattle.commands.specs.declared.words.Command.{Command}
use Rattle.commands.specs.declared.words.Parted.{Parted}
use Rattle.commands.specs.declared.words.Whole.{Whole}
use Rattle.commands.proofs.Requests.{takes_marks, takes_origins}
use Rattle.commands.proofs.Choosing.{chosen, passed}
use Rattle.commands.specs.Words.{job_word}
use Rattle.commands.proofs.words.job_word.Goals as goal

pub returns-then-word_at : goal.returns-then-word_at
unfolding job_word
returns-then-word_at c = rw (c.is_some.ensures, c.unwrap_or.ensures) (takes_marks c.args.words.now 9 Parted.Evaluate c.find_at-marks.result c.find_at-marks.ensures ∙ chosen c.word_at.ensures c.if-word_at.true _ _)

pub returns-then-word_at-2 : goal.returns-then-word_at-2
unfolding job_word
returns-then-word_at-2 c = rw (c.is_some-then-word_at-2.ensures, c.unwrap_or-then-word_at-2.ensures) (passed c.word_at.ensures c.if-word_at.false _ _ (takes_origins c.args.words.now 11 (λ traced. Command.Whole (Whole.Substitute traced)) c.find_at-origins.result c.find_at-origins.ensures ∙ chosen c.word_at-2.ensures c.if-word_at-2.true _ _))

pub returns-then-word_at-3 : goal.returns-then-word_at-3
unfolding job_word
returns-then-word_at-3 c = passed c.word_at.ensures c.if-word_at.false _ _ (passed c.word_at-2.ensures c.if-word_at-2.false _ _ (chosen c.word_at-3.ensures c.if-word_at-3.true _ _))

pub returns-then-word_at-4 : goal.returns-then-word_at-4
unfolding job_word
returns-then-word_at-4 c = passed c.word_at.ensures c.if-word_at.false _ _ (passed c.word_at-2.ensures c.if-word_at-2.false _ _ (passed c.word_at-3.ensures c.if-word_at-3.false _ _ (c.at_limit.ensures ∙ chosen c.word_at-4.ensures c.if-word_at-4.true _ _)))

pub returns-then-word_at-5 : goal.returns-then-word_at-5
unfolding job_word
returns-then-word_at-5 c = passed c.word_at.ensures c.if-word_at.false _ _ (passed c.word_at-2.ensures c.if-word_at-2.false _ _ (passed c.word_at-3.ensures c.if-word_at-3.false _ _ (passed c.word_at-4.ensures c.if-word_at-4.false _ _ (chosen c.word_at-5.ensures c.if-word_at-5.true _ _))))

pub returns : goal.returns
unfolding job_word
returns c = passed c.word_at.ensures c.if-word_at.false _ _ (passed c.word_at-2.ensures c.if-word_at-2.false _ _ (passed c.word_at-3.ensures c.if-word_at-3.false _ _ (passed c.word_at-4.ensures c.if-word_at-4.false _ _ (passed c.word_at-5.ensures c.if-word_at-5.false _ _ c.tape_word.ensures))))
