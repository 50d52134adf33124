-- `tape_word` meets its contract. Assumes nothing.
use mathlib.Core.Path.{refl, ◌∙◌}
use Rattle.commands.specs.declared.words.Parted.{Parted}
use Rattle.commands.proofs.Requests.{takes_marks}
use Rattle.commands.proofs.Choosing.{chosen, passed}
use Rattle.commands.specs.Words.{tape_word}
use Rattle.commands.proofs.words.tape_word.Goals as goal

pub returns-then-word_at : goal.returns-then-word_at
unfolding tape_word
returns-then-word_at c = chosen c.word_at.ensures c.if-word_at.true _ _

pub returns-then-word_at-2 : goal.returns-then-word_at-2
unfolding tape_word
returns-then-word_at-2 c = rw (c.is_some.ensures, c.unwrap_or.ensures) (passed c.word_at.ensures c.if-word_at.false _ _ (takes_marks c.args.words.now 5 Parted.Play c.find_at-marks.result c.find_at-marks.ensures ∙ chosen c.word_at-2.ensures c.if-word_at-2.true _ _))

pub returns-then-word_at-3 : goal.returns-then-word_at-3
unfolding tape_word
returns-then-word_at-3 c = passed c.word_at.ensures c.if-word_at.false _ _ (passed c.word_at-2.ensures c.if-word_at-2.false _ _ (chosen c.word_at-3.ensures c.if-word_at-3.true _ _))

pub returns-then-word_at-4 : goal.returns-then-word_at-4
unfolding tape_word
returns-then-word_at-4 c = passed c.word_at.ensures c.if-word_at.false _ _ (passed c.word_at-2.ensures c.if-word_at-2.false _ _ (passed c.word_at-3.ensures c.if-word_at-3.false _ _ (chosen c.word_at-4.ensures c.if-word_at-4.true _ _)))

pub returns : goal.returns
unfolding tape_word
returns c = passed c.word_at.ensures c.if-word_at.false _ _ (passed c.word_at-2.ensures c.if-word_at-2.false _ _ (passed c.word_at-3.ensures c.if-word_at-3.false _ _ (passed c.word_at-4.ensures c.if-word_at-4.false _ _ (refl))))
