-- `first_word` meets its contract. Assumes nothing.
use mathlib.Core.Path.{refl}
use borrow.Author.Tests.{eq-eqb, ne_eqb}
use Rattle.commands.proofs.Choosing.{chosen, passed}
use Rattle.commands.specs.Words.{first_word}
use Rattle.commands.proofs.words.first_word.Goals as goal

pub returns-then-words-eq0 : goal.returns-then-words-eq0
unfolding first_word
returns-then-words-eq0 c = chosen refl (eq-eqb _ _ c.if-words-eq0.true) _ _

pub returns-then-word_at : goal.returns-then-word_at
unfolding first_word
returns-then-word_at c = passed refl (ne_eqb _ _ c.if-words-eq0.false) _ _ (chosen c.word_at.ensures c.if-word_at.true _ _)

pub returns-then-word_at-2 : goal.returns-then-word_at-2
unfolding first_word
returns-then-word_at-2 c = passed refl (ne_eqb _ _ c.if-words-eq0.false) _ _ (passed c.word_at.ensures c.if-word_at.false _ _ (chosen c.word_at-2.ensures c.if-word_at-2.true _ _))

pub returns-then-word_at-3 : goal.returns-then-word_at-3
unfolding first_word
returns-then-word_at-3 c = passed refl (ne_eqb _ _ c.if-words-eq0.false) _ _ (passed c.word_at.ensures c.if-word_at.false _ _ (passed c.word_at-2.ensures c.if-word_at-2.false _ _ (chosen c.word_at-3.ensures c.if-word_at-3.true _ _)))

pub returns : goal.returns
unfolding first_word
returns c = passed refl (ne_eqb _ _ c.if-words-eq0.false) _ _ (passed c.word_at.ensures c.if-word_at.false _ _ (passed c.word_at-2.ensures c.if-word_at-2.false _ _ (passed c.word_at-3.ensures c.if-word_at-3.false _ _ c.job_word.ensures)))
