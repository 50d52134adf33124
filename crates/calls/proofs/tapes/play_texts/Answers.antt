-- `play_texts` meets its contract: the tape before the sheet. Assumes nothing.
use mathlib.Core.Path.{sym, ◌∙◌}
use Rattle.expression.proofs.Passing.{passed_on}
use Rattle.calls.proofs.Taping.{plays_read, plays_refused, plays_sound, plays_bad}
use Rattle.calls.proofs.tapes.play_texts.Goals as goal

pub returns-in_err-check : goal.returns-in_err-check
returns-in_err-check c = λ z. rw (passed_on _ c.from_residual.ensures.1) (plays_bad _ _ (sym c.check.ensures ∙ c.in_err-check.was) z)

pub returns-in_err-counts : goal.returns-in_err-counts
returns-in_err-counts c = λ z. rw (passed_on _ c.from_residual-in_err-counts.ensures.1) (plays_sound _ _ (sym c.check.ensures ∙ c.in_ok-check.was) (plays_refused _ _ _ _ c.read_sheet.ensures c.in_err-counts.was z))

pub play-requires : goal.play-requires
play-requires c = sym c.check.ensures ∙ c.in_ok-check.was

pub returns : goal.returns
returns c = λ z. plays_sound _ _ (sym c.check.ensures ∙ c.in_ok-check.was) (plays_read _ _ _ _ c.read_sheet.ensures c.in_ok-counts.was c.play.ensures c.answer_of.ensures z)
