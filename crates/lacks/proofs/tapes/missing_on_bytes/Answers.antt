-- `missing_on_bytes` meets its contract: the tape before the sheet. Assumes nothing.
use mathlib.Core.Path.{sym, ◌∙◌}
use Rattle.lacks.proofs.Going.{accepted, refused}
use Rattle.lacks.proofs.Stepping.{unsound_nothing, unread_nothing, tape_names}
use Rattle.lacks.proofs.tapes.missing_on_bytes.Goals as goal

pub returns-in_err-ok : goal.returns-in_err-ok
returns-in_err-ok c = c.from_residual.ensures ∙ unsound_nothing _ _ (sym c.check.ensures ∙ (refused _ (sym c.ok.ensures.value ∙ c.in_err-ok.was)).is)

pub returns-in_err-counts : goal.returns-in_err-counts
returns-in_err-counts c =
    c.from_residual-in_err-counts.ensures
    ∙ unread_nothing _ _ (sym c.check.ensures ∙ accepted _ (sym c.ok.ensures.value ∙ c.in_ok-ok.was)) (rw (refused _ (sym c.ok-2.ensures.value ∙ c.in_err-counts.was)).is at c.read_sheet.ensures.0)

pub returns : goal.returns
returns c =
    tape_names _ _ (sym c.check.ensures ∙ accepted _ (sym c.ok.ensures.value ∙ c.in_ok-ok.was)) (rw (accepted _ (sym c.ok-2.ensures.value ∙ c.in_ok-counts.was)) at c.read_sheet.ensures) c.missing_in_steps.ensures
