-- `call_cases::examples::is_printed` meets its contract: the one output, then the other, by what `answer` promises. Assumes nothing.
use mathlib.Core.Bool.{not}
use mathlib.Core.Path.{ap, ◌∙◌}
use Rattle.replay.specs.Judges.{same}
use Rattle.replay.proofs.Judging.{first_no, first_yes}
use Rattle.call_cases.proofs.examples.is_printed.Goals as goal

pub returns-then-not-is_text : goal.returns-then-not-is_text
returns-then-not-is_text g c = first_no _ _ (c.is_text.ensures ∙ ap (same c.args.out_wanted.now) c.answer-printed.ensures.prints) (ap not c.if-not-is_text.true)

pub returns : goal.returns
returns g c = c.is_text-2.ensures ∙ (ap (same c.args.said_wanted.now) c.answer-printed.ensures.says ∙ first_yes _ _ (c.is_text.ensures ∙ ap (same c.args.out_wanted.now) c.answer-printed.ensures.prints) (ap not c.if-not-is_text.false))
