-- `calculate_cis` meets its contract: cos, then sin, up to the first lack. Assumes nothing.
use mathlib.Core.Path.{refl}
use Rattle.evaluation.proofs.Valued.{cis_without_cosine, cis_without_sine, cis_with_both}
use borrow.Enum.Refused.{opened}
use Rattle.evaluation.proofs.calculate.calculate_cis.Goals as goal

pub returns-in_default : goal.returns-in_default
returns-in_default c = λ h. cis_without_cosine _ c.args.x c.zero.ensures c.ask-asked.result (c.ask-asked.ensures h) (opened c.in_default.in_default-own.keys2)

pub returns-in_default-second : goal.returns-in_default-second
returns-in_default-second c = λ h. cis_without_sine _ c.args.x c.zero.ensures c.ask-asked.result (c.ask-asked.ensures h) c.in-Value.is c.zero-2.ensures c.ask-more.result (c.ask-more.ensures h) refl (opened c.in_default-second.in_default-second-own.keys2)

pub returns : goal.returns
returns c = λ h. cis_with_both _ c.args.x c.zero.ensures c.ask-asked.result (c.ask-asked.ensures h) c.in-Value.is c.zero-2.ensures c.ask-more.result (c.ask-more.ensures h) c.in-Value-second.is c.imaginary_unit.ensures c.mul.ensures c.add.ensures
