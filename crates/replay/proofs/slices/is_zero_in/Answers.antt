-- `replay::slices::is_zero_in` meets its contract. Assumes nothing.
use Rattle.std.proofs.Common.{rules, ◌∙◌}
use Rattle.std.proofs.lemmas.Iterator.{YieldsList-from_slice}
use Rattle.std.proofs.lemmas.Iterator.Search.{all_from_yields_List}
use borrow.Author.Tests.{tests}
use Rattle.replay.specs.Judges.{blank}
use Rattle.replay.proofs.Judging.{rows_listed}
use Rattle.replay.proofs.slices.is_zero_in.Goals as goal

pub returns : goal.returns
returns c =
    all_from_yields_List blank _ _ c.all.result c.all.ensures.ran (YieldsList-from_slice _ cc) (λ x b q k. search (rules, tests))
    ∙ rows_listed c.args.n c.args.s.now c.part.ensures.least
