-- `replay::slices::is_zero` meets its contract. Assumes nothing.
use Rattle.std.proofs.Common.{rules, ◌∙◌, nat_eq}
use Rattle.std.proofs.lemmas.Iterator.{YieldsList-from_slice}
use Rattle.std.proofs.lemmas.Iterator.Search.{all_from_yields_List}
use borrow.Author.Tests.{tests}
use Rattle.replay.proofs.Judging.{listed}
use Rattle.replay.proofs.slices.is_zero.Goals as goal

pub returns : goal.returns
returns c =
    all_from_yields_List (λ x. nat_eq x 0) _ _ c.all.result c.all.ensures.ran (YieldsList-from_slice c.args.s.now cc) (λ x b q k. search (rules, tests))
    ∙ listed (λ x. nat_eq x 0) 0 c.args.s.now
