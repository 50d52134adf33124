-- `replay::slices::is_all` meets its contract. Assumes nothing.
use Rattle.std.proofs.Common.{rules, ◌∙◌, nat_eq, drop}
use Rattle.std.proofs.lemmas.Iterator.{YieldsList-from_slice}
use Rattle.std.proofs.lemmas.Iterator.Adapters.{YieldsList-from_skip}
use Rattle.std.proofs.lemmas.Iterator.Search.{all_from_yields_List}
use borrow.Author.Tests.{tests}
use Rattle.replay.proofs.Judging.{listed}
use Rattle.replay.proofs.slices.is_all.Goals as goal

pub returns : goal.returns
returns c =
    all_from_yields_List (λ x. nat_eq x c.args.byte) _ _ c.all.result c.all.ensures.ran (YieldsList-from_skip c.args.from (YieldsList-from_slice c.args.s.now cc) cc) (λ x b q k. search (rules, tests))
    ∙ listed (λ x. nat_eq x c.args.byte) 0 (drop c.args.from c.args.s.now)
