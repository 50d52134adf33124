-- `is_clear` meets its contract. Assumes nothing.
use Rattle.std.proofs.Common.{rules, ◌∙◌, nat_eq}
use Rattle.std.proofs.lemmas.Iterator.{YieldsList-from_slice}
use Rattle.std.proofs.lemmas.Iterator.Search.{all_from_yields_List}
use borrow.Author.Tests.{tests}
use Rattle.marks.proofs.Numbering.{none_marked}
use Rattle.marks.proofs.is_clear.Goals as goal

pub returns : goal.returns
returns c =
    all_from_yields_List (λ x. nat_eq x 0) _ _ c.all.result c.all.ensures.ran (YieldsList-from_slice c.args.marks.now cc) (λ x b q k. search (rules, tests))
    ∙ none_marked 0 c.args.marks.now
