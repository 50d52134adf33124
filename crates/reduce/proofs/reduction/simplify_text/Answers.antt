-- `simplify_text` meets its contract. Assumes nothing.
use Rattle.reduce.proofs.Printing.{simplifies}
use Rattle.reduce.proofs.reduction.simplify_text.Goals as goal

pub returns : goal.returns
returns c = simplifies c.listing_length-n.ensures c.sheet_of-sheet.ensures.bytes c.simplify.ensures
