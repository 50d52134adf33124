-- `spread` meets its contract: the product fits, and so does its fold. Assumes nothing.
use mathlib.Core.Path.{refl}
use Rattle.sheet.specs.Index.{spread}
use Rattle.sheet.proofs.Indexing.{factors_fit, folded_small, folded_fits}
use Rattle.sheet.proofs.index.spread.Goals as goal

pub overflow_mul-product : goal.overflow_mul-product
unfolding spread
overflow_mul-product c = record { fits = factors_fit _ _ }

pub overflow_add-result : goal.overflow_add-result
unfolding spread
overflow_add-result c = record { fits = folded_fits _ (factors_fit _ _) }

pub returns : goal.returns
unfolding spread
returns c = (refl, folded_small _ (factors_fit _ _))
