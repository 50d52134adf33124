-- `product` meets its contract: it fits, since the factors are of 32 bits. Assumes nothing.
use mathlib.Core.Path.{refl}
use native.Mathlib.Omega.{arith}
use Rattle.store.specs.Hash.{product}
use Rattle.store.proofs.Hashing.{product_fits}
use Rattle.store.proofs.hash.product.Goals as goal

pub overflow_mul-result : goal.overflow_mul-result
overflow_mul-result c = record { fits = product_fits (omega arith) (omega arith) }

pub returns : goal.returns
unfolding product
returns c = refl
