-- `bucket_of` meets its contract: the hash, scaled down; their product fits, since a hash is small. Assumes nothing.
use mathlib.Core.Path.{refl}
use native.Mathlib.Omega.{arith}
use Rattle.store.specs.Index.{bucket_of}
use Rattle.store.proofs.Hashing.{hash_below, product_fits}
use Rattle.store.proofs.index.bucket_of.Goals as goal

pub overflow_mul-result : goal.overflow_mul-result
overflow_mul-result c = record { fits = product_fits (omega (arith, c.hash_of.ensures, hash_below c.args.key)) (omega arith) }

pub returns : goal.returns
unfolding bucket_of
returns c = rw c.hash_of.ensures refl
