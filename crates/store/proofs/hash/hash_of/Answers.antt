-- `hash_of` meets its contract: it is the hash, step by step. Assumes nothing.
use mathlib.Core.Path.{refl}
use Rattle.store.specs.Hash.{halves, both, folded, hash}
use Rattle.store.proofs.Hashing.{sum_fits}
use Rattle.store.proofs.hash.hash_of.Goals as goal

pub overflow_add-x-3 : goal.overflow_add-x-3
overflow_add-x-3 c = record { fits = sum_fits _ _ }

pub overflow_add-y-3 : goal.overflow_add-y-3
overflow_add-y-3 c = record { fits = sum_fits _ _ }

pub returns : goal.returns
unfolding hash folded both halves
returns c = rw (c.product-r.ensures, c.product-q.ensures, c.product-p.ensures) refl
