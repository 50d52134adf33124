-- `bucket_of` meets its contract. Assumes nothing.
use mathlib.Core.Path.{refl}
use native.Mathlib.Omega.{arith}
use Rattle.sheet.specs.Index.{bucket_of}
use Rattle.sheet.proofs.index.bucket_of.Goals as goal

pub returns : goal.returns
unfolding bucket_of
returns c = (rw (c.spread-hash.ensures.0, c.spread-third.ensures.0, c.spread-second.ensures.0, c.spread-first.ensures.0) refl, omega arith)
