-- `function_length` meets its contract. Assumes nothing.
use mathlib.Core.Path.{refl}
use native.Mathlib.Omega.{arith}
use Rattle.spelling.proofs.function_length.Goals as goal

pub returns-in-SquareRoot : goal.returns-in-SquareRoot
returns-in-SquareRoot c = rw c.in-SquareRoot.is (refl, omega arith)

pub returns-in-Sine : goal.returns-in-Sine
returns-in-Sine c = rw c.in-Sine.is (refl, omega arith)

pub returns-in-Cosine : goal.returns-in-Cosine
returns-in-Cosine c = rw c.in-Cosine.is (refl, omega arith)

pub returns-in-Exponent : goal.returns-in-Exponent
returns-in-Exponent c = rw c.in-Exponent.is (refl, omega arith)

pub returns-in-Cis : goal.returns-in-Cis
returns-in-Cis c = rw c.in-Cis.is (refl, omega arith)
