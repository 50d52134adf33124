-- What the exit of a `?` returns: the refusal that it met. Assumes nothing.
use mathlib.Core.Path.{◌≡◌}
use Rattle.std.specs.Prelude.{Result, Ok, Err, IsErrAnd}

pub passed_on : {T E : Type 0} {why : E} (r : Result T E) → IsErrAnd r (λ other. other ≡ why) → r ≡ Err why
passed_on (Ok x) h = absurd h
passed_on (Err other) h = cc
