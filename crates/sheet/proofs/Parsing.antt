-- What is known of a line that was read: its numbers are below their limits, its name is one of the five. Assumes nothing.
use mathlib.Core.Path.{◌≡◌, sym}
use mathlib.Core.List.{List, ◌∷◌}
use Prim.Native.Nat.{ℕ, ◌<◌}
use native.Mathlib.Omega.{arith}
use Rattle.text.specs.Reading.{is, decimal, decimal_field, name_field, name_from}
use Rattle.text.proofs.Only.{decimal_only, ended_only, name_only}
use Rattle.spelling.specs.Names.{operation_names}

-- a number in a field is below its limit, and the number of a name among the names
pub below_limit : {v : ℕ} {rest : List ℕ} (stop limit : ℕ) (bs : List ℕ) → is v rest ≡ decimal_field stop limit bs → v < limit
below_limit {v} {rest} stop limit bs e = (decimal_only limit v bs (stop ∷ rest) (ended_only stop (decimal limit bs) v rest (sym e))).0

pub name_small : {name : ℕ} {rest : List ℕ} (stop : ℕ) (bs : List ℕ) → is name rest ≡ name_field stop operation_names bs → (0 < name) × (name < 6)
name_small {name} {rest} stop bs e =
    let n = name_only 1 name operation_names bs (stop ∷ rest) (ended_only stop (name_from 1 operation_names bs) name rest (sym e)) in
    (omega (arith, n.from), omega (arith, n.from, n.among))
