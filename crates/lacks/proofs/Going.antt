-- What a value that goes on by `.ok()?` says of the call: it was accepted, or refused. Assumes nothing.
use mathlib.Core.Path.{◌≡◌, refl}
use Prim.Native.Nat.{ℕ}
use native.Mathlib.Omega.{arith}
use Rattle.std.specs.Prelude.{Some, None, Result, Ok, Err}
use Rattle.std.specs.Result.{result_ok}

module _ {T E : Type 0} where
  pub accepted : (r : Result T E) {v : T} → result_ok r ≡ Some v → r ≡ Ok v
  accepted (Ok x) p = cc
  accepted (Err why) p = absurd (let z : ◌≡◌ {A = ℕ} 0 1 = cc in omega (arith, z))

  pub record Refused (r : Result T E) : Type 0 where
    pub why : E
    pub is : r ≡ Err why

  pub refused : (r : Result T E) → result_ok r ≡ None → Refused r
  refused (Ok x) p = absurd (let z : ◌≡◌ {A = ℕ} 0 1 = cc in omega (arith, z))
  refused (Err why) p = record { why = why; is = refl }
