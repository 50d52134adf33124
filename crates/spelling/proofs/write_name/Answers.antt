-- `write_name` meets its contract: by the number. Assumes nothing.
use mathlib.Core.Path.{◌≡◌}
use Prim.Native.Nat.{ℕ, ◌<◌}
use native.Mathlib.Omega.{arith}
use Rattle.spelling.proofs.write_name.Goals as goal

-- what is left after the first four
fifth_left : {k : ℕ} → 0 < k → k < 6 → ((((Unit {0} × (k ≡ 1 → ⊥)) × (k ≡ 2 → ⊥)) × (k ≡ 3 → ⊥)) × (k ≡ 4 → ⊥)) → k ≡ 5
fifth_left p q h = omega (arith, p, q, h.0.0.0.1, h.0.0.1, h.0.1, h.1)

pub write_bytes-requires : goal.write_bytes-requires
write_bytes-requires c = rw c.in-1.is at c.requires.2

pub write_bytes-requires-in-2 : goal.write_bytes-requires-in-2
write_bytes-requires-in-2 c = rw c.in-2.is at c.requires.2

pub write_bytes-requires-in-3 : goal.write_bytes-requires-in-3
write_bytes-requires-in-3 c = rw c.in-3.is at c.requires.2

pub write_bytes-requires-in-4 : goal.write_bytes-requires-in-4
write_bytes-requires-in-4 c = rw c.in-4.is at c.requires.2

pub write_bytes-requires-in_default : goal.write_bytes-requires-in_default
write_bytes-requires-in_default c = let l : c.args.number ≡ 5 = fifth_left c.requires.0 c.requires.1 c.in_default.in_default-own.rest in rw l at c.requires.2

pub returns-in-1 : goal.returns-in-1
returns-in-1 c = rw c.in-1.is c.write_bytes.ensures

pub returns-in-2 : goal.returns-in-2
returns-in-2 c = rw c.in-2.is c.write_bytes-in-2.ensures

pub returns-in-3 : goal.returns-in-3
returns-in-3 c = rw c.in-3.is c.write_bytes-in-3.ensures

pub returns-in-4 : goal.returns-in-4
returns-in-4 c = rw c.in-4.is c.write_bytes-in-4.ensures

pub returns-in_default : goal.returns-in_default
returns-in_default c = let l : c.args.number ≡ 5 = fifth_left c.requires.0 c.requires.1 c.in_default.in_default-own.rest in rw l c.write_bytes-in_default.ensures
