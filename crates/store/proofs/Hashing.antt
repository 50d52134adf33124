-- What is known of a hash, and of the bucket that it gives: it is small. Nothing else on these pages hangs on which hash it is. Assumes nothing.
use Prim.Native.Nat.{ℕ, ◌+◌, ◌*◌, ◌%◌, ◌≤◌, ◌<◌}
use native.Mathlib.Nat.{mod-lt, mod-eq_of_lt, mul_comm, mul-lt-mul_of_pos_left, mul-le-mul, div-lt_iff_lt-mul}
use native.Mathlib.Omega.{arith}
use Rattle.store.specs.declared.node.Fields.{Fields}
use Rattle.store.specs.Hash.{hash, folded}
use Rattle.store.specs.Index.{bucket_of}

pub hash_below : (f : Fields) → hash f < 4294967296
unfolding hash folded
hash_below f = mod-lt _ (omega arith)

-- scaled down to twice as many buckets as places, it is one of them
pub bucket_below : (r : ℕ) (f : Fields) → 0 < r → r < 65536 → bucket_of r f < 2 * r
unfolding bucket_of
bucket_below r f h l =
    rw (mod-eq_of_lt l)
    ((div-lt_iff_lt-mul {k = 2147483648} (omega arith)).1
    (let p : r * hash f < r * 4294967296 = mul-lt-mul_of_pos_left (hash_below f) h in omega (arith, p, mul_comm r (hash f))))

-- ---- products and sums fit

pub product_fits : {a b : ℕ} → a ≤ 4294967296 → b < 4294967296 → a * b < 18446744073709551616
product_fits {a} {b} l o = let w = mul-le-mul {n₁ = a} {m₁ = b} {n₂ = 4294967296} {m₂ = 4294967295} l (omega (arith, o)) in omega arith

pub sum_fits : (a b : ℕ) → a % 4294967296 + b % 4294967296 < 18446744073709551616
sum_fits a b = omega arith
