-- Keys that ascend: each is above all before it, others with the same values ascend too, and a higher one may follow. Assumes nothing.
use mathlib.Core.Path.{◌≡◌, sym}
use Prim.Native.Nat.{ℕ, zero, suc, ◌+◌, ◌<◌}
use native.Mathlib.Numerals.{add-one}
use native.Mathlib.Omega.{arith}
use native.Mathlib.Decide.{dec_lt, ℕ_discrete}
use Rattle.memory.specs.Keys.{Ascends}

-- a key is above all that stand before it
pub rises : (keys : ℕ → ℕ) (n : ℕ) → Ascends keys n → (i j : ℕ) → i < j → j < n → keys i < keys j
rises keys n a i zero l m = absurd (omega arith)
rises keys n a i (suc j) l m =
    let s : keys j < keys (suc j) = rw (sym (add-one j)) (a.each j (omega arith)) in
    elim (dec_lt i j) [
      | yes b ↦ omega (arith, rises keys n a i j b (omega arith), s)
      | no b ↦ let e : i ≡ j = omega arith in rw e s
    ]

pub ascends_same : (key key' : ℕ → ℕ) (n : ℕ) → Ascends key n → ((j : ℕ) → j < n → key' j ≡ key j) → Ascends key' n
ascends_same key key' n a s = record { each = λ j l. rw (s j (omega arith), s (j + 1) l) (a.each j l) }

-- a key above the last keeps the keys ascending, where those before are the same
pub ascends_more : (key key' : ℕ → ℕ) (n k : ℕ) → Ascends key n → ((j : ℕ) → j + 1 ≡ n → key j < k) → ((j : ℕ) → j < n → key' j ≡ key j) → key' n ≡ k → Ascends key' (n + 1)
ascends_more key key' n k a e s q = record {
  each = λ j l. elim (ℕ_discrete (j + 1) n) [
    | yes i ↦ rw (i, s j (omega arith), q) (e j i)
    | no i ↦ rw (s j (omega arith), s (j + 1) (omega arith)) (a.each j (omega arith))
  ];
}
