-- The first lines of a listing one after the other, whatever the bytes of each are. Assumes nothing.
use mathlib.Core.Path.{◌≡◌, refl}
use mathlib.Core.List.{List, ◌++◌}
use Prim.Native.Nat.{ℕ, zero, suc, ◌+◌, ◌-◌, ◌≤◌, ◌<◌}
use native.Mathlib.Numerals.{add-one}
use native.Mathlib.Omega.{arith}
use lib.ListN.{length, length-append}
use Rattle.text.specs.Put.{Put}
use Rattle.text.proofs.Putting.{put_then}
use Rattle.writing.specs.Ordering.{all_text}

module _ (bytes : ℕ → List ℕ) where
  pub more_text : (i : ℕ) → all_text bytes (i + 1) ≡ all_text bytes i ++ bytes i
  unfolding all_text
  more_text i = rw add-one

  pub more_length : (i : ℕ) → length (all_text bytes (i + 1)) ≡ length (all_text bytes i) + length (bytes i)
  more_length i = rw (more_text i) (length-append (all_text bytes i) (bytes i))

  grows : (i k : ℕ) → length (all_text bytes i) ≤ length (all_text bytes (i + k))
  grows i zero = let z : i + 0 ≡ i = omega arith in rw z (omega arith)
  grows i (suc k) = let z : i + suc k ≡ (i + k) + 1 = omega arith in rw z (omega (arith, grows i k, more_length (i + k)))

  -- the next line fits where all lines do
  pub line_fits : (i count room : ℕ) → i < count → length (all_text bytes count) ≤ room → length (all_text bytes i) + length (bytes i) ≤ room
  line_fits i count room h f =
      let z : (i + 1) + (count - (i + 1)) ≡ count = omega arith in
      omega (arith, more_length i, rw z at (grows (i + 1) (count - (i + 1))))

  pub no_text : (e : List ℕ) → Put e 0 (all_text bytes 0) 0 e
  unfolding all_text
  no_text e = record { place = refl; stored = refl }

  pub no_length : 0 ≡ length (all_text bytes 0)
  unfolding all_text
  no_length = refl

  pub next_text : {e x y : List ℕ} {at next : ℕ} (i : ℕ) → Put e 0 (all_text bytes i) at x → Put x at (bytes i) next y → Put e 0 (all_text bytes (i + 1)) next y
  next_text i a b = rw (more_text i) (put_then a b)

  -- a loop has reached the last line
  pub all_written : {e x : List ℕ} {count i at : ℕ} → i ≤ count → count ≤ i → Put e 0 (all_text bytes i) at x → Put e 0 (all_text bytes count) at x
  all_written {count = count} {i = i} p q e = let z : i ≡ count = omega arith in rw z at e
