-- A tape as a text that people read and write: a line a step, its bytes in hex. Definitions only.
use Rattle.std.specs.Prelude.{ℕ, zero, suc, ◌/◌, ◌%◌, ◌-◌, List, [], ◌∷◌, ◌++◌, cond, get_or, replicate, eqb}
use Rattle.text.specs.Reading.{Read, is, bad, then, tab, lf, ended, hex_from}
use Rattle.text.specs.Writing.{byte_of}

-- What stands after byte k of a step, 0 to 23, if anything: a tab after the opcode, the sub, the u16, the u32 and the real bits, and the line feed
-- after the imaginary bits. 0 says that nothing does.
abbrev pub stops : List ℕ
stops = tab ∷ tab ∷ 0 ∷ tab ∷ 0 ∷ 0 ∷ 0 ∷ tab ∷ 0 ∷ 0 ∷ 0 ∷ 0 ∷ 0 ∷ 0 ∷ 0 ∷ tab ∷ 0 ∷ 0 ∷ 0 ∷ 0 ∷ 0 ∷ 0 ∷ 0 ∷ lf ∷ []

unfoldable pub stop_after : (k : ℕ) → ℕ
stop_after k = get_or stops k 0

-- ---- writing

unfoldable pub stopping : (stop : ℕ) → List ℕ
stopping zero = []
stopping (suc s) = suc s ∷ []

-- a byte in two upper-case hex digits, and what stands after it
unfoldable pub in_digits : (b stop : ℕ) → List ℕ
in_digits b stop = byte_of (b / 16) ∷ byte_of (b % 16) ∷ stopping stop

-- the bytes of a tape from place k on
unfoldable pub in_lines : (k : ℕ) → List ℕ → List ℕ
in_lines k [] = []
in_lines k (b ∷ bs) = in_digits b (stop_after (k % 24)) ++ in_lines (suc k) bs

-- ---- reading

unfoldable pub stopped : (stop : ℕ) → Read ℕ → Read ℕ
stopped zero r = r
stopped (suc s) r = ended (suc s) r

-- a byte, and what stands after it
unfoldable pub byte_from : (stop : ℕ) → List ℕ → Read ℕ
byte_from stop bs = stopped stop (hex_from 2 0 bs)

-- the last bytes of a step, as many as are left, after those that were read
unfoldable pub step_from : (left : ℕ) (before : List ℕ) → List ℕ → Read (List ℕ)
step_from zero before bs = is before bs
step_from (suc left) before bs = then (byte_from (stop_after (23 - left)) bs) (λ b rest. step_from left (before ++ (b ∷ [])) rest)

-- a line that is no step stands for one of zeros, which is unsound: no opcode is 0
unfoldable pub or_zeros : Read (List ℕ) → List ℕ
or_zeros (is step rest) = step
or_zeros bad = replicate 24 0

-- what follows after the line
unfoldable pub next_line : List ℕ → List ℕ
next_line [] = []
next_line (b ∷ bs) = cond (eqb b lf) bs (next_line bs)

-- at most so many steps
unfoldable pub read_steps : (most : ℕ) → List ℕ → List ℕ
read_steps zero bs = []
read_steps (suc most) [] = []
read_steps (suc most) (b ∷ bs) = or_zeros (step_from 24 [] (b ∷ bs)) ++ read_steps most (next_line (b ∷ bs))

-- The bytes that a text says. One step more than a tape may have shows that there are too many.
unfoldable pub tape_in : List ℕ → List ℕ
tape_in = read_steps 513
