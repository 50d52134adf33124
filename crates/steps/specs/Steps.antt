-- A step of a tape, its six fields and its 24 bytes, and the step that bytes are, by 01's "The tape". Definitions only.
use Rattle.std.specs.Prelude.{ℕ, zero, suc, ◌+◌, ◌*◌, ◌/◌, ◌%◌, List, [], ◌∷◌, ◌++◌, Bool, false, cond, ◌&&◌, take, drop, ltb, eqb}
use Rattle.complex.specs.Bits.{bits_of, double_of}
use Rattle.complex.specs.Constants.{of_parts}
use Rattle.expression.specs.Codes.{infix_code, infix_of, prefix_code, prefix_of, function_code, function_of}
use Rattle.steps.specs.declared.Step.{Step}
use Rattle.steps.specs.declared.Fields.{Fields}

-- "opcode, sub, u16, u32, real bits, imaginary bits"
abbrev pub fields : (opcode sub half word re im : ℕ) → Fields
fields opcode sub half word re im = record { opcode = opcode; sub = sub; half = half; word = word; re = re; im = im }

-- "Opcodes: 1 number; 2 pi; 3 variable (u16); 4 memory (u16 region, u32 index); 5 function, sub 1 to 5 in the listing's order; 6 prefix, 1 +,
-- 2 -; 7 infix, 1 to 5 as + - * / ^"; "unused fields zero"
abbrev pub fields_of : Step → Fields
fields_of (Step.Number z) = fields 1 0 0 0 (bits_of z.re) (bits_of z.im)
fields_of Step.Pi = fields 2 0 0 0 0 0
fields_of (Step.Variable v) = fields 3 0 v 0 0 0
fields_of (Step.Memory region index) = fields 4 0 region index 0 0
fields_of (Step.Function f) = fields 5 (function_code f) 0 0 0 0
fields_of (Step.Prefix o) = fields 6 (prefix_code o) 0 0 0 0
fields_of (Step.Infix o) = fields 7 (infix_code o) 0 0 0 0

-- ---- "24 bytes, little-endian"

abbrev pub step_bytes : ℕ
step_bytes = 24

-- the k lowest bytes of n, the lowest first
unfoldable pub little : (k : ℕ) → ℕ → List ℕ
little zero n = []
little (suc k) n = n % 256 ∷ little k (n / 256)

-- "opcode, sub, u16, u32", eight bytes
unfoldable pub head_of : Fields → List ℕ
head_of f = little 1 f.opcode ++ (little 1 f.sub ++ (little 2 f.half ++ little 4 f.word))

-- and "real bits, imaginary bits"
unfoldable pub bytes_of : Fields → List ℕ
bytes_of f = head_of f ++ (little 8 f.re ++ little 8 f.im)

-- a step's bytes, and those of a tape
unfoldable pub encoded : Step → List ℕ
encoded s = bytes_of (fields_of s)

unfoldable pub tape_of : List Step → List ℕ
tape_of [] = []
tape_of (s ∷ ss) = encoded s ++ tape_of ss

-- ---- the step that bytes are

-- the number of which these are the bytes, the lowest first
unfoldable pub spelt : List ℕ → ℕ
spelt [] = 0
spelt (b ∷ bs) = b + 256 * spelt bs

-- the first k bytes as a number
unfoldable pub first : (k : ℕ) → List ℕ → ℕ
first k bs = spelt (take k bs)

unfoldable pub fields_in : List ℕ → Fields
fields_in bs = fields (first 1 bs) (first 1 (drop 1 bs)) (first 2 (drop 2 bs)) (first 4 (drop 4 bs)) (first 8 (drop 8 bs)) (first 8 (drop 16 bs))

abbrev pub unused : ℕ → Bool
unused n = eqb n 0

-- a code from 1 to the last
abbrev pub within : (last n : ℕ) → Bool
within last n = ltb 0 n && ltb n (suc last)

-- "the one NaN": the double with these bits has these bits, so that they are no NaN's but 7FF8000000000000
abbrev pub one_nan : ℕ → Bool
one_nan bits = eqb bits (bits_of (double_of bits))

-- neither a whole number nor a double is used
abbrev pub bare : Fields → Bool
bare f = unused f.half && (unused f.word && (unused f.re && unused f.im))

-- "known codes, unused fields zero, the one NaN"
unfoldable pub known : Fields → Bool
known f =
    cond (eqb f.opcode 1) (unused f.sub && (unused f.half && (unused f.word && (one_nan f.re && one_nan f.im))))
    (cond (eqb f.opcode 2) (unused f.sub && bare f)
    (cond (eqb f.opcode 3) (unused f.sub && (unused f.word && (unused f.re && unused f.im)))
    (cond (eqb f.opcode 4) (unused f.sub && (unused f.re && unused f.im))
    (cond (eqb f.opcode 5) (within 5 f.sub && bare f)
    (cond (eqb f.opcode 6) (within 2 f.sub && bare f)
    (cond (eqb f.opcode 7) (within 5 f.sub && bare f)
    false))))))

-- which step known fields are; the last stands for any other opcode
unfoldable pub step_of : Fields → Step
step_of f =
    cond (eqb f.opcode 1) (Step.Number (of_parts f.re f.im))
    (cond (eqb f.opcode 2) Step.Pi
    (cond (eqb f.opcode 3) (Step.Variable f.half)
    (cond (eqb f.opcode 4) (Step.Memory f.half f.word)
    (cond (eqb f.opcode 5) (Step.Function (function_of f.sub))
    (cond (eqb f.opcode 6) (Step.Prefix (prefix_of f.sub))
    (Step.Infix (infix_of f.sub)))))))
