-- The fields of the two packed words of a node. Only connecting.
use Rattle.std.specs.Prelude.{ℕ, ◌+◌, ◌*◌, ◌%◌, ◌/◌, cond, eqb}

-- the kind by the tape's opcodes, and eight times the operator's or function's number
abbrev pub code_of : (kind operator : ℕ) → ℕ
code_of kind operator = kind % 8 + 8 * (operator % 8)

-- tag: code, size, depth, and the bucket that is the node's home; above them, from the 46th bit on, its origin, which `origins` has
abbrev pub code_in : ℕ → ℕ
code_in w = w % 64

abbrev pub size_in : ℕ → ℕ
size_in w = w / 64 % 1048576

abbrev pub depth_in : ℕ → ℕ
depth_in w = w / 67108864 % 128

abbrev pub home_in : ℕ → ℕ
home_in w = w / 8589934592 % 8192

abbrev pub tag_of : (code size depth home : ℕ) → ℕ
tag_of code size depth home = code % 64 + 64 * (size % 1048576) + 67108864 * (depth % 128) + 8589934592 * (home % 8192)

-- link: the heads of the two buckets 2k and 2k + 1; the node's class, kept result, next in its bucket
abbrev pub head_in : (bucket w : ℕ) → ℕ
head_in bucket w = cond (eqb (bucket % 2) 0) (w % 8192) (w / 8192 % 8192)

abbrev pub class_in : ℕ → ℕ
class_in w = w / 67108864 % 4096

abbrev pub kept_in : ℕ → ℕ
kept_in w = w / 274877906944 % 8192

abbrev pub next_in : ℕ → ℕ
next_in w = w / 2251799813685248

abbrev pub with_node : (w class next : ℕ) → ℕ
with_node w class next = w % 67108864 + 67108864 * (class % 4096) + 2251799813685248 * (next % 8192)

abbrev pub with_head : (bucket w head : ℕ) → ℕ
with_head bucket w head =
    cond (eqb (bucket % 2) 0)
    (head % 4096 + 1 + 8192 * (w / 8192))
    (w % 8192 + 8192 * (head % 4096 + 1) + 67108864 * (w / 67108864))

abbrev pub with_kept : (w kept : ℕ) → ℕ
with_kept w kept = w % 274877906944 + 274877906944 * (kept % 4096 + 1) + 2251799813685248 * (w / 2251799813685248)
