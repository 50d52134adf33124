-- The origin in the upper bits of a word, whose 46 lower bits are another's. Only connecting.
use Rattle.std.specs.Prelude.{ℕ, ◌+◌, ◌*◌, ◌%◌, ◌/◌, cond, eqb}

-- 2 to the 46th
abbrev pub origin_unit : ℕ
origin_unit = 70368744177664

abbrev pub origin_in : ℕ → ℕ
origin_in w = w / origin_unit % 2048

abbrev pub with_origin : (w line : ℕ) → ℕ
with_origin w line = w % origin_unit + origin_unit * (line % 1024 + 1)

-- "A node that comes up again keeps its first origin"
abbrev pub first_kept : (w line : ℕ) → ℕ
first_kept w line = cond (eqb (origin_in w) 0) (with_origin w line) w
