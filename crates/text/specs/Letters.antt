-- The bytes of letters and of words, so that the pages can name them as 01 does. Definitions only.
use Rattle.std.specs.Prelude.{ℕ, List, [], ◌∷◌}
use Prim.Native.Char.{Char, code}
use Prim.Native.String.{String, [] as ended, ◌∷◌ as ◌then◌}

-- the byte of a letter, as `letter "n"`
abbrev pub letter : Char → ℕ
letter c = code c

-- the bytes of a word, as `bytes "sin"`
abbrev pub bytes : String → List ℕ
bytes ended = []
bytes (c then cs) = code c ∷ bytes cs
