-- How long the desk and the table are that a call lends; and where things stand in them, as src/layout.rt has it, which only connects.
use Rattle.std.specs.Prelude.{ℕ, List, [], ◌∷◌, Option, Some, None}

abbrev pub desk_words : ℕ
desk_words = 272

abbrev pub table_words : ℕ
table_words = 4608

-- a listing that is read: word i is the node of node line i; s lines stand from here on, two words each
abbrev pub swaps_from : ℕ
swaps_from = 1024

-- while its nodes are substituted: what they became stands from here on, a word each
abbrev pub results_from : ℕ
results_from = 1536

-- a sheet: variables from 0 on, three words each; cells from here on, two each
abbrev pub cells_from : ℕ
cells_from = 768

-- function values from here on, seven each
abbrev pub functions_from : ℕ
functions_from = 2816

-- the desk: the marks are its last words, one for each t row
abbrev pub marks_from : ℕ
marks_from = 16

-- a row's number, if there is one
unfoldable pub numbered : Option ℕ → List ℕ
numbered None = []
numbered (Some j) = j ∷ []
