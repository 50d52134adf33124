-- Which commands come to the same with 1024 rows as with 4096, and use the same rows of the sheet. Only connecting.
use Rattle.std.specs.Prelude.{◌≡◌, ℕ, List}
use Rattle.commands.specs.declared.words.Command.{Command}
use Rattle.commands.specs.declared.words.Parted.{Parted}
use Rattle.commands.specs.declared.words.Whole.{Whole}
use Rattle.commands.specs.Results.{whole, parted, result_in, parted_marks, marks_in}

abbrev pub WholeAlike : Whole → Type 0
WholeAlike command = (text out : List ℕ) → whole 1024 command text out ≡ whole 4096 command text out

abbrev pub PartedAlike : Parted → Type 0
PartedAlike command =
    (list values out : List ℕ)
    → (parted 1024 command list values out ≡ parted 4096 command list values out) × (parted_marks 1024 command list values out ≡ parted_marks 4096 command list values out)

abbrev pub Alike : Command → Type 0
Alike command =
    (input out : List ℕ)
    → (result_in 1024 command input out ≡ result_in 4096 command input out) × (marks_in 1024 command input out ≡ marks_in 4096 command input out)
