-- When a case counts as right: its answer is the wanted one, the memory is left zero, and the marks are the wanted ones; of an example both outputs are.
-- Definitions only.
use Rattle.std.specs.Prelude.{ℕ, ◌-◌, ◌/◌, ◌%◌, ◌^◌, List, Bool, true, false, ◌&&◌, get_or, eqb}
use Rattle.replay.specs.Judges.{every, same_up_to, same, digit_of}
use Rattle.commands.specs.Printing.{standard_output, standard_error}
use Rattle.call_cases.specs.declared.outcome.Outcome.{Outcome}

abbrev pub rightly : Outcome → Bool
rightly Outcome.Wrong = false
rightly Outcome.Right = true
rightly Outcome.Played = true
rightly Outcome.Long = true
rightly Outcome.Refused = true

-- the six words of an answer, and whether all that was lent is zero
abbrev pub answered_by : (wanted words : List ℕ) (clear : Bool) → Bool
answered_by wanted words clear = same_up_to 6 wanted words && clear

-- a digit is the marks of four rows, the first one in its highest bit
abbrev pub mark_in : (digit row : ℕ) → ℕ
mark_in digit row = digit / 2 ^ (3 - row % 4) % 2

-- whether a row's mark is the one that a line of digits has for it
abbrev pub marked_at : (line marks : List ℕ) (row : ℕ) → Bool
marked_at line marks row = eqb (get_or marks row 0) (mark_in (digit_of (get_or line (row / 4) 0)) row)

-- 64 digits and a line feed, and the marks of 256 rows
abbrev pub marked_by : (line marks : List ℕ) → Bool
marked_by line marks = eqb (get_or line 64 0) 10 && every (marked_at line marks) 256

-- an example: what the tool rack prints and says of these words and this job, whatever the output holds before
abbrev pub printed_as : (words job out out-wanted said-wanted : List ℕ) → Bool
printed_as words job out out-wanted said-wanted =
    same out-wanted (standard_output words job out) && same said-wanted (standard_error words job out)
