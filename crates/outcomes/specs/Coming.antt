-- What the code's outcome says, as a result. Only connecting.
use Rattle.std.specs.Prelude.{◌≡◌, ℕ, ◌≤◌, List, [], take}
use Rattle.io.specs.Counts.{IsPrefixLen}
use Rattle.outcomes.specs.declared.Outcome.{Outcome}
use Rattle.sentences.specs.Sentences.{sentence, calls_sentence, too_long_sentence}
use Rattle.outcomes.specs.Outcomes.{Result, printed, with_calls, refused, too_long, output}

-- a count of bytes as the bytes at the start of the output
abbrev pub seen : (out : List ℕ) → Outcome → Result
seen out (Outcome.Printed n) = printed (take n out)
seen out (Outcome.Simplified n calls) = with_calls (take n out) calls
seen out (Outcome.Refused why detail) = refused why detail
seen out Outcome.TooLong = too_long

abbrev pub Inside : (out : List ℕ) → Outcome → Type 0
Inside out (Outcome.Printed n) = IsPrefixLen n out
Inside out (Outcome.Simplified n calls) = IsPrefixLen n out
Inside out (Outcome.Refused why detail) = Unit {0}
Inside out Outcome.TooLong = Unit {0}

-- so many bytes are printed as they stand there
abbrev pub bytes_of : Outcome → ℕ
bytes_of (Outcome.Printed n) = n
bytes_of (Outcome.Simplified n calls) = n
bytes_of (Outcome.Refused why detail) = 0
bytes_of Outcome.TooLong = 0

pub record Comes (want : Result) (r : Outcome) (out : List ℕ) : Type 0 where
  pub answer : seen out r ≡ want
  pub inside : Inside out r

-- the bytes leave room for a line of marks
abbrev pub Short : Outcome → Type 0
Short (Outcome.Printed n) = n ≤ 64496
Short (Outcome.Simplified n calls) = n ≤ 64496
Short (Outcome.Refused why detail) = Unit {0}
Short Outcome.TooLong = Unit {0}

-- what is printed of an outcome, whose bytes stand at the start of the output
pub record Prints (out : List ℕ) (r : Outcome) (n : ℕ) (out' : List ℕ) : Type 0 where
  pub bytes : take n out' ≡ output (seen out r)
  pub within : IsPrefixLen n out'

-- what is said of it goes by no byte of the output
abbrev pub said_of : Outcome → List ℕ
said_of (Outcome.Printed n) = []
said_of (Outcome.Simplified n calls) = calls_sentence calls
said_of (Outcome.Refused why detail) = sentence why detail
said_of Outcome.TooLong = too_long_sentence

-- these bytes stand at the start of an output, and are so many
pub record Stands (bytes : List ℕ) (n : ℕ) (out : List ℕ) : Type 0 where
  pub are : take n out ≡ bytes
  pub within : IsPrefixLen n out
