-- The help, the version, and what is said where no command is known. Definitions only.
use Rattle.std.specs.Prelude.{ℕ, List, ◌++◌}
use Rattle.text.specs.Letters.{bytes}

abbrev pub help : List ℕ
help =
    bytes "use: ./run rack COMMAND [LIMIT] [marks] [origins] [FILE], where COMMAND is one of:\n" ++
    (bytes "  evaluate    reads a listing and, after an empty line, a sheet of values; prints the expression's value\n" ++
    (bytes "  simplify    reads what evaluate reads; prints the listing simplified at LIMIT, 0 to 10, which is 10 if left out\n" ++
    (bytes "  played      reads what evaluate reads; simplifies at 10 and prints the value of the result under the same sheet\n" ++
    (bytes "  substitute  reads a listing with s lines; prints the listing with the variables replaced\n" ++
    (bytes "  real        reads a listing; prints the real number that its expression is, if it is a number or pi\n" ++
    (bytes "  compile     reads a listing; prints its expression's tape, a line a step: the step's 24 bytes in hex, in six fields\n" ++
    (bytes "  play        reads a tape as compile prints it and, after an empty line, a sheet of values; prints what it gives\n" ++
    (bytes "  check       reads a tape as compile prints it; prints sound, or which step is not\n" ++
    (bytes "  show        reads a tape as compile prints it; prints its steps in words\n" ++
    (bytes "  help        prints this, as --help does; --version prints the version\n" ++
    (bytes "The job is read from FILE or, where none is named, from standard input. docs/FORMATS.md says how a job is written.\n" ++
    (bytes "Which t rows of the sheet evaluate, simplify and play used is said on standard error, by their numbers from 0; with the\n" ++
    (bytes "word marks it is also printed, as a last line. A file of that name is written ./marks.\n" ++
    (bytes "With the word origins, which stands after marks, simplify and substitute also print where each line came from, as its last\n" ++
    (bytes "field: @ and the number of a line of the job, or @- for none. Which line of the job stands where in the result is then said\n" ++
    (bytes "on standard error. Both count from 0. A file of that name is written ./origins.\n" ++
    (bytes "A job that has no answer prints incomplete, or need and the function value that is lacking, or refused, the\n" ++
    (bytes "refusal's number and the place: a line or a step counted from 0. The sentence on standard error counts from 1.\n" ++
    (bytes "Example, half of pi: printf 'p\\nn\\t4000000000000000\\t0000000000000000\\nb\\t/\\t0\\t1\\n' | ./run rack evaluate\n")))))))))))))))))))

-- that of the library, include/findavoreb.h
abbrev pub version : List ℕ
version = bytes "rack 2.2.0\n"

-- where there is no word
abbrev pub usage : List ℕ
usage = bytes "use: ./run rack COMMAND [LIMIT] [marks] [origins] [FILE]; ./run rack help names the commands.\n"

abbrev pub too_many : List ℕ
too_many = bytes "There are too many words: at most a file follows on a command, before it origins on simplify and substitute, before that marks on evaluate, simplify and play, and before that on simplify a limit.\n"

-- the word is named
abbrev pub unknown : (word : List ℕ) → List ℕ
unknown word = bytes "rack has no command " ++ (word ++ bytes "; ./run rack help names the commands.\n")
