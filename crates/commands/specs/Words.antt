-- What the words of the command line ask for; each word is a line. Definitions only.
use Rattle.std.specs.Prelude.{ℕ, List, [], ◌∷◌, Bool, false, cond, eqb, length, drop}
use Rattle.text.specs.Letters.{bytes}
use Rattle.text.specs.Reading.{Read, is, bad, lf, starts, decimal_field}
use Rattle.console.specs.TapeText.{next_line}
use Rattle.commands.specs.declared.words.Command.{Command}
use Rattle.commands.specs.declared.words.Parted.{Parted}
use Rattle.commands.specs.declared.words.Whole.{Whole}

-- a command and the words after it; or what else is asked
pub data Request : Type 0 where
  job : Command → (rest : List ℕ) → Request
  help : Request
  version : Request
  nothing : Request
  unknown : Request
  too_many : Request

-- a command whose word the first one is; otherwise another
abbrev pub when : (word : List ℕ) → Command → (words : List ℕ) → Request → Request
when word command words other = cond (starts word words) (job command (drop (length word) words)) other

-- a word that asks for more; where it does not follow, the words stay
unfoldable pub after : (word rest : List ℕ) → List ℕ
after word rest = cond (starts word rest) (drop (length word) rest) rest

-- the word `marks` asks for the marks of the t rows that were used
abbrev pub marks_asked : (rest : List ℕ) → Bool
marks_asked rest = starts (bytes "marks\n") rest

abbrev pub after_marks : (rest : List ℕ) → List ℕ
after_marks rest = after (bytes "marks\n") rest

-- the word `origins` asks for where the lines of the listing came from
abbrev pub origins_asked : (rest : List ℕ) → Bool
origins_asked rest = starts (bytes "origins\n") rest

abbrev pub after_origins : (rest : List ℕ) → List ℕ
after_origins rest = after (bytes "origins\n") rest

-- a command that takes such a word, and the words after it: it stands before the file, so that a file of that name is written `./marks` or `./origins`
abbrev pub marking : (command : Bool → Parted) (rest : List ℕ) → Request
marking command rest = job (Command.Parted (command (marks_asked rest))) (after_marks rest)

abbrev pub tracing : (command : Bool → Command) (rest : List ℕ) → Request
tracing command rest = job (command (origins_asked rest)) (after_origins rest)

abbrev pub when_marking : (word : List ℕ) (command : Bool → Parted) (words : List ℕ) → Request → Request
when_marking word command words other = cond (starts word words) (marking command (drop (length word) words)) other

unfoldable pub tape_word : List ℕ → Request
tape_word words =
    when (bytes "compile\n") (Command.Whole Whole.Compile) words
    (when_marking (bytes "play\n") Parted.Play words
    (when (bytes "show\n") (Command.Whole Whole.Show) words
    (when (bytes "check\n") (Command.Whole Whole.Check) words
    unknown)))

-- `simplify` takes both, `marks` before `origins`
abbrev pub simplifying : (limit : ℕ) (rest : List ℕ) → Request
simplifying limit rest = tracing (λ traced. Command.Parted (Parted.Simplify limit (marks_asked rest) traced)) (after_marks rest)

-- its limit: a number below 2 to the 32nd, and 10 where none follows
unfoldable pub with_limit : Read ℕ → (rest : List ℕ) → Request
with_limit (is limit after) rest = simplifying limit after
with_limit bad rest = simplifying 10 rest

abbrev pub at_limit : List ℕ → Request
at_limit rest = with_limit (decimal_field lf 4294967296 rest) rest

unfoldable pub job_word : List ℕ → Request
job_word words =
    when_marking (bytes "evaluate\n") Parted.Evaluate words
    (cond (starts (bytes "substitute\n") words) (tracing (λ traced. Command.Whole (Whole.Substitute traced)) (drop (length (bytes "substitute\n")) words))
    (when (bytes "real\n") (Command.Whole Whole.Real) words
    (cond (starts (bytes "simplify\n") words) (at_limit (drop (length (bytes "simplify\n")) words))
    (when (bytes "played\n") (Command.Parted Parted.Played) words
    (tape_word words)))))

unfoldable pub first_word : List ℕ → Request
first_word words =
    cond (eqb (length words) 0) nothing
    (cond (starts (bytes "help\n") words) help
    (cond (starts (bytes "--help\n") words) help
    (cond (starts (bytes "--version\n") words) version
    (job_word words))))

-- at most one word follows on a command: the name of a file in which the job stands
unfoldable pub with_file : Request → Request
with_file (job command rest) = cond (eqb (length (next_line rest)) 0) (job command rest) too_many
with_file help = help
with_file version = version
with_file nothing = nothing
with_file unknown = unknown
with_file too_many = too_many

unfoldable pub request : List ℕ → Request
request words = with_file (first_word words)

-- the first word, without its end
unfoldable pub first_of : List ℕ → List ℕ
first_of [] = []
first_of (b ∷ bs) = cond (eqb b lf) [] (b ∷ first_of bs)

-- ---- whether the marks are asked for

unfoldable pub parted_shows : Parted → Bool
parted_shows (Parted.Evaluate shown) = shown
parted_shows (Parted.Simplify limit shown traced) = shown
parted_shows Parted.Played = false
parted_shows (Parted.Play shown) = shown

unfoldable pub shows : Command → Bool
shows (Command.Whole command) = false
shows (Command.Parted command) = parted_shows command

-- ---- whether the origins are

unfoldable pub whole_traces : Whole → Bool
whole_traces (Whole.Substitute traced) = traced
whole_traces Whole.Real = false
whole_traces Whole.Compile = false
whole_traces Whole.Show = false
whole_traces Whole.Check = false

unfoldable pub parted_traces : Parted → Bool
parted_traces (Parted.Evaluate shown) = false
parted_traces (Parted.Simplify limit shown traced) = traced
parted_traces Parted.Played = false
parted_traces (Parted.Play shown) = false

unfoldable pub traces : Command → Bool
traces (Command.Whole command) = whole_traces command
traces (Command.Parted command) = parted_traces command
