-- What a command comes to, and what is printed of it on standard output and said on standard error. Definitions only.
use Rattle.std.specs.Prelude.{ℕ, List, [], ◌++◌, Bool, cond, eqb}
use Rattle.expression.specs.declared.refusal.Refusal.{Refusal}
use Rattle.expression.specs.Refusals.{number_of}
use Rattle.text.specs.Letters.{bytes}
use Rattle.marks.specs.Marking.{marks_line, used_line}
use Rattle.origins.specs.Standing.{standing}
use Rattle.console.specs.Answers.{refused_line, refusal_line}
use Rattle.sentences.specs.declared.Detail.{Detail}
use Rattle.sentences.specs.Sentences.{sentence, calls_sentence, too_long_sentence}

-- bytes, alone or with the number of simplify calls; a refusal and what is known of it besides; or an input that is too long
pub data Result : Type 0 where
  printed : List ℕ → Result
  with_calls : List ℕ → (calls : ℕ) → Result
  refused : Refusal → Detail → Result
  too_long : Result

-- a job without an answer: INCOMPLETE has a word of its own
unfoldable pub refused_text : Refusal → List ℕ
refused_text why = cond (eqb (number_of why) 10) (bytes "incomplete\n") (refusal_line why)

unfoldable pub output : Result → List ℕ
output (printed text) = text
output (with_calls text calls) = text
output (refused why detail) = refused_text why
output too_long = refused_line 0 0

unfoldable pub said : Result → List ℕ
said (printed text) = []
said (with_calls text calls) = calls_sentence calls
said (refused why detail) = sentence why detail
said too_long = too_long_sentence

-- ---- and of the t rows that were used

-- after the answer the line of the marks, where it is asked for
abbrev pub output_with : (shown : Bool) (marks : List ℕ) → Result → List ℕ
output_with shown marks r = output r ++ cond shown (marks_line marks) []

-- ---- and where lines of the job stand in the listing that is printed

-- a refusal prints none
unfoldable pub listing_of : Result → List ℕ
listing_of (printed text) = text
listing_of (with_calls text calls) = text
listing_of (refused why detail) = []
listing_of too_long = []

abbrev pub standing_with : (traced : Bool) → Result → List ℕ
standing_with traced r = cond traced (standing (listing_of r)) []

-- after the sentence the rows, where there are any; then where the lines stand, where it is asked for
abbrev pub said_with : (traced : Bool) (marks : List ℕ) → Result → List ℕ
said_with traced marks r = (said r ++ used_line marks) ++ standing_with traced r
