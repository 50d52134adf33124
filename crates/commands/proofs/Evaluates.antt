-- What `rack evaluate` prints, by the public call's answer: the value where there is one, `incomplete` where the call answers 10, and the line of
-- any other refusal. Assumes nothing.
use mathlib.Core.Path.{◌≡◌, refl, ap, ◌∙◌}
use mathlib.Core.List.{List, [], append-nil}
use mathlib.Core.Bool.{false}
use Prim.Native.Nat.{ℕ, ◌≤◌}
use lib.ListN.{length}
use borrow.Author.Tests.{le-ltb, ne_eqb}
use Rattle.std.specs.Prelude.{Result, Ok, Err}
use Rattle.complex.specs.declared.Complex.{Complex}
use Rattle.expression.specs.declared.refusal.Refusal.{Refusal}
use Rattle.expression.specs.Refusals.{number_of}
use Rattle.text.specs.Letters.{bytes}
use Rattle.text.specs.Reading.{starts}
use Rattle.calls.specs.Calls.{evaluate_call}
use Rattle.console.specs.Answers.{value_line, refusal_line}
use Rattle.console.specs.Parting.{listing_in, sheet_in}
use Rattle.console.specs.TapeText.{next_line}
use Rattle.lacks.specs.Lacking.{missing_in_job}
use Rattle.outcomes.specs.Outcomes.{refused_text, output}
use Rattle.commands.specs.declared.words.Command.{Command}
use Rattle.commands.specs.declared.words.Parted.{Parted}
use Rattle.commands.specs.Words.{job, after, job_word, first_word, with_file, request, parted_shows, shows}
use Rattle.commands.specs.Results.{of_evaluated, parted, result_in, result_for}
use Rattle.commands.specs.Printing.{output_of, standard_output}

word : request (bytes "evaluate\n") ≡ job (Command.Parted (Parted.Evaluate false)) []
unfolding request with_file first_word job_word starts after next_line
word = refl

module _ (input out : List ℕ) (h : length input ≤ 262144) where
  -- the call that is made, with a store of 4096
  abbrev pub called : Result Complex Refusal
  called = evaluate_call 4096 (listing_in input) (sheet_in input)

  prints : standard_output (bytes "evaluate\n") input out
      ≡ output (of_evaluated (missing_in_job 4096 (listing_in input) (sheet_in input)) (listing_in input) (sheet_in input) called)
  unfolding output_of shows parted_shows result_for result_in parted
  prints = ap (λ r. output_of r input out) word ∙ rw (append-nil, le-ltb 262144 (length input) h)

  pub value_printed : {z : Complex} → called ≡ Ok z → standard_output (bytes "evaluate\n") input out ≡ value_line z
  unfolding of_evaluated output
  value_printed e = prints ∙ ap (λ a. output (of_evaluated (missing_in_job 4096 (listing_in input) (sheet_in input)) (listing_in input) (sheet_in input) a)) e

  pub incomplete_printed : called ≡ Err Refusal.Incomplete → standard_output (bytes "evaluate\n") input out ≡ bytes "incomplete\n"
  unfolding of_evaluated output refused_text
  incomplete_printed e = prints ∙ ap (λ a. output (of_evaluated (missing_in_job 4096 (listing_in input) (sheet_in input)) (listing_in input) (sheet_in input) a)) e

  pub refusal_printed : {why : Refusal} → called ≡ Err why → (number_of why ≡ 10 → ⊥) → standard_output (bytes "evaluate\n") input out ≡ refusal_line why
  unfolding of_evaluated output refused_text
  refusal_printed {why} e n =
      prints ∙ ap (λ a. output (of_evaluated (missing_in_job 4096 (listing_in input) (sheet_in input)) (listing_in input) (sheet_in input) a)) e
      ∙ rw (ne_eqb (number_of why) 10 n)
