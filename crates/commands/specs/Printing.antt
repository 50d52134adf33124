-- What rack prints on standard output and says on standard error, for all words and every input, as bytes. Definitions only.
use Rattle.std.specs.Prelude.{◌≡◌, ℕ, List, [], take}
use Rattle.io.specs.Counts.{IsPrefixLen}
use Rattle.commands.specs.declared.Printed.{Printed}
use Rattle.commands.specs.Words.{Request, job, help, version, nothing, unknown, too_many, first_of, request, shows, traces}
use Rattle.outcomes.specs.Outcomes.{output_with, said_with}
use Rattle.commands.specs.Results.{result_for, marks}
use Rattle.commands.specs.Help as Help

-- ---- the words and the input

unfoldable pub output_of : Request → (input out : List ℕ) → List ℕ
output_of (job command rest) input out = output_with (shows command) (marks command input out) (result_for command input out)
output_of help input out = Help.help
output_of version input out = Help.version
output_of nothing input out = []
output_of unknown input out = []
output_of too_many input out = []

unfoldable pub said_of : Request → (words input out : List ℕ) → List ℕ
said_of (job command rest) words input out = said_with (traces command) (marks command input out) (result_for command input out)
said_of help words input out = []
said_of version words input out = []
said_of nothing words input out = Help.usage
said_of unknown words input out = Help.unknown (first_of words)
said_of too_many words input out = Help.too_many

abbrev pub standard_output : (words input out : List ℕ) → List ℕ
standard_output words input out = output_of (request words) input out

abbrev pub standard_error : (words input out : List ℕ) → List ℕ
standard_error words input out = said_of (request words) words input out

-- ---- the promise: so many bytes at the start of the one output and of the other

pub record Answers (words input out : List ℕ) (r : Printed) (out' said' : List ℕ) : Type 0 where
  pub prints : take r.out out' ≡ standard_output words input out
  pub says : take r.said said' ≡ standard_error words input out
  pub printed_within : IsPrefixLen r.out out'
  pub said_within : IsPrefixLen r.said said'
