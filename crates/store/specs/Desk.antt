-- What the words of the desk say: how many nodes stand, how many simplify calls were made, why nothing was built and what that carries, and which t
-- rows were used. Only connecting.
use Rattle.std.specs.Prelude.{ℕ, ◌+◌, ◌≤◌, ◌≡◌, List, ◌++◌, cond, length, get_or, set, drop, eqb, Option, Some, None}
use Rattle.memory.specs.Layout.{desk_words, marks_from, numbered}
use Rattle.memory.specs.Marks.{noted}
use Rattle.complex.specs.declared.Complex.{Complex}
use Rattle.complex.specs.Constants.{of_parts}
use Rattle.expression.specs.declared.refusal.Operation.{Operation}
use Rattle.expression.specs.declared.refusal.Refusal.{Refusal}
use Rattle.expression.specs.Codes.{operation_of}
use Rattle.expression.specs.Refusals.{number_of}
use Rattle.store.specs.Storing.{Tally}

unfoldable pub count : List ℕ → ℕ
count desk = get_or desk 0 0

unfoldable pub calls_on : List ℕ → ℕ
calls_on desk = get_or desk 1 0

-- the marks are the last words
unfoldable pub marks_on : List ℕ → List ℕ
marks_on desk = drop marks_from desk

abbrev pub tally_on : List ℕ → Tally
tally_on desk = record { calls = calls_on desk; marks = marks_on desk }

unfoldable pub with_count : List ℕ → ℕ → List ℕ
with_count desk n = set desk 0 n

unfoldable pub with_calls : List ℕ → ℕ → List ℕ
with_calls desk calls = set desk 1 calls

-- a row by its number, if there is one
unfoldable pub with_mark : List ℕ → (row : Option ℕ) → List ℕ
with_mark desk None = desk
with_mark desk (Some j) = set desk (marks_from + j) 1

-- "9 NEED" with "name, operands"
unfoldable pub need_on : List ℕ → Refusal
need_on desk = Refusal.Need (operation_of (get_or desk 2 0)) (of_parts (get_or desk 3 0) (get_or desk 4 0)) (of_parts (get_or desk 5 0) (get_or desk 6 0))

-- the number of a refusal
unfoldable pub why_on : List ℕ → ℕ
why_on desk = get_or desk 7 0

-- the refusals of what builds: 6 to 10
abbrev pub OfBuilding : Refusal → Type 0
OfBuilding why = (6 ≤ number_of why) × (number_of why ≤ 10)

-- why nothing was built
unfoldable pub refusal_on : (desk : List ℕ) → Refusal
refusal_on desk =
    cond (eqb (why_on desk) 6) Refusal.Big
    (cond (eqb (why_on desk) 7) Refusal.Deep
    (cond (eqb (why_on desk) 8) Refusal.Room
    (cond (eqb (why_on desk) 9) (need_on desk)
    Refusal.Incomplete)))

-- between two desks the nodes, the calls and the marks stay
pub record Alike (desk desk' : List ℕ) : Type 0 where
  pub counted : count desk' ≡ count desk
  pub called : calls_on desk' ≡ calls_on desk
  pub marked : marks_on desk' ≡ marks_on desk
  pub long : length desk' ≡ length desk

-- the desk says what is needed: nothing else on it is another
pub record Asks (operation : Operation) (x y : Complex) (desk desk' : List ℕ) : Type 0 where
  pub need : length desk ≡ desk_words → need_on desk' ≡ Refusal.Need operation x y
  pub numbered : why_on desk' ≡ why_on desk
  pub alike : Alike desk desk'

-- nothing is built: the desk says why, and for NEED what it carries
pub record Refuses (why : Refusal) (desk desk' : List ℕ) : Type 0 where
  pub told : length desk ≡ desk_words → OfBuilding why → refusal_on desk' ≡ why
  pub alike : Alike desk desk'

-- rows are marked: nothing else on the desk is another
pub record Notes (first second : Option ℕ) (desk desk' : List ℕ) : Type 0 where
  pub counted : count desk' ≡ count desk
  pub called : calls_on desk' ≡ calls_on desk
  pub long : length desk' ≡ length desk
  pub marked : marks_on desk' ≡ noted (numbered first ++ numbered second) (marks_on desk)
