-- The calls for other languages: each answer as six words, a pick as two, and each call's promise. Definitions only.
use Rattle.std.specs.Prelude.{◌≡◌, ℕ, List, [], ◌∷◌, length, replicate, Result, Ok, Err, Float}
use Rattle.complex.specs.declared.Complex.{Complex}
use Rattle.complex.specs.Bits.{bits_of}
use Rattle.expression.specs.declared.refusal.Refusal.{Refusal}
use Rattle.expression.specs.Refusals.{number_of, Carried, place, lacking, carries}
use Rattle.expression.specs.Codes.{operation_code}
use Rattle.tape.specs.declared.Picked.{Picked}
use Rattle.tape.specs.Tapes.{count, check, picked, pick}
use Rattle.calls.specs.declared.Simplified.{Simplified}
use Rattle.calls.specs.Lent.{Work, capacity, zeroed}
use Rattle.calls.specs.Origins.{substitute_origins, simplify_origins, simplify_origins_marks}
use Rattle.calls.specs.Calls.{evaluate_call, substitute_call, to_real_call, simplify_call, compile_call, play_call}
use Rattle.calls.specs.Marks.{evaluate_marks, simplify_marks, play_marks}

-- 0 or the refusal's number; then a count, a place or an operation; two numbers as the bits of their parts
abbrev pub words : (number detail re im re2 im2 : ℕ) → List ℕ
words number detail re im re2 im2 = number ∷ detail ∷ re ∷ im ∷ re2 ∷ im2 ∷ []

unfoldable pub carried_words : (number : ℕ) → Carried → List ℕ
carried_words number (place k) = words number k 0 0 0 0
carried_words number (lacking operation x y) = words number (operation_code operation) (bits_of x.re) (bits_of x.im) (bits_of y.re) (bits_of y.im)

abbrev pub refusal_words : Refusal → List ℕ
refusal_words why = carried_words (number_of why) (carries why)

unfoldable pub evaluated_words : Result Complex Refusal → List ℕ
evaluated_words (Ok z) = words 0 0 (bits_of z.re) (bits_of z.im) 0 0
evaluated_words (Err why) = refusal_words why

unfoldable pub real_words : Result Float Refusal → List ℕ
real_words (Ok x) = words 0 0 (bits_of x) 0 0 0
real_words (Err why) = refusal_words why

unfoldable pub written_words : Result ℕ Refusal → List ℕ
written_words (Ok count) = words 0 count 0 0 0 0
written_words (Err why) = refusal_words why

-- the bytes, then the number of simplify calls
unfoldable pub simplified_words : Result Simplified Refusal → List ℕ
simplified_words (Ok a) = words 0 a.bytes a.calls 0 0 0
simplified_words (Err why) = refusal_words why

-- how many steps a sound tape has, or 15 and the first bad step
unfoldable pub checked_words : (steps : ℕ) → Result (Unit {0}) Refusal → List ℕ
checked_words steps (Ok u) = words 0 steps 0 0 0 0
checked_words steps (Err why) = refusal_words why

-- a pick as which and how long: 1 the first, 2 the second, 0 neither
unfoldable pub which_number : Picked → ℕ
which_number Picked.First = 1
which_number Picked.Second = 2
which_number Picked.Nothing = 0

abbrev pub picked_words : (a b : List ℕ) → List ℕ
picked_words a b = which_number (picked a b) ∷ length (pick a b) ∷ []

-- what is returned is the first word
unfoldable pub first_word : List ℕ → ℕ
first_word [] = 0
first_word (n ∷ ns) = n

pub record Answered (want : List ℕ) (r : ℕ) (answer : List ℕ) : Type 0 where
  pub words : answer ≡ want
  pub number : r ≡ first_word want

-- ---- the promises: answer words, marks where they are asked for, output bytes and work memory, for all inputs

pub record Evaluates (list values : List ℕ) (w : Work) (r : ℕ) (answer : List ℕ) (w' : Work) : Type 0 where
  pub answered : Answered (evaluated_words (evaluate_call (capacity w) list values)) r answer
  pub left : w' ≡ zeroed w

pub record EvaluatesMarked (list values : List ℕ) (w : Work) (r : ℕ) (answer marks : List ℕ) (w' : Work) : Type 0 where
  pub answered : Answered (evaluated_words (evaluate_call (capacity w) list values)) r answer
  pub marked : marks ≡ evaluate_marks (capacity w) list values
  pub left : w' ≡ zeroed w

pub record Substitutes (list out : List ℕ) (w : Work) (r : ℕ) (answer out' : List ℕ) (w' : Work) : Type 0 where
  pub answered : Answered (written_words (substitute_call (capacity w) list out).0) r answer
  pub output : out' ≡ (substitute_call (capacity w) list out).1
  pub left : w' ≡ zeroed w

pub record ReadsReal (list : List ℕ) (w : Work) (r : ℕ) (answer : List ℕ) (w' : Work) : Type 0 where
  pub answered : Answered (real_words (to_real_call (capacity w) list)) r answer
  pub left : w' ≡ zeroed w

pub record Simplifies (limit : ℕ) (list values out : List ℕ) (w : Work) (r : ℕ) (answer out' : List ℕ) (w' : Work) : Type 0 where
  pub answered : Answered (simplified_words (simplify_call (capacity w) limit list values out).0) r answer
  pub output : out' ≡ (simplify_call (capacity w) limit list values out).1
  pub left : w' ≡ zeroed w

pub record SimplifiesMarked (limit : ℕ) (list values out : List ℕ) (w : Work) (r : ℕ) (answer marks out' : List ℕ) (w' : Work) : Type 0 where
  pub answered : Answered (simplified_words (simplify_call (capacity w) limit list values out).0) r answer
  pub marked : marks ≡ simplify_marks (capacity w) limit list values out
  pub output : out' ≡ (simplify_call (capacity w) limit list values out).1
  pub left : w' ≡ zeroed w

-- with origins in the listing
pub record SubstitutesOrigins (list out : List ℕ) (w : Work) (r : ℕ) (answer out' : List ℕ) (w' : Work) : Type 0 where
  pub answered : Answered (written_words (substitute_origins (capacity w) list out).0) r answer
  pub output : out' ≡ (substitute_origins (capacity w) list out).1
  pub left : w' ≡ zeroed w

pub record SimplifiesOrigins (limit : ℕ) (list values out : List ℕ) (w : Work) (r : ℕ) (answer marks out' : List ℕ) (w' : Work) : Type 0 where
  pub answered : Answered (simplified_words (simplify_origins (capacity w) limit list values out).0) r answer
  pub marked : marks ≡ simplify_origins_marks (capacity w) limit list values out
  pub output : out' ≡ (simplify_origins (capacity w) limit list values out).1
  pub left : w' ≡ zeroed w

pub record Compiles (list out : List ℕ) (w : Work) (r : ℕ) (answer out' : List ℕ) (w' : Work) : Type 0 where
  pub answered : Answered (written_words (compile_call (capacity w) list out).0) r answer
  pub output : out' ≡ (compile_call (capacity w) list out).1
  pub left : w' ≡ zeroed w

pub record Plays (tape values table : List ℕ) (r : ℕ) (answer table' : List ℕ) : Type 0 where
  pub answered : Answered (evaluated_words (play_call tape values)) r answer
  pub left : table' ≡ replicate (length table) 0

pub record PlaysMarked (tape values table : List ℕ) (r : ℕ) (answer marks table' : List ℕ) : Type 0 where
  pub answered : Answered (evaluated_words (play_call tape values)) r answer
  pub marked : marks ≡ play_marks tape values
  pub left : table' ≡ replicate (length table) 0

abbrev pub Checks : (tape : List ℕ) (r : ℕ) (answer : List ℕ) → Type 0
Checks tape r answer = Answered (checked_words (count tape) (check tape)) r answer

abbrev pub Picks : (a b : List ℕ) (r : ℕ) (answer : List ℕ) → Type 0
Picks a b r answer = Answered (picked_words a b) r answer
