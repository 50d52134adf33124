-- 01's table of refusals, 1 to 15, and the five of the change requests, 16 to 20: the number of each, and what it carries. Definitions only.
use Rattle.std.specs.Prelude.{ℕ, Bool, ◌||◌, eqb}
use Rattle.complex.specs.declared.Complex.{Complex}
use Rattle.expression.specs.declared.refusal.Operation.{Operation}
use Rattle.expression.specs.declared.refusal.Refusal.{Refusal}

abbrev pub number_of : Refusal → ℕ
number_of (Refusal.BadList line) = 1
number_of (Refusal.LongList line) = 2
number_of (Refusal.BadSheet line) = 3
number_of (Refusal.LongSheet line) = 4
number_of Refusal.BadLimit = 5
number_of Refusal.Big = 6
number_of Refusal.Deep = 7
number_of Refusal.Room = 8
number_of (Refusal.Need operation x y) = 9
number_of Refusal.Incomplete = 10
number_of Refusal.NotReal = 11
number_of Refusal.NotANumber = 12
number_of Refusal.OutRoom = 13
number_of Refusal.LongTape = 14
number_of (Refusal.BadTape step) = 15
number_of (Refusal.BadNames line) = 16
number_of (Refusal.UnknownName line) = 17
number_of Refusal.BadBook = 18
number_of (Refusal.Many listing) = 19
number_of Refusal.NoText = 20

-- a line, a step or a listing, or 0; or the name and the operands of a function value that is lacking
-- NEED and INCOMPLETE: the sheet lacks what was looked up in it
abbrev pub is_lack : Refusal → Bool
is_lack why = eqb (number_of why) 9 || eqb (number_of why) 10

pub data Carried : Type 0 where
  place : ℕ → Carried
  lacking : Operation → Complex → Complex → Carried

abbrev pub carries : Refusal → Carried
carries (Refusal.BadList line) = place line
carries (Refusal.LongList line) = place line
carries (Refusal.BadSheet line) = place line
carries (Refusal.LongSheet line) = place line
carries Refusal.BadLimit = place 0
carries Refusal.Big = place 0
carries Refusal.Deep = place 0
carries Refusal.Room = place 0
carries (Refusal.Need operation x y) = lacking operation x y
carries Refusal.Incomplete = place 0
carries Refusal.NotReal = place 0
carries Refusal.NotANumber = place 0
carries Refusal.OutRoom = place 0
carries Refusal.LongTape = place 0
carries (Refusal.BadTape step) = place step
carries (Refusal.BadNames line) = place line
carries (Refusal.UnknownName line) = place line
carries Refusal.BadBook = place 0
carries (Refusal.Many listing) = place listing
carries Refusal.NoText = place 0

abbrev pub place_in : Carried → ℕ
place_in (place k) = k
place_in (lacking operation x y) = 0

abbrev pub place_of : Refusal → ℕ
place_of r = place_in (carries r)
