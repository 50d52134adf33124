-- Worked examples: marks, and the two lines that say them. Assumes nothing.
use mathlib.Core.Path.{◌≡◌, refl}
use mathlib.Core.List.{[], ◌∷◌}
use Rattle.text.specs.Letters.{bytes}
use Rattle.text.specs.Lines.{none}
use Rattle.text.specs.Digits.{digits_by, digits}
use Rattle.text.specs.Writing.{byte_of, in_decimal}
use Rattle.marks.specs.Marking.{marked_from, each, marks_line, used_line}

printed : marks_line (1 ∷ 0 ∷ 0 ∷ 1 ∷ 1 ∷ 0 ∷ []) ≡ bytes "marks\t0\t3\t4\n"
unfolding marked_from each in_decimal digits digits_by byte_of
printed = refl

said : used_line (1 ∷ 0 ∷ 0 ∷ 1 ∷ 1 ∷ 0 ∷ []) ≡ bytes "rows used: 0 3 4\n"
unfolding marked_from each none in_decimal digits digits_by byte_of
said = refl

none_printed : marks_line (0 ∷ 0 ∷ []) ≡ bytes "marks\n"
unfolding marked_from each
none_printed = refl

nothing_said : used_line (0 ∷ 0 ∷ []) ≡ []
unfolding marked_from none
nothing_said = refl
