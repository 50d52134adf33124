-- The line of the marks is a line of fields, as all printed answers are. Assumes nothing.
use mathlib.Core.Path.{◌≡◌, refl, sym, ap, ◌∙◌}
use mathlib.Core.List.{List, [], ◌∷◌, ◌++◌, append_assoc, map}
use Prim.Native.Nat.{ℕ}
use Rattle.text.specs.Letters.{bytes}
use Rattle.text.specs.Reading.{tab, lf}
use Rattle.text.specs.Writing.{in_decimal, line}
use Rattle.marks.specs.Marking.{marked, each, numbers_line, marks_line}

after_head : (head : List ℕ) (ns : List ℕ) → line (head ∷ map in_decimal ns) ≡ numbers_line head tab ns
unfolding line each
after_head head [] = refl
after_head head (n ∷ ns) = ap (λ l. head ++ (tab ∷ l)) (after_head (in_decimal n) ns ∙ sym (append_assoc (in_decimal n) (each tab ns) (lf ∷ [])))

pub marks_fields : (marks : List ℕ) → marks_line marks ≡ line (bytes "marks" ∷ map in_decimal (marked marks))
marks_fields marks = sym (after_head (bytes "marks") (marked marks))
