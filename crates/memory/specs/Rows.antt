-- A row of lent memory with nothing in it. Definitions only.
use Rattle.std.specs.Prelude.{ℕ, List, [], ◌∷◌}

abbrev pub blank : List ℕ
blank = 0 ∷ 0 ∷ 0 ∷ 0 ∷ []
