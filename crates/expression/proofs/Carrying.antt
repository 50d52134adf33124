-- What a refusal carries that is not NEED: a place. Assumes nothing.
use mathlib.Core.Path.{◌≡◌, refl}
use mathlib.Core.List.{List, [], ◌∷◌}
use Prim.Native.Nat.{ℕ}
use denote.Enum.Declared.{tag_of}
use types.Run.{OneOf, miss}
use Rattle.expression.specs.declared.refusal.Refusal.{Refusal}
use Rattle.expression.specs.Refusals.{place, carries, place_of}
use Rattle.expression.specs.contracts.refusal.Refusal.{the_type}

-- the variants but NEED, by their order in the enum
abbrev pub others : List ℕ
others = 0 ∷ 1 ∷ 2 ∷ 3 ∷ 4 ∷ 5 ∷ 6 ∷ 7 ∷ 9 ∷ 10 ∷ 11 ∷ 12 ∷ 13 ∷ 14 ∷ 15 ∷ 16 ∷ 17 ∷ 18 ∷ 19 ∷ []

pub is_placed : (why : Refusal) → OneOf others (tag_of the_type why) → carries why ≡ place (place_of why)
is_placed (Refusal.BadList line) k = refl
is_placed (Refusal.LongList line) k = refl
is_placed (Refusal.BadSheet line) k = refl
is_placed (Refusal.LongSheet line) k = refl
is_placed Refusal.BadLimit k = refl
is_placed Refusal.Big k = refl
is_placed Refusal.Deep k = refl
is_placed Refusal.Room k = refl
is_placed (Refusal.Need operation x y) k = absurd (miss others 8 tt k)
is_placed Refusal.Incomplete k = refl
is_placed Refusal.NotReal k = refl
is_placed Refusal.NotANumber k = refl
is_placed Refusal.OutRoom k = refl
is_placed Refusal.LongTape k = refl
is_placed (Refusal.BadTape step) k = refl
is_placed (Refusal.BadNames line) k = refl
is_placed (Refusal.UnknownName line) k = refl
is_placed Refusal.BadBook k = refl
is_placed (Refusal.Many listing) k = refl
is_placed Refusal.NoText k = refl
