-- Worked examples of the definitions, which antt computes: sizes and depths, identical and equal trees, the refusals' table.
-- Assumes nothing.
use mathlib.Core.Bool.{Bool, true, not, ◌&&◌}
use mathlib.Core.List.{List, [], ◌∷◌}
use lib.Dec.{T, eqb}
use lib.Ieee.{eq, is_nan, to_bits, of_bits}
use Rattle.complex.specs.Constants.{of_parts}
use Rattle.complex.specs.Equality as Numbers
use Rattle.expression.specs.declared.InfixOperator.{InfixOperator}
use Rattle.expression.specs.declared.PrefixOperator.{PrefixOperator}
use Rattle.expression.specs.declared.ExpressionFunction.{ExpressionFunction}
use Rattle.expression.specs.declared.refusal.Operation.{Operation}
use Rattle.expression.specs.declared.refusal.Refusal.{Refusal}
use Rattle.expression.specs.Trees.{Tree, leaf, number, pi, variable, cell, function_call, prefixed, infixed, size, depth}
use Rattle.expression.specs.Alike.{alike, alike_leaves, identical, equal}
use Rattle.expression.specs.Refusals.{number_of, place_of}

all : List Bool → Bool
all [] = true
all (b ∷ bs) = b && all bs

a : Tree
a = leaf (variable 0)

b : Tree
b = leaf (variable 1)

-- (a - b) - b
neighbour : Tree
neighbour = infixed InfixOperator.Minus (infixed InfixOperator.Minus a b) b

-- sin (-(a - b))
turned : Tree
turned = function_call ExpressionFunction.Sine (prefixed PrefixOperator.Minus (infixed InfixOperator.Minus a b))

sizes : T (all
    (eqb (size a) 1
    ∷ eqb (depth (leaf pi)) 1
    ∷ eqb (size neighbour) 5
    ∷ eqb (depth neighbour) 3
    ∷ eqb (size turned) 5
    ∷ eqb (depth turned) 4
    ∷ []))
unfolding all a b neighbour turned size depth
sizes = tt

zero : Tree
zero = leaf (number (of_parts 0 0))

minus_zero : Tree
minus_zero = leaf (number (of_parts 0x8000_0000_0000_0000 0))

-- 0 and -0 are equal trees and not identical, also inside others; NaN is identical to NaN, whatever its bits were
likenesses : T (all
    (equal zero minus_zero
    ∷ not (identical zero minus_zero)
    ∷ equal (infixed InfixOperator.Plus a zero) (infixed InfixOperator.Plus a minus_zero)
    ∷ not (identical (infixed InfixOperator.Plus a zero) (infixed InfixOperator.Plus a minus_zero))
    ∷ identical (leaf (number (of_parts 0x7FF8_0000_0000_0000 0))) (leaf (number (of_parts 0xFFF0_0000_0000_0001 0)))
    ∷ not (equal neighbour turned)
    ∷ not (equal (infixed InfixOperator.Plus a b) (infixed InfixOperator.Plus b a))
    ∷ not (equal (leaf (cell 0 1)) (leaf (cell 1 0)))
    ∷ not (equal (leaf (variable 0)) (leaf (cell 0 0)))
    ∷ []))
unfolding all a b neighbour turned zero minus_zero alike alike_leaves Numbers.identical Numbers.equal Numbers.identical_doubles Numbers.equal_doubles eq is_nan to_bits of_bits
likenesses = tt

-- 01's table and 02's five: the number of each, and the place that it carries
refusals : T (all
    (eqb (number_of (Refusal.BadList 7)) 1
    ∷ eqb (place_of (Refusal.BadList 7)) 7
    ∷ eqb (number_of (Refusal.LongList 0)) 2
    ∷ eqb (number_of (Refusal.BadSheet 7)) 3
    ∷ eqb (place_of (Refusal.LongSheet 7)) 7
    ∷ eqb (number_of (Refusal.LongSheet 7)) 4
    ∷ eqb (number_of Refusal.BadLimit) 5
    ∷ eqb (number_of Refusal.Big) 6
    ∷ eqb (number_of Refusal.Deep) 7
    ∷ eqb (number_of Refusal.Room) 8
    ∷ eqb (place_of Refusal.Room) 0
    ∷ eqb (number_of (Refusal.Need Operation.Power (of_parts 0 0) (of_parts 0 0))) 9
    ∷ eqb (number_of Refusal.Incomplete) 10
    ∷ eqb (number_of Refusal.NotReal) 11
    ∷ eqb (number_of Refusal.NotANumber) 12
    ∷ eqb (number_of Refusal.OutRoom) 13
    ∷ eqb (number_of Refusal.LongTape) 14
    ∷ eqb (number_of (Refusal.BadTape 3)) 15
    ∷ eqb (place_of (Refusal.BadTape 3)) 3
    ∷ eqb (number_of (Refusal.BadNames 2)) 16
    ∷ eqb (place_of (Refusal.BadNames 2)) 2
    ∷ eqb (number_of (Refusal.UnknownName 2)) 17
    ∷ eqb (number_of Refusal.BadBook) 18
    ∷ eqb (number_of (Refusal.Many 4096)) 19
    ∷ eqb (place_of (Refusal.Many 4096)) 4096
    ∷ eqb (number_of Refusal.NoText) 20
    ∷ []))
unfolding all
refusals = tt
