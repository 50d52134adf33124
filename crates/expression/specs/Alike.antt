-- When two trees are identical, and when they are equal in the sense of `==`. Definitions only.
use Rattle.std.specs.Prelude.{Bool, true, false, ◌&&◌, eqb}
use Rattle.complex.specs.declared.Complex.{Complex}
use Rattle.complex.specs.Equality as Numbers
use Rattle.expression.specs.Codes.{infix_code, prefix_code, function_code}
use Rattle.expression.specs.Trees.{Leaf, number, pi, variable, cell, Tree, leaf, function_call, prefixed, infixed}

-- by kind, operator, children and numbers, where `same` compares numbers
module _ (same : Complex → Complex → Bool) where
  unfoldable pub alike_leaves : Leaf → Leaf → Bool
  alike_leaves (number x) (number y) = same x y
  alike_leaves (number x) pi = false
  alike_leaves (number x) (variable w) = false
  alike_leaves (number x) (cell q j) = false
  alike_leaves pi (number y) = false
  alike_leaves pi pi = true
  alike_leaves pi (variable w) = false
  alike_leaves pi (cell q j) = false
  alike_leaves (variable v) (number y) = false
  alike_leaves (variable v) pi = false
  alike_leaves (variable v) (variable w) = eqb v w
  alike_leaves (variable v) (cell q j) = false
  alike_leaves (cell r i) (number y) = false
  alike_leaves (cell r i) pi = false
  alike_leaves (cell r i) (variable w) = false
  alike_leaves (cell r i) (cell q j) = eqb r q && eqb i j

  unfoldable pub alike : Tree → Tree → Bool
  alike (leaf a) (leaf b) = alike_leaves a b
  alike (leaf a) (function_call g u) = false
  alike (leaf a) (prefixed p u) = false
  alike (leaf a) (infixed p u v) = false
  alike (function_call f s) (leaf b) = false
  alike (function_call f s) (function_call g u) = eqb (function_code f) (function_code g) && alike s u
  alike (function_call f s) (prefixed p u) = false
  alike (function_call f s) (infixed p u v) = false
  alike (prefixed o s) (leaf b) = false
  alike (prefixed o s) (function_call g u) = false
  alike (prefixed o s) (prefixed p u) = eqb (prefix_code o) (prefix_code p) && alike s u
  alike (prefixed o s) (infixed p u v) = false
  alike (infixed o s t) (leaf b) = false
  alike (infixed o s t) (function_call g u) = false
  alike (infixed o s t) (prefixed p u) = false
  alike (infixed o s t) (infixed p u v) = eqb (infix_code o) (infix_code p) && (alike s u && alike t v)

-- "the same kind, operator, children and bits"
abbrev pub identical : Tree → Tree → Bool
identical = alike Numbers.identical

-- "Two nodes are equal in the sense of `==` by kind, operator, equal children and equal numbers"
abbrev pub equal : Tree → Tree → Bool
equal = alike Numbers.equal
