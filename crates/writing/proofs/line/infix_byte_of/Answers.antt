-- `infix_byte_of` meets its contract: a number that is none of the first four. Assumes nothing.
use mathlib.Core.Path.{refl}
use borrow.Author.Tests.{ne_eqb}
use Rattle.expression.specs.Codes.{numbered}
use Rattle.writing.proofs.line.infix_byte_of.Goals as goal

pub returns-in-1 : goal.returns-in-1
unfolding numbered
returns-in-1 c = rw c.in-1.is

pub returns-in-2 : goal.returns-in-2
unfolding numbered
returns-in-2 c = rw c.in-2.is

pub returns-in-3 : goal.returns-in-3
unfolding numbered
returns-in-3 c = rw c.in-3.is

pub returns-in-4 : goal.returns-in-4
unfolding numbered
returns-in-4 c = rw c.in-4.is

pub returns-in_default : goal.returns-in_default
unfolding numbered
returns-in_default c = let r = c.in_default.in_default-own.rest in rw (ne_eqb _ 1 r.0.0.0.1, ne_eqb _ 2 r.0.0.1, ne_eqb _ 3 r.0.1, ne_eqb _ 4 r.1) refl
