-- `prefix_byte_of` meets its contract: any number but 1 stands for -. Assumes nothing.
use mathlib.Core.Path.{refl}
use borrow.Author.Tests.{ne_eqb}
use Rattle.expression.specs.Codes.{numbered}
use Rattle.writing.proofs.line.prefix_byte_of.Goals as goal

pub returns-in-1 : goal.returns-in-1
unfolding numbered
returns-in-1 c = rw c.in-1.is

pub returns-in_default : goal.returns-in_default
unfolding numbered
returns-in_default c = rw (ne_eqb _ 1 c.in_default.in_default-own.rest.1) refl
