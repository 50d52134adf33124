-- `take_variable` meets its contract: each return is a law of proofs/Taking. Assumes nothing.
use mathlib.Core.Path.{sym, ◌∙◌}
use native.Mathlib.Omega.{arith}
use Rattle.sheet.proofs.Taking.{refuses, variable_many, variable_malformed, variable_misplaced, variable_taken}
use Rattle.sheet.proofs.lines.take_variable.Goals as goal

pub line_number-line-requires : goal.line_number-line-requires
line_number-line-requires c = omega (arith, c.requires.1.variables, c.requires.1.cells, c.requires.1.functions)

pub returns-then-count-ge-MOST_VARIABLES : goal.returns-then-count-ge-MOST_VARIABLES
returns-then-count-ge-MOST_VARIABLES c = refuses (variable_many c.args.table.now c.args.counts c.line_number-line.result c.line_number-line.ensures _ _ c.if-count-ge-MOST_VARIABLES.true)

pub returns-in_default : goal.returns-in_default
returns-in_default c = refuses (variable_malformed c.args.table.now c.args.counts c.line_number-line.result c.line_number-line.ensures _ _ c.if-count-ge-MOST_VARIABLES.false (rw c.in_default.is at c.read_variable.ensures))

pub variable_may-requires : goal.variable_may-requires
variable_may-requires c = c.requires.1

pub returns-then-not-variable_may : goal.returns-then-not-variable_may
returns-then-not-variable_may c = refuses (variable_misplaced c.args.table.now c.args.counts c.line_number-line.result c.line_number-line.ensures _ _ c.if-count-ge-MOST_VARIABLES.false (rw c.in-Some.is at c.read_variable.ensures) (sym c.if-not-variable_may.true ∙ c.variable_may.ensures))

pub put_variable-requires : goal.put_variable-requires
put_variable-requires c = c.if-count-ge-MOST_VARIABLES.false

pub overflow_add-more : goal.overflow_add-more
overflow_add-more c = omega arith

pub returns : goal.returns
returns c = rw c.put_variable.ensures (variable_taken c.args.table.now c.args.counts c.requires.1 c.requires.0 c.line_number-line.result c.line_number-line.ensures _ _ _ _ _ c.if-count-ge-MOST_VARIABLES.false (rw c.in-Some.is at c.read_variable.ensures) (sym c.if-not-variable_may.false ∙ c.variable_may.ensures))
