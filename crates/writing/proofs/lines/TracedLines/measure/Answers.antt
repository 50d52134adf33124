-- `measure` with origins meets its contract. Assumes nothing.
use native.Mathlib.Omega.{arith}
use Rattle.writing.proofs.TracedTexts.{origin_said, traced_length_lem}
use Rattle.writing.proofs.lines.TracedLines.measure.Goals as goal

pub overflow_add-result : goal.overflow_add-result
overflow_add-result c = omega (arith, c.line_length.ensures.1, origin_said _ _ c.origin_length.ensures c.origin_at-origin.ensures)

pub overflow_add-result-2 : goal.overflow_add-result-2
overflow_add-result-2 c = omega (arith, c.line_length.ensures.1, origin_said _ _ c.origin_length.ensures c.origin_at-origin.ensures)

pub returns-clause-size : goal.returns-clause-size
returns-clause-size c = traced_length_lem _ _ (rw c.line_at.ensures at c.line_length.ensures.0) (rw (c.origin_at-origin.ensures, c.read.ensures) at c.origin_length.ensures)

pub returns-clause-short : goal.returns-clause-short
returns-clause-short c = omega (arith, c.line_length.ensures.1, origin_said _ _ c.origin_length.ensures c.origin_at-origin.ensures)
