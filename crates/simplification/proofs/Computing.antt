-- Simplifying, opened so far that an example computes. Assumes nothing.
use mathlib.Core.List.{[]}
use Prim.Native.Nat.{ℕ}
use lib.Ieee.{add, mul, sub, div, eq, lt, neg, round, to_bits, of_bits, is_nan}
use Rattle.complex.specs.Equality as Numbers
use Rattle.complex.specs.Zero.{magnitude, squares_below, is_zero, is_one}
use Rattle.expression.specs.Trees.{Tree, size, depth}
use Rattle.expression.specs.Alike.{alike_leaves, alike}
use Rattle.store.specs.Storing.{State, Answer, and_then, among, intern, recall, keep, noting}
use Rattle.sheet.specs.Rows.{rows}
use Rattle.tasks.specs.Tasks.{leaf_task, task_at}
use Rattle.arms.specs.Looks.{is_number_of, number_in, is_negation, under, is_infix, left, right}
use Rattle.arms.specs.Arms.{arm_if, smaller, uninverted, sharing, minus_plan, prefix_plan}
use Rattle.arms.specs.Ordered.{first_match, arms, infix_plan}
use Rattle.simplification.specs.Simplifying.{counted, folded_to, again, keeping, carry_out, simplify_prefix, simplify_infix, perform, resume, step, simplify_by, simplify}

-- Simplifying under an empty sheet. A proof that unfolds this unfolds all that simplifying is defined by, so that the list stands here alone.
unfoldable pub computed : (limit : ℕ) → Tree → State → Answer
unfolding simplify_by step resume recall keep keeping perform task_at leaf_task counted noting folded_to intern among and_then again carry_out simplify_infix simplify_prefix infix_plan first_match arms prefix_plan minus_plan sharing uninverted smaller arm_if is_number_of number_in is_negation under is_infix left right is_zero is_one squares_below magnitude alike alike_leaves Numbers.identical Numbers.equal Numbers.identical_doubles Numbers.equal_doubles size depth eq is_nan lt neg to_bits of_bits round add mul sub div
computed = simplify (rows [] [] [])
