-- `print_marked` meets its contract. Assumes nothing.
use native.Mathlib.Omega.{arith}
use Rattle.outcomes.proofs.Following.{part_length, inside_part, without_marks, with_marks_lem, room_after}
use borrow.Author.Rules.{rules}
use Rattle.outcomes.proofs.print_marked.Goals as goal

pub slice_bounds-print-end-then-shown : goal.slice_bounds-print-end-then-shown
slice_bounds-print-end-then-shown c = part_length 1040 64496 c.args.out.now c.requires.0

pub print-n-requires : goal.print-n-requires
print-n-requires c = (omega (arith, part_length 1040 64496 c.args.out.now c.requires.0), inside_part c.args.out.now c.requires.0 c.args.outcome (c.requires.2 c.if-shown.true))

pub write_marks-requires : goal.write_marks-requires
write_marks-requires c = (search rules, room_after 1040 64496 c.args.out.now c.requires.0 c.print-n.new.out c.print-n.auto.out c.print-n.ensures.within.0)

pub returns-then-shown : goal.returns-then-shown
returns-then-shown c = with_marks_lem _ c.args.out.now c.args.outcome c.requires.0 c.if-shown.true (c.requires.2 c.if-shown.true) c.print-n.auto.out c.print-n.ensures c.write_marks.ensures

pub returns : goal.returns
returns c = without_marks _ _ _ c.if-shown.false c.print.ensures
