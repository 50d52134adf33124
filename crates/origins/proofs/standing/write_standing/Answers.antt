-- `write_standing` meets its contract: what was passed of the listing is said. Assumes nothing.
use Rattle.std.proofs.Common.{◌+◌, ◌-◌, length, drop, take_all, arith, length-drop}
use Rattle.text.proofs.Putting.{put_length}
use Rattle.origins.proofs.Sentences.{begins, room, next_line_lem, goes_on, one_more_lem, passed_again, too_late, ends}
use Rattle.origins.proofs.standing.write_standing.Goals as goal
use Rattle.origins.proofs.standing.write_standing.Goals.{then-b-eq-LF, else-b-eq-LF+then-b-eq64+then-not-passed+then-line-lt-LINES, else-b-eq-LF+then-b-eq64+else-not-passed, else-not-passed-via-then-not-passed+else-line-lt-LINES, else-not-passed-via-else-not-passed, else-b-eq-LF+else-b-eq64}

pub loop-i-init : goal.loop-i-init
loop-i-init c = begins _ _ _

pub overflow_add-line : goal.overflow_add-line
overflow_add-line c = omega (arith, c.loop-i.invariant.lines, c.loop-i-test.true, c.ranges, c.well_formed)

pub write_told-next-requires : goal.write_told-next-requires
write_told-next-requires c = (c.if-line-lt-LINES.true, omega (arith, c.requires, put_length c.loop-i.invariant.put, room c.loop-i.invariant c.if-not-passed.true c.if-line-lt-LINES.true))

pub loop-i-preserved : goal.loop-i-preserved
loop-i-preserved c = let l = c.loop-i-test.true in elim c.if-b-eq-LF.branch [
  | then-b-eq-LF w ↦ rw (w.out-is, w.next-is, w.line-is, w.passed-is) (next_line_lem c.loop-i.invariant l w.if-b-eq-LF.true)
  | else-b-eq-LF+then-b-eq64+then-not-passed+then-line-lt-LINES w ↦
      rw (w.out-is, w.next-is, w.line-is, w.passed-is) (one_more_lem c.loop-i.invariant l w.if-b-eq64.true w.if-not-passed.true w.if-line-lt-LINES.true (rw (take_all (length c.args.text.now - (c.loop-i.i + 1)) (drop (c.loop-i.i + 1) c.args.text.now) (omega (arith, length-drop (c.loop-i.i + 1) c.args.text.now))) at w.write_told-next.ensures))
  | else-b-eq-LF+then-b-eq64+else-not-passed w ↦ rw (w.out-is, w.next-is, w.line-is, w.passed-is) (elim w.else-not-passed.branch [
    | else-not-passed-via-then-not-passed+else-line-lt-LINES v ↦ too_late c.loop-i.invariant l w.if-b-eq64.true v.if-not-passed.true v.if-line-lt-LINES.false
    | else-not-passed-via-else-not-passed v ↦ passed_again c.loop-i.invariant l w.if-b-eq64.true v.if-not-passed.false
  ])
  | else-b-eq-LF+else-b-eq64 w ↦ rw (w.out-is, w.next-is, w.line-is, w.passed-is) (goes_on c.loop-i.invariant l w.if-b-eq-LF.false w.if-b-eq64.false)
]

pub shape_of-out : goal.shape_of-out
shape_of-out c = put_length c.loop-i.invariant.put

pub returns : goal.returns
returns c = ends c.loop-i.invariant c.loop-i-test.false
