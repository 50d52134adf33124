-- `read_tape` meets its contract. The invariant is `Taking`. Assumes nothing.
use mathlib.Core.Path.{◌≡◌, sym, ◌∙◌}
use Prim.Native.Nat.{◌+◌, ◌-◌}
use native.Mathlib.Omega.{arith}
use Rattle.text.proofs.Putting.{put_length}
use Rattle.console.proofs.Lines.{put_counts}
use Rattle.console.proofs.TapeLines.{take_begins, take_on, take_full, take_all_lines}
use borrow.Author.Rules.{rules}
use Rattle.console.proofs.tape.read_tape.Goals as goal

pub loop-init : goal.loop-init
loop-init c = take_begins _ _

pub returns-then-is_empty : goal.returns-then-is_empty
returns-then-is_empty c = let p = take_all_lines c.loop.invariant (sym c.is_empty.ensures ∙ c.if-is_empty.true) in record { put = p; within = put_counts p (omega (arith, c.requires, p.place, c.loop.invariant.room)) }

pub write_bytes-n-requires : goal.write_bytes-n-requires
write_bytes-n-requires c = omega (arith, c.requires, c.loop.invariant.room, put_length c.loop.invariant.put, c.loop-test.true)

pub loop-preserved : goal.loop-preserved
loop-preserved c =
    let z : 513 - (c.loop.counter + 1) ≡ 513 - c.loop.counter - 1 = omega arith in
    rw z (take_on c.loop.invariant (λ e. omega (arith, e, c.loop-test.true)) (sym c.is_empty.ensures ∙ c.if-is_empty.false) (search rules) c.read_step-step.ensures c.write_bytes-n.ensures c.next_line-rest.ensures)

pub returns : goal.returns
returns c = let p = take_full c.loop.invariant (omega (arith, c.loop-test.false)) in record { put = p; within = put_counts p (omega (arith, c.requires, p.place, c.loop.invariant.room)) }
