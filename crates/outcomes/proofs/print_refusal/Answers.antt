-- `print_refusal` meets its contract. Assumes nothing.
use native.Mathlib.Omega.{arith}
use Rattle.console.proofs.Lines.{put_counts}
use Rattle.outcomes.proofs.Telling.{incomplete, other_refusal}
use Rattle.outcomes.proofs.print_refusal.Goals as goal

pub returns-then-number-eq10 : goal.returns-then-number-eq10
returns-then-number-eq10 c = record { put = (incomplete c.args.why c.number.ensures c.if-number-eq10.true (c.write_bytes.ensures, put_counts c.write_bytes.ensures (omega (arith, c.requires)))).0; within = (incomplete c.args.why c.number.ensures c.if-number-eq10.true (c.write_bytes.ensures, put_counts c.write_bytes.ensures (omega (arith, c.requires)))).1 }

pub returns : goal.returns
returns c = record { put = (other_refusal c.args.why c.number.ensures c.if-number-eq10.false (c.write_refusal.ensures.put, c.write_refusal.ensures.within)).0; within = (other_refusal c.args.why c.number.ensures c.if-number-eq10.false (c.write_refusal.ensures.put, c.write_refusal.ensures.within)).1 }
