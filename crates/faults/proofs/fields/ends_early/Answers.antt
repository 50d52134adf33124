-- `ends_early` meets its contract. Assumes nothing.
use mathlib.Core.Path.{sym}
use native.Mathlib.Omega.{arith}
use borrow.Author.Tests.{lt-ltb, le-ltb, eq-eqb, ne_eqb}
use Rattle.faults.proofs.fields.ends_early.Goals as goal

pub returns-then-left-eq0 : goal.returns-then-left-eq0
returns-then-left-eq0 c = sym (rw (le-ltb 0 c.args.left (omega (arith, c.if-left-eq0.true))))

pub returns-then-b-eq-TAB : goal.returns-then-b-eq-TAB
returns-then-b-eq-TAB c = sym (rw (lt-ltb 0 c.args.left (omega (arith, c.if-left-eq0.false)), eq-eqb _ 9 c.if-b-eq-TAB.true))

pub returns-then-b-eq-LF : goal.returns-then-b-eq-LF
returns-then-b-eq-LF c = sym (rw (lt-ltb 0 c.args.left (omega (arith, c.if-left-eq0.false)), ne_eqb _ 9 c.if-b-eq-TAB.false, eq-eqb _ 10 c.if-b-eq-LF.true))

pub returns : goal.returns
returns c = sym (rw (lt-ltb 0 c.args.left (omega (arith, c.if-left-eq0.false)), ne_eqb _ 9 c.if-b-eq-TAB.false, ne_eqb _ 10 c.if-b-eq-LF.false))
