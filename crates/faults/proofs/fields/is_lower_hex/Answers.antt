-- `is_lower_hex` meets its contract. Assumes nothing.
use mathlib.Core.Path.{sym}
use native.Mathlib.Omega.{arith}
use borrow.Author.Tests.{lt-ltb, le-ltb, le-leb, lt-leb}
use Rattle.faults.proofs.fields.is_lower_hex.Goals as goal

pub returns-then-base-eq0 : goal.returns-then-base-eq0
returns-then-base-eq0 c = sym (rw (le-ltb 0 c.args.base (omega (arith, c.if-base-eq0.true))))

pub returns-then-b-lt97 : goal.returns-then-b-lt97
returns-then-b-lt97 c = sym (rw (lt-ltb 0 c.args.base (omega (arith, c.if-base-eq0.false)), lt-leb 97 _ c.if-b-lt97.true))

pub returns-then-b-gt102 : goal.returns-then-b-gt102
returns-then-b-gt102 c = sym (rw (lt-ltb 0 c.args.base (omega (arith, c.if-base-eq0.false)), le-leb 97 _ c.if-b-lt97.false, lt-leb _ 102 c.if-b-gt102.true))

pub returns : goal.returns
returns c = sym (rw (lt-ltb 0 c.args.base (omega (arith, c.if-base-eq0.false)), le-leb 97 _ c.if-b-lt97.false, le-leb _ 102 c.if-b-gt102.false))
