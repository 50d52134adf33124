-- `write_digits` meets its contract. Assumes nothing.
use mathlib.Core.Path.{◌∙◌}
use native.Mathlib.Omega.{arith}
use lib.ListN.{length-set}
use Rattle.text.proofs.Putting.{put_length}
use Rattle.console.proofs.TapeLines.{digits_alone, digits_stop}
use Rattle.console.proofs.tape.write_digits.Goals as goal

pub bounds-out-at-2 : goal.bounds-out-at-2
bounds-out-at-2 c = simp length-set (omega (arith, c.requires))

pub returns-then-stop-eq0 : goal.returns-then-stop-eq0
returns-then-stop-eq0 c = digits_alone c.args.b c.digit_byte.ensures c.digit_byte-2.ensures c.if-stop-eq0.true

pub write_byte-requires : goal.write_byte-requires
write_byte-requires c = simp length-set (omega (arith, c.requires))

pub shape_of-out : goal.shape_of-out
shape_of-out c = put_length c.write_byte.ensures ∙ simp length-set

pub returns : goal.returns
returns c = digits_stop c.args.b c.digit_byte.ensures c.digit_byte-2.ensures c.if-stop-eq0.false c.write_byte.ensures
