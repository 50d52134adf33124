-- `compile_text` meets its contract. Assumes nothing.
use Rattle.expression.proofs.Passing.{passed_on}
use Rattle.calls.proofs.Framing.{lists_read}
use Rattle.calls.proofs.Taping.{compiles_read, compiles_refused}
use Rattle.calls.proofs.tapes.compile_text.Goals as goal

pub shape_of-out : goal.shape_of-out
shape_of-out c = c.compile.auto.out

pub returns-in_err-listed : goal.returns-in_err-listed
returns-in_err-listed c = rw (passed_on _ c.from_residual.ensures.1) (compiles_refused c.args.store.now _ c.read_listing.ensures c.in_err-listed.was)

pub returns : goal.returns
returns c = let l = lists_read c.read_listing.ensures c.in_ok-listed.was in compiles_read c.args.store.now _ c.read_listing.ensures c.in_ok-listed.was (c.compile.ensures (rw c.standing.ensures l.2.sound.holds) (rw c.standing.ensures l.0))
