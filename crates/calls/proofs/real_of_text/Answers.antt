-- `real_of_text` meets its contract. Assumes nothing.
use Rattle.expression.proofs.Passing.{passed_on}
use Rattle.calls.proofs.Framing.{lists_read, reads_real, reads_real_refused}
use Rattle.calls.proofs.real_of_text.Goals as goal

pub returns-in_err-listed : goal.returns-in_err-listed
returns-in_err-listed c = rw (passed_on _ c.from_residual.ensures.1) (reads_real_refused c.args.store.now c.read_listing.ensures c.in_err-listed.was)

pub returns : goal.returns
returns c = let l = lists_read c.read_listing.ensures c.in_ok-listed.was in reads_real c.args.store.now c.read_listing.ensures c.in_ok-listed.was (c.to_real.ensures _ l.2.sound.holds l.0)
