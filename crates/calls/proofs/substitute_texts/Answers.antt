-- `substitute_texts` meets its contract. Assumes nothing.
use Rattle.expression.proofs.Passing.{passed_on}
use Rattle.calls.proofs.Framing.{lists_read, substitutes, substitutes_refused}
use Rattle.calls.proofs.substitute_texts.Goals as goal

pub returns-in_err-listed : goal.returns-in_err-listed
returns-in_err-listed c = rw (passed_on _ c.from_residual.ensures.1) (substitutes_refused _ c.args.store.now _ c.read_listing.ensures c.in_err-listed.was)

pub returns : goal.returns
returns c = let l = lists_read c.read_listing.ensures c.in_ok-listed.was in substitutes _ c.args.store.now _ c.read_listing.ensures c.in_ok-listed.was (c.substitute_variables-built.ensures l.1 l.2 l.0) c.write_answer.ensures
