-- `rebuild` meets its contract. Assumes nothing.
use Rattle.substitution.proofs.Replacing.{is_rebuilt, not_rebuilt}
use Rattle.substitution.proofs.rebuild.Goals as goal

pub returns-in_err-became : goal.returns-in_err-became
returns-in_err-became c = not_rebuilt (rw c.with_operands.ensures at c.add.ensures) c.in_err-became.was c.from_residual.ensures.0

pub returns : goal.returns
returns c = is_rebuilt (rw c.with_operands.ensures at c.add.ensures) c.in_ok-became.was c.remember.ensures
