-- `emit` meets its contract: each return is a law of proofs/Emitting. The measure is `below`. Assumes nothing.
use Rattle.tape.proofs.compile.+emit.Given as goal

abbrev pub decreases-emit : goal.decreases-emit
decreases-emit l = l.below
