-- `forget` meets its contract: one word more is cleared in each turn. Assumes nothing.
use Rattle.substitution.specs.Run.{Forgets}
use Rattle.substitution.proofs.results.forget.Given as goal

abbrev pub invariant-loop-k : goal.invariant-loop-k
invariant-loop-k l = Forgets l.k l.initial.table l.table
