-- `read_tape` meets its contract. The invariant is `Taking`. Assumes nothing.
use Prim.Native.Nat.{◌-◌}
use Rattle.console.proofs.TapeLines.{Taking}
use Rattle.console.proofs.tape.read_tape.Given as goal

abbrev pub invariant-loop : goal.invariant-loop
invariant-loop l = Taking l.initial.out l.text l.out l.rest (513 - l.counter) l.n
