-- `run_job` meets its contract. Assumes nothing.
use native.Mathlib.Omega.{arith}
use Rattle.commands.proofs.Answering.{prints_job}
use Rattle.commands.proofs.Shown.{shown_short}
use Rattle.commands.proofs.run_job.Goals as goal

pub say_traced-m-requires : goal.say_traced-m-requires
say_traced-m-requires c = (c.requires.1, c.run-outcome.ensures.comes.inside)

pub print_marked-n-requires : goal.print_marked-n-requires
print_marked-n-requires c = (omega (arith, c.requires.0, c.run-outcome.auto.out), c.run-outcome.ensures.comes.inside, shown_short c.args.command c.args.input.now c.args.out.now c.run-outcome.ensures.comes c.shows.ensures c.requires.0)

pub returns : goal.returns
returns c = prints_job c.args.command c.args.input.now c.args.out.now c.run-outcome.ensures c.shows.ensures c.traces.ensures c.print_marked-n.ensures c.say_traced-m.ensures
