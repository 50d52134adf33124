-- `run_whole` meets its contract. Assumes nothing.
use Rattle.commands.specs.declared.words.Whole.{Whole}
use Rattle.commands.specs.Results.{whole}
use Rattle.commands.proofs.Resulting.{whole_is}
use Rattle.commands.proofs.running.run_whole.Goals as goal

pub returns-in-Substitute : goal.returns-in-Substitute
unfolding whole
returns-in-Substitute c = whole_is _ c.args.text.now c.args.out.now (Whole.Substitute _) c.in-Substitute.is c.substitute.ensures

pub returns-in-Real : goal.returns-in-Real
unfolding whole
returns-in-Real c = whole_is _ c.args.text.now c.args.out.now Whole.Real c.in-Real.is c.real.ensures

pub returns-in-Compile : goal.returns-in-Compile
unfolding whole
returns-in-Compile c = whole_is _ c.args.text.now c.args.out.now Whole.Compile c.in-Compile.is c.compile.ensures

pub returns-in-Show : goal.returns-in-Show
unfolding whole
returns-in-Show c = whole_is _ c.args.text.now c.args.out.now Whole.Show c.in-Show.is c.show.ensures

pub returns-in-Check : goal.returns-in-Check
unfolding whole
returns-in-Check c = whole_is _ c.args.text.now c.args.out.now Whole.Check c.in-Check.is c.check.ensures
