-- `run_parted` meets its contract. Assumes nothing.
use Rattle.commands.specs.declared.words.Parted.{Parted}
use Rattle.commands.specs.Results.{parted, parted_marks}
use Rattle.commands.proofs.Resulting.{parted_is}
use Rattle.commands.proofs.running.run_parted.Goals as goal

pub returns-in-Evaluate : goal.returns-in-Evaluate
unfolding parted parted_marks
returns-in-Evaluate c = parted_is _ c.args.list.now c.args.values.now c.args.out.now (Parted.Evaluate _) c.in-Evaluate.is c.evaluate.ensures

pub returns-in-Simplify : goal.returns-in-Simplify
unfolding parted parted_marks
returns-in-Simplify c = parted_is _ c.args.list.now c.args.values.now c.args.out.now (Parted.Simplify _ _ _) c.in-Simplify.is c.simplify.ensures

pub returns-in-Played : goal.returns-in-Played
unfolding parted parted_marks
returns-in-Played c = parted_is _ c.args.list.now c.args.values.now c.args.out.now Parted.Played c.in-Played.is (record { comes = c.played.ensures; marked = c.requires.1 })

pub returns-in-Play : goal.returns-in-Play
unfolding parted parted_marks
returns-in-Play c = parted_is _ c.args.list.now c.args.values.now c.args.out.now (Parted.Play _) c.in-Play.is c.play.ensures
