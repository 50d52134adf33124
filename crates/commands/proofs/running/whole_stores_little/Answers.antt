-- `whole_stores_little` meets its contract. Assumes nothing.
use mathlib.Core.Path.{sym, subst}
use Rattle.commands.specs.Needing.{WholeAlike}
use Rattle.commands.proofs.Choosing.{never}
use Rattle.commands.proofs.Rooms.{real_little, compile_little, show_little, check_little}
use Rattle.commands.proofs.running.whole_stores_little.Goals as goal

pub returns-in-Substitute : goal.returns-in-Substitute
returns-in-Substitute c = λ e. never e

pub returns-in-Real : goal.returns-in-Real
returns-in-Real c = λ e. subst WholeAlike (sym c.in-Real.is) real_little

pub returns-in-Compile : goal.returns-in-Compile
returns-in-Compile c = λ e. subst WholeAlike (sym c.in-Compile.is) compile_little

pub returns-in-Show : goal.returns-in-Show
returns-in-Show c = λ e. subst WholeAlike (sym c.in-Show.is) show_little

pub returns-in-Check : goal.returns-in-Check
returns-in-Check c = λ e. subst WholeAlike (sym c.in-Check.is) check_little
