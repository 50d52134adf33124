-- `stores_little` meets its contract. Assumes nothing.
use mathlib.Core.Path.{sym, subst}
use Rattle.commands.specs.Needing.{Alike}
use Rattle.commands.proofs.Rooms.{whole_alike, parted_alike}
use Rattle.commands.proofs.running.stores_little.Goals as goal

pub returns-in-Whole : goal.returns-in-Whole
returns-in-Whole c = λ e. subst Alike (sym c.in-Whole.is) (whole_alike _ (c.whole_stores_little.ensures e))

pub returns-in-Parted : goal.returns-in-Parted
returns-in-Parted c = λ e. subst Alike (sym c.in-Parted.is) (parted_alike _ (c.parted_stores_little.ensures e))
