-- `kept_at` meets its contract: the result stands with the class. Assumes nothing.
use mathlib.Core.Path.{refl, ◌∙◌}
use Rattle.store.specs.Memory.{kept_on}
use Rattle.store.proofs.Keeping.{recalls}
use Rattle.store.proofs.kept_at.Goals as goal

pub returns : goal.returns
unfolding kept_on
returns c = recalls _ _ _ c.checked_sub.ensures (c.kept_in-kept.ensures ∙ rw (c.link_at.ensures, c.class_at-class.ensures) refl)
