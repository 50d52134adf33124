-- `keep` meets its contract: one link changes. Assumes nothing.
use mathlib.Core.Path.{refl, ◌∙◌}
use Rattle.store.proofs.Keeping.{keeps}
use Rattle.store.proofs.keep.Goals as goal

pub returns : goal.returns
returns c = keeps _ _ _ (c.put_link.ensures ∙ rw (c.with_kept.ensures, c.link_at-word.ensures, c.class_at-class.ensures) refl)
