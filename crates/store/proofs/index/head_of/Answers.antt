-- `head_of` meets its contract: by what the word has. Assumes nothing.
use mathlib.Core.Path.{refl, sym, ap, ◌∙◌}
use Rattle.store.specs.Words.{home_in}
use Rattle.store.specs.Memory.{home_on, head_on}
use Rattle.store.proofs.Walks.{no_head, past_head, head_home, head_elsewhere}
use Rattle.store.proofs.index.head_of.Goals as goal

pub returns-then-head-eq0 : goal.returns-then-head-eq0
unfolding home_on head_on
returns-then-head-eq0 c = no_head _ _ _ (c.head_in-head.ensures ∙ rw c.link_at.ensures refl) c.if-head-eq0.true

pub returns-then-n-head : goal.returns-then-n-head
unfolding home_on head_on
returns-then-n-head c = past_head _ _ _ (c.head_in-head.ensures ∙ rw c.link_at.ensures refl) c.if-n-head.true

pub returns-then-home_in-bucket : goal.returns-then-home_in-bucket
unfolding home_on head_on
returns-then-home_in-bucket c = head_home _ _ _ (c.head_in-head.ensures ∙ rw c.link_at.ensures refl) c.if-n-head.false (ap home_in (sym c.tag_at.ensures) ∙ sym c.home_in.ensures ∙ c.if-home_in-bucket.true)

pub returns-else-home_in-bucket : goal.returns-else-home_in-bucket
unfolding home_on head_on
returns-else-home_in-bucket c = head_elsewhere _ _ _ (c.head_in-head.ensures ∙ rw c.link_at.ensures refl) c.if-n-head.false (λ x. c.if-home_in-bucket.false (c.home_in.ensures ∙ ap home_in c.tag_at.ensures ∙ x))
