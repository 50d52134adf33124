-- `word_key` meets its contract: by the kind. Assumes nothing.
use mathlib.Core.Path.{◌∙◌}
use Rattle.store.proofs.Walks.{key_double, key_word, key_operand}
use Rattle.store.proofs.index.word_key.Goals as goal

pub returns-then-kind-eq1 : goal.returns-then-kind-eq1
returns-then-kind-eq1 c = c.class_of_bits.ensures ∙ key_double _ _ _ _ c.if-kind-eq1.true

pub returns-then-kind-operands : goal.returns-then-kind-operands
returns-then-kind-operands c = key_word _ _ _ _ c.if-kind-eq1.false c.if-kind-operands.true

pub returns : goal.returns
returns c = c.class_at.ensures ∙ key_operand _ _ _ _ c.if-kind-eq1.false c.if-kind-operands.false
