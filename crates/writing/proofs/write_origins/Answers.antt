-- `write_origins` meets its contract. Assumes nothing.
use native.Mathlib.Omega.{arith}
use Rattle.store.specs.Desk.{count}
use Rattle.writing.proofs.Texts.{none_listed}
use Rattle.writing.proofs.TracedTexts.{too_long_lem, no_room, wrote}
use Rattle.writing.proofs.write_origins.Goals as goal

pub returns-then-lines-gt1024 : goal.returns-then-lines-gt1024
returns-then-lines-gt1024 c = λ given desk s t o. too_long_lem s t o (c.visit-lines.ensures _ (count desk) s.holds (λ _. o) (none_listed _ (count desk) _ s.holds c.requires)) _ c.if-lines-gt1024.true

pub text_length-needed-requires : goal.text_length-needed-requires
text_length-needed-requires c = c.if-lines-gt1024.false

pub returns-then-out-needed : goal.returns-then-out-needed
returns-then-out-needed c = λ given desk s t o. no_room s t o (c.visit-lines.ensures _ (count desk) s.holds (λ _. o) (none_listed _ (count desk) _ s.holds c.requires)) c.if-lines-gt1024.false _ _ c.text_length-needed.ensures c.if-out-needed.true

pub write_lines-requires : goal.write_lines-requires
write_lines-requires c = omega (arith, c.if-out-needed.false, c.text_length-needed.ensures)

pub returns : goal.returns
returns c = λ given desk s t o. wrote s t o (c.visit-lines.ensures _ (count desk) s.holds (λ _. o) (none_listed _ (count desk) _ s.holds c.requires)) c.if-lines-gt1024.false _ _ _ _ c.text_length-needed.ensures c.if-out-needed.false c.write_lines.ensures
