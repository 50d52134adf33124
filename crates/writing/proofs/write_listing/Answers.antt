-- `write_listing` meets its contract. Assumes nothing.
use mathlib.Core.Path.{◌∙◌}
use native.Mathlib.Omega.{arith}
use Rattle.writing.proofs.Texts.{from_zero, none_listed, too_long_lem, no_room, wrote}
use Rattle.writing.proofs.write_listing.Goals as goal

pub returns-then-count-gt1024 : goal.returns-then-count-gt1024
returns-then-count-gt1024 c = record { writes = λ n h o. too_long_lem h o (c.visit-count.ensures _ n h (λ _. o) (none_listed _ n _ h c.requires)) _ c.if-count-gt1024.true; kept = λ n h o. (c.visit-count.ensures _ n h (λ _. o) (none_listed _ n _ h c.requires)).listed.same }

pub overflow_mul-count : goal.overflow_mul-count
overflow_mul-count c = omega (arith, c.if-count-gt1024.false)

pub write_lines_wide-requires : goal.write_lines_wide-requires
write_lines_wide-requires c = (c.if-count-gt1024.false, c.if-count-out.true)

pub returns-then-count-out : goal.returns-then-count-out
returns-then-count-out c = record { writes = λ n h o. wrote h o (c.visit-count.ensures _ n h (λ _. o) (none_listed _ n _ h c.requires)) c.if-count-gt1024.false _ _ _ _ (c.write_lines_wide.ensures.put.place ∙ from_zero _) (omega (arith, c.write_lines_wide.ensures.fits, c.if-count-out.true)) c.write_lines_wide.ensures.put; kept = λ n h o. (c.visit-count.ensures _ n h (λ _. o) (none_listed _ n _ h c.requires)).listed.same }

pub text_length-length-requires : goal.text_length-length-requires
text_length-length-requires c = c.if-count-gt1024.false

pub returns-then-out-length : goal.returns-then-out-length
returns-then-out-length c = record { writes = λ n h o. no_room h o (c.visit-count.ensures _ n h (λ _. o) (none_listed _ n _ h c.requires)) c.if-count-gt1024.false _ _ c.text_length-length.ensures c.if-out-length.true; kept = λ n h o. (c.visit-count.ensures _ n h (λ _. o) (none_listed _ n _ h c.requires)).listed.same }

pub write_lines-requires : goal.write_lines-requires
write_lines-requires c = omega (arith, c.if-out-length.false, c.text_length-length.ensures)

pub returns : goal.returns
returns c = record { writes = λ n h o. wrote h o (c.visit-count.ensures _ n h (λ _. o) (none_listed _ n _ h c.requires)) c.if-count-gt1024.false _ _ _ _ c.text_length-length.ensures c.if-out-length.false c.write_lines.ensures; kept = λ n h o. (c.visit-count.ensures _ n h (λ _. o) (none_listed _ n _ h c.requires)).listed.same }
