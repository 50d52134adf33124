-- `reduce_with` meets its contract. Assumes nothing.
use Rattle.reduce.proofs.Printing.{too_long_lem, prints_listing, prints_refusal}
use Rattle.reduce.proofs.reduction.reduce_with.Goals as goal

pub returns-then-text-gt-MOST : goal.returns-then-text-gt-MOST
returns-then-text-gt-MOST c = record { reduces = (too_long_lem c.if-text-gt-MOST.true (c.write_refused.ensures.put, c.write_refused.ensures.within)).0; within = c.write_refused.ensures.within }

pub returns-in-Ok : goal.returns-in-Ok
returns-in-Ok c = record { reduces = (prints_listing c.if-text-gt-MOST.false c.simplify_text.ensures c.in-Ok.is c.part.ensures.prefix_len c.part.ensures.least).0; within = (prints_listing c.if-text-gt-MOST.false c.simplify_text.ensures c.in-Ok.is c.part.ensures.prefix_len c.part.ensures.least).1 }

pub returns-in-Err : goal.returns-in-Err
returns-in-Err c = record { reduces = (prints_refusal c.if-text-gt-MOST.false c.simplify_text.ensures c.in-Err.is (c.write_refusal.ensures.put, c.write_refusal.ensures.within)).0; within = (prints_refusal c.if-text-gt-MOST.false c.simplify_text.ensures c.in-Err.is (c.write_refusal.ensures.put, c.write_refusal.ensures.within)).1 }
