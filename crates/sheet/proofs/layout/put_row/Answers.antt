-- `put_row` meets its contract: a row that stands is not entered twice. Assumes nothing.
use native.Mathlib.Omega.{arith}
use Rattle.sheet.proofs.Indexing.{head_within}
use Rattle.sheet.proofs.Entering.{put_stands, put_fresh}
use Rattle.sheet.proofs.layout.put_row.Goals as goal

pub walk-stands-requires : goal.walk-stands-requires
walk-stands-requires c = (omega (arith, c.requires.0), head_within c.args.table.now c.args.count c.bucket_of-bucket.result c.head_of-head.ensures)

pub returns-then-is_none : goal.returns-then-is_none
returns-then-is_none c = rw (c.put_head.ensures, c.write_row.ensures, c.linked-word.ensures, c.word_at.ensures) (put_fresh c.args.table.now c.args.count c.args.name _ c.bucket_of-bucket.result c.args.x c.args.y c.args.value c.requires.0 c.requires.1 (c.requires.2, c.requires.3) c.bucket_of-bucket.ensures.1 (rw (c.canonical_words-first.ensures, c.canonical_words-second.ensures) at c.bucket_of-bucket.ensures.0) c.head_of-head.ensures _ (rw (c.canonical_words-first.ensures, c.canonical_words-second.ensures) at c.walk-stands.ensures.first) c.if-is_none.ensures)

pub returns-else-is_none : goal.returns-else-is_none
returns-else-is_none c = rw (c.write_row.ensures, c.linked-word.ensures, c.word_at.ensures) (put_stands c.args.table.now c.args.count c.args.name _ c.bucket_of-bucket.result c.args.x c.args.y c.args.value c.requires.0 c.requires.1 (c.requires.2, c.requires.3) c.bucket_of-bucket.ensures.1 (rw (c.canonical_words-first.ensures, c.canonical_words-second.ensures) at c.bucket_of-bucket.ensures.0) c.head_of-head.ensures _ (rw (c.canonical_words-first.ensures, c.canonical_words-second.ensures) at c.walk-stands.ensures.first) c.if-is_none.ensures)
