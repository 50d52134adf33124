-- `find_row` meets its contract: what the walk from the head of the bucket finds. Assumes nothing.
use Rattle.sheet.proofs.Indexing.{head_within}
use Rattle.sheet.proofs.search.find_row.Goals as goal

pub bucket_of-bucket-requires : goal.bucket_of-bucket-requires
bucket_of-bucket-requires c = tt

pub head_of-head-requires : goal.head_of-head-requires
head_of-head-requires c = (c.if-count-gt-MOST_FUNCTIONS.false, c.bucket_of-bucket.ensures.1)

pub walk-requires : goal.walk-requires
walk-requires c = (c.if-count-gt-MOST_FUNCTIONS.false, head_within c.args.table.now c.args.count c.bucket_of-bucket.result c.head_of-head.ensures)

pub returns-clause-first : goal.returns-clause-first
returns-clause-first c = λ l h. c.walk.ensures.first h (rw c.bucket_of-bucket.ensures.0 at c.head_of-head.ensures)
