-- `read_listing` meets its contract. Assumes nothing.
use Rattle.store.proofs.Tracing.{begun_traced}
use Rattle.expression.proofs.Passing.{passed_on}
use Rattle.listing.proofs.Whole.{reads_root, reads_refused}
use Rattle.listing.proofs.read_listing.Goals as goal

pub read_lines-requires : goal.read_lines-requires
read_lines-requires c = record { table_words_in_bounds = c.requires; sound = ((c.start.ensures _).sound, begun_traced (c.start.ensures _)) }

pub returns-in_err-end : goal.returns-in_err-end
returns-in_err-end c = rw (passed_on _ c.from_residual.ensures.1) (reads_refused (c.start.ensures _) c.read_lines.ensures c.in_err-end.was)

pub returns : goal.returns
returns c = reads_root (c.start.ensures _) c.read_lines.ensures c.in_ok-end.was c.root_of.ensures
