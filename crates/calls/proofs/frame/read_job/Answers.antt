-- `read_job` meets its contract: the listing, then the sheet. Assumes nothing.
use Rattle.expression.proofs.Passing.{passed_on}
use Rattle.calls.proofs.Framing.{job_read, job_refused, job_unread}
use Rattle.calls.proofs.frame.read_job.Goals as goal

pub returns-in_err-listed : goal.returns-in_err-listed
returns-in_err-listed c = rw (passed_on _ c.from_residual.ensures.1) (job_refused _ c.read_listing.ensures c.in_err-listed.was)

pub returns-in_err-counts : goal.returns-in_err-counts
returns-in_err-counts c = rw (passed_on _ c.from_residual-in_err-counts.ensures.1) (job_unread _ c.read_listing.ensures _ _ c.in_ok-listed.was c.read_sheet.ensures c.in_err-counts.was)

pub returns : goal.returns
returns c = job_read _ c.read_listing.ensures _ _ c.in_ok-listed.was c.read_sheet.ensures c.in_ok-counts.was
