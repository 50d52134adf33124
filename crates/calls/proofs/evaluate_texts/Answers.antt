-- `evaluate_texts` meets its contract. Assumes nothing.
use Rattle.store.proofs.Settling.{ordered}
use Rattle.expression.proofs.Passing.{passed_on}
use Rattle.calls.proofs.Framing.{job_holds, evaluates, evaluates_refused}
use Rattle.calls.proofs.evaluate_texts.Goals as goal

pub returns-in_err-job : goal.returns-in_err-job
returns-in_err-job c = λ z. rw (passed_on _ c.from_residual.ensures.1) (evaluates_refused c.args.store.now c.read_job.ensures c.in_err-job.was z)

pub returns : goal.returns
returns c = let j = job_holds c.read_job.ensures c.in_ok-job.was in evaluates c.args.store.now c.read_job.ensures c.in_ok-job.was (c.evaluate-value.ensures _ (ordered j.1.holds) j.0 (rw c.standing-nodes.ensures j.0) j.2) c.answer_of.ensures
