-- `simplify_texts` meets its contract. Assumes nothing.
use mathlib.Core.Path.{refl, sym, ap, ◌∙◌}
use Rattle.expression.proofs.Passing.{passed_on}
use Rattle.calls.specs.Calls.{with_calls}
use Rattle.calls.proofs.Framing.{job_holds, simplifies_beyond, simplifies, simplifies_refused}
use Rattle.calls.proofs.simplify_texts.Goals as goal

pub returns-then-not-is_allowed : goal.returns-then-not-is_allowed
returns-then-not-is_allowed c = simplifies_beyond _ _ _ _ _ _ _ (sym c.is_allowed.ensures ∙ c.if-not-is_allowed.true)

pub returns-in_err-job : goal.returns-in_err-job
returns-in_err-job c = rw (passed_on _ c.from_residual.ensures.1) (simplifies_refused _ _ (sym c.is_allowed.ensures ∙ c.if-not-is_allowed.false) c.args.store.now _ c.read_job.ensures _ _ _ c.in_err-job.was)

pub returns-in_err-bytes : goal.returns-in_err-bytes
unfolding with_calls
returns-in_err-bytes c = let j = job_holds c.read_job.ensures c.in_ok-job.was in simplifies _ _ (sym c.is_allowed.ensures ∙ c.if-not-is_allowed.false) c.args.store.now _ c.read_job.ensures c.in_ok-job.was _ _ (c.simplify-built.ensures j.2 j.1 j.0) c.write_answer.ensures refl (passed_on _ c.from_residual-in_err-bytes.ensures.1 ∙ ap (with_calls _) (sym c.in_err-bytes.was))

pub returns : goal.returns
unfolding with_calls
returns c = let j = job_holds c.read_job.ensures c.in_ok-job.was in simplifies _ _ (sym c.is_allowed.ensures ∙ c.if-not-is_allowed.false) c.args.store.now _ c.read_job.ensures c.in_ok-job.was _ _ (c.simplify-built.ensures j.2 j.1 j.0) c.write_answer.ensures c.calls_made.ensures (ap (with_calls _) (sym c.in_ok-bytes.was))
