-- `missing_in_texts` meets its contract. Assumes nothing.
use mathlib.Core.Path.{sym, ◌∙◌}
use Rattle.lacks.proofs.Going.{accepted, refused}
use Rattle.lacks.proofs.Jobs.{job_names, refused_nothing}
use Rattle.lacks.proofs.missing_in_texts.Goals as goal

pub returns-in_err-job : goal.returns-in_err-job
returns-in_err-job c = c.from_residual.ensures ∙ refused_nothing c.args.store.now c.read_job.ensures (refused _ (sym c.ok.ensures.value ∙ c.in_err-job.was)).is

pub returns : goal.returns
returns c = job_names c.args.store.now c.read_job.ensures (accepted _ (sym c.ok.ensures.value ∙ c.in_ok-job.was)) c.standing-nodes.ensures c.first_missing.ensures
