-- What is named of a job, from what reading it gives: the returns of `missing_in_texts`. Assumes nothing.
use mathlib.Core.Path.{◌≡◌, ap, ◌∙◌}
use Prim.Native.Nat.{ℕ, min}
use mathlib.Core.List.{List}
use lib.ListN.{length}
use Rattle.std.specs.Prelude.{Option, None, Result, Ok, Err}
use Rattle.expression.specs.declared.refusal.Refusal.{Refusal}
use Rattle.store.specs.Desk.{count}
use Rattle.store.specs.Memory.{Memory}
use Rattle.store.specs.Held.{Lent, lent}
use Rattle.store.proofs.Settling.{ordered}
use Rattle.calls.specs.declared.Job.{Job}
use Rattle.calls.specs.Frame.{ReadsJob}
use Rattle.calls.proofs.Framing.{in_room, job_holds}
use Rattle.lacks.specs.declared.Missing.{Missing}
use Rattle.lacks.specs.Lacking.{missing_of, missing_in_job}
use Rattle.lacks.specs.Run.{Names}

module _ (store : List (List ℕ)) {desk list values : List ℕ} {j : Result Job Refusal} {l₁ : Lent} {table : List ℕ} (p : ReadsJob list values j (lent store desk) l₁ table) where
  pub job_names : {k : Job} {nodes : ℕ} {m : Memory} {r : Option Missing} → j ≡ Ok k → nodes ≡ count l₁.desk → Names l₁.rows m table k.counts k.root nodes r
      → r ≡ missing_in_job (min (length store) 4096) list values
  unfolding missing_of
  job_names told e q =
      let h = job_holds p told in
      in_room store (λ n. missing_in_job n list values) ((q _ (ordered h.1.holds) h.0 (rw e h.0) h.2).answer ∙ ap missing_of (rw told at p.answer))

  pub refused_nothing : {why : Refusal} → j ≡ Err why → None ≡ missing_in_job (min (length store) 4096) list values
  unfolding missing_of
  refused_nothing told = in_room store (λ n. missing_in_job n list values) (ap missing_of (rw told at p.answer))
