-- `pick` meets its contract: the part that was chosen, and whose it is. Assumes nothing.
use mathlib.Core.Path.{refl, sym, ◌∙◌}
use Rattle.tape.specs.Tapes.{part_of}
use Rattle.tape.proofs.Checking.{not_both, not_first, not_second}
use Rattle.tape.proofs.pick.Goals as goal

pub returns-in-First : goal.returns-in-First
unfolding part_of
returns-in-First c = record { result_value = rw (sym c.which-choice.ensures ∙ c.in-First.is) refl; own = (λ e. refl, λ e. not_both (sym c.which-choice.ensures ∙ c.in-First.is) e, λ e. not_first e (sym c.which-choice.ensures ∙ c.in-First.is)) }

pub returns-in-Second : goal.returns-in-Second
unfolding part_of
returns-in-Second c = record { result_value = rw (sym c.which-choice.ensures ∙ c.in-Second.is) refl; own = (λ e. not_both e (sym c.which-choice.ensures ∙ c.in-Second.is), λ e. refl, λ e. not_second e (sym c.which-choice.ensures ∙ c.in-Second.is)) }

pub returns-in-Nothing : goal.returns-in-Nothing
unfolding part_of
returns-in-Nothing c = record { result_value = rw (sym c.which-choice.ensures ∙ c.in-Nothing.is) refl; own = (λ e. not_first (sym c.which-choice.ensures ∙ c.in-Nothing.is) e, λ e. not_second (sym c.which-choice.ensures ∙ c.in-Nothing.is) e, λ e. refl) }
