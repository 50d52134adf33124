-- `show_marks` meets its contract: zeros, and where the marks are shown those of the desk. Assumes nothing.
use mathlib.Core.Path.{refl, sym, ◌∙◌}
use mathlib.Core.Bool.{true≢false}
use lib.ListN.{length-replicate}
use Prim.Native.Nat.{ℕ}
use Rattle.memory.specs.Marks.{most_marks, no_marks}
use Rattle.calls.proofs.marks.show_marks.Goals as goal

pub returns-then-is_shown : goal.returns-then-is_shown
unfolding no_marks
returns-then-is_shown c = record { copied = λ e. c.copy_marks.ensures (length-replicate {A = ℕ} most_marks 0); none = λ e. absurd (true≢false (sym c.if-is_shown.true ∙ c.is_shown.ensures ∙ e)) }

pub returns-else-is_shown : goal.returns-else-is_shown
unfolding no_marks
returns-else-is_shown c = record { copied = λ e. absurd (true≢false (sym e ∙ sym c.is_shown.ensures ∙ c.if-is_shown.false)); none = λ e. refl }
