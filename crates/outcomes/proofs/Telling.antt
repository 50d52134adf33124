-- From outcomes to what is printed and said. Assumes nothing.
use mathlib.Core.Path.{◌≡◌, refl, sym, ap, subst, ◌∙◌}
use mathlib.Core.List.{List, []}
use mathlib.Core.Logic.{◌⊎◌, ⊎_elim}
use Prim.Native.Nat.{ℕ}
use native.Mathlib.Omega.{arith}
use borrow.Author.Tests.{eq-eqb, ne_eqb}
use Rattle.expression.specs.declared.refusal.Refusal.{Refusal}
use Rattle.expression.specs.Refusals.{number_of}
use Rattle.text.specs.Letters.{bytes}
use Rattle.text.proofs.Putting.{put_none}
use Rattle.console.specs.Answers.{refused_line, refusal_line}
use Rattle.console.proofs.Lines.{Line, stands}
use Rattle.sentences.specs.declared.Detail.{Detail}
use Rattle.outcomes.specs.declared.Outcome.{Outcome}
use Rattle.outcomes.specs.Outcomes.{refused_text, output}
use Rattle.outcomes.specs.Coming.{seen, Inside, Prints, said_of}

-- ---- a refusal

module _ (why : Refusal) {n : ℕ} (a : n ≡ number_of why) {out out' : List ℕ} {r : ℕ} where
  pub incomplete : n ≡ 10 → Line out (bytes "incomplete\n") r out' → Line out (refused_text why) r out'
  unfolding refused_text
  incomplete e l = subst (λ t. Line out t r out') (sym (rw (eq-eqb (number_of why) 10 (sym a ∙ e)))) l

  pub other_refusal : (n ≡ 10 → ⊥) → Line out (refusal_line why) r out' → Line out (refused_text why) r out'
  unfolding refused_text
  other_refusal o l = subst (λ t. Line out t r out') (sym (rw (ne_eqb (number_of why) 10 (λ e. o (a ∙ e))))) l

-- ---- an outcome

module _ {outcome : Outcome} {out : List ℕ} where
  prints_bytes : {n : ℕ} → outcome ≡ Outcome.Printed n → Inside out outcome → Prints out outcome n out
  unfolding output
  prints_bytes e i = record { bytes = ap (λ o. output (seen out o)) (sym e); within = subst (λ o. Inside out o) e i }

  prints_listing : {n calls : ℕ} → outcome ≡ Outcome.Simplified n calls → Inside out outcome → Prints out outcome n out
  unfolding output
  prints_listing e i = record { bytes = ap (λ o. output (seen out o)) (sym e); within = subst (λ o. Inside out o) e i }

  -- either kind of bytes that stand there
  pub prints_standing : {n : ℕ} → (outcome ≡ Outcome.Printed n) ⊎ ((calls : ℕ) × (outcome ≡ Outcome.Simplified n calls)) → Inside out outcome → Prints out outcome n out
  prints_standing e i = ⊎_elim (λ p. prints_bytes p i) (λ p. prints_listing p.1 i) e

  pub prints_refusal : {why : Refusal} {detail : Detail} {n : ℕ} {out' : List ℕ} → outcome ≡ Outcome.Refused why detail → Line out (refused_text why) n out'
      → Prints out outcome n out'
  unfolding output
  prints_refusal e l = record { bytes = stands l ∙ ap (λ o. output (seen out o)) (sym e); within = l.1 }

  pub prints_too_long : {n : ℕ} {out' : List ℕ} → outcome ≡ Outcome.TooLong → Line out (refused_line 0 0) n out' → Prints out outcome n out'
  unfolding output
  prints_too_long e l = record { bytes = stands l ∙ ap (λ o. output (seen out o)) (sym e); within = l.1 }

pub nothing_said : (out : List ℕ) → Line out [] 0 out
nothing_said out = (put_none out 0, (omega arith, refl))

pub says_of : {outcome : Outcome} (o : Outcome) {out out' : List ℕ} {n : ℕ} → outcome ≡ o → Line out (said_of o) n out' → Line out (said_of outcome) n out'
says_of o {out} {out'} {n} e l = subst (λ k. Line out (said_of k) n out') (sym e) l
