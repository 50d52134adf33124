-- Lent at least 1024 rows, two calls that evaluate the same texts, or read the same listing as a real, or compile it, answer the same words, and compiling
-- writes the same bytes. Assumes nothing.
use mathlib.Core.Path.{◌≡◌, ap, sym, ◌∙◌}
use mathlib.Core.List.{List}
use Prim.Native.Nat.{ℕ, ◌≤◌}
use native.Mathlib.Omega.{arith}
use lib.ListN.{length}
use Rattle.calls.specs.Lent.{Work, capacity}
use Rattle.calls.proofs.Capacity.{evaluate_alike, to_real_alike, compile_alike}
use Rattle.exports.specs.Words.{evaluated_words, real_words, written_words, Evaluates, ReadsReal, Compiles}
use Rattle.exports.proofs.Answers.{known_as}
use Rattle.exports.proofs.OneAnswer.{one_words}

roomy : (w : Work) → 1024 ≤ length w.store → 1024 ≤ capacity w
roomy w ample = omega (arith, ample)

module _ (w v : Work) (ample : 1024 ≤ length w.store) (ample' : 1024 ≤ length v.store) {w' v' : Work} {list : List ℕ} {r s : ℕ} {a b : List ℕ} where
  pub evaluated_alike : {values : List ℕ} → Evaluates list values w r a w' → Evaluates list values v s b v' → (r ≡ s) × (a ≡ b)
  evaluated_alike {values} p q =
      one_words (known_as (ap evaluated_words (evaluate_alike (capacity w) (capacity v) (roomy w ample) (roomy v ample') list values)) p.answered) q.answered

  pub real_alike : ReadsReal list w r a w' → ReadsReal list v s b v' → (r ≡ s) × (a ≡ b)
  real_alike p q =
      one_words (known_as (ap real_words (to_real_alike (capacity w) (capacity v) (roomy w ample) (roomy v ample') list)) p.answered) q.answered

  pub compiled_alike : {out out₁ out₂ : List ℕ} → Compiles list out w r a out₁ w' → Compiles list out v s b out₂ v' → ((r ≡ s) × (a ≡ b)) × (out₁ ≡ out₂)
  compiled_alike {out} p q =
      let e = compile_alike (capacity w) (capacity v) (roomy w ample) (roomy v ample') list out in
      (one_words (known_as (ap (λ x. written_words x.0) e) p.answered) q.answered, p.output ∙ ap (λ x. x.1) e ∙ sym q.output)
