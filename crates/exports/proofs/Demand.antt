-- Demand 3 for other languages, in words: whoever compiles by one call and plays what it wrote by another is answered the six words that evaluating
-- answers. Assumes nothing.
use mathlib.Core.Path.{◌≡◌, refl, sym, ap, ◌∙◌}
use mathlib.Core.List.{List}
use mathlib.Core.Logic.{inl, inr}
use Prim.Native.Nat.{ℕ, ◌≤◌}
use native.Mathlib.Omega.{arith}
use lib.ListN.{get_or, take}
use Rattle.std.specs.Prelude.{Result, Ok, Err}
use Rattle.expression.specs.declared.refusal.Refusal.{Refusal}
use Rattle.expression.specs.Refusals.{number_of, Carried, place, lacking, carries}
use Rattle.calls.specs.Lent.{Work, capacity}
use Rattle.calls.specs.Calls.{evaluate_call, compile_call, play_call}
use Rattle.calls.proofs.Refusing.{refusal_some}
use Rattle.calls.proofs.TapeBytes.{written_plays_with_more, written_plays_unless_full}
use Rattle.exports.specs.Words.{carried_words, evaluated_words, written_words, first_word, Evaluates, Compiles, Plays}

first_carried : (number : ℕ) (c : Carried) → first_word (carried_words number c) ≡ number
unfolding carried_words first_word
first_carried number (place k) = refl
first_carried number (lacking operation x y) = refl

-- compiling answered 0: the tape is the start of the output, as long as the second word says
module _ {list out answer out' : List ℕ} {w w' : Work} (compiled : Compiles list out w 0 answer out' w') where
  length_is : (x : Result ℕ Refusal) → (compile_call (capacity w) list out).0 ≡ x → x ≡ Ok (get_or answer 1 0)
  unfolding written_words
  length_is (Ok bytes) e = ap Ok (sym (ap (λ a. get_or a 1 0) (compiled.answered.words ∙ ap written_words e)))
  length_is (Err why) e =
      let z = compiled.answered.number ∙ ap (λ x. first_word (written_words x)) e ∙ first_carried (number_of why) (carries why) in
      absurd (omega (arith, z, (refusal_some why).0))

  wrote : compile_call (capacity w) list out ≡ (Ok (get_or answer 1 0), out')
  wrote = λ i. (length_is (compile_call (capacity w) list out).0 refl i, sym compiled.output i)

  module _ {values table played table' evaluated : List ℕ} {r s : ℕ} {v v' : Work} (plays : Plays (take (get_or answer 1 0) out') values table r played table')
      (evaluates : Evaluates list values v s evaluated v') where
    same_words : play_call (take (get_or answer 1 0) out') values ≡ evaluate_call (capacity v) list values → (r ≡ s) × (played ≡ evaluated)
    same_words e =
        let number = plays.answered.number ∙ ap (λ x. first_word (evaluated_words x)) e ∙ sym evaluates.answered.number in
        (number, plays.answered.words ∙ ap evaluated_words e ∙ sym evaluates.answered.words)

    -- with any work memory for evaluating in which it does not answer 8
    pub plays_as_evaluates : (s ≡ 8 → ⊥) → (r ≡ s) × (played ≡ evaluated)
    unfolding evaluated_words carried_words first_word
    plays_as_evaluates not_full = elim (written_plays_unless_full (capacity w) list out wrote (capacity v) values) [
      | inl full ↦ absurd (not_full (evaluates.answered.number ∙ ap (λ x. first_word (evaluated_words x)) full))
      | inr same ↦ same_words same
    ]

    -- so with as much as compiling had
    pub plays_as_evaluates_with_more : capacity w ≤ capacity v → (r ≡ s) × (played ≡ evaluated)
    plays_as_evaluates_with_more more = same_words (written_plays_with_more (capacity w) list out wrote (capacity v) more values)
