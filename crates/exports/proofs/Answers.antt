-- Six words, and what each answer makes of them. Assumes nothing.
use mathlib.Core.Path.{◌≡◌, sym, ap, ◌∙◌}
use Prim.Native.Nat.{ℕ}
use mathlib.Core.List.{List, [], ◌∷◌}
use lib.ListN.{length}
use lib.Ieee.{Float}
use denote.Enum.Declared.{tag_of}
use types.Run.{OneOf}
use Rattle.std.specs.Prelude.{Result, Ok}
use Rattle.complex.specs.declared.Complex.{Complex}
use Rattle.complex.specs.Bits.{bits_of}
use Rattle.expression.specs.declared.refusal.Operation.{Operation}
use Rattle.expression.specs.declared.refusal.Refusal.{Refusal}
use Rattle.expression.specs.contracts.refusal.Refusal.{the_type}
use Rattle.expression.specs.Refusals.{number_of, place_of}
use Rattle.expression.proofs.Carrying.{others, is_placed}
use Rattle.expression.specs.Codes.{operation_code}
use Rattle.tape.specs.declared.Picked.{Picked}
use Rattle.tape.specs.Tapes.{picked, part_of}
use Rattle.calls.specs.declared.Simplified.{Simplified}
use Rattle.calls.specs.Lent.{Work}
use Rattle.calls.specs.Promises as Calls
use Rattle.exports.specs.Words.{words, carried_words, refusal_words, evaluated_words, real_words, written_words, simplified_words, Answered, Evaluates, EvaluatesMarked, Substitutes, SubstitutesOrigins, ReadsReal, Simplifies, SimplifiesMarked, SimplifiesOrigins, Compiles, Plays, PlaysMarked, Picks, which_number}

-- the same words by another name
pub known_as : {want want' : List ℕ} {r : ℕ} {answer : List ℕ} → want ≡ want' → Answered want r answer → Answered want' r answer
known_as e a = rw e at a

-- ---- refusals

pub placed : (why : Refusal) {number detail r : ℕ} {answer : List ℕ}
    → OneOf others (tag_of the_type why) → number ≡ number_of why → detail ≡ place_of why
    → Answered (words number detail 0 0 0 0) r answer → Answered (refusal_words why) r answer
unfolding carried_words
placed why k p q a = known_as ((λ i. words (p i) (q i) 0 0 0 0) ∙ ap (carried_words (number_of why)) (sym (is_placed why k))) a

pub lacks : {why : Refusal} {operation : Operation} {x y : Complex} {number detail re im re2 im2 r : ℕ} {answer : List ℕ} → why ≡ Refusal.Need operation x y
    → number ≡ 9 → detail ≡ operation_code operation → re ≡ bits_of x.re → im ≡ bits_of x.im → re2 ≡ bits_of y.re → im2 ≡ bits_of y.im
    → Answered (words number detail re im re2 im2) r answer → Answered (refusal_words why) r answer
unfolding carried_words
lacks told n d p q p2 q2 a = known_as ((λ i. words (n i) (d i) (p i) (q i) (p2 i) (q2 i)) ∙ ap refusal_words (sym told)) a

-- ---- values

pub has_value : {e : Result Complex Refusal} {z : Complex} {re im r : ℕ} {answer : List ℕ} → e ≡ Ok z → re ≡ bits_of z.re → im ≡ bits_of z.im
    → Answered (words 0 0 re im 0 0) r answer → Answered (evaluated_words e) r answer
unfolding evaluated_words
has_value told p q a = known_as ((λ i. words 0 0 (p i) (q i) 0 0) ∙ ap evaluated_words (sym told)) a

pub has_real : {e : Result Float Refusal} {x : Float} {re r : ℕ} {answer : List ℕ} → e ≡ Ok x → re ≡ bits_of x
    → Answered (words 0 0 re 0 0 0) r answer → Answered (real_words e) r answer
unfolding real_words
has_real told p a = known_as ((λ i. words 0 0 (p i) 0 0 0) ∙ ap real_words (sym told)) a

-- ---- the calls

pub evaluates : {list values : List ℕ} {w w' : Work} {e : Result Complex Refusal} {r : ℕ} {answer : List ℕ} → Calls.Evaluates list values w e w'
    → Answered (evaluated_words e) r answer → Evaluates list values w r answer w'
evaluates p a = record { answered = known_as (ap (λ x. evaluated_words x.0) p) a; left = ap (λ x. x.1) p }

pub evaluates_marked : {list values : List ℕ} {w w' : Work} {e : Result Complex Refusal} {r : ℕ} {answer marks : List ℕ} → Calls.EvaluatesMarked list values w e marks w'
    → Answered (evaluated_words e) r answer → EvaluatesMarked list values w r answer marks w'
evaluates_marked p a = record { answered = known_as (ap (λ x. evaluated_words x.0.0) p) a; marked = ap (λ x. x.0.1) p; left = ap (λ x. x.1) p }

pub substitutes : {list out : List ℕ} {w w' : Work} {e : Result ℕ Refusal} {r : ℕ} {answer out' : List ℕ} → Calls.Substitutes list out w e out' w'
    → Answered (written_words e) r answer → Substitutes list out w r answer out' w'
substitutes p a = record { answered = known_as (ap (λ x. written_words x.0.0) p) a; output = ap (λ x. x.0.1) p; left = ap (λ x. x.1) p }

pub substitutes_origins : {list out : List ℕ} {w w' : Work} {e : Result ℕ Refusal} {r : ℕ} {answer out' : List ℕ} → Calls.SubstitutesOrigins list out w e out' w'
    → Answered (written_words e) r answer → SubstitutesOrigins list out w r answer out' w'
substitutes_origins p a = record { answered = known_as (ap (λ x. written_words x.0.0) p) a; output = ap (λ x. x.0.1) p; left = ap (λ x. x.1) p }

pub reads_real : {list : List ℕ} {w w' : Work} {e : Result Float Refusal} {r : ℕ} {answer : List ℕ} → Calls.ReadsReal list w e w'
    → Answered (real_words e) r answer → ReadsReal list w r answer w'
reads_real p a = record { answered = known_as (ap (λ x. real_words x.0) p) a; left = ap (λ x. x.1) p }

pub simplifies : {limit : ℕ} {list values out : List ℕ} {w w' : Work} {e : Result Simplified Refusal} {r : ℕ} {answer out' : List ℕ} → Calls.Simplifies limit list values out w e out' w'
    → Answered (simplified_words e) r answer → Simplifies limit list values out w r answer out' w'
simplifies p a = record { answered = known_as (ap (λ x. simplified_words x.0.0) p) a; output = ap (λ x. x.0.1) p; left = ap (λ x. x.1) p }

pub simplifies_marked : {limit : ℕ} {list values out : List ℕ} {w w' : Work} {e : Result Simplified Refusal} {r : ℕ} {answer marks out' : List ℕ} → Calls.SimplifiesMarked limit list values out w e marks out' w'
    → Answered (simplified_words e) r answer → SimplifiesMarked limit list values out w r answer marks out' w'
simplifies_marked p a =
    record { answered = known_as (ap (λ x. simplified_words x.0.0.0) p) a; marked = ap (λ x. x.0.1) p; output = ap (λ x. x.0.0.1) p; left = ap (λ x. x.1) p }

pub simplifies_origins : {limit : ℕ} {list values out : List ℕ} {w w' : Work} {e : Result Simplified Refusal} {r : ℕ} {answer marks out' : List ℕ} → Calls.SimplifiesOrigins limit list values out w e marks out' w'
    → Answered (simplified_words e) r answer → SimplifiesOrigins limit list values out w r answer marks out' w'
simplifies_origins p a =
    record { answered = known_as (ap (λ x. simplified_words x.0.0.0) p) a; marked = ap (λ x. x.0.1) p; output = ap (λ x. x.0.0.1) p; left = ap (λ x. x.1) p }

-- ---- tapes

pub compiles : {list out : List ℕ} {w w' : Work} {e : Result ℕ Refusal} {r : ℕ} {answer out' : List ℕ} → Calls.Compiles list out w e out' w'
    → Answered (written_words e) r answer → Compiles list out w r answer out' w'
compiles p a = record { answered = known_as (ap (λ x. written_words x.0.0) p) a; output = ap (λ x. x.0.1) p; left = ap (λ x. x.1) p }

pub plays : {tape values table table' : List ℕ} {e : Result Complex Refusal} {r : ℕ} {answer : List ℕ} → Calls.Plays tape values table e table'
    → Answered (evaluated_words e) r answer → Plays tape values table r answer table'
plays p a = record { answered = known_as (ap (λ x. evaluated_words x.0) p) a; left = ap (λ x. x.1) p }

pub plays_marked : {tape values table table' : List ℕ} {e : Result Complex Refusal} {r : ℕ} {answer marks : List ℕ} → Calls.PlaysMarked tape values table e marks table'
    → Answered (evaluated_words e) r answer → PlaysMarked tape values table r answer marks table'
plays_marked p a = record { answered = known_as (ap (λ x. evaluated_words x.0.0) p) a; marked = ap (λ x. x.0.1) p; left = ap (λ x. x.1) p }

module _ (a b : List ℕ) {choice : Picked} (p : choice ≡ picked a b) {r : ℕ} {answer : List ℕ} where
  pub picks_first : choice ≡ Picked.First → Answered (1 ∷ length a ∷ []) r answer → Picks a b r answer
  unfolding which_number part_of
  picks_first told x = known_as (ap (λ c. which_number c ∷ length (part_of c a b) ∷ []) (sym told ∙ p)) x

  pub picks_second : choice ≡ Picked.Second → Answered (2 ∷ length b ∷ []) r answer → Picks a b r answer
  unfolding which_number part_of
  picks_second told x = known_as (ap (λ c. which_number c ∷ length (part_of c a b) ∷ []) (sym told ∙ p)) x

  pub picks_nothing : choice ≡ Picked.Nothing → Answered (0 ∷ 0 ∷ []) r answer → Picks a b r answer
  unfolding which_number part_of
  picks_nothing told x = known_as (ap (λ c. which_number c ∷ length (part_of c a b) ∷ []) (sym told ∙ p)) x
