-- The texts that `play`, `show` and `check` take for a tape: one that says a sound tape is, byte for byte, what `compile` prints of that tape. So no line is
-- taken that is no step in that form. Assumes nothing.
use mathlib.Core.Path.{◌≡◌, refl}
use mathlib.Core.List.{List, [], ◌∷◌}
use mathlib.Core.Bool.{Bool, true, false, cond}
use Prim.Native.Nat.{ℕ, zero, suc, ◌+◌, ◌*◌, ◌/◌, ◌%◌, ◌<◌}
use native.Mathlib.Omega.{arith}
use lib.ListN.{length, get_or, drop}
use lib.Dec.{ltb, eqb}
use lib.Seq.{get_or-drop}
use borrow.Author.Tests.{ltb-true, eqb-true}
use Rattle.std.specs.Prelude.{Result, Ok, Err}
use Rattle.expression.specs.declared.refusal.Refusal.{Refusal}
use Rattle.steps.specs.Steps.{first, spelt, fields_in, known, step_of}
use Rattle.steps.proofs.Knowing.{first_true, second_true}
use Rattle.tape.specs.Tapes.{count, whole, allowed, after, fields_of_all, check_from, check}
use Rattle.console.specs.TapeText.{in_lines, tape_in}
use Rattle.console.proofs.TapesOnly.{tape_only}

-- no step that is known begins with 0
known_begins : (bs : List ℕ) → known (fields_in bs) ≡ true → 0 < get_or bs 0 0
unfolding known fields_in first spelt
known_begins [] e = let z : ◌≡◌ {A = ℕ} 0 1 = cc in absurd (omega arith)
known_begins (zero ∷ bs) e = let z : ◌≡◌ {A = ℕ} 0 1 = cc in absurd (omega arith)
known_begins (suc b ∷ bs) e = omega arith

-- a choice that is sound was made by its test
chosen : (test : Bool) (k : ℕ) {yes : Result (Unit {0}) Refusal} → cond test yes (Err (Refusal.BadTape k)) ≡ Ok tt → (test ≡ true) × (yes ≡ Ok tt)
chosen true k e = (refl, e)
chosen false k e = let z : ◌≡◌ {A = ℕ} 0 1 = cc in absurd (omega arith)

all_begin : (n step values : ℕ) (bs : List ℕ) → check_from step values (fields_of_all n bs) ≡ Ok tt → (k : ℕ) → k < n → 0 < get_or bs (k * 24) 0
unfolding check_from fields_of_all
all_begin zero step values bs e k h = absurd (omega arith)
all_begin (suc n) step values bs e zero h = known_begins bs (first_true _ _ (chosen (allowed values (fields_in bs)) step e).0)
all_begin (suc n) step values bs e (suc k) h =
    let z : suc k * 24 ≡ 24 + k * 24 = omega arith in
    rw z (rw (get_or-drop 24 bs (k * 24) 0) at (all_begin n (suc step) (after values (step_of (fields_in bs))) (drop 24 bs) (chosen (allowed values (fields_in bs)) step e).1 k (omega arith)))

pub accepted : (text : List ℕ) → check (tape_in text) ≡ Ok tt → text ≡ in_lines 0 (tape_in text)
unfolding check
accepted text e =
    let tape = tape_in text in
    let c = chosen (whole tape) 0 e in
    let m : length tape % 24 ≡ 0 = eqb-true _ _ (first_true (eqb (length tape % 24) 0) _ c.0) in
    let most : length tape / 24 < 513 = ltb-true _ _ (second_true (ltb 0 (count tape)) _ (second_true (eqb (length tape % 24) 0) _ c.0)) in
    tape_only text (omega arith) (λ k h. all_begin (count tape) 0 0 tape c.1 k (omega arith))
