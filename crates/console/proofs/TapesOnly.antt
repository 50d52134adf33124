-- Only what is written of a tape reads: a text in which each line is a step is the text of the bytes that it says, `tape_only`. Assumes nothing.
use mathlib.Core.Path.{◌≡◌, refl, sym, ap, ◌∙◌}
use mathlib.Core.List.{List, [], ◌∷◌, ◌++◌, append_assoc, append-nil}
use Prim.Native.Nat.{ℕ, zero, suc, ◌+◌, ◌-◌, ◌*◌, ◌%◌, ◌≤◌, ◌<◌}
use native.Mathlib.Omega.{arith}
use lib.ListN.{length, get_or, length-append}
use lib.Seq.{get_or-append-add}
use Rattle.text.specs.Reading.{Read, is, bad, then}
use Rattle.console.specs.TapeText.{stop_after, in_digits, in_lines, byte_from, step_from, or_zeros, next_line, read_steps, tape_in}
use Rattle.console.proofs.TapeLines.{never, byte_only}
use Rattle.console.proofs.TapesBack.{lines_append, line_over}

-- ---- a step

record Both {A B : Type 0} (r : Read A) (next : A → List ℕ → Read B) (y : B) (rest : List ℕ) : Type 0 where
  x : A
  mid : List ℕ
  first : r ≡ is x mid
  second : next x mid ≡ is y rest

then_only : {A B : Type 0} (r : Read A) (next : A → List ℕ → Read B) {y : B} {rest : List ℕ} → then r next ≡ is y rest → Both r next y rest
unfolding then
then_only (is x mid) next e = record { x = x; mid = mid; first = refl; second = e }
then_only bad next e = never e

-- the bytes that are read after those before, and what they stand in
record Read24 (k left : ℕ) (before bs all rest : List ℕ) : Type 0 where
  xs : List ℕ
  whole : all ≡ before ++ xs
  long : length xs ≡ left
  text : bs ≡ in_lines k xs ++ rest

step_only : (j i left : ℕ) (before bs : List ℕ) {all rest : List ℕ} → i + left ≡ 24 → step_from left before bs ≡ is all rest → Read24 (j * 24 + i) left before bs all rest
unfolding step_from in_lines
step_only j i zero before bs {all} {rest} h e =
    let o : is before bs ≡ is all rest = e in
    let p : all ≡ before = cc in
    let q : bs ≡ rest = cc in
    record { xs = []; whole = p ∙ sym (append-nil before); long = refl; text = q }
step_only j i (suc left) before bs {all} {rest} h e =
    let a = then_only (byte_from (stop_after (23 - left)) bs) (λ b more. step_from left (before ++ (b ∷ [])) more) e in
    let b = byte_only (stop_after (23 - left)) bs a.first in
    let c = step_only j (suc i) left (before ++ (a.x ∷ [])) a.mid (omega arith) a.second in
    let z : 23 - left ≡ (j * 24 + i) % 24 = omega arith in
    let o : j * 24 + suc i ≡ suc (j * 24 + i) = omega arith in
    record {
      xs = a.x ∷ c.xs;
      whole = c.whole ∙ append_assoc before (a.x ∷ []) c.xs;
      long = ap suc c.long;
      text =
          b.1 ∙ ap (λ n. in_digits a.x (stop_after n) ++ a.mid) z ∙
          ap (λ l. in_digits a.x (stop_after ((j * 24 + i) % 24)) ++ l) (c.text ∙ ap (λ n. in_lines n c.xs ++ rest) o) ∙
          sym (append_assoc (in_digits a.x (stop_after ((j * 24 + i) % 24))) (in_lines (suc (j * 24 + i)) c.xs) rest);
    }

-- ---- a tape

-- no step begins with 0
abbrev pub Begun : List ℕ → Type 0
Begun tape = (k : ℕ) → k * 24 < length tape → 0 < get_or tape (k * 24) 0

-- a line that is a step, or one that is none
record Line24 (j : ℕ) (bs : List ℕ) : Type 0 where
  step : List ℕ
  long : length step ≡ 24
  said : or_zeros (step_from 24 [] bs) ≡ step
  text : bs ≡ in_lines (j * 24) step ++ next_line bs

line_only : (j : ℕ) (bs tail : List ℕ) → Begun (or_zeros (step_from 24 [] bs) ++ tail) → Line24 j bs
unfolding or_zeros
line_only j bs tail h = go (step_from 24 [] bs) refl h
  where
    go : (r : Read (List ℕ)) → step_from 24 [] bs ≡ r → Begun (or_zeros r ++ tail) → Line24 j bs
    go bad e h = absurd (omega (arith, h 0 (omega arith)))
    go (is step rest) e h =
        let a = step_only j 0 24 [] bs refl e in
        let z : j * 24 + 0 ≡ j * 24 = omega arith in
        let t : bs ≡ in_lines (j * 24) step ++ rest = rw (a.whole, ← z) a.text in
        record {
          step = step;
          long = ap length a.whole ∙ a.long;
          said = ap or_zeros e;
          text = t ∙ ap (λ l. in_lines (j * 24) step ++ l) (sym (ap next_line a.text ∙ line_over j 0 23 a.xs rest refl a.long));
        }

tails : (first tail : List ℕ) → length first ≡ 24 → Begun (first ++ tail) → Begun tail
tails first tail long h k l =
    let z : suc k * 24 ≡ length first + k * 24 = omega (arith, long) in
    rw (get_or-append-add first tail (k * 24) 0) at (rw z at (h (suc k) (omega (arith, length-append first tail, long, l))))

lines_only : (most j : ℕ) (bs : List ℕ) → length (read_steps most bs) < most * 24 → Begun (read_steps most bs) → bs ≡ in_lines (j * 24) (read_steps most bs)
unfolding read_steps in_lines
lines_only zero j bs l h = absurd (omega arith)
lines_only (suc most) j [] l h = refl
lines_only (suc most) j (b ∷ bs) l h =
    let tail = read_steps most (next_line (b ∷ bs)) in
    let first = or_zeros (step_from 24 [] (b ∷ bs)) in
    let a = line_only j (b ∷ bs) tail h in
    let long : length first ≡ 24 = ap length a.said ∙ a.long in
    let o : j * 24 + length first ≡ suc j * 24 = omega (arith, long) in
    let rest : next_line (b ∷ bs) ≡ in_lines (suc j * 24) tail =
    lines_only most (suc j) (next_line (b ∷ bs)) (omega (arith, l, length-append first tail, long)) (tails first tail long h) in
    a.text ∙ ap (λ l. in_lines (j * 24) l ++ next_line (b ∷ bs)) (sym a.said) ∙ ap (λ l. in_lines (j * 24) first ++ l) (rest ∙ ap (λ k. in_lines k tail) (sym o)) ∙ sym (lines_append (j * 24) first tail)

-- A text that says at most 512 steps, of which none begins with 0.
pub tape_only : (text : List ℕ) → length (tape_in text) ≤ 12288 → Begun (tape_in text) → text ≡ in_lines 0 (tape_in text)
unfolding tape_in
tape_only text l h = lines_only 513 0 text (omega arith) h
