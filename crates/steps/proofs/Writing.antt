-- The bytes of a number and of a step as they are written, and how many they are. Assumes nothing.
use mathlib.Core.Path.{◌≡◌, refl, ap, subst, ◌∙◌}
use mathlib.Core.List.{List, [], ◌∷◌, ◌++◌}
use Prim.Native.Nat.{ℕ, zero, suc, ◌+◌, ◌*◌, ◌/◌, ◌<◌}
use native.Mathlib.Omega.{arith}
use Rattle.std.proofs.lemmas.Nat.{shr-shr}
use Rattle.std.specs.Int.{w16, w32, w64, to_le_bytes}
use lib.ListN.{length, length-append}
use Rattle.text.specs.Put.{Put}
use Rattle.text.proofs.Putting.{put_then, put_length}
use Rattle.steps.specs.declared.Step.{Step}
use Rattle.steps.specs.declared.Fields.{Fields}
use Rattle.steps.specs.Steps.{fields_of, little, head_of, bytes_of, encoded, tape_of}

pub little_size : (k n : ℕ) → length (little k n) ≡ k
unfolding little
little_size zero n = refl
little_size (suc k) n = ap suc (little_size k (n / 256))

pub head_size : (f : Fields) → length (head_of f) ≡ 8
unfolding head_of
head_size f =
    length-append (little 1 f.opcode) _
    ∙ rw (length-append (little 1 f.sub) (little 2 f.half ++ little 4 f.word), length-append (little 2 f.half) (little 4 f.word), little_size 1 f.opcode, little_size 1 f.sub, little_size 2 f.half, little_size 4 f.word) refl

pub step_size : (s : Step) → length (encoded s) ≡ 24
unfolding encoded bytes_of
step_size s =
    let f = fields_of s in
    length-append (head_of f) _
    ∙ rw (length-append (little 8 f.re) (little 8 f.im), head_size f, little_size 8 f.re, little_size 8 f.im) refl

pub tape_size : (ss : List Step) → length (tape_of ss) ≡ 24 * length ss
unfolding tape_of
tape_size [] = refl
tape_size (s ∷ ss) = omega (arith, length-append (encoded s) (tape_of ss), step_size s, tape_size ss)

-- ---- the library writes these bytes

pub little_one : (n : ℕ) → n < 256 → little 1 n ≡ n ∷ []
unfolding little
little_one n l = ap (λ b. b ∷ []) (omega (arith, l))

pub little_two : (n : ℕ) → to_le_bytes w16 n ≡ little 2 n
unfolding little
little_two n = refl

pub little_four : (n : ℕ) → to_le_bytes w32 n ≡ little 4 n
unfolding little
little_four n = rw (shr-shr n 8 8, shr-shr n 16 8) refl

pub little_eight : (n : ℕ) → to_le_bytes w64 n ≡ little 8 n
unfolding little
little_eight n = rw (shr-shr n 8 8, shr-shr n 16 8, shr-shr n 24 8, shr-shr n 32 8, shr-shr n 40 8, shr-shr n 48 8) refl

pub put_as : {a b x y : List ℕ} {at p : ℕ} → x ≡ y → Put a at x p b → Put a at y p b
put_as {a} {b} {at = at} {p} e h = subst (λ x. Put a at x p b) e h

-- ---- one after another

-- where it goes on, and that the length stays
pub record Goes (at k p : ℕ) (a b : List ℕ) : Type 0 where
  pub next : p ≡ at + k
  pub long : length b ≡ length a

pub little_goes : {a b : List ℕ} {at p : ℕ} (k n : ℕ) → Put a at (little k n) p b → Goes at k p a b
little_goes k n x = record { next = omega (arith, x.place, little_size k n); long = put_length x }

pub head_goes : {a b : List ℕ} {at p : ℕ} (f : Fields) → Put a at (head_of f) p b → Goes at 8 p a b
head_goes f x = record { next = omega (arith, x.place, head_size f); long = put_length x }

pub head_put : (f : Fields) {a b c d e : List ℕ} {at p q r s : ℕ} → Put a at (little 1 f.opcode) p b → Put b p (little 1 f.sub) q c → Put c q (little 2 f.half) r d
    → Put d r (little 4 f.word) s e → Put a at (head_of f) s e
unfolding head_of
head_put f w x y z = put_then w (put_then x (put_then y z))

pub step_put : (s : Step) (f : Fields) {a b c d : List ℕ} {at p q r : ℕ} → f ≡ fields_of s → Put a at (head_of f) p b → Put b p (little 8 f.re) q c → Put c q (little 8 f.im) r d
    → Put a at (encoded s) r d
unfolding encoded bytes_of
step_put s f {a = a} {d = d} {at} {r = r} e x y z = subst (λ f. Put a at (bytes_of f) r d) e (put_then x (put_then y z))
