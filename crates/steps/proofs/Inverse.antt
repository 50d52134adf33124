-- The bytes of a step determine it, and different steps have different bytes: there and back. Assumes nothing.
use mathlib.Core.Path.{◌≡◌, refl, sym, ap, ◌∙◌}
use mathlib.Core.List.{List, [], ◌∷◌, ◌++◌, append_assoc}
use mathlib.Core.Bool.{true}
use Prim.Native.Nat.{ℕ, zero, suc, ◌+◌, ◌*◌, ◌/◌, ◌%◌, ◌^◌, ◌<◌, ◌≤◌}
use native.Mathlib.Nat.{pow-suc}
use native.Mathlib.Omega.{arith}
use lib.ListN.{length, take, drop, length-drop}
use lib.Seq.{drop-drop}
use Rattle.complex.proofs.Doubles.{bits_below}
use Rattle.expression.proofs.Numbering.{infix_known, prefix_known, function_known}
use Rattle.steps.specs.declared.Step.{Step}
use Rattle.steps.specs.declared.Fields.{Fields}
use Rattle.steps.specs.Steps.{fields, fields_of, little, head_of, bytes_of, encoded, spelt, first, fields_in, known, step_of}
use Rattle.steps.proofs.Knowing.{ProperStep, known_fields, step_back}

-- ---- what was written is read

pub part : (k n : ℕ) (rest : List ℕ) → n < 256 ^ k → first k (little k n ++ rest) ≡ n
unfolding first spelt little
part zero n rest l = omega (arith, l)
part (suc k) n rest l =
    let p = part k (n / 256) rest (omega (arith, rw (pow-suc 256 k) at l)) in
    omega (arith, p)

pub skip : (k n : ℕ) (rest : List ℕ) → drop k (little k n ++ rest) ≡ rest
unfolding little
skip zero n rest = refl
skip (suc k) n rest = skip k (n / 256) rest

-- each field has its room
pub record Fits (f : Fields) : Type 0 where
  pub opcode : f.opcode < 256
  pub sub : f.sub < 256
  pub half : f.half < 65536
  pub word : f.word < 4294967296
  pub re : f.re < 18446744073709551616
  pub im : f.im < 18446744073709551616

abbrev tail : Fields → List ℕ → List ℕ
tail f rest = little 8 f.re ++ (little 8 f.im ++ rest)

spread : (f : Fields) (rest : List ℕ) → bytes_of f ++ rest ≡ little 1 f.opcode ++ (little 1 f.sub ++ (little 2 f.half ++ (little 4 f.word ++ tail f rest)))
unfolding bytes_of head_of
spread f rest =
    rw (
      append_assoc (little 1 f.opcode ++ (little 1 f.sub ++ (little 2 f.half ++ little 4 f.word))) (little 8 f.re ++ little 8 f.im) rest,
      append_assoc (little 1 f.opcode) (little 1 f.sub ++ (little 2 f.half ++ little 4 f.word)) ((little 8 f.re ++ little 8 f.im) ++ rest),
      append_assoc (little 1 f.sub) (little 2 f.half ++ little 4 f.word) ((little 8 f.re ++ little 8 f.im) ++ rest),
      append_assoc (little 2 f.half) (little 4 f.word) ((little 8 f.re ++ little 8 f.im) ++ rest),
      append_assoc (little 8 f.re) (little 8 f.im) rest,
    ) refl

module _ (f : Fields) (rest : List ℕ) where
  all : List ℕ
  all = bytes_of f ++ rest

  after_1 : drop 1 all ≡ little 1 f.sub ++ (little 2 f.half ++ (little 4 f.word ++ tail f rest))
  unfolding all
  after_1 = ap (drop 1) (spread f rest) ∙ skip 1 f.opcode _

  after_2 : drop 2 all ≡ little 2 f.half ++ (little 4 f.word ++ tail f rest)
  after_2 = sym (drop-drop 1 1 all) ∙ ap (drop 1) after_1 ∙ skip 1 f.sub _

  after_4 : drop 4 all ≡ little 4 f.word ++ tail f rest
  after_4 = sym (drop-drop 2 2 all) ∙ ap (drop 2) after_2 ∙ skip 2 f.half _

  after_8 : drop 8 all ≡ tail f rest
  after_8 = sym (drop-drop 4 4 all) ∙ ap (drop 4) after_4 ∙ skip 4 f.word _

  after_16 : drop 16 all ≡ little 8 f.im ++ rest
  after_16 = sym (drop-drop 8 8 all) ∙ ap (drop 8) after_8 ∙ skip 8 f.re _

  pub after_step : drop 24 (bytes_of f ++ rest) ≡ rest
  unfolding all
  after_step = sym (drop-drop 8 16 all) ∙ ap (drop 8) after_16 ∙ skip 8 f.im rest

  pub fields_back : Fits f → fields_in (bytes_of f ++ rest) ≡ f
  unfolding fields_in all
  fields_back l =
      let a = ap (first 1) (spread f rest) ∙ part 1 f.opcode _ l.opcode in
      let b = ap (first 1) after_1 ∙ part 1 f.sub _ l.sub in
      let c = ap (first 2) after_2 ∙ part 2 f.half _ l.half in
      let d = ap (first 4) after_4 ∙ part 4 f.word _ l.word in
      let x = ap (first 8) after_8 ∙ part 8 f.re _ l.re in
      let y = ap (first 8) after_16 ∙ part 8 f.im _ l.im in
      λ i. fields (a i) (b i) (c i) (d i) (x i) (y i)

pub step_fits : (s : Step) → ProperStep s → Fits (fields_of s)
step_fits (Step.Number z) p = record { opcode = omega arith; sub = omega arith; half = omega arith; word = omega arith; re = bits_below z.re p.re; im = bits_below z.im p.im }
step_fits Step.Pi p = record { opcode = omega arith; sub = omega arith; half = omega arith; word = omega arith; re = omega arith; im = omega arith }
step_fits (Step.Variable v) p = record { opcode = omega arith; sub = omega arith; half = p; word = omega arith; re = omega arith; im = omega arith }
step_fits (Step.Memory region index) p = record { opcode = omega arith; sub = omega arith; half = p.0; word = p.1; re = omega arith; im = omega arith }
step_fits (Step.Function f) p = record { opcode = omega arith; sub = omega (arith, (function_known f).most); half = omega arith; word = omega arith; re = omega arith; im = omega arith }
step_fits (Step.Prefix o) p = record { opcode = omega arith; sub = omega (arith, (prefix_known o).most); half = omega arith; word = omega arith; re = omega arith; im = omega arith }
step_fits (Step.Infix o) p = record { opcode = omega arith; sub = omega (arith, (infix_known o).most); half = omega arith; word = omega arith; re = omega arith; im = omega arith }

-- a step's bytes read as its fields, and so as the step; what follows them is not looked at
pub encoded_fields : (s : Step) (rest : List ℕ) → ProperStep s → fields_in (encoded s ++ rest) ≡ fields_of s
unfolding encoded
encoded_fields s rest p = fields_back (fields_of s) rest (step_fits s p)

pub encoded_step : (s : Step) (rest : List ℕ) → ProperStep s → step_of (fields_in (encoded s ++ rest)) ≡ s
encoded_step s rest p = ap step_of (encoded_fields s rest p) ∙ step_back s p

pub after_encoded : (s : Step) (rest : List ℕ) → drop 24 (encoded s ++ rest) ≡ rest
unfolding encoded
after_encoded s rest = after_step (fields_of s) rest

-- so different steps have different bytes
pub one_step : (s s' : Step) → ProperStep s → ProperStep s' → encoded s ++ [] ≡ encoded s' ++ [] → s ≡ s'
one_step s s' p q e = sym (encoded_step s [] p) ∙ ap (λ bs. step_of (fields_in bs)) e ∙ encoded_step s' [] q

-- ---- what is read is what was written

abbrev pub Bytes : List ℕ → Type 0
Bytes [] = Unit {0}
Bytes (b ∷ bs) = (b < 256) × Bytes bs

piece : (k : ℕ) (bs : List ℕ) → Bytes bs → k ≤ length bs → little k (first k bs) ++ drop k bs ≡ bs
unfolding first spelt little
piece zero bs p l = refl
piece (suc k) [] p l = absurd (omega (arith, l))
piece (suc k) (b ∷ bs) p l =
    let a : (b + 256 * spelt (take k bs)) % 256 ≡ b = omega (arith, p.0) in
    let q : (b + 256 * spelt (take k bs)) / 256 ≡ spelt (take k bs) = omega (arith, p.0) in
    rw (a, q) (ap (λ (xs : List ℕ). b ∷ xs) (piece k bs p.1 (omega (arith, l))))

bytes_after : (k : ℕ) (bs : List ℕ) → Bytes bs → Bytes (drop k bs)
bytes_after zero bs p = p
bytes_after (suc k) [] p = p
bytes_after (suc k) (b ∷ bs) p = bytes_after k bs p.1

-- one more piece
further : (k j : ℕ) (bs : List ℕ) → Bytes bs → k + j ≤ length bs → little j (first j (drop k bs)) ++ drop (k + j) bs ≡ drop k bs
further k j bs p l = rw (sym (drop-drop j k bs)) (piece j (drop k bs) (bytes_after k bs p) (omega (arith, l, length-drop k bs)))

pub bytes_back : (bs : List ℕ) → Bytes bs → 24 ≤ length bs → bytes_of (fields_in bs) ++ drop 24 bs ≡ bs
unfolding fields_in
bytes_back bs p l =
    spread (fields_in bs) (drop 24 bs)
    ∙ rw (further 16 8 bs p (omega (arith, l)), further 8 8 bs p (omega (arith, l)), further 4 4 bs p (omega (arith, l)), further 2 2 bs p (omega (arith, l)), further 1 1 bs p (omega (arith, l))) (piece 1 bs p (omega (arith, l)))

-- known bytes are those of the step that they say
pub known_bytes : (bs : List ℕ) → Bytes bs → 24 ≤ length bs → known (fields_in bs) ≡ true → encoded (step_of (fields_in bs)) ++ drop 24 bs ≡ bs
unfolding encoded
known_bytes bs p l e = ap (λ f. bytes_of f ++ drop 24 bs) (known_fields (fields_in bs) e) ∙ bytes_back bs p l
