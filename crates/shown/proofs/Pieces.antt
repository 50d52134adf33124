-- The lines of the steps in the pieces in which they are written, and how far each piece goes. Assumes nothing.
use mathlib.Core.Path.{◌≡◌, sym, subst}
use mathlib.Core.List.{List, [], ◌∷◌, ◌++◌, append_assoc}
use Prim.Native.Nat.{ℕ, ◌+◌, ◌≤◌, ◌<◌}
use native.Mathlib.Omega.{arith}
use lib.ListN.{length}
use Rattle.complex.specs.declared.Complex.{Complex}
use Rattle.complex.specs.Bits.{bits_of}
use Rattle.expression.specs.declared.ExpressionFunction.{ExpressionFunction}
use Rattle.expression.specs.declared.PrefixOperator.{PrefixOperator}
use Rattle.expression.specs.declared.InfixOperator.{InfixOperator}
use Rattle.text.specs.Letters.{bytes}
use Rattle.text.specs.Writing.{in_decimal, in_hex, line}
use Rattle.text.specs.Put.{Put}
use Rattle.text.proofs.Putting.{hex_length, put_then}
use Rattle.spelling.specs.Names.{function_name, prefix_name, infix_name}
use Rattle.steps.specs.declared.Step.{Step}
use Rattle.console.proofs.Lines.{ending, ending_length, decimal_short, function_short}
use Rattle.shown.specs.Showing.{step_fields, step_line}
use Rattle.shown.specs.Told.{Told}

-- ---- how far a piece goes

pub hex_goes : {e x : List ℕ} {at r : ℕ} (n stop : ℕ) → Put e at (ending (in_hex n) stop) r x → r ≡ at + 17
hex_goes n stop p = omega (arith, p.place, ending_length (in_hex n) stop, hex_length n)

pub decimal_few : (n stop : ℕ) → n < 18446744073709551616 → length (ending (in_decimal n) stop) ≤ 21
decimal_few n stop h = omega (arith, ending_length (in_decimal n) stop, decimal_short n h)

pub decimal_goes : {e x : List ℕ} {at r : ℕ} (n stop : ℕ) → n < 18446744073709551616 → Put e at (ending (in_decimal n) stop) r x → r ≤ at + 21
decimal_goes n stop h p = omega (arith, p.place, decimal_few n stop h)

pub name_goes : {e x : List ℕ} {at r : ℕ} (f : ExpressionFunction) → Put e at (function_name f) r x → r ≤ at + 4
name_goes f p = omega (arith, p.place, function_short f)

-- ---- the fields of a step

abbrev word : List ℕ → List ℕ
word w = w ++ (9 ∷ [])

two_operands : (w a b : List ℕ) → line (w ∷ a ∷ b ∷ []) ≡ w ++ (9 ∷ (ending a 9 ++ ending b 10))
unfolding line
two_operands w a b = rw (append_assoc a (9 ∷ []) (ending b 10))

module _ {e m n x : List ℕ} {at p q r : ℕ} where
  pub number_told : (z : Complex) {a b : ℕ} → a ≡ bits_of z.re → b ≡ bits_of z.im
      → Put e at (word (bytes "number")) p m → Put m p (ending (in_hex a) 9) q n → Put n q (ending (in_hex b) 10) r x → Told e at (Step.Number z) r x
  unfolding step_fields
  number_told z {a} {b} s t f g h = record {
    put = rw (two_operands (bytes "number") (in_hex (bits_of z.re)) (in_hex (bits_of z.im)), ← s, ← t) (put_then f (put_then g h));
    few = omega (arith, f.place, hex_goes a 9 g, hex_goes b 10 h);
  }

  pub memory_told : (region index : ℕ) → region < 18446744073709551616 → index < 18446744073709551616
      → Put e at (word (bytes "memory")) p m → Put m p (ending (in_decimal region) 9) q n → Put n q (ending (in_decimal index) 10) r x → Told e at (Step.Memory region index) r x
  unfolding step_fields
  memory_told region index s t f g h = record {
    put = rw (two_operands (bytes "memory") (in_decimal region) (in_decimal index)) (put_then f (put_then g h));
    few = omega (arith, f.place, decimal_goes region 9 s g, decimal_goes index 10 t h);
  }

  pub call_told : (f : ExpressionFunction) → Put e at (word (bytes "function")) p m → Put m p (function_name f) q n → Put n q (10 ∷ []) r x → Told e at (Step.Function f) r x
  unfolding step_fields line
  call_told f g h i = record { put = put_then g (put_then h i); few = omega (arith, g.place, name_goes f h, i.place) }

module _ {e m x : List ℕ} {at p r : ℕ} where
  pub variable_told : (v : ℕ) → v < 18446744073709551616 → Put e at (word (bytes "variable")) p m → Put m p (ending (in_decimal v) 10) r x → Told e at (Step.Variable v) r x
  unfolding step_fields line
  variable_told v s f g = record { put = put_then f g; few = omega (arith, f.place, decimal_goes v 10 s g) }

module _ {e x : List ℕ} {at r : ℕ} where
  pub pi_told : Put e at (112 ∷ 105 ∷ 10 ∷ []) r x → Told e at Step.Pi r x
  unfolding step_fields line
  pi_told p = record { put = p; few = omega (arith, p.place) }

  pub prefix_told : (o : PrefixOperator) {sign : ℕ} → prefix_name o ≡ sign ∷ [] → Put e at (word (bytes "prefix") ++ (sign ∷ 10 ∷ [])) r x → Told e at (Step.Prefix o) r x
  unfolding step_fields line
  prefix_told o s p = record { put = rw s p; few = omega (arith, p.place) }

  pub infix_told : (o : InfixOperator) {sign : ℕ} → infix_name o ≡ sign ∷ [] → Put e at (word (bytes "infix") ++ (sign ∷ 10 ∷ [])) r x → Told e at (Step.Infix o) r x
  unfolding step_fields line
  infix_told o s p = record { put = rw s p; few = omega (arith, p.place) }

  pub told_as : {s t : Step} → s ≡ t → Told e at t r x → Told e at s r x
  told_as p = subst (λ k. Told e at k r x) (sym p)

-- ---- the line of a step

number_first : (f : List ℕ) (s : Step) → line (f ∷ step_fields s) ≡ ending f 9 ++ line (step_fields s)
unfolding step_fields line
number_first f (Step.Number z) = sym (append_assoc f (9 ∷ []) _)
number_first f Step.Pi = sym (append_assoc f (9 ∷ []) _)
number_first f (Step.Variable v) = sym (append_assoc f (9 ∷ []) _)
number_first f (Step.Memory region index) = sym (append_assoc f (9 ∷ []) _)
number_first f (Step.Function g) = sym (append_assoc f (9 ∷ []) _)
number_first f (Step.Prefix o) = sym (append_assoc f (9 ∷ []) _)
number_first f (Step.Infix o) = sym (append_assoc f (9 ∷ []) _)

pub line_told : {e m x : List ℕ} {at p r : ℕ} (k : ℕ) {s : Step} → k < 18446744073709551616
    → Put e at (ending (in_decimal k) 9) p m → Told m p s r x → Put e at (step_line k s) r x × (r ≤ at + 70)
unfolding step_line
line_told k {s} h f t = (rw (number_first (in_decimal k) s) (put_then f t.put), omega (arith, decimal_goes k 9 h f, t.few))
