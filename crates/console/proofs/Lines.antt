-- The lines of the answers in the pieces in which they are written, their lengths, and what stands at the start of an output. Assumes nothing.
use mathlib.Core.Path.{◌≡◌, refl, sym, ap, subst, ◌∙◌}
use mathlib.Core.List.{List, [], ◌∷◌, ◌++◌, append_assoc}
use Prim.Native.Nat.{ℕ, ◌+◌, ◌≤◌, ◌<◌}
use native.Mathlib.Omega.{arith}
use lib.Ieee.{Float}
use lib.ListN.{length, take, drop, length-append}
use lib.Seq.{length-take-le, sets-eq, take-append_seam}
use denote.Enum.Declared.{tag_of}
use types.Run.{OneOf}
use Rattle.io.specs.Counts.{IsPrefixLen}
use Rattle.complex.specs.declared.Complex.{Complex}
use Rattle.complex.specs.Bits.{bits_of}
use Rattle.expression.specs.declared.ExpressionFunction.{ExpressionFunction}
use Rattle.expression.specs.declared.refusal.Operation.{Operation}
use Rattle.expression.specs.declared.refusal.Refusal.{Refusal}
use Rattle.expression.specs.contracts.refusal.Refusal.{the_type}
use Rattle.expression.specs.Refusals.{number_of, place_of}
use Rattle.expression.proofs.Carrying.{others, is_placed}
use Rattle.text.specs.Writing.{in_decimal, in_hex, line}
use Rattle.text.specs.Put.{Put}
use Rattle.text.proofs.Putting.{hex_length, few_digits, put_length}
use Rattle.spelling.specs.Names.{function_name, operation_name}
use Rattle.console.specs.Answers.{value_line, real_line, refused_line, need_line, carried_line, refusal_line}

-- ---- the start of an output

abbrev pub Line : (entry bytes : List ℕ) (r : ℕ) (exit : List ℕ) → Type 0
Line entry bytes r exit = Put entry 0 bytes r exit × IsPrefixLen r exit

pub put_counts : {e x xs : List ℕ} {r : ℕ} → Put e 0 xs r x → length xs ≤ length e → IsPrefixLen r x
put_counts {e} {x} {xs} {r} p h =
    let f : r ≤ length x = omega (arith, p.place, put_length p, h) in
    (f, sym (length-take-le r x f))

pub put_line : {e x xs : List ℕ} {r : ℕ} → Put e 0 xs r x → length xs ≤ 96 → 96 ≤ length e → Line e xs r x
put_line p h o = (p, put_counts p (omega (arith, h, o)))

pub stands : {e x xs : List ℕ} {r : ℕ} → Line e xs r x → take r x ≡ xs
stands {e} {x} {xs} {r} (p, k) =
    let z : r ≡ length xs = omega (arith, p.place) in
    let f : 0 + length xs ≤ length e = omega (arith, z, k.0, put_length p) in
    rw (z, p.stored, sets-eq xs e 0 f) (take-append_seam xs (drop (0 + length xs) e))

-- ---- pieces

abbrev pub ending : List ℕ → ℕ → List ℕ
ending field stop = field ++ (stop ∷ [])

then_rest : (a : List ℕ) (x : ℕ) (b : List ℕ) → a ++ (x ∷ b) ≡ ending a x ++ b
then_rest a x b = sym (append_assoc a (x ∷ []) b)

pub ending_length : (a : List ℕ) (x : ℕ) → length (ending a x) ≡ length a + 1
ending_length a x = length-append a (x ∷ [])

two_fields : (a b : List ℕ) (x y : ℕ) → length (ending a x ++ ending b y) ≡ length a + length b + 2
two_fields a b x y = length-append (ending a x) (ending b y) ∙ omega (arith, ending_length a x, ending_length b y)

abbrev pub parts : Complex → ℕ → List ℕ
parts z stop = ending (in_hex (bits_of z.re)) 9 ++ ending (in_hex (bits_of z.im)) stop

pub parts_length : (z : Complex) (stop : ℕ) → length (parts z stop) ≡ 34
parts_length z stop = omega (arith, two_fields (in_hex (bits_of z.re)) (in_hex (bits_of z.im)) 9 stop, hex_length (bits_of z.re), hex_length (bits_of z.im))

pub name_short : (o : Operation) → length (operation_name o) ≤ 4
name_short Operation.Sine = omega arith
name_short Operation.Cosine = omega arith
name_short Operation.Exponent = omega arith
name_short Operation.SquareRoot = omega arith
name_short Operation.Power = omega arith

pub function_short : (f : ExpressionFunction) → length (function_name f) ≤ 4
function_short ExpressionFunction.Sine = omega arith
function_short ExpressionFunction.Cosine = omega arith
function_short ExpressionFunction.Exponent = omega arith
function_short ExpressionFunction.SquareRoot = omega arith
function_short ExpressionFunction.Cis = omega arith

pub decimal_short : (n : ℕ) → n < 18446744073709551616 → length (in_decimal n) ≤ 20
decimal_short n h = few_digits 19 n (omega (arith, h))

-- ---- lines

pub value_text : (z : Complex) → value_line z ≡ (118 ∷ 97 ∷ 108 ∷ 117 ∷ 101 ∷ 9 ∷ []) ++ parts z 10
unfolding value_line line
value_text z = rw (then_rest (in_hex (bits_of z.re)) 9 (ending (in_hex (bits_of z.im)) 10))

pub value_short : (z : Complex) → length (value_line z) ≤ 96
value_short z = rw (value_text z) (omega (arith, parts_length z 10))

pub real_text : (x : Float) → real_line x ≡ (114 ∷ 101 ∷ 97 ∷ 108 ∷ 9 ∷ []) ++ ending (in_hex (bits_of x)) 10
unfolding real_line line
real_text x = refl

pub real_short : (x : Float) → length (real_line x) ≤ 96
real_short x = rw (real_text x) (omega (arith, ending_length (in_hex (bits_of x)) 10, hex_length (bits_of x)))

pub refused_text_lem : (n p : ℕ) → refused_line n p ≡ (114 ∷ 101 ∷ 102 ∷ 117 ∷ 115 ∷ 101 ∷ 100 ∷ 9 ∷ []) ++ (ending (in_decimal n) 9 ++ ending (in_decimal p) 10)
unfolding refused_line line
refused_text_lem n p = rw (then_rest (in_decimal n) 9 (ending (in_decimal p) 10))

pub refused_short : (n p : ℕ) → n < 18446744073709551616 → p < 18446744073709551616 → length (refused_line n p) ≤ 96
refused_short n p h o = rw (refused_text_lem n p) (omega (arith, two_fields (in_decimal n) (in_decimal p) 9 10, decimal_short n h, decimal_short p o))

pub need_text : (o : Operation) (x y : Complex) → need_line o x y ≡ (110 ∷ 101 ∷ 101 ∷ 100 ∷ 9 ∷ []) ++ (operation_name o ++ ((9 ∷ []) ++ (parts x 9 ++ parts y 10)))
unfolding need_line line
need_text o x y =
    rw (
      append_assoc (ending (in_hex (bits_of x.re)) 9) (ending (in_hex (bits_of x.im)) 9) (parts y 10),
      ← then_rest (in_hex (bits_of x.re)) 9 (ending (in_hex (bits_of x.im)) 9 ++ parts y 10),
      ← then_rest (in_hex (bits_of x.im)) 9 (parts y 10),
      ← then_rest (in_hex (bits_of y.re)) 9 (ending (in_hex (bits_of y.im)) 10),
    )

pub need_short : (o : Operation) (x y : Complex) → length (need_line o x y) ≤ 96
need_short o x y =
    rw (need_text o x y)
    (omega (arith, length-append (operation_name o) ((9 ∷ []) ++ (parts x 9 ++ parts y 10)), length-append (parts x 9) (parts y 10), parts_length x 9, parts_length y 10, name_short o))

-- ---- refusals

pub placed : (why : Refusal) {number place r : ℕ} {e x : List ℕ}
    → OneOf others (tag_of the_type why) → number ≡ number_of why → place ≡ place_of why
    → Line e (refused_line number place) r x → Line e (refusal_line why) r x
unfolding carried_line
placed why {r = r} {e} {x} k p q a = subst (λ l. Line e l r x) ((λ i. refused_line (p i) (q i)) ∙ ap (carried_line (number_of why)) (sym (is_placed why k))) a

pub lacks : {why : Refusal} {operation : Operation} {z y : Complex} {r : ℕ} {e x : List ℕ} → why ≡ Refusal.Need operation z y
    → Line e (need_line operation z y) r x → Line e (refusal_line why) r x
unfolding carried_line
lacks {r = r} {e} {x} told a = subst (λ l. Line e l r x) (ap refusal_line (sym told)) a
