-- What is written of a tape reads back: `tape_back`. Assumes nothing.
use mathlib.Core.Path.{◌≡◌, refl, sym, ap, ◌∙◌}
use mathlib.Core.List.{List, [], ◌∷◌, ◌++◌, append_assoc, append-nil}
use mathlib.Core.Bool.{Bool, true, ◌&&◌}
use Prim.Native.Nat.{ℕ, zero, suc, ◌+◌, ◌-◌, ◌*◌, ◌/◌, ◌%◌, ◌≤◌, ◌<◌}
use native.Mathlib.Nat.{add-zero}
use native.Mathlib.Omega.{arith}
use native.Mathlib.Decide.{dec_lt}
use lib.ListN.{length, get_or, take, drop, length-drop, take-append-drop, get_or-eq_default}
use lib.Dec.{ltb}
use lib.Seq.{length-take-le, get_or-take, get_or-drop}
use borrow.Author.Tests.{lt-ltb, le-ltb, ne_eqb}
use Rattle.text.specs.Reading.{is, then, ended, hex_from}
use Rattle.text.specs.Writing.{byte_of}
use Rattle.text.proofs.RoundTrip.{digit_byte, ended_here}
use Rattle.console.specs.TapeText.{stops, stop_after, stopping, in_digits, in_lines, stopped, byte_from, step_from, or_zeros, next_line, read_steps, tape_in}
use Rattle.console.proofs.TapeLines.{steps_none}

-- ---- a byte

two_read : (b : ℕ) (rest : List ℕ) → b < 256 → hex_from 2 0 (byte_of (b / 16) ∷ byte_of (b % 16) ∷ rest) ≡ is b rest
unfolding hex_from
two_read b rest h =
    let q : (0 * 16 + b / 16) * 16 + b % 16 ≡ b = omega arith in
    rw (digit_byte (b / 16) (omega arith), lt-ltb (b / 16) 16 (omega arith), digit_byte (b % 16) (omega arith), lt-ltb (b % 16) 16 (omega arith), q)

byte_reads : (b stop : ℕ) (rest : List ℕ) → b < 256 → byte_from stop (in_digits b stop ++ rest) ≡ is b rest
unfolding byte_from stopped in_digits stopping
byte_reads b zero rest h = two_read b rest h
byte_reads b (suc s) rest h = ap (ended (suc s)) (two_read b (suc s ∷ rest) h) ∙ ended_here (suc s) b rest

-- ---- a step

abbrev Bytes : List ℕ → Type 0
Bytes l = (k : ℕ) → get_or l k 0 < 256

step_reads : (j i left : ℕ) (before xs rest : List ℕ) → i + left ≡ 24 → length xs ≡ left → Bytes xs
    → step_from left before (in_lines (j * 24 + i) xs ++ rest) ≡ is (before ++ xs) rest
unfolding step_from in_lines then
step_reads j i zero before [] rest e l h = rw append-nil
step_reads j i zero before (x ∷ xs) rest e l h = absurd (omega arith)
step_reads j i (suc left) before [] rest e l h = absurd (omega arith)
step_reads j i (suc left) before (x ∷ xs) rest e l h =
    let z : (j * 24 + i) % 24 ≡ 23 - left = omega arith in
    let o : suc (j * 24 + i) ≡ j * 24 + suc i = omega arith in
    rw (z, append_assoc (in_digits x (stop_after (23 - left))) (in_lines (suc (j * 24 + i)) xs) rest, byte_reads x (stop_after (23 - left)) (in_lines (suc (j * 24 + i)) xs ++ rest) (h 0), o)
    (step_reads j (suc i) left (before ++ (x ∷ [])) xs rest (omega arith) (omega arith) (λ k. h (suc k)) ∙ ap (λ l. is l rest) (append_assoc before (x ∷ []) xs))

-- ---- a line

all_below : List ℕ → Bool
all_below [] = true
all_below (x ∷ xs) = ltb x 10 && all_below xs

below : (l : List ℕ) → all_below l ≡ true → (i : ℕ) → get_or l i 0 < 10
unfolding all_below
below [] e i = omega arith
below (x ∷ xs) e i = elim (dec_lt x 10) [
  | no ge ↦ let q = rw (le-ltb x 10 (omega arith)) at e in let z : ◌≡◌ {A = ℕ} 0 1 = cc in absurd (omega arith)
  | yes lt ↦ here lt (below xs (rw (lt-ltb x 10 lt) at e)) i
]
  where
    here : x < 10 → ((i : ℕ) → get_or xs i 0 < 10) → (i : ℕ) → get_or (x ∷ xs) i 0 < 10
    here lt t zero = lt
    here lt t (suc i) = t i

no_lf : (i : ℕ) → i < 23 → stop_after i < 10
unfolding stop_after all_below
no_lf i h = rw (get_or-take 23 stops i 0 h) at (below (take 23 stops) refl i)

over_digit : (d : ℕ) (l : List ℕ) → next_line (byte_of d ∷ l) ≡ next_line l
unfolding next_line byte_of
over_digit d l = elim (dec_lt d 10) [
  | yes lt ↦ rw (lt-ltb d 10 lt, ne_eqb (48 + d) 10 (λ e. omega arith))
  | no ge ↦ rw (le-ltb d 10 (omega arith), ne_eqb (65 + (d - 10)) 10 (λ e. omega arith))
]

over_stop : (stop : ℕ) (l : List ℕ) → stop < 10 → next_line (stopping stop ++ l) ≡ next_line l
unfolding next_line stopping
over_stop zero l h = refl
over_stop (suc s) l h = rw (ne_eqb (suc s) 10 (λ e. omega arith))

over_byte : (b stop : ℕ) (l : List ℕ) → next_line (in_digits b stop ++ l) ≡ next_line (stopping stop ++ l)
unfolding in_digits
over_byte b stop l = over_digit (b / 16) (byte_of (b % 16) ∷ (stopping stop ++ l)) ∙ over_digit (b % 16) (stopping stop ++ l)

last_stop : (l : List ℕ) → next_line (stopping (stop_after 23) ++ l) ≡ l
unfolding next_line stopping stop_after
last_stop l = refl

pub line_over : (j i left : ℕ) (xs rest : List ℕ) → i + suc left ≡ 24 → length xs ≡ suc left → next_line (in_lines (j * 24 + i) xs ++ rest) ≡ rest
unfolding in_lines
line_over j i left [] rest e l = absurd (omega arith)
line_over j i zero (x ∷ y ∷ xs) rest e l = absurd (omega arith)
line_over j i zero (x ∷ []) rest e l =
    let z : (j * 24 + i) % 24 ≡ 23 = omega arith in
    rw (z, append-nil) (over_byte x (stop_after 23) rest ∙ last_stop rest)
line_over j i (suc left) (x ∷ xs) rest e l =
    let z : (j * 24 + i) % 24 ≡ i = omega arith in
    let o : suc (j * 24 + i) ≡ j * 24 + suc i = omega arith in
    rw (z, append_assoc (in_digits x (stop_after i)) (in_lines (suc (j * 24 + i)) xs) rest, o)
    (over_byte x (stop_after i) (in_lines (j * 24 + suc i) xs ++ rest) ∙
    over_stop (stop_after i) (in_lines (j * 24 + suc i) xs ++ rest) (no_lf i (omega arith)) ∙
    line_over j (suc i) left xs rest (omega arith) (omega arith))

-- ---- a tape

pub lines_append : (k : ℕ) (xs ys : List ℕ) → in_lines k (xs ++ ys) ≡ in_lines k xs ++ in_lines (k + length xs) ys
unfolding in_lines
lines_append k [] ys = rw add-zero
lines_append k (x ∷ xs) ys =
    let z : k + suc (length xs) ≡ suc k + length xs = omega arith in
    rw (z, lines_append (suc k) xs ys) (sym (append_assoc (in_digits x (stop_after (k % 24))) (in_lines (suc k) xs) (in_lines (suc k + length xs) ys)))

some_line : (k : ℕ) (xs rest : List ℕ) → 0 < length xs → 0 < length (in_lines k xs ++ rest)
unfolding in_lines in_digits
some_line k [] rest h = absurd (omega arith)
some_line k (x ∷ xs) rest h = omega arith

some_step : (most : ℕ) (bs : List ℕ) → 0 < length bs → read_steps (suc most) bs ≡ or_zeros (step_from 24 [] bs) ++ read_steps most (next_line bs)
unfolding read_steps
some_step most [] h = absurd (omega arith)
some_step most (b ∷ bs) h = refl

lines_read : (n j most : ℕ) (tape : List ℕ) → length tape ≡ n * 24 → n ≤ most → Bytes tape → read_steps most (in_lines (j * 24) tape) ≡ tape
unfolding in_lines or_zeros
lines_read zero j most [] l m h = steps_none most
lines_read zero j most (x ∷ xs) l m h = absurd (omega arith)
lines_read (suc n) j zero tape l m h = absurd (omega arith)
lines_read (suc n) j (suc most) tape l m h =
    let a : length (take 24 tape) ≡ 24 = length-take-le 24 tape (omega arith) in
    let d : length (drop 24 tape) ≡ n * 24 = length-drop 24 tape ∙ omega arith in
    let s : tape ≡ take 24 tape ++ drop 24 tape = sym (take-append-drop 24 tape) in
    let z : j * 24 ≡ j * 24 + 0 = omega arith in
    let o : j * 24 + length (take 24 tape) ≡ suc j * 24 = omega (arith, a) in
    let rest = in_lines (suc j * 24) (drop 24 tape) in
    let t : in_lines (j * 24) tape ≡ in_lines (j * 24 + 0) (take 24 tape) ++ rest =
    ap (in_lines (j * 24)) s ∙ lines_append (j * 24) (take 24 tape) (drop 24 tape) ∙ rw (o, ← z) in
    let hs : Bytes (take 24 tape) = λ k. elim (dec_lt k 24) [ yes lt ↦ rw (get_or-take 24 tape k 0 lt) (h k) | no ge ↦ (let e : get_or (take 24 tape) k 0 ≡ 0 = get_or-eq_default (take 24 tape) 0 (omega (arith, a)) in omega (arith, e)) ] in
    let ht : Bytes (drop 24 tape) = λ k. rw (get_or-drop 24 tape k 0) (h (24 + k)) in
    ap (read_steps (suc most)) t ∙
    some_step most (in_lines (j * 24 + 0) (take 24 tape) ++ rest) (some_line (j * 24 + 0) (take 24 tape) rest (omega (arith, a))) ∙
    rw (step_reads j 0 24 [] (take 24 tape) rest refl a hs, line_over j 0 23 (take 24 tape) rest refl a, lines_read n (suc j) most (drop 24 tape) d (omega arith) ht)
    (take-append-drop 24 tape)

-- A tape of whole steps, as many as are read.
pub tape_back : (n : ℕ) (tape : List ℕ) → length tape ≡ n * 24 → n ≤ 513 → ((k : ℕ) → get_or tape k 0 < 256) → tape_in (in_lines 0 tape) ≡ tape
unfolding tape_in
tape_back n tape l m h = lines_read n 0 513 tape l m h
