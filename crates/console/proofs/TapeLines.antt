-- The lines of a tape, written and read byte by byte: what each function and each turn of a loop needs, over plain lists and numbers. Assumes nothing.
use mathlib.Core.Path.{◌≡◌, refl, sym, ap, ◌∙◌}
use mathlib.Core.List.{List, [], ◌∷◌, ◌++◌, append_assoc, append-nil}
use Prim.Native.Nat.{ℕ, zero, suc, ◌+◌, ◌-◌, ◌*◌, ◌/◌, ◌%◌, ◌≤◌, ◌<◌}
use native.Mathlib.Nat.{add-zero}
use native.Mathlib.Numerals.{add-one}
use native.Mathlib.Omega.{arith}
use native.Mathlib.Decide.{dec_lt}
use mathlib.Core.Bool.{true, false, cond}
use lib.Dec.{eqb}
use lib.ListN.{length, set, get_or, take, length-append, length-set}
use lib.Seq.{take-suc, take_all, take-suc-set, length-take-le}
use borrow.Author.Tests.{lt-ltb, le-ltb, eq-eqb, ne_eqb}
use Rattle.std.specs.List.{IsFirstAndRest}
use Rattle.text.specs.Reading.{Read, is, bad, then, ended, digit_of, hex_from}
use Rattle.text.specs.Writing.{byte_of}
use Rattle.text.specs.Put.{Put}
use Rattle.text.proofs.Putting.{put_none, put_then, put_byte}
use Rattle.text.proofs.Running.{ended_bad}
use Rattle.text.proofs.Only.{ended_only, byte_digit}
use Rattle.console.specs.TapeText.{stop_after, stopping, in_digits, in_lines, stopped, byte_from, step_from, or_zeros, next_line, read_steps, tape_in}

-- ---- a byte is written

module _ {e : List ℕ} {at a c : ℕ} (b : ℕ) (p : a ≡ byte_of (b / 16)) (q : c ≡ byte_of (b % 16)) where
  two_put : Put e at (byte_of (b / 16) ∷ byte_of (b % 16) ∷ []) (at + 2) (set (set e at a) (at + 1) c)
  two_put = let z : at + 1 + 1 ≡ at + 2 = omega arith in rw (p, q, ← z) (put_then (put_byte e at (byte_of (b / 16))) (put_byte (set e at (byte_of (b / 16))) (at + 1) (byte_of (b % 16))))

  pub digits_alone : {stop : ℕ} → stop ≡ 0 → Put e at (in_digits b stop) (at + 2) (set (set e at a) (at + 1) c)
  unfolding in_digits stopping
  digits_alone z = rw z two_put

  pub digits_stop : {stop r : ℕ} {x : List ℕ} → (stop ≡ 0 → ⊥) → Put (set (set e at a) (at + 1) c) (at + 2) (stop ∷ []) r x → Put e at (in_digits b stop) r x
  unfolding in_digits stopping
  digits_stop {stop} h o = put_then two_put (rw (stopping_some stop h) o)
    where
      stopping_some : (stop : ℕ) → (stop ≡ 0 → ⊥) → stopping stop ≡ stop ∷ []
      stopping_some zero h = absurd (h refl)
      stopping_some (suc s) h = refl

digits_length : (b stop : ℕ) → length (in_digits b stop) ≤ 3
unfolding in_digits stopping
digits_length b zero = omega arith
digits_length b (suc s) = omega arith

-- ---- a tape is written

lines_snoc : (k : ℕ) (xs : List ℕ) (b : ℕ) → in_lines k (xs ++ (b ∷ [])) ≡ in_lines k xs ++ in_digits b (stop_after ((k + length xs) % 24))
unfolding in_lines
lines_snoc k [] b = rw (append-nil, add-zero)
lines_snoc k (x ∷ xs) b =
    let z : k + suc (length xs) ≡ suc k + length xs = omega arith in
    rw (z, lines_snoc (suc k) xs b) (sym (append_assoc (in_digits x (stop_after (k % 24))) (in_lines (suc k) xs) (in_digits b (stop_after ((suc k + length xs) % 24)))))

pub lines_length : (k : ℕ) (xs : List ℕ) → length (in_lines k xs) ≤ 3 * length xs
unfolding in_lines
lines_length k [] = omega arith
lines_length k (x ∷ xs) = omega (arith, length-append (in_digits x (stop_after (k % 24))) (in_lines (suc k) xs), digits_length x (stop_after (k % 24)), lines_length (suc k) xs)

pub record Written (entry tape out : List ℕ) (at i : ℕ) : Type 0 where
  pub few : i ≤ length tape
  pub put : Put entry 0 (in_lines 0 (take i tape)) at out

pub begun : (entry tape : List ℕ) → Written entry tape entry 0 0
unfolding in_lines
begun entry tape = record { few = omega arith; put = put_none entry 0 }

pub writes_on : {entry out exit : List ℕ} {at r stop : ℕ} {tape : List ℕ} {i : ℕ} → i < length tape → stop ≡ stop_after (i % 24) → Written entry tape out at i
    → Put out at (in_digits (get_or tape i 0) stop) r exit → Written entry tape exit r (i + 1)
writes_on {entry} {out} {exit} {at} {r} {stop} {tape} {i} h q w o =
    let z : 0 + length (take i tape) ≡ i = omega (arith, length-take-le i tape (omega arith)) in
    let l = lines_snoc 0 (take i tape) (get_or tape i 0) in
    record { few = omega arith; put = rw (add-one, take-suc tape i 0 h, l) (put_then w.put (rw (z, ← q) o)) }

pub written_place : {entry tape out : List ℕ} {at i : ℕ} → Written entry tape out at i → at ≤ 3 * i
written_place {entry} {tape} {out} {at} {i} w = omega (arith, w.put.place, lines_length 0 (take i tape), length-take-le i tape w.few)

pub written_all : {entry tape out : List ℕ} {at i : ℕ} → Written entry tape out at i → length tape ≤ i → Put entry 0 (in_lines 0 tape) at out
written_all {tape = tape} {i = i} w h = rw (take_all i tape h) at w.put

-- ---- a byte is read

digit_end : (s : List ℕ) (k v : ℕ) → length s ≡ 0 → hex_from (suc k) v s ≡ bad
unfolding hex_from
digit_end [] k v h = refl
digit_end (b ∷ s) k v h = absurd (omega arith)

module _ {s rest : List ℕ} {b : ℕ} (f : IsFirstAndRest s b rest) (k v : ℕ) where
  digit_none : 15 < digit_of b → hex_from (suc k) v s ≡ bad
  unfolding hex_from
  digit_none h = rw (f.0, le-ltb (digit_of b) 16 h)

  digit_some : digit_of b ≤ 15 → hex_from (suc k) v s ≡ hex_from k (v * 16 + digit_of b) rest
  unfolding hex_from
  digit_some h = rw (f.0, lt-ltb (digit_of b) 16 (omega arith))

stopped_bad : (stop : ℕ) → stopped stop bad ≡ bad
unfolding stopped
stopped_bad zero = refl
stopped_bad (suc s) = ended_bad (suc s)

pub byte_end : (s : List ℕ) (stop : ℕ) → length s ≡ 0 → bad ≡ byte_from stop s
unfolding byte_from
byte_end s stop h = sym (ap (stopped stop) (digit_end s 1 0 h) ∙ stopped_bad stop)

module _ {s mid : List ℕ} {b : ℕ} (f : IsFirstAndRest s b mid) (stop : ℕ) {high : ℕ} (q : high ≡ digit_of b) where
  pub byte_none : 15 < high → bad ≡ byte_from stop s
  unfolding byte_from
  byte_none h = sym (ap (stopped stop) (digit_none f 1 0 (rw q at h)) ∙ stopped_bad stop)

  module _ (h : high ≤ 15) where
    first : hex_from 2 0 s ≡ hex_from 1 high mid
    first = let z : 0 * 16 + digit_of b ≡ high = omega (arith, q) in rw (digit_some f 1 0 (rw q at h), z)

    pub byte_cut : length mid ≡ 0 → bad ≡ byte_from stop s
    unfolding byte_from
    byte_cut o = sym (ap (stopped stop) (first ∙ digit_end mid 0 high o) ∙ stopped_bad stop)

    module _ {rest : List ℕ} {c : ℕ} (g : IsFirstAndRest mid c rest) {low : ℕ} (u : low ≡ digit_of c) where
      pub byte_half : 15 < low → bad ≡ byte_from stop s
      unfolding byte_from
      byte_half o = sym (ap (stopped stop) (first ∙ digit_none g 0 high (rw u at o)) ∙ stopped_bad stop)

      module _ (o : low ≤ 15) where
        both : hex_from 2 0 s ≡ is (high * 16 + low) rest
        unfolding hex_from
        both = first ∙ rw (digit_some g 0 high (rw u at o), u)

        pub byte_alone : stop ≡ 0 → is (high * 16 + low) rest ≡ byte_from stop s
        unfolding byte_from stopped
        byte_alone z = rw z (sym both)

        pub byte_ended : {r : Read ℕ} → (stop ≡ 0 → ⊥) → r ≡ ended stop (is (high * 16 + low) rest) → r ≡ byte_from stop s
        unfolding byte_from stopped
        byte_ended n e = e ∙ ap (ended stop) (sym both) ∙ sym (some stop n (hex_from 2 0 s))
          where
            some : (stop : ℕ) → (stop ≡ 0 → ⊥) → (r : Read ℕ) → stopped stop r ≡ ended stop r
            some zero h r = absurd (h refl)
            some (suc k) h r = refl

-- ---- only what is written is read

pub never : {A B : Type 0} {x : B} {rest : List ℕ} → bad ≡ is x rest → A
never e = let z : ◌≡◌ {A = ℕ} 0 1 = cc in absurd (omega arith)

-- a digit after those that spell v
record Digit (k v : ℕ) (bs : List ℕ) (x : ℕ) (rest : List ℕ) : Type 0 where
  d : ℕ
  more : List ℕ
  small : d < 16
  here : bs ≡ byte_of d ∷ more
  then : hex_from k (v * 16 + d) more ≡ is x rest

digit_only : (k v : ℕ) (bs : List ℕ) {x : ℕ} {rest : List ℕ} → hex_from (suc k) v bs ≡ is x rest → Digit k v bs x rest
unfolding hex_from
digit_only k v [] e = never e
digit_only k v (b ∷ bs) e = elim (dec_lt (digit_of b) 16) [
  | yes lt ↦ record { d = digit_of b; more = bs; small = lt; here = ap (λ y. y ∷ bs) (sym (byte_digit b lt)); then = rw (lt-ltb (digit_of b) 16 lt) at e }
  | no ge ↦ never (rw (le-ltb (digit_of b) 16 (omega arith)) at e)
]

two_only : (bs : List ℕ) {x : ℕ} {rest : List ℕ} → hex_from 2 0 bs ≡ is x rest → (x < 256) × (bs ≡ byte_of (x / 16) ∷ byte_of (x % 16) ∷ rest)
unfolding hex_from
two_only bs {x} {rest} e =
    let a = digit_only 1 0 bs e in
    let b = digit_only 0 (0 * 16 + a.d) a.more a.then in
    let o : is ((0 * 16 + a.d) * 16 + b.d) b.more ≡ is x rest = b.then in
    let z : x ≡ (0 * 16 + a.d) * 16 + b.d = cc in
    let t : b.more ≡ rest = cc in
    let d : x / 16 ≡ a.d = omega (arith, z, a.small, b.small) in
    let m : x % 16 ≡ b.d = omega (arith, z, a.small, b.small) in
    (omega (arith, z, a.small, b.small), a.here ∙ ap (λ l. byte_of a.d ∷ l) b.here ∙ (λ i. byte_of (sym d i) ∷ byte_of (sym m i) ∷ t i))

pub byte_only : (stop : ℕ) (bs : List ℕ) {x : ℕ} {rest : List ℕ} → byte_from stop bs ≡ is x rest → (x < 256) × (bs ≡ in_digits x stop ++ rest)
unfolding byte_from stopped in_digits stopping
byte_only zero bs e = two_only bs e
byte_only (suc s) bs {x} {rest} e = two_only bs (ended_only (suc s) (hex_from 2 0 bs) x rest e)

-- ---- a step is read

-- what is still to be read, after what has been, is the whole
pub record Stepping (s step rest : List ℕ) (k : ℕ) : Type 0 where
  pub few : k ≤ 24
  pub long : length step ≡ 24
  pub left : step_from (24 - k) (take k step) rest ≡ step_from 24 [] s

pub step_begins : (s step : List ℕ) → length step ≡ 24 → Stepping s step s 0
step_begins s step h = record { few = omega arith; long = h; left = refl }

module _ {s step rest : List ℕ} {k : ℕ} (g : Stepping s step rest k) {stop : ℕ} (q : stop ≡ stop_after k) where
  abbrev wanted : Read ℕ
  wanted = byte_from stop rest

  opened : k < 24 → then wanted (λ b rest. step_from (24 - (k + 1)) (take k step ++ (b ∷ [])) rest) ≡ step_from 24 [] s
  unfolding step_from
  opened h =
      let z : 24 - k ≡ suc (24 - (k + 1)) = omega arith in
      let o : 23 - (24 - (k + 1)) ≡ k = omega arith in
      rw q (rw (z, o) at g.left)

  pub step_none : k < 24 → wanted ≡ bad → bad ≡ step_from 24 [] s
  unfolding then
  step_none h e = rw e at (opened h)

  pub step_on : {b : ℕ} {after : List ℕ} → k < 24 → wanted ≡ is b after → Stepping s (set step k b) after (k + 1)
  unfolding then
  step_on {b} {after} h e =
      record {
        few = omega arith;
        long = length-set step k b ∙ g.long;
        left = let t : take (k + 1) (set step k b) ≡ take k step ++ (b ∷ []) = rw add-one (take-suc-set step k b (omega (arith, g.long))) in rw t (rw e at (opened h));
      }

pub step_done : {s step rest : List ℕ} {k : ℕ} → Stepping s step rest k → 24 ≤ k → step ≡ or_zeros (step_from 24 [] s)
unfolding or_zeros step_from
step_done {s} {step} {rest} {k} g h =
    let z : 24 - k ≡ 0 = omega arith in
    sym (take_all k step (omega (arith, g.long))) ∙ ap or_zeros (rw z at g.left)

-- ---- the next line

module _ {s rest : List ℕ} {b : ℕ} (f : IsFirstAndRest s b rest) where
  pub line_on : (b ≡ 10 → ⊥) → next_line rest ≡ next_line s
  unfolding next_line
  line_on n = rw (f.0, ne_eqb b 10 n)

  pub line_ends : b ≡ 10 → rest ≡ next_line s
  unfolding next_line
  line_ends e = rw (f.0, eq-eqb b 10 e)

pub line_none : (s : List ℕ) → length s ≡ 0 → s ≡ next_line s
unfolding next_line
line_none [] h = refl
line_none (b ∷ s) h = absurd (omega arith)

-- ---- a tape is read

pub record Taking (entry text out rest : List ℕ) (left n : ℕ) : Type 0 where
  pub taken : List ℕ
  pub more : taken ++ read_steps left rest ≡ tape_in text
  pub put : Put entry 0 taken n out
  pub room : n + left * 24 ≡ 12312

pub take_begins : (entry text : List ℕ) → Taking entry text entry text 513 0
unfolding tape_in
take_begins entry text = record { taken = []; more = refl; put = put_none entry 0; room = refl }

pub steps_none : (most : ℕ) → read_steps most [] ≡ []
unfolding read_steps
steps_none zero = refl
steps_none (suc most) = refl

steps_some : (most : ℕ) (s : List ℕ) → eqb (length s) 0 ≡ false → read_steps (suc most) s ≡ or_zeros (step_from 24 [] s) ++ read_steps most (next_line s)
unfolding read_steps
steps_some most [] h = never (ap (λ b. cond {A = Read ℕ} b bad (is 0 [])) h)
steps_some most (b ∷ s) h = refl

module _ {entry text out rest : List ℕ} {left n : ℕ} (g : Taking entry text out rest left n) where
  pub take_on : {step exit next : List ℕ} {m : ℕ} → (left ≡ 0 → ⊥) → eqb (length rest) 0 ≡ false → length step ≡ 24 → step ≡ or_zeros (step_from 24 [] rest)
      → Put out n step m exit → next ≡ next_line rest → Taking entry text exit next (left - 1) m
  take_on {step} {exit} {next} {m} h o l p q e =
      let z : left ≡ suc (left - 1) = omega (arith, h) in
      record {
        taken = g.taken ++ step;
        more = rw (append_assoc g.taken step (read_steps (left - 1) next), p, e) (rw (z, steps_some (left - 1) rest o) at g.more);
        put = put_then g.put q;
        room = omega (arith, g.room, q.place, l, z);
      }

  pub take_full : left ≡ 0 → Put entry 0 (tape_in text) n out
  unfolding read_steps
  take_full z = rw (← (rw z at g.more), append-nil g.taken) g.put

  pub take_all_lines : eqb (length rest) 0 ≡ true → Put entry 0 (tape_in text) n out
  take_all_lines h = go rest h g.more
    where
      go : (s : List ℕ) → eqb (length s) 0 ≡ true → g.taken ++ read_steps left s ≡ tape_in text → Put entry 0 (tape_in text) n out
      go [] h e = rw (← e, steps_none left, append-nil g.taken) g.put
      go (b ∷ s) h e = never (ap (λ b. cond {A = Read ℕ} b (is 0 []) bad) (sym (ne_eqb (length (b ∷ s)) 0 (λ e. omega (arith, e))) ∙ h))
