-- What `refuse` puts on the desk is what is read of it again. Assumes nothing.
use mathlib.Core.Path.{◌≡◌, refl, ap, ◌∙◌}
use mathlib.Core.List.{List}
use Prim.Native.Nat.{ℕ, ◌≤◌, ◌<◌}
use native.Mathlib.Omega.{arith}
use lib.ListN.{length, get_or, set, length-set}
use lib.Seq.{get_or-set_same, get_or-set_other}
use Rattle.memory.specs.Layout.{desk_words}
use Rattle.complex.specs.declared.Complex.{Complex}
use Rattle.complex.specs.Bits.{bits_of, Fitting}
use Rattle.complex.specs.Constants.{of_parts}
use Rattle.complex.proofs.Doubles.{double_back}
use Rattle.expression.specs.declared.refusal.Operation.{Operation}
use Rattle.expression.specs.declared.refusal.Refusal.{Refusal}
use Rattle.expression.specs.Codes.{operation_code, operation_of}
use Rattle.expression.specs.Refusals.{number_of}
use Rattle.expression.proofs.Numbering.{operation_back}
use Rattle.store.proofs.Noting.{marks_below}
use Rattle.store.specs.Desk.{count, calls_on, marks_on, with_calls, need_on, why_on, OfBuilding, refusal_on, Alike, Asks, Refuses}

-- the last of several words that are set is there, and so are the others
module _ (d : List ℕ) (o a b p q : ℕ) where
  abbrev written : List ℕ
  written = set (set (set (set (set d 2 o) 3 a) 4 b) 5 p) 6 q

  length_written : length written ≡ length d
  length_written =
      length-set (set (set (set (set d 2 o) 3 a) 4 b) 5 p) 6 q ∙ length-set (set (set (set d 2 o) 3 a) 4 b) 5 p ∙ length-set (set (set d 2 o) 3 a) 4 b
      ∙ length-set (set d 2 o) 3 a ∙ length-set d 2 o

  -- a word that none of them is
  other : (k : ℕ) → (k ≡ 2 → ⊥) → (k ≡ 3 → ⊥) → (k ≡ 4 → ⊥) → (k ≡ 5 → ⊥) → (k ≡ 6 → ⊥) → get_or written k 0 ≡ get_or d k 0
  other k n2 n3 n4 n5 n6 =
      get_or-set_other (set (set (set (set d 2 o) 3 a) 4 b) 5 p) 6 k q 0 n6 ∙ get_or-set_other (set (set (set d 2 o) 3 a) 4 b) 5 k p 0 n5
      ∙ get_or-set_other (set (set d 2 o) 3 a) 4 k b 0 n4 ∙ get_or-set_other (set d 2 o) 3 k a 0 n3 ∙ get_or-set_other d 2 k o 0 n2

  module _ (h : 7 ≤ length d) where
    l2 : 3 < length (set d 2 o)
    l2 = omega (arith, length-set d 2 o, h)

    l3 : 4 < length (set (set d 2 o) 3 a)
    l3 = omega (arith, length-set (set d 2 o) 3 a, length-set d 2 o, h)

    l4 : 5 < length (set (set (set d 2 o) 3 a) 4 b)
    l4 = omega (arith, length-set (set (set d 2 o) 3 a) 4 b, length-set (set d 2 o) 3 a, length-set d 2 o, h)

    l5 : 6 < length (set (set (set (set d 2 o) 3 a) 4 b) 5 p)
    l5 = omega (arith, length-set (set (set (set d 2 o) 3 a) 4 b) 5 p, length-set (set (set d 2 o) 3 a) 4 b, length-set (set d 2 o) 3 a, length-set d 2 o, h)

    w2 : get_or written 2 0 ≡ o
    w2 =
        get_or-set_other (set (set (set (set d 2 o) 3 a) 4 b) 5 p) 6 2 q 0 (λ x. absurd (omega arith)) ∙ get_or-set_other (set (set (set d 2 o) 3 a) 4 b) 5 2 p 0 (λ x. absurd (omega arith))
        ∙ get_or-set_other (set (set d 2 o) 3 a) 4 2 b 0 (λ x. absurd (omega arith)) ∙ get_or-set_other (set d 2 o) 3 2 a 0 (λ x. absurd (omega arith)) ∙ get_or-set_same d 2 o 0 (omega (arith, h))

    w3 : get_or written 3 0 ≡ a
    w3 =
        get_or-set_other (set (set (set (set d 2 o) 3 a) 4 b) 5 p) 6 3 q 0 (λ x. absurd (omega arith)) ∙ get_or-set_other (set (set (set d 2 o) 3 a) 4 b) 5 3 p 0 (λ x. absurd (omega arith))
        ∙ get_or-set_other (set (set d 2 o) 3 a) 4 3 b 0 (λ x. absurd (omega arith)) ∙ get_or-set_same (set d 2 o) 3 a 0 l2

    w4 : get_or written 4 0 ≡ b
    w4 =
        get_or-set_other (set (set (set (set d 2 o) 3 a) 4 b) 5 p) 6 4 q 0 (λ x. absurd (omega arith)) ∙ get_or-set_other (set (set (set d 2 o) 3 a) 4 b) 5 4 p 0 (λ x. absurd (omega arith))
        ∙ get_or-set_same (set (set d 2 o) 3 a) 4 b 0 l3

    w5 : get_or written 5 0 ≡ p
    w5 = get_or-set_other (set (set (set (set d 2 o) 3 a) 4 b) 5 p) 6 5 q 0 (λ x. absurd (omega arith)) ∙ get_or-set_same (set (set (set d 2 o) 3 a) 4 b) 5 p 0 l4

    w6 : get_or written 6 0 ≡ q
    w6 = get_or-set_same (set (set (set (set d 2 o) 3 a) 4 b) 5 p) 6 q 0 l5

  alike_written : Alike d written
  unfolding count calls_on
  alike_written = record {
    counted = other 0 (λ x. absurd (omega arith)) (λ x. absurd (omega arith)) (λ x. absurd (omega arith)) (λ x. absurd (omega arith)) (λ x. absurd (omega arith));
    called = other 1 (λ x. absurd (omega arith)) (λ x. absurd (omega arith)) (λ x. absurd (omega arith)) (λ x. absurd (omega arith)) (λ x. absurd (omega arith));
    marked =
        marks_below (set (set (set (set d 2 o) 3 a) 4 b) 5 p) 6 q (omega arith) ∙ marks_below (set (set (set d 2 o) 3 a) 4 b) 5 p (omega arith)
        ∙ marks_below (set (set d 2 o) 3 a) 4 b (omega arith) ∙ marks_below (set d 2 o) 3 a (omega arith) ∙ marks_below d 2 o (omega arith);
    long = length_written;
  }

number_back : (z : Complex) → Fitting z → of_parts (bits_of z.re) (bits_of z.im) ≡ z
number_back z h = λ i. record { re = double_back z.re h.re i; im = double_back z.im h.im i }

pub asked : (d : List ℕ) (operation : Operation) (x y : Complex) → Fitting x → Fitting y
    → Asks operation x y d (set (set (set (set (set d 2 (operation_code operation)) 3 (bits_of x.re)) 4 (bits_of x.im)) 5 (bits_of y.re)) 6 (bits_of y.im))
unfolding need_on why_on
asked d operation x y fx fy =
    let o = operation_code operation in
    let a = bits_of x.re in
    let b = bits_of x.im in
    let p = bits_of y.re in
    let q = bits_of y.im in
    record {
      need = λ l.
          let h : 7 ≤ length d = omega (arith, l) in
          let e = ap operation_of (w2 d o a b p q h) ∙ operation_back operation in
          let ex = (λ i. of_parts (w3 d o a b p q h i) (w4 d o a b p q h i)) ∙ number_back x fx in
          let ey = (λ i. of_parts (w5 d o a b p q h i) (w6 d o a b p q h i)) ∙ number_back y fy in
          λ i. Refusal.Need (e i) (ex i) (ey i);
      numbered = other d o a b p q 7 (λ x. absurd (omega arith)) (λ x. absurd (omega arith)) (λ x. absurd (omega arith)) (λ x. absurd (omega arith)) (λ x. absurd (omega arith));
      alike = alike_written d o a b p q;
    }

-- ---- why nothing was built

why_numbered : (d : List ℕ) (n : ℕ) → length d ≡ desk_words → why_on (set d 7 n) ≡ n
unfolding why_on
why_numbered d n l = get_or-set_same d 7 n 0 (omega (arith, l))

alike_numbered : (d : List ℕ) (n : ℕ) → Alike d (set d 7 n)
unfolding count calls_on
alike_numbered d n = record {
  counted = get_or-set_other d 7 0 n 0 λ x. absurd (omega arith);
  called = get_or-set_other d 7 1 n 0 λ x. absurd (omega arith);
  marked = marks_below d 7 n (omega arith);
  long = length-set d 7 n;
}

-- a number of a refusal that carries nothing
plain : (why : Refusal) (d : List ℕ) → ((o : Operation) (x y : Complex) → why ≡ Refusal.Need o x y → ⊥) → why_on d ≡ number_of why → OfBuilding why → refusal_on d ≡ why
unfolding refusal_on
plain (Refusal.BadList line) d n e o = absurd (omega (arith, o))
plain (Refusal.LongList line) d n e o = absurd (omega (arith, o))
plain (Refusal.BadSheet line) d n e o = absurd (omega (arith, o))
plain (Refusal.LongSheet line) d n e o = absurd (omega (arith, o))
plain Refusal.BadLimit d n e o = absurd (omega (arith, o))
plain Refusal.Big d n e o = rw e refl
plain Refusal.Deep d n e o = rw e refl
plain Refusal.Room d n e o = rw e refl
plain (Refusal.Need operation x y) d n e o = absurd (n operation x y refl)
plain Refusal.Incomplete d n e o = rw e refl
plain Refusal.NotReal d n e o = absurd (omega (arith, o))
plain Refusal.NotANumber d n e o = absurd (omega (arith, o))
plain Refusal.OutRoom d n e o = absurd (omega (arith, o))
plain Refusal.LongTape d n e o = absurd (omega (arith, o))
plain (Refusal.BadTape step) d n e o = absurd (omega (arith, o))
plain (Refusal.BadNames line) d n e o = absurd (omega (arith, o))
plain (Refusal.UnknownName line) d n e o = absurd (omega (arith, o))
plain Refusal.BadBook d n e o = absurd (omega (arith, o))
plain (Refusal.Many listing) d n e o = absurd (omega (arith, o))
plain Refusal.NoText d n e o = absurd (omega (arith, o))

pub refuses_plain : (d : List ℕ) (why : Refusal) {n : ℕ} → n ≡ number_of why → ((o : Operation) (x y : Complex) → why ≡ Refusal.Need o x y → ⊥) → Refuses why d (set d 7 n)
refuses_plain d why {n} e p = record {
  told = λ l o. plain why (set d 7 n) p (why_numbered d n l ∙ e) o;
  alike = alike_numbered d n;
}

need_told : (d : List ℕ) {operation : Operation} {x y : Complex} → why_on d ≡ 9 → need_on d ≡ Refusal.Need operation x y → refusal_on d ≡ Refusal.Need operation x y
unfolding refusal_on
need_told d e n = rw e n

pub refuses_need : (d : List ℕ) {operation : Operation} {x y : Complex} {n : ℕ} {d' : List ℕ} → n ≡ 9 → Asks operation x y (set d 7 n) d'
    → Refuses (Refusal.Need operation x y) d d'
refuses_need d {n = n} e a = record {
  told = λ l o. need_told _ (a.numbered ∙ why_numbered d n l ∙ e) (a.need (length-set d 7 n ∙ l));
  alike = (let b = alike_numbered d n in record {
    counted = a.alike.counted ∙ b.counted;
    called = a.alike.called ∙ b.called;
    marked = a.alike.marked ∙ b.marked;
    long = a.alike.long ∙ b.long;
  });
}

-- the calls that were counted
pub calls_set : (d : List ℕ) (c : ℕ) → length d ≡ desk_words → calls_on (with_calls d c) ≡ c
unfolding calls_on with_calls
calls_set d c h = get_or-set_same d 1 c 0 (omega (arith, h))

pub count_kept : (d : List ℕ) (c : ℕ) → count (with_calls d c) ≡ count d
unfolding count with_calls
count_kept d c = get_or-set_other d 1 0 c 0 λ x. absurd (omega arith)

pub marks_kept : (d : List ℕ) (c : ℕ) → marks_on (with_calls d c) ≡ marks_on d
unfolding with_calls
marks_kept d c = marks_below d 1 c (omega arith)

pub length_kept : (d : List ℕ) (c : ℕ) → length (with_calls d c) ≡ length d
unfolding with_calls
length_kept d c = length-set d 1 c
