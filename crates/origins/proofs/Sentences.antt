-- The sentences about a listing with origins, byte by byte of the listing, over plain lists and numbers. Assumes nothing.
use mathlib.Core.Path.{◌≡◌, refl, sym, ap, subst, ◌∙◌}
use mathlib.Core.List.{List, [], ◌∷◌, ◌++◌, append_assoc, append-nil}
use mathlib.Core.Bool.{Bool, true, false}
use Prim.Native.Nat.{ℕ, suc, ◌+◌, ◌*◌, ◌≤◌, ◌<◌}
use native.Mathlib.Numerals.{add-one}
use native.Mathlib.Omega.{arith}
use lib.ListN.{length, drop, get_or, drop_of_length-le}
use borrow.Author.Tests.{lt-ltb, le-ltb, ne_eqb}
use Rattle.std.specs.Prelude.{Option, Some, None}
use Rattle.std.specs.Borrow.{Bor}
use Rattle.text.specs.Letters.{bytes}
use Rattle.text.specs.Reading.{Read, is, bad, decimal}
use Rattle.text.specs.Seen.{seen}
use Rattle.text.specs.Writing.{in_decimal}
use Rattle.text.specs.Put.{Put}
use Rattle.text.proofs.Fields.{told as was-told, told_bad}
use Rattle.text.proofs.Putting.{put_then}
use Rattle.text.proofs.Running.{here}
use Rattle.origins.specs.Fields.{most_origins}
use Rattle.origins.specs.Standing.{stands_at, told, standing_from, standing}
use Rattle.origins.proofs.Lengths.{line_short}

-- ---- one sentence

pub named_put : {e m x words : List ℕ} {at p r line : ℕ} → Put e at words p m → Put m p (in_decimal line) r x → line < 1024
    → Put e at (words ++ in_decimal line) r x × (r ≤ at + length words + 4)
named_put {line = line} a b h = (put_then a b, omega (arith, a.place, b.place, line_short line h))

five : (a b c d e : List ℕ) → (a ++ b) ++ ((c ++ d) ++ e) ≡ a ++ (b ++ (c ++ (d ++ e)))
five a b c d e = rw (append_assoc a b ((c ++ d) ++ e), append_assoc c d e)

module _ {e m m' x : List ℕ} {at p q r : ℕ} (job result : ℕ) where
  pub stands_put : Put e at (bytes "line " ++ in_decimal job) p m × (p ≤ at + 5 + 4) → Put m p (bytes " of the job stands at line " ++ in_decimal result) q m' × (q ≤ p + 27 + 4)
      → Put m' q (bytes " of the result\n") r x → Put e at (stands_at job result) r x × (r ≤ at + 55)
  stands_put (a, u) (b, v) d = (
    subst (λ l. Put e at l r x) (five (bytes "line ") (in_decimal job) (bytes " of the job stands at line ") (in_decimal result) (bytes " of the result\n")) (put_then a (put_then b d)),
    omega (arith, u, v, d.place),
  )

-- ---- what the `@` of a line says

told_is : (line n : ℕ) (rest : List ℕ) → line < 1024 → told line (is n rest) ≡ stands_at n line
unfolding told
told_is line n rest h = rw (lt-ltb line 1024 h)

told_late : (line : ℕ) (r : Read ℕ) → 1024 ≤ line → told line r ≡ []
unfolding told
told_late line (is n rest) h = rw (le-ltb line 1024 h)
told_late line bad h = refl

told_none : (line : ℕ) → told line bad ≡ []
unfolding told
told_none line = refl

pub put_nothing : (e : List ℕ) (at : ℕ) → Put e at [] at e
put_nothing e at = record { place = omega arith; stored = refl }

module _ {e : List ℕ} {at : ℕ} (line : ℕ) {want : Read ℕ} {n : Option (ℕ × Bor (List ℕ))} (reads : seen n ≡ want) where
  pub says_nothing : n ≡ None → Put e at (told line want) at e × (at ≤ at + 55)
  says_nothing q = (subst (λ l. Put e at l at e) (sym (ap (told line) (told_bad reads q) ∙ told_none line)) (put_nothing e at), omega arith)

  pub says : {x : List ℕ} {job r : ℕ} {next : Bor (List ℕ)} → n ≡ Some (job, next) → line < 1024 → Put e at (stands_at job line) r x × (r ≤ at + 55)
      → Put e at (told line want) r x × (r ≤ at + 55)
  says {x} {job} {r} {next} q h (p, w) = (subst (λ l. Put e at l r x) (sym (ap (told line) (was-told reads q) ∙ told_is line job next.now h)) p, w)

-- ---- byte by byte

at_lf : (line : ℕ) (passed : Bool) (bs : List ℕ) → standing_from line passed (10 ∷ bs) ≡ standing_from (suc line) false bs
unfolding standing_from
at_lf line passed bs = refl

at_first : (line : ℕ) (bs : List ℕ) → standing_from line false (64 ∷ bs) ≡ told line (decimal most_origins bs) ++ standing_from line true bs
unfolding standing_from
at_first line bs = refl

at_later : (line : ℕ) (bs : List ℕ) → standing_from line true (64 ∷ bs) ≡ standing_from line true bs
unfolding standing_from
at_later line bs = refl

at_other : (line : ℕ) (passed : Bool) (b : ℕ) (bs : List ℕ) → (b ≡ 10 → ⊥) → (b ≡ 64 → ⊥) → standing_from line passed (b ∷ bs) ≡ standing_from line passed bs
unfolding standing_from
at_other line passed b bs h o = rw (ne_eqb b 10 h, ne_eqb b 64 o)

at_end_lem : (line : ℕ) (passed : Bool) → standing_from line passed [] ≡ []
unfolding standing_from
at_end_lem line passed = refl

-- a line's sentence counts once its `@` is behind
abbrev counted : Bool → ℕ
counted true = 1
counted false = 0

counted_once : (passed : Bool) → counted passed ≤ 1
counted_once true = omega arith
counted_once false = omega arith

-- what was passed of the listing is said, and what is left is to come
pub record Saying (out₀ : List ℕ) (at : ℕ) (text out : List ℕ) (next line : ℕ) (passed : Bool) (i : ℕ) : Type 0 where
  pub done : List ℕ
  pub put : Put out₀ at done next out
  pub whole : standing text ≡ done ++ standing_from line passed (drop i text)
  pub used : ℕ
  pub few : next ≤ at + 55 * used
  pub most : used ≤ 1024
  pub one_each : used ≤ line + counted passed
  pub lines : line ≤ i

pub begins : (out : List ℕ) (at : ℕ) (text : List ℕ) → Saying out at text out at 0 false 0
begins out at text = record {
  done = [];
  put = put_nothing out at;
  whole = refl;
  used = 0;
  few = omega arith;
  most = omega arith;
  one_each = omega arith;
  lines = omega arith;
}

module _ {out₀ : List ℕ} {at : ℕ} {text out : List ℕ} {next line : ℕ} {passed : Bool} {i : ℕ} (g : Saying out₀ at text out next line passed i) where
  -- room for one more, where the line's `@` is not behind
  pub room : passed ≡ false → line < 1024 → next + 55 ≤ at + 56320
  room q h = omega (arith, g.few, rw q at g.one_each, h)

  module _ (h : i < length text) where
    byte : {b : ℕ} → get_or text i 0 ≡ b → standing text ≡ g.done ++ standing_from line passed (b ∷ drop (i + 1) text)
    byte q = g.whole ∙ ap (λ l. g.done ++ standing_from line passed l) (here text i h ∙ ap (λ (c : ℕ). c ∷ drop (i + 1) text) q)

    -- the `@` of a line, where another was passed in it or not
    at_sign : {p : Bool} → get_or text i 0 ≡ 64 → passed ≡ p → standing text ≡ g.done ++ standing_from line p (64 ∷ drop (i + 1) text)
    at_sign q f = byte q ∙ ap (λ p. g.done ++ standing_from line p (64 ∷ drop (i + 1) text)) f

    says_first : get_or text i 0 ≡ 64 → passed ≡ false
        → standing text ≡ g.done ++ (told line (decimal most_origins (drop (i + 1) text)) ++ standing_from line true (drop (i + 1) text))
    says_first q f = at_sign q f ∙ ap (λ l. g.done ++ l) (at_first line (drop (i + 1) text))

    pub next_line_lem : get_or text i 0 ≡ 10 → Saying out₀ at text out next (line + 1) false (i + 1)
    next_line_lem q = record {
      done = g.done;
      put = g.put;
      whole = byte q ∙ ap (λ l. g.done ++ l) (at_lf line passed (drop (i + 1) text)) ∙ rw (add-one line);
      used = g.used;
      few = g.few;
      most = g.most;
      one_each = omega (arith, g.one_each, counted_once passed);
      lines = omega (arith, g.lines);
    }

    pub goes_on : (get_or text i 0 ≡ 10 → ⊥) → (get_or text i 0 ≡ 64 → ⊥) → Saying out₀ at text out next line passed (i + 1)
    goes_on n o = record {
      done = g.done;
      put = g.put;
      whole = byte refl ∙ ap (λ l. g.done ++ l) (at_other line passed (get_or text i 0) (drop (i + 1) text) n o);
      used = g.used;
      few = g.few;
      most = g.most;
      one_each = g.one_each;
      lines = omega (arith, g.lines);
    }

    -- the first `@` of a line
    pub one_more_lem : {out' : List ℕ} {r : ℕ} → get_or text i 0 ≡ 64 → passed ≡ false → line < 1024
        → Put out next (told line (decimal most_origins (drop (i + 1) text))) r out' × (r ≤ next + 55) → Saying out₀ at text out' r line true (i + 1)
    one_more_lem q f l (p, w) = record {
      done = g.done ++ told line (decimal most_origins (drop (i + 1) text));
      put = put_then g.put p;
      whole = says_first q f ∙ sym (append_assoc g.done (told line (decimal most_origins (drop (i + 1) text))) (standing_from line true (drop (i + 1) text)));
      used = g.used + 1;
      few = omega (arith, g.few, w);
      most = omega (arith, rw f at g.one_each, l);
      one_each = omega (arith, rw f at g.one_each);
      lines = omega (arith, g.lines);
    }

    -- another, and one of a line that is not among the first 1024
    pub passed_again : get_or text i 0 ≡ 64 → passed ≡ true → Saying out₀ at text out next line true (i + 1)
    passed_again q t = record {
      done = g.done;
      put = g.put;
      whole = at_sign q t ∙ ap (λ l. g.done ++ l) (at_later line (drop (i + 1) text));
      used = g.used;
      few = g.few;
      most = g.most;
      one_each = rw t at g.one_each;
      lines = omega (arith, g.lines);
    }

    pub too_late : get_or text i 0 ≡ 64 → passed ≡ false → 1024 ≤ line → Saying out₀ at text out next line true (i + 1)
    too_late q f l = record {
      done = g.done;
      put = g.put;
      whole = says_first q f ∙ rw (told_late line (decimal most_origins (drop (i + 1) text)) l);
      used = g.used;
      few = g.few;
      most = g.most;
      one_each = omega (arith, g.most, l);
      lines = omega (arith, g.lines);
    }

  pub ends : length text ≤ i → Put out₀ at (standing text) next out × (next ≤ at + 56320)
  ends h =
      let w : standing text ≡ g.done = g.whole ∙ rw (drop_of_length-le text {i = i} h, at_end_lem line passed, append-nil) in
      (subst (λ l. Put out₀ at l next out) (sym w) g.put, omega (arith, g.few, g.most))
