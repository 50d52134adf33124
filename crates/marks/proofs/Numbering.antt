-- How the numbers of the marked rows are written, mark by mark, over plain lists and numbers. Assumes nothing.
use mathlib.Core.Path.{◌≡◌, refl, sym, ap, subst, ◌∙◌}
use mathlib.Core.List.{List, [], ◌∷◌, ◌++◌, append_assoc, append-nil}
use mathlib.Core.Bool.{Bool, true, false, cond, ◌&&◌}
use Prim.Native.Nat.{ℕ, suc, ◌+◌, ◌*◌, ◌≤◌, ◌<◌}
use native.Mathlib.Numerals.{add-one}
use native.Mathlib.Omega.{arith}
use lib.Dec.{eqb}
use Rattle.std.specs.List.{list_all}
use lib.ListN.{length, drop, get_or, drop_of_length-le}
use borrow.Author.Tests.{eq-eqb, ne_eqb}
use Rattle.text.specs.Lines.{none}
use Rattle.text.specs.Writing.{in_decimal}
use Rattle.text.specs.Put.{Put}
use Rattle.text.proofs.Putting.{put_then, few_digits}
use Rattle.text.proofs.Running.{here}
use Rattle.marks.specs.Marking.{marked_from, marked, each}

-- ---- one mark

abbrev of_mark : (separator number mark : ℕ) → List ℕ
of_mark separator number mark = cond (eqb mark 0) [] (separator ∷ in_decimal number)

pub row_short : (n : ℕ) → n < 256 → length (in_decimal n) ≤ 3
row_short n h = few_digits 2 n (omega (arith, h))

-- what stands where the mark is 0, and where it is not
module _ {e : List ℕ} {at : ℕ} (separator number : ℕ) {mark : ℕ} where
  pub unmarked : mark ≡ 0 → Put e at (of_mark separator number mark) at e × (at ≤ at + 4)
  unmarked z = (rw (eq-eqb mark 0 z) (record { place = omega arith; stored = refl }), omega arith)

  module _ {m x : List ℕ} {p r : ℕ} (a : Put e at (separator ∷ []) p m) (b : Put m p (in_decimal number) r x) (h : number < 256) where
    pub marks_row : (mark ≡ 0 → ⊥) → Put e at (of_mark separator number mark) r x × (r ≤ at + 4)
    marks_row n = (rw (ne_eqb mark 0 n) (put_then a b), omega (arith, a.place, b.place, row_short number h))

-- ---- all of them

module _ (separator k m : ℕ) (ms : List ℕ) where
  first_mark : each separator (marked_from k (m ∷ ms)) ≡ of_mark separator k m ++ each separator (marked_from (k + 1) ms)
  unfolding marked_from each
  first_mark = rw (add-one k) (go (eqb m 0))
    where
      go : (b : Bool) → each separator (cond b (marked_from (suc k) ms) (k ∷ marked_from (suc k) ms)) ≡ cond b [] (separator ∷ in_decimal k) ++ each separator (marked_from (suc k) ms)
      go true = refl
      go false = refl

-- what was passed of the marks stands, and what is left is to come
pub record Numbering (out₀ : List ℕ) (at separator : ℕ) (marks out : List ℕ) (next k : ℕ) : Type 0 where
  pub done : List ℕ
  pub put : Put out₀ at done next out
  pub whole : each separator (marked marks) ≡ done ++ each separator (marked_from k (drop k marks))
  pub few : next ≤ at + 4 * k
  pub inside : k ≤ length marks

pub begins : (out : List ℕ) (at separator : ℕ) (marks : List ℕ) → Numbering out at separator marks out at 0
begins out at separator marks = record {
  done = [];
  put = record { place = omega arith; stored = refl };
  whole = refl;
  few = omega arith;
  inside = omega arith;
}

module _ {out₀ : List ℕ} {at separator : ℕ} {marks out : List ℕ} {next k : ℕ} (g : Numbering out₀ at separator marks out next k) where
  pub goes_on : k < length marks → {out' : List ℕ} {r : ℕ} → Put out next (of_mark separator k (get_or marks k 0)) r out' × (r ≤ next + 4)
      → Numbering out₀ at separator marks out' r (k + 1)
  goes_on h (p, w) = record {
    done = g.done ++ of_mark separator k (get_or marks k 0);
    put = put_then g.put p;
    whole =
        g.whole ∙ ap (λ l. g.done ++ each separator (marked_from k l)) (here marks k h)
        ∙ ap (λ l. g.done ++ l) (first_mark separator k (get_or marks k 0) (drop (k + 1) marks))
        ∙ sym (append_assoc g.done (of_mark separator k (get_or marks k 0)) (each separator (marked_from (k + 1) (drop (k + 1) marks))));
    few = omega (arith, g.few, w);
    inside = omega (arith, h);
  }

  pub ends : length marks ≤ k → length marks ≤ 256 → Put out₀ at (each separator (marked marks)) next out × (next ≤ at + 1024)
  unfolding marked_from each
  ends h o =
      let w : each separator (marked marks) ≡ g.done = g.whole ∙ rw (drop_of_length-le marks {i = k} h, append-nil) in
      (subst (λ l. Put out₀ at l next out) (sym w) g.put, omega (arith, g.few, g.inside, o))

-- ---- a line

pub line_put : {e m m' x head numbers : List ℕ} {at p q r : ℕ} → Put e at head p m → Put m p numbers q m' × (q ≤ p + 1024) → Put m' q (10 ∷ []) r x
    → length head ≤ 15 → Put e at (head ++ (numbers ++ (10 ∷ []))) r x × (r ≤ at + 1040)
line_put a (b, w) d h = (put_then a (put_then b d), omega (arith, a.place, w, d.place, h))

-- ---- whether any is marked

pub none_marked : (k : ℕ) (ms : List ℕ) → list_all (λ m. eqb m 0) ms ≡ none (marked_from k ms)
unfolding marked_from none
none_marked k [] = refl
none_marked k (m ∷ ms) = go (eqb m 0) (none_marked (suc k) ms)
  where
    go : (b : Bool) → list_all (λ m. eqb m 0) ms ≡ none (marked_from (suc k) ms) → b && list_all (λ m. eqb m 0) ms ≡ none (cond b (marked_from (suc k) ms) (k ∷ marked_from (suc k) ms))
    go true more = more
    go false more = refl

module _ {e : List ℕ} {at : ℕ} (marks : List ℕ) {b : Bool} (q : b ≡ none (marked marks)) where
  pub none_used : b ≡ true → (line : List ℕ) → Put e at (cond (none (marked marks)) [] line) at e × (at ≤ at + 1040)
  none_used t line = (subst (λ l. Put e at l at e) (ap (λ z. cond z [] line) (sym t ∙ q)) (record { place = omega arith; stored = refl }), omega arith)

  pub some_used : b ≡ false → {line x : List ℕ} {r : ℕ} → Put e at line r x × (r ≤ at + 1040) → Put e at (cond (none (marked marks)) [] line) r x × (r ≤ at + 1040)
  some_used f {line} {x} {r} (p, w) = (subst (λ l. Put e at l r x) (ap (λ z. cond z [] line) (sym f ∙ q)) p, w)
