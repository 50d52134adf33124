-- The steps of a tape shown one after another: what each turn of the loop needs, over plain lists and numbers. Assumes nothing.
use mathlib.Core.Path.{◌≡◌, sym, ap, ◌∙◌}
use mathlib.Core.List.{List, [], ◌∷◌, ◌++◌, append_assoc, append-nil, map}
use Prim.Native.Nat.{ℕ, ◌+◌, ◌*◌, ◌-◌, ◌≤◌, ◌<◌}
use native.Mathlib.Numerals.{add-one}
use native.Mathlib.Omega.{arith}
use lib.ListN.{length, drop}
use Rattle.text.specs.Put.{Put}
use Rattle.text.proofs.Putting.{put_none, put_then, put_length}
use Rattle.console.proofs.Lines.{Line, put_counts}
use Rattle.steps.specs.declared.Step.{Step}
use Rattle.steps.specs.declared.Fields.{Fields}
use Rattle.steps.specs.Steps.{fields_in, step_of}
use Rattle.tape.specs.Tapes.{fields_of_all, count, steps_in}
use Rattle.tape.proofs.Checking.{remaining, none_left, all_left}
use Rattle.shown.specs.Showing.{step_line, shown_from, shown}

-- the steps from step i on
abbrev left : (tape : List ℕ) (i : ℕ) → List Step
left tape i = map step_of (fields_of_all (count tape - i) (drop (24 * i) tape))

line_by_line : (k : ℕ) (s : Step) (ss : List Step) → shown_from k (s ∷ ss) ≡ step_line k s ++ shown_from (k + 1) ss
unfolding shown_from
line_by_line k s ss = rw (add-one k)

pub record Showing (entry tape out : List ℕ) (at i : ℕ) : Type 0 where
  pub inside : i ≤ count tape
  pub stands : List ℕ
  pub whole : stands ++ shown_from i (left tape i) ≡ shown (steps_in tape)
  pub put : Put entry 0 stands at out
  pub few : at ≤ 70 * i

pub begins : (entry tape : List ℕ) → Showing entry tape entry 0 0
begins entry tape = record {
  inside = omega arith;
  stands = [];
  whole = ap (λ fs. shown_from 0 (map step_of fs)) (all_left (count tape) tape);
  put = put_none entry 0;
  few = omega arith;
}

module _ {entry tape out : List ℕ} {at i : ℕ} (g : Showing entry tape out at i) where
  pub room : i < count tape → 3 * length tape ≤ length entry → at + 70 ≤ length out
  room l h = omega (arith, g.few, put_length g.put)

  pub goes_on : {f : Fields} {s : Step} {r : ℕ} {exit : List ℕ} → i < count tape → f ≡ fields_in (drop (24 * i) tape) → s ≡ step_of f
      → Put out at (step_line i s) r exit × (r ≤ at + 70) → Showing entry tape exit r (i + 1)
  goes_on {f} {s} l p q (o, w) = record {
    inside = omega arith;
    stands = g.stands ++ step_line i s;
    whole =
        rw (append_assoc g.stands (step_line i s) (shown_from (i + 1) (left tape (i + 1))), q, p, ← line_by_line i (step_of (fields_in (drop (24 * i) tape))) (left tape (i + 1)))
        (ap (λ fs. g.stands ++ shown_from i (map step_of fs)) (sym (remaining (count tape) i tape l)) ∙ g.whole);
    put = put_then g.put o;
    few = omega (arith, g.few, w);
  }

  pub ends : count tape ≤ i → 3 * length tape ≤ length entry → Line entry (shown (steps_in tape)) at out
  unfolding shown_from
  ends l h =
      let s = ap (λ fs. g.stands ++ shown_from i (map step_of fs)) (sym (none_left (count tape) i tape l)) ∙ g.whole in
      let p : Put entry 0 (shown (steps_in tape)) at out = rw (← s, append-nil g.stands) g.put in
      (p, put_counts p (omega (arith, g.few, g.inside, p.place)))
