-- From words and results to what is printed and said. Assumes nothing.
use mathlib.Core.Path.{◌≡◌, refl, sym, ap, subst, ◌∙◌}
use mathlib.Core.List.{List, []}
use mathlib.Core.Bool.{Bool}
use Prim.Native.Nat.{ℕ}
use native.Mathlib.Omega.{arith}
use Rattle.console.proofs.Lines.{Line, stands}
use Rattle.commands.specs.declared.Printed.{Printed}
use Rattle.outcomes.specs.declared.Outcome.{Outcome}
use Rattle.commands.specs.declared.words.Asked.{Asked}
use Rattle.commands.specs.declared.words.Command.{Command}
use Rattle.commands.specs.Words.{request, shows, traces}
use Rattle.commands.specs.Asking as Asking
use Rattle.commands.specs.Help as Help
use Rattle.commands.specs.Results.{result_for, marks}
use Rattle.outcomes.specs.Outcomes.{output_with, said_with}
use Rattle.commands.specs.Printing.{output_of, Answers}
use Rattle.commands.specs.Printing as Printing
use Rattle.outcomes.specs.Coming.{seen, Stands}
use Rattle.commands.specs.Coming.{ComesMarked, PrintsJob}

-- ---- a job

module _ (command : Command) (input out : List ℕ) {outcome : Outcome} {mid marks' : List ℕ} (c : ComesMarked (result_for command input out) (marks command input out) outcome mid marks') where
  pub prints_job : {shown traced : Bool} {out' said' : List ℕ} {n m : ℕ} → shown ≡ shows command → traced ≡ traces command
      → Stands (output_with shown marks' (seen mid outcome)) n out' → Stands (said_with traced marks' (seen mid outcome)) m said'
      → PrintsJob command input out (record { out = n; said = m }) out' said'
  prints_job e o p l = record {
    prints = p.are ∙ (λ i. output_with (e i) (c.marked i) (c.comes.answer i));
    says = l.are ∙ (λ i. said_with (o i) (c.marked i) (c.comes.answer i));
    printed_within = p.within;
    said_within = l.within;
  }

-- ---- the words

module _ {words : List ℕ} {asked : Asked} (q : Asking.seen words asked ≡ request words) (input out : List ℕ) where
  pub answers_job : {command : Command} {at : ℕ} {r : Printed} {out' said' : List ℕ} → asked ≡ Asked.Job command at → PrintsJob command input out r out' said'
      → Answers words input out r out' said'
  unfolding output_of Printing.said_of
  answers_job {command} {at} e p =
      let z = ap (Asking.seen words) (sym e) ∙ q in
      record {
        prints = p.prints ∙ ap (λ k. output_of k input out) z;
        says = p.says ∙ ap (λ k. Printing.said_of k words input out) z;
        printed_within = p.printed_within;
        said_within = p.said_within;
      }

  -- what is printed where nothing is said
  pub answers_out : (a : Asked) {n : ℕ} {out' said : List ℕ} → asked ≡ a → Line out (output_of (Asking.seen words a) input out) n out'
      → [] ≡ Printing.said_of (Asking.seen words a) words input out → Answers words input out (record { out = n; said = 0 }) out' said
  answers_out a e l o =
      let z = ap (Asking.seen words) (sym e) ∙ q in
      record {
        prints = stands l ∙ ap (λ k. output_of k input out) z;
        says = o ∙ ap (λ k. Printing.said_of k words input out) z;
        printed_within = l.1;
        said_within = (omega arith, refl);
      }

  -- and what is said where nothing is printed
  pub answers_said : (a : Asked) {n : ℕ} {said said' : List ℕ} → asked ≡ a → Line said (Printing.said_of (Asking.seen words a) words input out) n said'
      → [] ≡ output_of (Asking.seen words a) input out → Answers words input out (record { out = 0; said = n }) out said'
  answers_said a e l o =
      let z = ap (Asking.seen words) (sym e) ∙ q in
      record {
        prints = o ∙ ap (λ k. output_of k input out) z;
        says = stands l ∙ ap (λ k. Printing.said_of k words input out) z;
        printed_within = (omega arith, refl);
        said_within = l.1;
      }

-- the word that is named
pub names_word : {word word' said said' : List ℕ} {n : ℕ} → word ≡ word' → Line said (Help.unknown word) n said' → Line said (Help.unknown word') n said'
names_word {said = said} {said'} {n} e l = subst (λ w. Line said (Help.unknown w) n said') e l
