-- From what the calls answer to what is printed. Assumes nothing.
use mathlib.Core.Path.{◌≡◌, sym, ap, ◌∙◌}
use Prim.Native.Nat.{ℕ, ◌-◌, ◌≤◌, ◌<◌, min}
use mathlib.Core.List.{List}
use lib.ListN.{length, take, drop}
use borrow.Author.Tests.{lt-ltb, le-ltb}
use Rattle.std.specs.Prelude.{Result, Ok, Err}
use Rattle.io.specs.Counts.{IsPrefixLen}
use Rattle.calls.specs.declared.Simplified.{Simplified}
use Rattle.calls.specs.Calls.{simplify_call}
use Rattle.calls.specs.Lent.{Work, capacity}
use Rattle.calls.specs.Promises.{Simplifies}
use Rattle.expression.specs.declared.refusal.Refusal.{Refusal}
use Rattle.console.specs.Parting.{Parted}
use Rattle.console.specs.Answers.{refused_line, refusal_line}
use Rattle.console.proofs.Parts.{one_place, rest, least_of}
use Rattle.console.proofs.Lines.{Line, stands}
use Rattle.reduce.specs.Reducing.{simplified_text, printed, reduction, SimplifiesText, Reduces}

-- ---- the texts

pub simplifies : {text values out out' : List ℕ} {m : ℕ} {w w' : Work} {r : Result Simplified Refusal} → Parted text m
    → values ≡ drop 1 (take (length text - m) (drop m text)) → Simplifies 10 (take m text) values out w r out' w' → SimplifiesText text w out r out'
simplifies {text} {values} {out} {out'} {m} {w} p q s = record {
  answer = λ n o.
      ap (λ x. x.0) s ∙ ap (λ v. simplify_call (capacity w) 10 (take m text) v out) (q ∙ ap (drop 1) (rest text m))
      ∙ ap (simplified_text (capacity w) text out) (one_place p o);
}

-- ---- what is printed

pub too_long_lem : {text out out' : List ℕ} {capacity' r : ℕ} → 65536 < length text → Line out (refused_line 0 0) r out'
    → Reduces capacity' text out r out' × IsPrefixLen r out'
unfolding reduction
too_long_lem {text} {out} h p = (record { bytes = λ n o. rw (lt-ltb 65536 (length text) h) (stands p) }, p.1)

module _ {text out mid : List ℕ} {w : Work} {a : Result Simplified Refusal} (h : length text ≤ 65536) (s : SimplifiesText text w out a mid) where
  reduced : (n : ℕ) → Parted text n → printed a mid ≡ reduction (capacity w) text out n
  unfolding reduction
  reduced n o = rw (le-ltb 65536 (length text) h) (ap (λ x. printed x.0 x.1) (s.answer n o))

  pub prints_listing : {made : Simplified} {r : ℕ} → a ≡ Ok made → IsPrefixLen r mid → r ≡ min made.bytes (length mid)
      → Reduces (capacity w) text out r mid × IsPrefixLen r mid
  unfolding printed
  prints_listing {made} e k q = (record { bytes = λ n o. rw q (least_of made.bytes mid) ∙ ap (λ x. printed x mid) (sym e) ∙ reduced n o }, k)

  pub prints_refusal : {why : Refusal} {r : ℕ} {out' : List ℕ} → a ≡ Err why → Line mid (refusal_line why) r out'
      → Reduces (capacity w) text out r out' × IsPrefixLen r out'
  unfolding printed
  prints_refusal e p = (record { bytes = λ n o. stands p ∙ ap (λ x. printed x mid) (sym e) ∙ reduced n o }, p.1)
