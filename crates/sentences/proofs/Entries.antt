-- Which line of the table a refusal has. Assumes nothing.
use mathlib.Core.Path.{◌≡◌, sym, ap, ◌∙◌}
use Prim.Native.Nat.{ℕ}
use denote.Enum.Declared.{tag_of}
use types.Run.{OneOf}
use Rattle.complex.specs.declared.Complex.{Complex}
use Rattle.expression.specs.declared.refusal.Operation.{Operation}
use Rattle.expression.specs.declared.refusal.Refusal.{Refusal}
use Rattle.expression.specs.contracts.refusal.Refusal.{the_type}
use Rattle.expression.proofs.Carrying.{others, is_placed}
use Rattle.expression.specs.Refusals.{number_of, place_of, carries, place}
use Rattle.faults.specs.declared.Fault.{Fault}
use Rattle.lacks.specs.declared.Missing.{Missing}
use Rattle.std.specs.Prelude.{Option}
use Rattle.sentences.specs.declared.Detail.{Detail}
use Rattle.sentences.specs.declared.Entry.{Entry}
use Rattle.sentences.specs.Sentences.{from_one}
use Rattle.sentences.specs.Table.{of, need_line, placed_line, plain_line, fault_line, missing_entry, entry}

pub by_place : (why : Refusal) {r n p : ℕ} → OneOf others (tag_of the_type why) → r ≡ placed_line n p → n ≡ number_of why → p ≡ place_of why
    → r ≡ plain_line (number_of why) (carries why)
by_place why k e n p = e ∙ (λ i. plain_line (n i) (place (p i))) ∙ ap (plain_line (number_of why)) (sym (is_placed why k))

pub by_operation : {why : Refusal} {operation : Operation} {x y : Complex} {l : ℕ} → why ≡ Refusal.Need operation x y → l ≡ need_line operation
    → l ≡ plain_line (number_of why) (carries why)
by_operation told e = e ∙ ap (λ w. plain_line (number_of w) (carries w)) (sym told)

-- ---- by what is known besides

module _ (why : Refusal) {detail : Detail} where
  pub entry_plain : {l p f : ℕ} → detail ≡ Detail.Plain → l ≡ plain_line (number_of why) (carries why) → p ≡ place_of why → f ≡ from_one p → of l f 0 ≡ entry why detail
  entry_plain told e q o = (λ i. of (e i) ((o ∙ ap from_one q) i) 0) ∙ ap (entry why) (sym told)

  pub entry_fault : {fault : Fault} {n l p f : ℕ} → detail ≡ Detail.Fault fault → n ≡ number_of why → l ≡ fault_line n fault → p ≡ place_of why → f ≡ from_one p
      → of l f 0 ≡ entry why detail
  entry_fault {fault} told n e q o = (λ i. of ((e ∙ ap (λ k. fault_line k fault) n) i) ((o ∙ ap from_one q) i) 0) ∙ ap (entry why) (sym told)

  pub entry_missing : {missing : Option Missing} {r : Entry} → detail ≡ Detail.Missing missing → r ≡ missing_entry missing → r ≡ entry why detail
  entry_missing told e = e ∙ ap (entry why) (sym told)

  pub entry_sheet : {p f : ℕ} → detail ≡ Detail.Sheet → p ≡ place_of why → f ≡ from_one p → of 46 f 0 ≡ entry why detail
  entry_sheet told q o = ap (λ k. of 46 k 0) (o ∙ ap from_one q) ∙ ap (entry why) (sym told)
