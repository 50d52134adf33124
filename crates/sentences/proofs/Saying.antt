-- What the lines of the table say are the sentences. Assumes nothing.
use mathlib.Core.Path.{◌≡◌, refl, ap, subst, ◌∙◌}
use mathlib.Core.List.{List}
use mathlib.Core.Bool.{Bool, true, false, cond}
use Prim.Native.Nat.{ℕ, zero, suc, ◌+◌}
use lib.Dec.{eqb}
use lib.ListN.{drop}
use Rattle.expression.specs.declared.refusal.Operation.{Operation}
use Rattle.expression.specs.declared.refusal.Refusal.{Refusal}
use Rattle.expression.specs.Refusals.{number_of, place_of}
use Rattle.faults.specs.declared.Fault.{Fault}
use Rattle.faults.specs.Faulting.{after_line, from_line}
use Rattle.lacks.specs.declared.Missing.{Missing}
use Rattle.std.specs.Prelude.{Option, Some, None}
use Rattle.console.proofs.Lines.{Line}
use Rattle.sentences.specs.declared.Detail.{Detail}
use Rattle.sentences.specs.declared.Entry.{Entry}
use Rattle.sentences.specs.Sentences.{from_one, need_sentence, long_sentence, tape_sentence, plain_sentence, listing_sentence, sheet_sentence, missing_sentence, sentence, too_long_sentence, calls_words, calls_sentence}
use Rattle.sentences.specs.Table.{table, filled, of, need_line, fault_code, missing_entry, entry, calls_entry, says}

says_need : (o : Operation) (first : ℕ) → says (of (need_line o) first 0) ≡ need_sentence o
unfolding filled from_line after_line need_sentence
says_need Operation.Sine first = refl
says_need Operation.Cosine first = refl
says_need Operation.Exponent first = refl
says_need Operation.SquareRoot first = refl
says_need Operation.Power first = refl

says_plain : (why : Refusal) → says (entry why Detail.Plain) ≡ plain_sentence why
unfolding filled from_line after_line plain_sentence long_sentence tape_sentence
says_plain (Refusal.BadList zero) = refl
says_plain (Refusal.BadList (suc line)) = refl
says_plain (Refusal.LongList zero) = refl
says_plain (Refusal.LongList (suc line)) = refl
says_plain (Refusal.BadSheet zero) = refl
says_plain (Refusal.BadSheet (suc line)) = refl
says_plain (Refusal.LongSheet zero) = refl
says_plain (Refusal.LongSheet (suc line)) = refl
says_plain Refusal.BadLimit = refl
says_plain Refusal.Big = refl
says_plain Refusal.Deep = refl
says_plain Refusal.Room = refl
says_plain (Refusal.Need operation x y) = says_need operation (from_one 0)
says_plain Refusal.Incomplete = refl
says_plain Refusal.NotReal = refl
says_plain Refusal.NotANumber = refl
says_plain Refusal.OutRoom = refl
says_plain Refusal.LongTape = refl
says_plain (Refusal.BadTape zero) = refl
says_plain (Refusal.BadTape (suc step)) = refl
says_plain (Refusal.BadNames zero) = refl
says_plain (Refusal.BadNames (suc line)) = refl
says_plain (Refusal.UnknownName zero) = refl
says_plain (Refusal.UnknownName (suc line)) = refl
says_plain Refusal.BadBook = refl
says_plain (Refusal.Many zero) = refl
says_plain (Refusal.Many (suc listing)) = refl
says_plain Refusal.NoText = refl

says_listing : (place : ℕ) (fault : Fault) → says (of (21 + fault_code fault) (from_one place) 0) ≡ listing_sentence place fault
unfolding filled from_line after_line listing_sentence
says_listing place Fault.WrongByte = refl
says_listing place Fault.FieldMissing = refl
says_listing place Fault.HexCase = refl
says_listing place Fault.CarriageReturn = refl
says_listing place Fault.Order = refl
says_listing place Fault.NoLineFeed = refl
says_listing place Fault.NoLine = refl

says_sheet : (place : ℕ) (fault : Fault) → says (of (28 + fault_code fault) (from_one place) 0) ≡ sheet_sentence place fault
unfolding filled from_line after_line sheet_sentence
says_sheet place Fault.WrongByte = refl
says_sheet place Fault.FieldMissing = refl
says_sheet place Fault.HexCase = refl
says_sheet place Fault.CarriageReturn = refl
says_sheet place Fault.Order = refl
says_sheet place Fault.NoLineFeed = refl
says_sheet place Fault.NoLine = refl

says_fault : (listing : Bool) (place : ℕ) (fault : Fault)
    → says (of (cond listing 21 28 + fault_code fault) (from_one place) 0) ≡ cond listing (listing_sentence place fault) (sheet_sentence place fault)
says_fault true place fault = says_listing place fault
says_fault false place fault = says_sheet place fault

says_missing : (missing : Option Missing) → says (missing_entry missing) ≡ missing_sentence missing
unfolding filled from_line after_line missing_sentence
says_missing None = refl
says_missing (Some (Missing.Variable v)) = refl
says_missing (Some (Missing.Cell region index)) = refl

says_no_sheet : (why : Refusal) → says (entry why Detail.Sheet) ≡ sentence why Detail.Sheet
unfolding filled from_line after_line sentence
says_no_sheet why = refl

pub says_all : (why : Refusal) (detail : Detail) → says (entry why detail) ≡ sentence why detail
unfolding sentence
says_all why Detail.Plain = says_plain why
says_all why (Detail.Fault fault) = says_fault (eqb (number_of why) 1) (place_of why) fault
says_all why (Detail.Missing missing) = says_missing missing
says_all why Detail.Sheet = says_no_sheet why

calls_by : (one : Bool) (calls : ℕ) → says (of (cond one 45 44) calls 0) ≡ calls_words one calls
unfolding filled from_line after_line
calls_by true calls = refl
calls_by false calls = refl

pub says_calls : (calls : ℕ) → says (calls_entry calls) ≡ calls_sentence calls
unfolding calls_sentence
says_calls calls = calls_by (eqb calls 1) calls

pub says_too_long : says (of 0 0 0) ≡ too_long_sentence
unfolding filled from_line after_line
says_too_long = refl

-- ---- what is written is what is said

pub written : {out out' : List ℕ} (from : ℕ) {r : ℕ} (e : Entry) → drop from table ≡ from_line e.line table → Line out (filled e.first e.second (drop from table)) r out'
    → Line out (says e) r out'
written {out} {out'} from {r} e q l = subst (λ t. Line out (filled e.first e.second t) r out') q l

pub told : {out out' : List ℕ} {r : ℕ} {e : Entry} (e' : Entry) {bytes : List ℕ} → e ≡ e' → says e' ≡ bytes → Line out (says e) r out' → Line out bytes r out'
told {out} {out'} {r} e' a b l = subst (λ t. Line out t r out') (ap says a ∙ b) l
