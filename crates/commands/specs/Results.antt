-- What each command makes of its texts, by the definitions of the public calls: the bytes that are printed, or why there are none. Definitions only.
use Rattle.std.specs.Prelude.{ℕ, Option, List, [], Bool, cond, ◌&&◌, eqb, ltb, length, get_or, take, replicate, Result, Ok, Err, Float}
use Rattle.complex.specs.declared.Complex.{Complex}
use Rattle.memory.specs.Marks.{no_marks}
use Rattle.text.specs.Letters.{bytes}
use Rattle.text.specs.Reading.{lf}
use Rattle.expression.specs.declared.refusal.Refusal.{Refusal}
use Rattle.expression.specs.Refusals.{number_of, place_of}
use Rattle.tape.specs.Tapes as Tapes
use Rattle.calls.specs.declared.Simplified.{Simplified}
use Rattle.calls.specs.Marks.{evaluate_marks, simplify_marks, play_marks}
use Rattle.calls.specs.Origins.{substitute_origins, simplify_origins, simplify_origins_marks}
use Rattle.calls.specs.Calls.{evaluate_call, substitute_call, to_real_call, simplify_call, compile_call, play_call}
use Rattle.console.specs.Answers.{value_line, real_line}
use Rattle.console.specs.TapeText.{in_lines, tape_in}
use Rattle.console.specs.Parting.{listing_in, sheet_in}
use Rattle.shown.specs.Showing.{shown}
use Rattle.faults.specs.Faulting.{from_line, listing_fault, sheet_fault}
use Rattle.lacks.specs.declared.Missing.{Missing}
use Rattle.lacks.specs.Lacking.{missing_in_job, missing_on_tape}
use Rattle.sentences.specs.declared.Detail.{Detail}
use Rattle.outcomes.specs.Outcomes as Outcomes
use Rattle.outcomes.specs.Outcomes.{printed, with_calls, refused, too_long}
use Rattle.commands.specs.declared.words.Command.{Command}
use Rattle.commands.specs.declared.words.Parted.{Parted}
use Rattle.commands.specs.declared.words.Whole.{Whole}

-- ---- what is known of a refusal besides

-- of 1 and 3 the fault of the line
unfoldable pub fault_of : (list values : List ℕ) → Refusal → Detail
fault_of list values why =
    cond (eqb (number_of why) 1) (Detail.Fault (listing_fault list (place_of why)))
    (cond (eqb (number_of why) 3) (Detail.Fault (sheet_fault values (place_of why)))
    Detail.Plain)

-- where a listing stands alone, an empty line in it begins a sheet that is not taken
unfoldable pub empty_at : (list : List ℕ) → Refusal → Bool
empty_at list why = eqb (number_of why) 1 && eqb (get_or (from_line (place_of why) list) 0 0) lf

unfoldable pub alone_of : (list : List ℕ) → Refusal → Detail
alone_of list why = cond (empty_at list why) Detail.Sheet (fault_of list [] why)

-- of 10 what the sheet does not bind
unfoldable pub lack_of : Option Missing → (list values : List ℕ) → Refusal → Detail
lack_of missing list values why = cond (eqb (number_of why) 10) (Detail.Missing missing) (fault_of list values why)

-- ---- the commands on listings, with room for so many nodes

unfoldable pub of_evaluated : Option Missing → (list values : List ℕ) → Result Complex Refusal → Outcomes.Result
of_evaluated missing list values (Ok z) = printed (value_line z)
of_evaluated missing list values (Err why) = refused why (lack_of missing list values why)

abbrev pub evaluated : (room : ℕ) (list values : List ℕ) → Outcomes.Result
evaluated room list values = of_evaluated (missing_in_job room list values) list values (evaluate_call room list values)

unfoldable pub of_simplified : (list values : List ℕ) → Result Simplified Refusal → (out : List ℕ) → Outcomes.Result
of_simplified list values (Ok a) out = with_calls (take a.bytes out) a.calls
of_simplified list values (Err why) out = refused why (fault_of list values why)

abbrev pub simplified : (room limit : ℕ) (list values out : List ℕ) → Outcomes.Result
simplified room limit list values out =
    of_simplified list values (simplify_call room limit list values out).0 (simplify_call room limit list values out).1

-- the same with origins in the listing
abbrev pub simplified_origins : (room limit : ℕ) (list values out : List ℕ) → Outcomes.Result
simplified_origins room limit list values out =
    of_simplified list values (simplify_origins room limit list values out).0 (simplify_origins room limit list values out).1

abbrev pub simplified_with : (traced : Bool) (room limit : ℕ) (list values out : List ℕ) → Outcomes.Result
simplified_with traced room limit list values out = cond traced (simplified_origins room limit list values out) (simplified room limit list values out)

-- simplify at limit 10, then evaluate the result under the same sheet
unfoldable pub played_of : (room : ℕ) (list values : List ℕ) → Result Simplified Refusal → (out : List ℕ) → Outcomes.Result
played_of room list values (Ok a) out = evaluated room (take a.bytes out) values
played_of room list values (Err why) out = refused why (fault_of list values why)

abbrev pub played : (room : ℕ) (list values out : List ℕ) → Outcomes.Result
played room list values out = played_of room list values (simplify_call room 10 list values out).0 (simplify_call room 10 list values out).1

unfoldable pub of_written : (list : List ℕ) → Result ℕ Refusal → (out : List ℕ) → Outcomes.Result
of_written list (Ok bytes) out = printed (take bytes out)
of_written list (Err why) out = refused why (alone_of list why)

abbrev pub substituted : (room : ℕ) (list out : List ℕ) → Outcomes.Result
substituted room list out = of_written list (substitute_call room list out).0 (substitute_call room list out).1

-- the same with origins in the listing
abbrev pub substituted_origins : (room : ℕ) (list out : List ℕ) → Outcomes.Result
substituted_origins room list out = of_written list (substitute_origins room list out).0 (substitute_origins room list out).1

abbrev pub substituted_with : (traced : Bool) (room : ℕ) (list out : List ℕ) → Outcomes.Result
substituted_with traced room list out = cond traced (substituted_origins room list out) (substituted room list out)

unfoldable pub of_real : (list : List ℕ) → Result Float Refusal → Outcomes.Result
of_real list (Ok x) = printed (real_line x)
of_real list (Err why) = refused why (alone_of list why)

abbrev pub real : (room : ℕ) (list : List ℕ) → Outcomes.Result
real room list = of_real list (to_real_call room list)

-- ---- the commands on tapes

-- a tape as text
unfoldable pub of_tape : (list : List ℕ) → Result ℕ Refusal → (tape : List ℕ) → Outcomes.Result
of_tape list (Ok bytes) tape = printed (in_lines 0 (take bytes tape))
of_tape list (Err why) tape = refused why (alone_of list why)

-- as many bytes as the longest tape has
abbrev pub empty_tape : List ℕ
empty_tape = replicate 12288 0

abbrev pub compiled : (room : ℕ) (list : List ℕ) → Outcomes.Result
compiled room list = of_tape list (compile_call room list empty_tape).0 (compile_call room list empty_tape).1

abbrev pub playing_tape : (tape text values : List ℕ) → Outcomes.Result
playing_tape tape text values = of_evaluated (missing_on_tape tape values) text values (play_call tape values)

abbrev pub playing : (text values : List ℕ) → Outcomes.Result
playing text values = playing_tape (tape_in text) text values

-- whether a tape is sound
unfoldable pub of_checked : (sound : List ℕ) → Result (Unit {0}) Refusal → Outcomes.Result
of_checked sound (Ok u) = printed sound
of_checked sound (Err why) = refused why Detail.Plain

abbrev pub checked : (text : List ℕ) → Outcomes.Result
checked text = of_checked (bytes "sound\n") (Tapes.check (tape_in text))

-- the steps of a sound tape in words
abbrev pub shown_tape : (tape : List ℕ) → Outcomes.Result
shown_tape tape = of_checked (shown (Tapes.steps_in tape)) (Tapes.check tape)

abbrev pub shown_text : (text : List ℕ) → Outcomes.Result
shown_text text = shown_tape (tape_in text)

-- ---- a command and its input

-- the commands whose input is one text
unfoldable pub whole : (room : ℕ) → Whole → (text out : List ℕ) → Outcomes.Result
whole room (Whole.Substitute traced) text out = substituted_with traced room text out
whole room Whole.Real text out = real room text
whole room Whole.Compile text out = compiled room text
whole room Whole.Show text out = shown_text text
whole room Whole.Check text out = checked text

-- those whose input parts
unfoldable pub parted : (room : ℕ) → Parted → (list values out : List ℕ) → Outcomes.Result
parted room (Parted.Evaluate shown) list values out = evaluated room list values
parted room (Parted.Simplify limit shown traced) list values out = simplified_with traced room limit list values out
parted room Parted.Played list values out = played room list values out
parted room (Parted.Play shown) list values out = playing list values

unfoldable pub result_in : (room : ℕ) → Command → (input out : List ℕ) → Outcomes.Result
result_in room (Command.Whole command) input out = whole room command input out
result_in room (Command.Parted command) input out = parted room command (listing_in input) (sheet_in input) out

-- with a store of 4096; an input may have 262,144 bytes
unfoldable pub result_for : Command → (input out : List ℕ) → Outcomes.Result
result_for command input out = cond (ltb 262144 (length input)) too_long (result_in 4096 command input out)

-- ---- the t rows that it used, as marks; commands that do not say them have none

abbrev pub marks_with : (traced : Bool) (room limit : ℕ) (list values out : List ℕ) → List ℕ
marks_with traced room limit list values out = cond traced (simplify_origins_marks room limit list values out) (simplify_marks room limit list values out)

unfoldable pub parted_marks : (room : ℕ) → Parted → (list values out : List ℕ) → List ℕ
parted_marks room (Parted.Evaluate shown) list values out = evaluate_marks room list values
parted_marks room (Parted.Simplify limit shown traced) list values out = marks_with traced room limit list values out
parted_marks room Parted.Played list values out = no_marks
parted_marks room (Parted.Play shown) list values out = play_marks (tape_in list) values

unfoldable pub marks_in : (room : ℕ) → Command → (input out : List ℕ) → List ℕ
marks_in room (Command.Whole command) input out = no_marks
marks_in room (Command.Parted command) input out = parted_marks room command (listing_in input) (sheet_in input) out

unfoldable pub marks : Command → (input out : List ℕ) → List ℕ
marks command input out = cond (ltb 262144 (length input)) no_marks (marks_in 4096 command input out)
