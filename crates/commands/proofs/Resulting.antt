-- From what the calls answer to what a command comes to. Assumes nothing.
use mathlib.Core.Path.{◌≡◌, refl, sym, ap, subst, ◌∙◌}
use mathlib.Core.List.{List, []}
use mathlib.Core.Bool.{Bool, true, false, cond}
use Prim.Native.Nat.{ℕ, ◌-◌, ◌<◌, min}
use lib.Dec.{eqb}
use Rattle.std.specs.Prelude.{Option, Result, Ok, Err}
use native.Mathlib.Omega.{arith}
use lib.Ieee.{Float}
use lib.ListN.{length, get_or, take, drop, length-replicate}
use lib.Seq.{get_or-drop}
use borrow.Author.Tests.{eq-eqb, ne_eqb, lt-ltb}
use Rattle.io.specs.Counts.{IsPrefixLen}
use Rattle.complex.specs.declared.Complex.{Complex}
use Rattle.expression.specs.declared.refusal.Refusal.{Refusal}
use Rattle.expression.specs.Refusals.{number_of, place_of}
use Rattle.calls.specs.declared.Simplified.{Simplified}
use Rattle.calls.specs.Lent.{Work, capacity, zeroed}
use Rattle.memory.specs.Marks.{no_marks}
use Rattle.calls.specs.Calls.{substitute_call, to_real_call, simplify_call, compile_call}
use Rattle.calls.specs.Origins.{substitute_origins, simplify_origins}
use Rattle.console.specs.TapeText.{in_lines, tape_in}
use Rattle.console.specs.Answers.{value_line, real_line}
use Rattle.console.specs.Parting as Parting
use Rattle.console.specs.Parting.{sheet_in}
use Rattle.console.proofs.Parts.{parted_in, rest, least_of}
use Rattle.console.proofs.Lines.{Line, stands}
use Rattle.faults.specs.declared.Fault.{Fault}
use Rattle.faults.specs.Faulting.{from_line, listing_fault, sheet_fault}
use Rattle.lacks.specs.declared.Missing.{Missing}
use Rattle.lacks.specs.Lacking.{missing_in_job}
use Rattle.sentences.specs.declared.Detail.{Detail}
use Rattle.outcomes.specs.declared.Outcome.{Outcome}
use Rattle.commands.specs.declared.words.Command.{Command}
use Rattle.commands.specs.declared.words.Parted.{Parted}
use Rattle.commands.specs.declared.words.Whole.{Whole}
use Rattle.commands.specs.Results.{fault_of, empty_at, alone_of, lack_of, of_evaluated, evaluated, of_simplified, simplified_with, played_of, played, of_written, substituted_with, of_real, real, of_tape, empty_tape, compiled, of_checked, whole, parted, result_in, result_for, parted_marks, marks_in, marks}
use Rattle.commands.specs.Coming.{ComesMarked}
use Rattle.outcomes.specs.Outcomes as Outcomes
use Rattle.outcomes.specs.Outcomes.{printed, with_calls, refused}
use Rattle.outcomes.specs.Coming.{Comes}
use Rattle.commands.proofs.Choosing.{chosen, passed}

-- ---- what is known of a refusal besides

module _ (list values : List ℕ) (why : Refusal) {n : ℕ} (a : n ≡ number_of why) where
  pub of_1 : {p : ℕ} {f : Fault} → n ≡ 1 → p ≡ place_of why → f ≡ listing_fault list p → Detail.Fault f ≡ fault_of list values why
  unfolding fault_of
  of_1 e b q = ap Detail.Fault (q ∙ ap (listing_fault list) b) ∙ chosen refl (eq-eqb _ _ (sym a ∙ e)) _ _

  pub of_3 : {p : ℕ} {f : Fault} → (n ≡ 1 → ⊥) → n ≡ 3 → p ≡ place_of why → f ≡ sheet_fault values p → Detail.Fault f ≡ fault_of list values why
  unfolding fault_of
  of_3 o e b q =
      passed refl (ne_eqb _ _ (λ z. o (a ∙ z))) _ _ (ap Detail.Fault (q ∙ ap (sheet_fault values) b) ∙ chosen refl (eq-eqb _ _ (sym a ∙ e)) _ _)

  pub of_others : (n ≡ 1 → ⊥) → (n ≡ 3 → ⊥) → Detail.Plain ≡ fault_of list values why
  unfolding fault_of
  of_others o e = passed refl (ne_eqb _ _ (λ z. o (a ∙ z))) _ _ (passed refl (ne_eqb _ _ (λ z. e (a ∙ z))) _ _ refl)

  pub of_10 : {missing m : Option Missing} → n ≡ 10 → m ≡ missing → Detail.Missing m ≡ lack_of missing list values why
  unfolding lack_of
  of_10 e q = ap Detail.Missing q ∙ chosen refl (eq-eqb _ _ (sym a ∙ e)) _ _

  pub not_10 : (missing : Option Missing) {d : Detail} → (n ≡ 10 → ⊥) → d ≡ fault_of list values why → d ≡ lack_of missing list values why
  unfolding lack_of
  not_10 missing o q = passed refl (ne_eqb _ _ (λ z. o (a ∙ z))) _ _ q

-- ---- the room stays

pub same_room : (w : Work) {w' : Work} → w' ≡ zeroed w → capacity w' ≡ capacity w
unfolding zeroed
same_room w e = ap capacity e ∙ rw (length-replicate (length w.store))

pub same_missing : (list values : List ℕ) (w : Work) {w' : Work} → w' ≡ zeroed w → missing_in_job (capacity w') list values ≡ missing_in_job (capacity w) list values
same_missing list values w e = ap (λ room. missing_in_job room list values) (same_room w e)

pub as_many : {n : ℕ} (bytes : ℕ) (out : List ℕ) → n ≡ min bytes (length out) → take n out ≡ take bytes out
as_many bytes out e = rw e (least_of bytes out)

-- ---- evaluate and play

module _ (missing : Option Missing) (list values : List ℕ) (call : Result Complex Refusal) {answer : Result Complex Refusal} (q : answer ≡ call) where
  pub value_comes : {z : Complex} {n : ℕ} {out out' : List ℕ} → answer ≡ Ok z → Line out (value_line z) n out'
      → Comes (of_evaluated missing list values call) (Outcome.Printed n) out'
  unfolding of_evaluated
  value_comes told l = record { answer = ap printed (stands l) ∙ ap (of_evaluated missing list values) (sym told ∙ q); inside = l.1 }

  pub lack_comes : {why : Refusal} {d : Detail} {out : List ℕ} (found : Option Missing) → found ≡ missing → answer ≡ Err why
      → d ≡ lack_of found list values why → Comes (of_evaluated missing list values call) (Outcome.Refused why d) out
  unfolding of_evaluated
  lack_comes {why} found e told o = record {
    answer = ap (refused why) (o ∙ ap (λ m. lack_of m list values why) e) ∙ ap (of_evaluated missing list values) (sym told ∙ q);
    inside = tt;
  }

-- ---- simplify, and evaluate after it

module _ (list values : List ℕ) (call : Result Simplified Refusal × List ℕ) {answer : Result Simplified Refusal} {out' : List ℕ} (q : ◌≡◌ {A = Result Simplified Refusal × List ℕ} (answer, out') call) where
  result_of : {A : Type 0} (f : Result Simplified Refusal → List ℕ → A) → f answer out' ≡ f call.0 call.1
  result_of f = ap (λ x. f x.0 x.1) q

  pub listing_comes : {a : Simplified} {n : ℕ} → answer ≡ Ok a → IsPrefixLen n out' → n ≡ min a.bytes (length out')
      → Comes (of_simplified list values call.0 call.1) (Outcome.Simplified n a.calls) out'
  unfolding of_simplified
  listing_comes {a} told c e = record {
    answer = ap (λ l. with_calls l a.calls) (as_many a.bytes out' e) ∙ ap (λ x. of_simplified list values x out') (sym told) ∙ result_of (of_simplified list values);
    inside = c;
  }

  pub refusal_comes : {why : Refusal} {d : Detail} → answer ≡ Err why → d ≡ fault_of list values why
      → Comes (of_simplified list values call.0 call.1) (Outcome.Refused why d) out'
  unfolding of_simplified
  refusal_comes {why} told o = record {
    answer = ap (refused why) o ∙ ap (λ x. of_simplified list values x out') (sym told) ∙ result_of (of_simplified list values);
    inside = tt;
  }

module _ (room : ℕ) (list values out : List ℕ) {answer : Result Simplified Refusal} {out' : List ℕ} (q : ◌≡◌ {A = Result Simplified Refusal × List ℕ} (answer, out') (simplify_call room 10 list values out)) where
  playing_of : played_of room list values answer out' ≡ played room list values out
  playing_of = ap (λ x. played_of room list values x.0 x.1) q

  pub played_comes : (room' : ℕ) {a : Simplified} {n : ℕ} {r : Outcome} {out'' : List ℕ} → answer ≡ Ok a → n ≡ min a.bytes (length out') → room' ≡ room
      → Comes (evaluated room' (take n out') values) r out'' → Comes (played room list values out) r out''
  unfolding played_of
  played_comes room' {a} told e o c = record {
    answer =
        c.answer ∙ (λ i. evaluated (o i) (as_many a.bytes out' e i) values)
        ∙ ap (λ x. played_of room list values x out') (sym told) ∙ playing_of;
    inside = c.inside;
  }

  pub unplayed_comes : {why : Refusal} {d : Detail} → answer ≡ Err why → d ≡ fault_of list values why
      → Comes (played room list values out) (Outcome.Refused why d) out'
  unfolding played_of
  unplayed_comes {why} told o = record {
    answer = ap (refused why) o ∙ ap (λ x. played_of room list values x out') (sym told) ∙ playing_of;
    inside = tt;
  }

-- ---- substitute, real

module _ (list : List ℕ) (call : Result ℕ Refusal × List ℕ) {answer : Result ℕ Refusal} {out' : List ℕ} (q : ◌≡◌ {A = Result ℕ Refusal × List ℕ} (answer, out') call) where
  writing_of : of_written list answer out' ≡ of_written list call.0 call.1
  writing_of = ap (λ x. of_written list x.0 x.1) q

  pub written_comes : {bytes n : ℕ} → answer ≡ Ok bytes → IsPrefixLen n out' → n ≡ min bytes (length out')
      → Comes (of_written list call.0 call.1) (Outcome.Printed n) out'
  unfolding of_written
  written_comes {bytes} told c e = record { answer = ap printed (as_many bytes out' e) ∙ ap (λ x. of_written list x out') (sym told) ∙ writing_of; inside = c }

  pub unwritten_comes : {why : Refusal} {d : Detail} → answer ≡ Err why → d ≡ alone_of list why
      → Comes (of_written list call.0 call.1) (Outcome.Refused why d) out'
  unfolding of_written
  unwritten_comes {why} told o = record { answer = ap (refused why) o ∙ ap (λ x. of_written list x out') (sym told) ∙ writing_of; inside = tt }

module _ (room : ℕ) (list : List ℕ) {answer : Result Float Refusal} (q : answer ≡ to_real_call room list) where
  pub real_comes : {x : Float} {n : ℕ} {out out' : List ℕ} → answer ≡ Ok x → Line out (real_line x) n out'
      → Comes (real room list) (Outcome.Printed n) out'
  unfolding of_real
  real_comes told l = record { answer = ap printed (stands l) ∙ ap (of_real list) (sym told ∙ q); inside = l.1 }

  pub unreal_comes : {why : Refusal} {d : Detail} {out : List ℕ} → answer ≡ Err why → d ≡ alone_of list why
      → Comes (real room list) (Outcome.Refused why d) out
  unfolding of_real
  unreal_comes {why} told o = record { answer = ap (refused why) o ∙ ap (of_real list) (sym told ∙ q); inside = tt }

-- ---- the commands on tapes

module _ (room : ℕ) (list tape : List ℕ) (blank : tape ≡ empty_tape) {answer : Result ℕ Refusal} {tape' : List ℕ} (q : ◌≡◌ {A = Result ℕ Refusal × List ℕ} (answer, tape') (compile_call room list tape)) where
  compiling_of : of_tape list answer tape' ≡ compiled room list
  compiling_of = ap (λ x. of_tape list x.0 x.1) (q ∙ ap (compile_call room list) blank)

  pub tape_comes : {bytes n r : ℕ} {out out' : List ℕ} → answer ≡ Ok bytes → n ≡ min bytes (length tape') → Line out (in_lines 0 (take n tape')) r out'
      → Comes (compiled room list) (Outcome.Printed r) out'
  unfolding of_tape
  tape_comes {bytes} told e l = record {
    answer = ap printed (stands l ∙ ap (in_lines 0) (as_many bytes tape' e)) ∙ ap (λ x. of_tape list x tape') (sym told) ∙ compiling_of;
    inside = l.1;
  }

  pub no_tape_comes : {why : Refusal} {d : Detail} {out : List ℕ} → answer ≡ Err why → d ≡ alone_of list why
      → Comes (compiled room list) (Outcome.Refused why d) out
  unfolding of_tape
  no_tape_comes {why} told o = record { answer = ap (refused why) o ∙ ap (λ x. of_tape list x tape') (sym told) ∙ compiling_of; inside = tt }

-- what holds for a tape holds for the one that a text says
pub of_text : (want : List ℕ → Outcomes.Result) (text : List ℕ) {bytes tape : List ℕ} {n : ℕ} → Line bytes (tape_in text) n tape → {r : Outcome} {out : List ℕ}
    → Comes (want (take n tape)) r out → Comes (want (tape_in text)) r out
of_text want text l {r} {out} c = subst (λ t. Comes (want t) r out) (stands l) c

pub of_text_marked : (want : List ℕ → Outcomes.Result) (used : List ℕ → List ℕ) (text : List ℕ) {bytes tape : List ℕ} {n : ℕ} → Line bytes (tape_in text) n tape
    → {r : Outcome} {out marks' : List ℕ} → ComesMarked (want (take n tape)) (used (take n tape)) r out marks' → ComesMarked (want (tape_in text)) (used (tape_in text)) r out marks'
of_text_marked want used text l {r} {out} {marks'} c = subst (λ t. ComesMarked (want t) (used t) r out marks') (stands l) c

module _ (sound : List ℕ) (call : Result (Unit {0}) Refusal) {answer : Result (Unit {0}) Refusal} (q : answer ≡ call) where
  pub sound_comes : {n : ℕ} {out out' : List ℕ} → answer ≡ Ok tt → Line out sound n out' → Comes (of_checked sound call) (Outcome.Printed n) out'
  unfolding of_checked
  sound_comes told l = record { answer = ap printed (stands l) ∙ ap (of_checked sound) (sym told ∙ q); inside = l.1 }

  pub unsound_comes : {why : Refusal} {out : List ℕ} → answer ≡ Err why → Comes (of_checked sound call) (Outcome.Refused why Detail.Plain) out
  unfolding of_checked
  unsound_comes told = record { answer = ap (of_checked sound) (sym told ∙ q); inside = tt }

-- ---- a listing that stands alone

module _ (list : List ℕ) (why : Refusal) {n : ℕ} (a : n ≡ number_of why) where
  pub another_number : (n ≡ 1 → ⊥) → false ≡ empty_at list why
  unfolding empty_at
  another_number o = rw (ne_eqb (number_of why) 1 (λ e. o (a ∙ e)))

  pub by_byte : (at : ℕ) {p b : ℕ} → n ≡ 1 → p ≡ place_of why → drop at list ≡ from_line p list → b ≡ get_or list at 0 → eqb b 10 ≡ empty_at list why
  unfolding empty_at
  by_byte at e q s o =
      let z : get_or (from_line (place_of why) list) 0 0 ≡ get_or list at 0 =
      ap (λ k. get_or (from_line k list) 0 0) (sym q) ∙ ap (λ l. get_or l 0 0) (sym s) ∙ get_or-drop at list 0 0 ∙ ap (λ k. get_or list k 0) (omega arith) in
      rw (eq-eqb (number_of why) 1 (sym a ∙ e), z) (ap (λ k. eqb k 10) o)

module _ (list : List ℕ) (why : Refusal) {t : Bool} (a : t ≡ empty_at list why) where
  pub sheet_follows : t ≡ true → Detail.Sheet ≡ alone_of list why
  unfolding alone_of
  sheet_follows o = chosen a o _ _

  pub no_sheet_follows : t ≡ false → {d : Detail} → d ≡ fault_of list [] why → d ≡ alone_of list why
  unfolding alone_of
  no_sheet_follows o q = passed a o _ _ q

-- ---- with origins or without

with_or_without : {A B : Type 0} (f : A → B) (traced : Bool) (x y : A) → f (cond traced x y) ≡ cond traced (f x) (f y)
with_or_without f true x y = refl
with_or_without f false x y = refl

pub substituted_as : (traced : Bool) (room : ℕ) (list out : List ℕ) {r : Outcome} {out' : List ℕ}
    → Comes (of_written list (cond traced (substitute_origins room list out) (substitute_call room list out)).0 (cond traced (substitute_origins room list out) (substitute_call room list out)).1) r out'
    → Comes (substituted_with traced room list out) r out'
substituted_as traced room list out {r} {out'} =
    subst (λ x. Comes x r out') (with_or_without (λ x. of_written list x.0 x.1) traced (substitute_origins room list out) (substitute_call room list out))

pub simplified_as : (traced : Bool) (room limit : ℕ) (list values out : List ℕ) {r : Outcome} {out' : List ℕ}
    → Comes (of_simplified list values (cond traced (simplify_origins room limit list values out) (simplify_call room limit list values out)).0 (cond traced (simplify_origins room limit list values out) (simplify_call room limit list values out)).1) r out'
    → Comes (simplified_with traced room limit list values out) r out'
simplified_as traced room limit list values out {r} {out'} =
    subst (λ x. Comes x r out') (with_or_without (λ x. of_simplified list values x.0 x.1) traced (simplify_origins room limit list values out) (simplify_call room limit list values out))

-- ---- by the command

module _ (room : ℕ) (text out : List ℕ) {r : Outcome} {out' : List ℕ} where
  pub whole_is : {command : Whole} (c : Whole) → command ≡ c → Comes (whole room c text out) r out' → Comes (whole room command text out) r out'
  whole_is c e x = subst (λ k. Comes (whole room k text out) r out') (sym e) x

  module _ {marks' : List ℕ} where
    pub command_is : {command : Command} (c : Command) → command ≡ c → ComesMarked (result_in room c text out) (marks_in room c text out) r out' marks'
        → ComesMarked (result_in room command text out) (marks_in room command text out) r out' marks'
    command_is c e x = subst (λ k. ComesMarked (result_in room k text out) (marks_in room k text out) r out' marks') (sym e) x

    -- a command whose input is one text says no rows
    pub of_whole : (command : Whole) → marks' ≡ no_marks → Comes (whole room command text out) r out'
        → ComesMarked (result_in room (Command.Whole command) text out) (marks_in room (Command.Whole command) text out) r out' marks'
    unfolding result_in marks_in
    of_whole command e x = record { comes = x; marked = e }

    pub of_parts_lem : (command : Parted) {n : ℕ} {values : List ℕ} → Parting.Parted text n → values ≡ drop 1 (take (length text - n) (drop n text))
        → ComesMarked (parted room command (take n text) values out) (parted_marks room command (take n text) values out) r out' marks'
        → ComesMarked (result_in room (Command.Parted command) text out) (marks_in room (Command.Parted command) text out) r out' marks'
    unfolding result_in marks_in
    of_parts_lem command {n} p q x =
        let z = parted_in p in
        subst (λ l. ComesMarked (parted room command l (sheet_in text) out) (parted_marks room command l (sheet_in text) out) r out' marks') z.0
        (subst (λ v. ComesMarked (parted room command (take n text) v out) (parted_marks room command (take n text) v out) r out' marks') (q ∙ ap (drop 1) (rest text n) ∙ z.1) x)

module _ (room : ℕ) (list values out : List ℕ) {r : Outcome} {out' marks' : List ℕ} where
  pub parted_is : {command : Parted} (c : Parted) → command ≡ c → ComesMarked (parted room c list values out) (parted_marks room c list values out) r out' marks'
      → ComesMarked (parted room command list values out) (parted_marks room command list values out) r out' marks'
  parted_is c e x = subst (λ k. ComesMarked (parted room k list values out) (parted_marks room k list values out) r out' marks') (sym e) x

-- ---- an input that is too long

module _ (command : Command) (input out : List ℕ) where
  pub too_long_lem : 262144 < length input → {out' marks' : List ℕ} → marks' ≡ no_marks → ComesMarked (result_for command input out) (marks command input out) Outcome.TooLong out' marks'
  unfolding result_for marks
  too_long_lem h e = record {
    comes = record { answer = rw (lt-ltb 262144 (length input) h); inside = tt };
    marked = rw (lt-ltb 262144 (length input) h) e;
  }
