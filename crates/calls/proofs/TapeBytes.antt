-- Demand 3 to the letter, on bytes: of what compiling left in the output, and of any bytes at all. Assumes nothing.
use mathlib.Core.Path.{◌≡◌, refl, sym, ap, ◌∙◌, subst}
use mathlib.Core.Bool.{Bool, true, false, cond}
use mathlib.Core.List.{List, [], ◌∷◌, ◌++◌}
use mathlib.Core.Logic.{◌⊎◌, inl, inr}
use Prim.Native.Nat.{ℕ, ◌*◌, ◌≤◌}
use native.Mathlib.Omega.{arith}
use borrow.Author.Tests.{ltb-false}
use lib.Dec.{ltb}
use lib.ListN.{length, take, drop}
use lib.Seq.{take_at}
use Rattle.std.specs.Prelude.{Result, Ok, Err}
use Rattle.complex.specs.declared.Complex.{Complex}
use Rattle.expression.specs.declared.refusal.Operation.{Operation}
use Rattle.expression.specs.declared.refusal.Refusal.{Refusal}
use Rattle.expression.specs.Trees.{Tree, size, depth}
use Rattle.store.specs.Storing.{State, fresh}
use Rattle.text.specs.Lines as Lines
use Rattle.text.specs.Lines.{Whole}
use Rattle.listing.specs.Listings as Listings
use Rattle.listing.specs.Listings.{Listing, Swap, accepted, listing}
use Rattle.sheet.specs.Rows.{Rows, sheet}
use Rattle.evaluation.specs.declared.Evaluation.{Evaluation}
use Rattle.tape.specs.Tapes.{tape, compiled, steps_in, check}
use Rattle.tape.specs.Playing.{Outcome, stands, lacks, result, run}
use Rattle.tape.proofs.Checking.{refused_by}
use Rattle.tape.proofs.Emitting.{tape_length}
use Rattle.tape.proofs.Prefixes.{AtMost, Ends, one_value, lacks_function, lacks_binding, sound_prefix, tape_prefix, sound_ends}
use Rattle.calls.specs.Calls as Calls
use Rattle.calls.specs.Calls.{after_listing, with_sheet, job, evaluated, evaluate_job, evaluate_call, compile_call, play_sheet, play_call}
use Rattle.calls.proofs.Accepted.{accepted_good}
use Rattle.calls.proofs.Rooms.{same_root, accepted_with_more, accepted_unless_full}
use Rattle.calls.proofs.Demand.{compiles, compiled_sound, compiled_plays}
use Rattle.calls.proofs.Taping.{plays_sound, plays_bad}

-- ---- what compiling wrote

-- "any accepted expression of size at most 512 and an output with room for its tape", and its tape
pub record Source (room : ℕ) (list out : List ℕ) (bytes : ℕ) (out' : List ℕ) : Type 0 where
  pub root : Tree
  pub swaps : List Swap
  pub store : State
  pub read : listing false list (fresh room 0) ≡ accepted root swaps store
  pub small : size root ≤ 512
  pub ample : 24 * size root ≤ length out
  pub bytes_are : take bytes out' ≡ tape root

refused_or_not : {A : Type 0} {why : Refusal} {bytes : ℕ} → Err why ≡ Ok bytes → A
refused_or_not e = absurd (subst Is-refused e tt)
  where
    Is-refused : Result ℕ Refusal → Type 0
    Is-refused (Err why) = Unit {0}
    Is-refused (Ok bytes) = ⊥

bytes_in : Result ℕ Refusal → ℕ
bytes_in (Ok bytes) = bytes
bytes_in (Err why) = 0

abbrev Answer : Type 0
Answer = Result ℕ Refusal × List ℕ

abbrev fit : (root : Tree) (out : List ℕ) → Answer
fit root out = (Ok (length (tape root)), tape root ++ drop (length (tape root)) out)

module _ (room : ℕ) (list out : List ℕ) {bytes : ℕ} {out' : List ℕ} {root : Tree} {swaps : List Swap} {store : State}
    (read : listing false list (fresh room 0) ≡ accepted root swaps store) where
  fits : size root ≤ 512 → (b : Bool) → ltb (length out) (length (tape root)) ≡ b
      → ◌≡◌ {A = Answer} (cond b (Err Refusal.OutRoom, out) (fit root out)) (Ok bytes, out') → Source room list out bytes out'
  unfolding bytes_in
  fits small true f w = refused_or_not (ap (λ x. x.0) w)
  fits small false f w = record {
    root = root;
    swaps = swaps;
    store = store;
    read = read;
    small = small;
    ample = omega (arith, ltb-false (length out) (length (tape root)) f, tape_length root);
    bytes_are = ap (λ x. take bytes x.1) (sym w) ∙ take_at (tape root) _ bytes (ap (λ x. bytes_in x.0) w);
  }

  not_long : (b : Bool) → ltb 512 (size root) ≡ b
      → ◌≡◌ {A = Answer}
      (cond b (Err Refusal.LongTape, out) (cond (ltb (length out) (length (tape root))) (Err Refusal.OutRoom, out) (fit root out)))
      (Ok bytes, out')
      → Source room list out bytes out'
  not_long true f w = refused_or_not (ap (λ x. x.0) w)
  not_long false f w = fits (ltb-false 512 (size root) f) (ltb (length out) (length (tape root))) refl w

-- where compiling answers a length, this is why
pub written_from : (room : ℕ) (list out : List ℕ) {bytes : ℕ} {out' : List ℕ} → compile_call room list out ≡ (Ok bytes, out')
    → Source room list out bytes out'
unfolding compile_call after_listing compiled
written_from room list out {bytes} {out'} wrote = go (listing false list (fresh room 0)) refl wrote
  where
    go : (l : Listing) → listing false list (fresh room 0) ≡ l
        → ◌≡◌ {A = Answer} (after_listing (λ why. (Err why, out)) l (λ root swaps store. compiled root out)) (Ok bytes, out')
        → Source room list out bytes out'
    go (Listings.refused why) e w = refused_or_not (ap (λ x. x.0) w)
    go (accepted root swaps store) e w = not_long room list out e (ltb 512 (size root)) refl w

-- evaluating looks at the root and the sheet alone
evaluated_from : Tree → Whole Rows Refusal → Result Complex Refusal
evaluated_from root w = evaluate_job (with_sheet root (fresh 0 0) w)

evaluates_from : (room : ℕ) (list values : List ℕ) {root : Tree} {swaps : List Swap} {store : State}
    → listing false list (fresh room 0) ≡ accepted root swaps store → evaluate_call room list values ≡ evaluated_from root (sheet values)
unfolding evaluate_job after_listing with_sheet job evaluated_from
evaluates_from room list values {root} {swaps} {store} e =
    ap (λ x. evaluate_job (after_listing Calls.refused x λ root swaps store. with_sheet root store (sheet values))) e ∙ go (sheet values)
  where
    go : (w : Whole Rows Refusal) → evaluate_job (with_sheet root store w) ≡ evaluate_job (with_sheet root (fresh 0 0) w)
    go (Lines.read rows) = refl
    go (Lines.refused why) = refl

module _ (room : ℕ) (list out : List ℕ) {bytes : ℕ} {out' : List ℕ} (wrote : compile_call room list out ≡ (Ok bytes, out')) where
  from : Source room list out bytes out'
  from = written_from room list out wrote

  -- as `compiles` has them
  as_compiled : take (24 * size from.root) (compile_call room list out).1 ≡ take bytes out'
  as_compiled =
      ap (λ x. take (24 * size from.root) x.1) (compiles room list out from.read from.small from.ample)
      ∙ take_at (tape from.root) _ (24 * size from.root) (tape_length from.root)
      ∙ sym from.bytes_are

  -- the bytes that were written are a sound tape
  pub written_sound : check (take bytes out') ≡ Ok tt
  written_sound = ap check (sym as_compiled) ∙ compiled_sound room list out from.read from.small from.ample

  -- "The stack never holds more than the expression's depth": after each step of these bytes, under any rows
  pub written_depth : {root : Tree} {swaps : List Swap} {store : State} → listing false list (fresh room 0) ≡ accepted root swaps store
      → (rows : Rows) (k : ℕ) → AtMost (depth root) (run rows (take k (steps_in (take bytes out'))) [])
  written_depth {root} read rows k =
      subst (λ t. AtMost (depth t) (run rows (take k (steps_in (take bytes out'))) [])) (same_root false list room room from.read read).0
      (subst (λ bs. AtMost (depth from.root) (run rows (take k (steps_in bs)) [])) (sym from.bytes_are)
      (let good = accepted_good false list room from.read in tape_prefix rows from.root good.proper good.limited.shallow from.small k))

  -- "playing that tape gives what evaluating the expression gives, bit for bit", in a store of any room that accepts it
  pub written_plays : (room' : ℕ) {root : Tree} {swaps : List Swap} {store : State} → listing false list (fresh room' 0) ≡ accepted root swaps store
      → (values : List ℕ) → play_call (take bytes out') values ≡ evaluate_call room' list values
  written_plays room' {root} read values =
      ap (λ bs. play_call bs values) (sym as_compiled)
      ∙ compiled_plays room list out from.read from.small from.ample values
      ∙ evaluates_from room list values from.read
      ∙ ap (λ t. evaluated_from t (sheet values)) (same_root false list room room' from.read read).0
      ∙ sym (evaluates_from room' list values read)

  -- so with as much room as compiling had
  pub written_plays_with_more : (room' : ℕ) → room ≤ room' → (values : List ℕ)
      → play_call (take bytes out') values ≡ evaluate_call room' list values
  written_plays_with_more room' more values = written_plays room' (accepted_with_more false list room room' from.read more).1 values

  -- and with any other, unless evaluating is refused by 8
  pub written_plays_unless_full : (room' : ℕ) (values : List ℕ)
      → (evaluate_call room' list values ≡ Err Refusal.Room) ⊎ (play_call (take bytes out') values ≡ evaluate_call room' list values)
  unfolding evaluate_job after_listing job
  written_plays_unless_full room' values = elim (accepted_unless_full false list room room' from.read) [
    | inl e ↦ inl (ap (λ x. evaluate_job (after_listing Calls.refused x λ root swaps store. with_sheet root store (sheet values))) e)
    | inr a ↦ inr (written_plays room' a.1 values)
  ]

-- ---- "A tape from anywhere else is refused before its first step or plays without running out of stack"

-- what a sound tape is answered: the sheet's refusal; the one value that it leaves; 9 or 10 where a value is lacking
pub data Answered (tape values : List ℕ) : Type 0 where
  sheet_refused : (why : Refusal) → sheet values ≡ Lines.refused why → play_call tape values ≡ Err why → Answered tape values
  value : (rows : Rows) (z : Complex) → sheet values ≡ Lines.read rows → run rows (steps_in tape) [] ≡ stands (z ∷ [])
      → play_call tape values ≡ Ok z → Answered tape values
  need : (rows : Rows) (operation : Operation) (x y : Complex) → sheet values ≡ Lines.read rows
      → run rows (steps_in tape) [] ≡ lacks (Evaluation.Need operation x y) → play_call tape values ≡ Err (Refusal.Need operation x y)
      → Answered tape values
  incomplete : (rows : Rows) → sheet values ≡ Lines.read rows → run rows (steps_in tape) [] ≡ lacks Evaluation.Incomplete
      → play_call tape values ≡ Err Refusal.Incomplete → Answered tape values

pub data FromAnywhere (tape values : List ℕ) : Type 0 where
  refused_first : (step : ℕ) → check tape ≡ Err (Refusal.BadTape step) → play_call tape values ≡ Err (Refusal.BadTape step) → FromAnywhere tape values
  plays : check tape ≡ Ok tt → ((rows : Rows) (k : ℕ) → AtMost 64 (run rows (take k (steps_in tape)) [])) → Answered tape values
      → FromAnywhere tape values

module _ (tape values : List ℕ) (sound : check tape ≡ Ok tt) where
  answered_by_lem : (w : Whole Rows Refusal) → sheet values ≡ w → Answered tape values
  unfolding play_sheet evaluated result
  answered_by_lem (Lines.refused why) e = sheet_refused why e (sym (ap (λ x. x.0) (plays_sound tape values sound refl)) ∙ ap (play_sheet tape) e)
  answered_by_lem (Lines.read rows) e = go (run rows (steps_in tape) []) refl (sound_ends rows tape sound)
    where
      answer : {o : Outcome} → run rows (steps_in tape) [] ≡ o → play_call tape values ≡ evaluated (result o)
      answer f = sym (ap (λ x. x.0) (plays_sound tape values sound refl)) ∙ ap (play_sheet tape) e ∙ ap (λ o. evaluated (result o)) f

      go : (o : Outcome) → run rows (steps_in tape) [] ≡ o → Ends o → Answered tape values
      go o f (one_value z) = value rows z e f (answer f)
      go o f (lacks_function operation x y) = need rows operation x y e f (answer f)
      go o f lacks_binding = incomplete rows e f (answer f)

pub from_anywhere : (tape values : List ℕ) → FromAnywhere tape values
from_anywhere tape values = go (check tape) refl
  where
    go : (c : Result (Unit {0}) Refusal) → check tape ≡ c → FromAnywhere tape values
    go (Ok u) e = plays e (λ rows k. sound_prefix rows tape e k) (answered_by_lem tape values e (sheet values) refl)
    go (Err why) e =
        let by = refused_by tape e in
        let b = rw by.1 at e in
        refused_first by.0 b (sym (ap (λ x. x.0) (plays_bad tape values b refl)))
