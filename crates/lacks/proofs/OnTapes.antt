-- What playing was refused 10 for is what is named of the tape: the step at which playing stops. And of the tape of an expression the same is named
-- as of the expression. On steps, and on bytes. Assumes nothing.
use mathlib.Core.Path.{◌≡◌, refl, sym, ap, ◌∙◌, subst}
use mathlib.Core.Bool.{Bool, true, false, cond}
use mathlib.Core.List.{List, [], ◌∷◌, ◌++◌}
use Prim.Native.Nat.{ℕ, ◌≤◌}
use native.Mathlib.Omega.{arith}
use lib.Dec.{ltb}
use lib.ListN.{length, take}
use Rattle.std.specs.Prelude.{Option, Some, None, Ok, Err}
use Rattle.complex.specs.declared.Complex.{Complex}
use Rattle.expression.specs.declared.refusal.Refusal.{Refusal}
use Rattle.expression.specs.Refusals.{number_of}
use Rattle.expression.specs.Trees.{Tree, Leaf, number, pi, variable, cell, leaf, function_call, prefixed, infixed}
use Rattle.expression.specs.Limits.{Proper}
use Rattle.store.specs.Storing.{State, fresh}
use Rattle.text.specs.Lines as Lines
use Rattle.text.specs.Lines.{Whole}
use Rattle.listing.specs.Listings.{Swap, accepted, listing}
use Rattle.sheet.specs.Rows.{Rows, sheet}
use Rattle.evaluation.specs.declared.Evaluation.{Evaluation}
use Rattle.evaluation.specs.Evaluating.{calculate_function, calculate_infix, calculate_prefix, leaf_value}
use Rattle.steps.specs.declared.Step.{Step}
use Rattle.tape.specs.Tapes.{leaf_step, steps, tape, steps_in, check}
use Rattle.tape.specs.Playing.{Outcome, stands, lacks, breaks, push, and_then, step, run}
use Rattle.tape.proofs.Demand.{steps_proper, steps_back}
use Rattle.calls.specs.Calls as Calls
use Rattle.calls.specs.Calls.{after_listing, with_sheet, job, compile_call, play_call}
use Rattle.calls.proofs.Lining.{WholeHas}
use Rattle.calls.proofs.Refusing.{OfSheet, WholeBy, sheet_most, sheet_numbers}
use Rattle.calls.proofs.Accepted.{accepted_good}
use Rattle.calls.proofs.Rooms.{same_root}
use Rattle.calls.proofs.TapeBytes.{written_from, written_sound, FromAnywhere, refused_first, plays, Answered, sheet_refused, value, need, incomplete, from_anywhere}
use Rattle.lacks.specs.declared.Missing.{Missing}
use Rattle.lacks.specs.Lacking.{or_else, missing_leaf, first_missing, missing_step, missing_in_steps, missing_of, missing_in_job, missing_under, missing_checked, missing_on_tape}
use Rattle.lacks.proofs.Incomplete.{Something, some_first, IsIncomplete, incomplete_is, is_bound, is_unbound, leafy, function_not, infix_not, refused_ten, refused_valued}

-- ---- what a step leaves

-- a lack that is no value's
IsLack : Outcome → Type 0
IsLack (stands stack) = ⊥
IsLack (lacks e) = IsIncomplete e
IsLack breaks = ⊥

lack_is : {o : Outcome} → o ≡ lacks Evaluation.Incomplete → IsLack o
unfolding IsLack IsIncomplete
lack_is p = subst IsLack (sym p) tt

Stands : Outcome → Type 0
Stands (stands stack) = Unit {0}
Stands (lacks e) = ⊥
Stands breaks = ⊥

stands_is : {o : Outcome} {stack : List Complex} → o ≡ stands stack → Stands o
unfolding Stands
stands_is p = subst Stands (sym p) tt

push_lacks : (e : Evaluation) (stack : List Complex) → push e stack ≡ lacks Evaluation.Incomplete → e ≡ Evaluation.Incomplete
unfolding push IsLack IsIncomplete
push_lacks (Evaluation.Value z) stack p = absurd (go (ltb (length stack) 64) p)
  where
    go : (b : Bool) → cond b (stands (z ∷ stack)) breaks ≡ lacks Evaluation.Incomplete → ⊥
    go true p = lack_is p
    go false p = lack_is p
push_lacks Evaluation.Incomplete stack p = refl
push_lacks (Evaluation.Need operation x y) stack p = absurd (lack_is p)

push_stands : {e : Evaluation} (stack : List Complex) {next : List Complex} → push e stack ≡ stands next → e ≡ Evaluation.Incomplete → ⊥
unfolding push Stands
push_stands stack p q = stands_is (sym (ap (λ e. push e stack) q) ∙ p)

module _ (rows : Rows) where
  leaf_lacks : (l : Leaf) (stack : List Complex) → push (leaf_value rows l) stack ≡ lacks Evaluation.Incomplete → Something (missing_leaf rows l)
  leaf_lacks l stack p = elim (leafy rows l) [
    | is_bound n e ↦ absurd (n (push_lacks (leaf_value rows l) stack p))
    | is_unbound q s ↦ s
  ]

  leaf_stands : (l : Leaf) (stack : List Complex) {next : List Complex} → push (leaf_value rows l) stack ≡ stands next → missing_leaf rows l ≡ None
  leaf_stands l stack p = elim (leafy rows l) [
    | is_bound n e ↦ e
    | is_unbound q s ↦ absurd (push_stands stack p q)
  ]

  -- a step that lacks a binding names it, and one that has a value names nothing
  step_lacks : (s : Step) (stack : List Complex) → step rows s stack ≡ lacks Evaluation.Incomplete → Something (missing_step rows s)
  unfolding step missing_step IsLack IsIncomplete
  step_lacks (Step.Number z) stack p = leaf_lacks (number z) stack p
  step_lacks Step.Pi stack p = leaf_lacks pi stack p
  step_lacks (Step.Variable v) stack p = leaf_lacks (variable v) stack p
  step_lacks (Step.Memory region index) stack p = leaf_lacks (cell region index) stack p
  step_lacks (Step.Function f) [] p = absurd (lack_is p)
  step_lacks (Step.Function f) (x ∷ stack) p = absurd (function_not rows f x (push_lacks (calculate_function rows f x) stack p))
  step_lacks (Step.Prefix o) [] p = absurd (lack_is p)
  step_lacks (Step.Prefix o) (x ∷ stack) p = absurd (incomplete_is (push_lacks (Evaluation.Value (calculate_prefix o x)) stack p))
  step_lacks (Step.Infix o) [] p = absurd (lack_is p)
  step_lacks (Step.Infix o) (y ∷ []) p = absurd (lack_is p)
  step_lacks (Step.Infix o) (y ∷ x ∷ stack) p = absurd (infix_not rows o x y (push_lacks (calculate_infix rows o x y) stack p))

  step_stands : (s : Step) (stack : List Complex) {next : List Complex} → step rows s stack ≡ stands next → missing_step rows s ≡ None
  unfolding step missing_step
  step_stands (Step.Number z) stack p = leaf_stands (number z) stack p
  step_stands Step.Pi stack p = leaf_stands pi stack p
  step_stands (Step.Variable v) stack p = leaf_stands (variable v) stack p
  step_stands (Step.Memory region index) stack p = leaf_stands (cell region index) stack p
  step_stands (Step.Function f) stack p = refl
  step_stands (Step.Prefix o) stack p = refl
  step_stands (Step.Infix o) stack p = refl

-- ---- the step at which playing stops

-- playing stands after the steps before this one and lacks a binding at it, and what is named is what it asks for
pub record StopsAt (rows : Rows) (ss : List Step) (stack : List Complex) : Type 0 where
  pub before : List Step
  pub here : Step
  pub after : List Step
  pub whole : ss ≡ before ++ (here ∷ after)
  pub left : List Complex
  pub stood : run rows before stack ≡ stands left
  pub stops : step rows here left ≡ lacks Evaluation.Incomplete
  pub named : missing_in_steps rows ss ≡ missing_step rows here

module _ (rows : Rows) where
  pub stops_some : {ss : List Step} {stack : List Complex} → StopsAt rows ss stack → Something (missing_in_steps rows ss)
  stops_some h = subst Something (sym h.named) (step_lacks rows h.here h.left h.stops)

  pub run_stops : (ss : List Step) (stack : List Complex) → run rows ss stack ≡ lacks Evaluation.Incomplete → StopsAt rows ss stack
  unfolding run and_then missing_in_steps or_else IsLack
  run_stops [] stack p = absurd (lack_is p)
  run_stops (s ∷ ss) stack p = go (step rows s stack) refl p λ next q. run_stops ss next q
    where
      go : (o : Outcome) → step rows s stack ≡ o → and_then o (λ stack. run rows ss stack) ≡ lacks Evaluation.Incomplete
          → ((next : List Complex) → run rows ss next ≡ lacks Evaluation.Incomplete → StopsAt rows ss next) → StopsAt rows (s ∷ ss) stack
      go (stands next) e p more =
          let h = more next p in
          record {
            before = s ∷ h.before;
            here = h.here;
            after = h.after;
            whole = ap (λ ss. s ∷ ss) h.whole;
            left = h.left;
            stood = ap (λ o. and_then o (λ stack. run rows h.before stack)) e ∙ h.stood;
            stops = h.stops;
            named = ap (λ m. or_else m (missing_in_steps rows ss)) (step_stands rows s stack e) ∙ h.named;
          }
      go (lacks x) e p more =
          let q = e ∙ p in
          record { before = []; here = s; after = ss; whole = refl; left = stack; stood = refl; stops = q; named = some_first _ (step_lacks rows s stack q) }
      go breaks e p more = absurd (lack_is p)

  -- ---- the tape of an expression

  or_nothing : (m : Option Missing) → or_else m None ≡ m
  unfolding or_else
  or_nothing None = refl
  or_nothing (Some m) = refl

  or_assoc : (k m n : Option Missing) → or_else (or_else k m) n ≡ or_else k (or_else m n)
  unfolding or_else
  or_assoc None m n = refl
  or_assoc (Some k) m n = refl

  in_append : (ss us : List Step) → missing_in_steps rows (ss ++ us) ≡ or_else (missing_in_steps rows ss) (missing_in_steps rows us)
  unfolding missing_in_steps or_else
  in_append [] us = refl
  in_append (s ∷ ss) us = ap (or_else (missing_step rows s)) (in_append ss us) ∙ sym (or_assoc (missing_step rows s) (missing_in_steps rows ss) (missing_in_steps rows us))

  leaf_named : (l : Leaf) → missing_step rows (leaf_step l) ≡ missing_leaf rows l
  unfolding missing_step leaf_step
  leaf_named (number z) = refl
  leaf_named pi = refl
  leaf_named (variable v) = refl
  leaf_named (cell region index) = refl

  -- its steps name what the tree names
  pub steps_named : (t : Tree) → missing_in_steps rows (steps t) ≡ first_missing rows t
  unfolding steps first_missing missing_in_steps missing_step or_else
  steps_named (leaf l) = or_nothing (missing_step rows (leaf_step l)) ∙ leaf_named l
  steps_named (function_call f t) = in_append (steps t) (Step.Function f ∷ []) ∙ or_nothing (missing_in_steps rows (steps t)) ∙ steps_named t
  steps_named (prefixed o t) = in_append (steps t) (Step.Prefix o ∷ []) ∙ or_nothing (missing_in_steps rows (steps t)) ∙ steps_named t
  steps_named (infixed o l r) =
      in_append (steps l) (steps r ++ (Step.Infix o ∷ []))
      ∙ ap (or_else (missing_in_steps rows (steps l))) (in_append (steps r) (Step.Infix o ∷ []) ∙ or_nothing (missing_in_steps rows (steps r)))
      ∙ (λ i. or_else (steps_named l i) (steps_named r i))

-- ---- the bytes of a tape

-- a sound tape and a sheet that was read, and the step at which playing stops
pub record TapeStops (tape values : List ℕ) : Type 0 where
  pub rows : Rows
  pub sound : check tape ≡ Ok tt
  pub read : sheet values ≡ Lines.read rows
  pub stops : StopsAt rows (steps_in tape) []
  pub named : missing_on_tape tape values ≡ missing_in_steps rows (steps_in tape)

module _ (tape values : List ℕ) where
  sound_names : check tape ≡ Ok tt → missing_on_tape tape values ≡ missing_under tape (sheet values)
  unfolding missing_checked
  sound_names sound = ap (λ c. missing_checked c tape values) sound

  sheet_small : {why : Refusal} → sheet values ≡ Lines.refused why → number_of why ≤ 4
  unfolding WholeHas
  sheet_small e = sheet_most (subst (WholeBy OfSheet) e (sheet_numbers values))

  answered : Err Refusal.Incomplete ≡ play_call tape values → check tape ≡ Ok tt → Answered tape values → TapeStops tape values
  unfolding missing_under
  answered p sound (sheet_refused why e q) = absurd (omega (arith, sheet_small e, refused_ten (sym (p ∙ q))))
  answered p sound (value rows z e f q) = absurd (refused_valued (p ∙ q))
  answered p sound (need rows operation x y e f q) = absurd (omega (arith, refused_ten (sym (p ∙ q))))
  answered p sound (incomplete rows e f q) = record {
    rows = rows;
    sound = sound;
    read = e;
    stops = run_stops rows (steps_in tape) [] f;
    named = sound_names sound ∙ ap (missing_under tape) e;
  }

  -- "10 INCOMPLETE" of a tape: what is named is what playing stopped for
  pub refused_stops : play_call tape values ≡ Err Refusal.Incomplete → TapeStops tape values
  refused_stops p = go (from_anywhere tape values)
    where
      go : FromAnywhere tape values → TapeStops tape values
      go (refused_first step e q) = absurd (omega (arith, refused_ten (sym q ∙ p)))
      go (plays sound f a) = answered (sym p) sound a

  pub stopped_names : play_call tape values ≡ Err Refusal.Incomplete → Something (missing_on_tape tape values)
  stopped_names p = let h = refused_stops p in subst Something (sym h.named) (stops_some h.rows h.stops)

-- ---- what compiling wrote names what the expression names

read_names : (rows : Rows) (root : Tree) → Proper root → {bs : List ℕ} → bs ≡ tape root → missing_in_steps rows (steps_in bs) ≡ first_missing rows root
read_names rows root proper e = ap (λ bs. missing_in_steps rows (steps_in bs)) e ∙ ap (missing_in_steps rows) (steps_back (steps root) (steps_proper root proper)) ∙ steps_named rows root

under_names : (root : Tree) (store : State) → Proper root → {bs : List ℕ} → bs ≡ tape root → (w : Whole Rows Refusal) → missing_under bs w ≡ missing_of (with_sheet root store w)
unfolding missing_under missing_of with_sheet
under_names root store proper e (Lines.read rows) = read_names rows root proper e
under_names root store proper e (Lines.refused why) = refl

job_of : (room : ℕ) (list values : List ℕ) {root : Tree} {swaps : List Swap} {store : State} → listing false list (fresh room 0) ≡ accepted root swaps store
    → job room list values ≡ with_sheet root store (sheet values)
unfolding job after_listing
job_of room list values e = ap (λ x. after_listing Calls.refused x λ root swaps store. with_sheet root store (sheet values)) e

-- in a store of any room that accepts the expression
pub compiled_names : (room : ℕ) (list out : List ℕ) {bytes : ℕ} {out' : List ℕ} → compile_call room list out ≡ (Ok bytes, out') → (room' : ℕ) {root : Tree} {swaps : List Swap} {store : State}
    → listing false list (fresh room' 0) ≡ accepted root swaps store → (values : List ℕ) → missing_on_tape (take bytes out') values ≡ missing_in_job room' list values
compiled_names room list out {bytes} {out'} wrote room' {root} {store = store} read values =
    let s = written_from room list out wrote in
    let e : take bytes out' ≡ tape root = s.bytes_are ∙ ap tape (same_root false list room room' s.read read).0 in
    sound_names (take bytes out') values (written_sound room list out wrote)
    ∙ under_names root store (accepted_good false list room' read).proper e (sheet values)
    ∙ sym (ap missing_of (job_of room' list values read))
