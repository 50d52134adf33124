-- The player's array as a stack, and what a step leaves of it. Assumes nothing.
use mathlib.Core.Path.{◌≡◌, refl, sym, ap, subst, ◌∙◌}
use mathlib.Core.List.{List, [], ◌∷◌, map}
use mathlib.Core.Logic.{⊎_elim}
use Prim.Native.Nat.{ℕ, zero, suc, ◌+◌, ◌*◌, ◌<◌, ◌≤◌, ◌-◌}
use native.Mathlib.Nat.{sub-zero}
use native.Mathlib.Numerals.{add-one}
use native.Mathlib.Omega.{arith}
use lib.ListN.{length, get_or, set, drop}
use borrow.Author.Tests.{lt-ltb}
use Rattle.std.specs.Prelude.{Ok}
use Rattle.complex.specs.declared.Complex.{Complex}
use Rattle.sheet.specs.Rows.{Rows, missing}
use Rattle.evaluation.specs.declared.Evaluation.{Evaluation}
use Rattle.steps.specs.declared.Step.{Step}
use Rattle.steps.specs.declared.Fields.{Fields}
use Rattle.steps.specs.Steps.{fields_in, step_of}
use Rattle.tape.specs.Tapes.{fields_of_all, count, steps_in, takes, after, check_from, check}
use Rattle.tape.specs.Playing.{Outcome, stands, push, and_then, result, step, run, played}
use Rattle.tape.specs.Run.{filler, stack_of, value_of, seen_value}
use Rattle.tape.proofs.Ways.{known_some, Lacks, missing_lacks}
use Rattle.tape.proofs.Checking.{on_sound, one_left, remaining, none_left, all_left, sound_is}

-- ---- the array

pub stack_length : (xs : List Complex) (k : ℕ) → length (stack_of xs k) ≡ k
unfolding stack_of
stack_length xs zero = refl
stack_length xs (suc k) = ap suc (stack_length xs k)

get_set : (xs : List Complex) (k : ℕ) (z d : Complex) → k < length xs → get_or (set xs k z) k d ≡ z
get_set [] k z d l = absurd (omega (arith, l))
get_set (x ∷ xs) zero z d l = refl
get_set (x ∷ xs) (suc k) z d l = get_set xs k z d (omega (arith, l))

get_below : (xs : List Complex) (k j : ℕ) (z d : Complex) → j < k → get_or (set xs k z) j d ≡ get_or xs j d
get_below [] k j z d l = refl
get_below (x ∷ xs) zero j z d l = absurd (omega (arith, l))
get_below (x ∷ xs) (suc k) zero z d l = refl
get_below (x ∷ xs) (suc k) (suc j) z d l = get_below xs k j z d (omega (arith, l))

stack_below : (xs : List Complex) (k j : ℕ) (z : Complex) → j ≤ k → stack_of (set xs k z) j ≡ stack_of xs j
unfolding stack_of
stack_below xs k zero z l = refl
stack_below xs k (suc j) z l = rw (get_below xs k j z filler l, stack_below xs k j z (omega (arith, l))) refl

-- a value in the slot above the others
pub stack_push : (xs : List Complex) (k : ℕ) (z : Complex) → k < length xs → stack_of (set xs k z) (suc k) ≡ z ∷ stack_of xs k
unfolding stack_of
stack_push xs k z l = rw (get_set xs k z filler l, stack_below xs k k z (omega arith)) refl

-- ---- a step on the array

pub step_is : (rows : Rows) (s : Step) (xs : List Complex) (depth : ℕ) → takes s ≤ depth
    → step rows s (stack_of xs depth) ≡ push (value_of rows s (get_or xs (depth - takes s) filler) (get_or xs (suc (depth - takes s)) filler)) (stack_of xs (depth - takes s))
unfolding takes step value_of stack_of
step_is rows (Step.Number z) xs depth l = rw (sub-zero depth) refl
step_is rows Step.Pi xs depth l = rw (sub-zero depth) refl
step_is rows (Step.Variable v) xs depth l = rw (sub-zero depth) refl
step_is rows (Step.Memory region index) xs depth l = rw (sub-zero depth) refl
step_is rows (Step.Function f) xs zero l = absurd (omega (arith, l))
step_is rows (Step.Function f) xs (suc k) l =
    let p : suc k - 1 ≡ k = omega arith in
    rw p refl
step_is rows (Step.Prefix o) xs zero l = absurd (omega (arith, l))
step_is rows (Step.Prefix o) xs (suc k) l =
    let p : suc k - 1 ≡ k = omega arith in
    rw p refl
step_is rows (Step.Infix o) xs zero l = absurd (omega (arith, l))
step_is rows (Step.Infix o) xs (suc zero) l = absurd (omega (arith, l))
step_is rows (Step.Infix o) xs (suc (suc k)) l =
    let p : suc (suc k) - 2 ≡ k = omega arith in
    rw p refl

-- the second value is looked at only by a step that takes two, and then its slot is below the last
pub value_second : (rows : Rows) (s : Step) (x y y' : Complex) → (takes s ≡ 2 → y ≡ y') → value_of rows s x y ≡ value_of rows s x y'
unfolding takes value_of
value_second rows (Step.Number z) x y y' p = refl
value_second rows Step.Pi x y y' p = refl
value_second rows (Step.Variable v) x y y' p = refl
value_second rows (Step.Memory region index) x y y' p = refl
value_second rows (Step.Function f) x y y' p = refl
value_second rows (Step.Prefix o) x y y' p = refl
value_second rows (Step.Infix o) x y y' p = ap (value_of rows (Step.Infix o) x) (p refl)

-- ---- the run that is left

-- what is left of a sound tape is sound
pub record Left (bs : List ℕ) (i depth : ℕ) : Type 0 where
  pub inside : i ≤ count bs
  pub few : depth ≤ 64
  pub long : count bs ≤ 512
  pub sound : check_from i depth (fields_of_all (count bs - i) (drop (24 * i) bs)) ≡ Ok tt

abbrev pub left_steps : List ℕ → ℕ → List Step
left_steps bs i = map step_of (fields_of_all (count bs - i) (drop (24 * i) bs))

-- and gives what the whole tape gives
abbrev pub Same : Rows → List ℕ → ℕ → List Complex → ℕ → Type 0
Same rows bs i xs depth = run rows (left_steps bs i) (stack_of xs depth) ≡ run rows (steps_in bs) []

pub left_begins : (bs : List ℕ) → check bs ≡ Ok tt → Left bs 0 0
left_begins bs e =
    let s = sound_is bs e in
    record { inside = omega arith; few = omega arith; long = s.few; sound = ap (check_from 0 0) (all_left (count bs) bs) ∙ s.steps }

-- the step that comes next
module _ {bs : List ℕ} {i depth : ℕ} (h : Left bs i depth) (l : i < count bs) {f : Fields} {s : Step} (e : f ≡ fields_in (drop (24 * i) bs)) (t : s ≡ step_of f) where
  rest : List Fields
  rest = fields_of_all (count bs - (i + 1)) (drop (24 * (i + 1)) bs)

  next_is : check_from i depth (f ∷ rest) ≡ Ok tt
  unfolding rest
  next_is = rw e (ap (check_from i depth) (sym (remaining (count bs) i bs l)) ∙ h.sound)

  -- it finds what it takes, and leaves no more than 64
  pub record Taken : Type 0 where
    pub enough : takes s ≤ depth
    pub room : depth - takes s < 64

  pub taken : Taken
  taken =
      let a = (on_sound i depth f rest next_is).0 in
      let p : takes s ≡ takes (step_of f) = ap takes t in
      record { enough = omega (arith, p, a.enough); room = omega (arith, p, a.room, a.counted) }

  -- it is known
  pub some_opcode : 0 < f.opcode
  some_opcode = known_some f (on_sound i depth f rest next_is).0.known

  pub left_on : Left bs (i + 1) (depth - takes s + 1)
  unfolding rest
  left_on =
      let a = on_sound i depth f rest next_is in
      let p : depth - takes s + 1 ≡ after depth (step_of f) = omega (arith, ap takes t) in
      record { inside = omega (arith, l); few = omega (arith, p, a.0.room); long = h.long; sound = (λ j. check_from (add-one i j) (p j) rest) ∙ a.1 }

  pub next_left : left_steps bs i ≡ s ∷ left_steps bs (i + 1)
  next_left = ap (map step_of) (remaining (count bs) i bs l) ∙ (λ j. step_of (sym e j) ∷ left_steps bs (i + 1)) ∙ λ j. sym t j ∷ left_steps bs (i + 1)

  module _ (rows : Rows) (xs : List Complex) (r : Same rows bs i xs depth) where
    abbrev slot : ℕ
    slot = depth - takes s

    -- the step's value is put on the stack, and the rest runs
    pub now_runs : {value : Evaluation} → value ≡ value_of rows s (get_or xs slot filler) (get_or xs (suc slot) filler)
        → and_then (push value (stack_of xs slot)) (λ stack. run rows (left_steps bs (i + 1)) stack) ≡ run rows (steps_in bs) []
    unfolding run
    now_runs {value} p =
        let q : push value (stack_of xs slot) ≡ step rows s (stack_of xs depth) = ap (λ v. push v (stack_of xs slot)) p ∙ sym (step_is rows s xs depth taken.enough) in
        ap (λ o. and_then o (λ stack. run rows (left_steps bs (i + 1)) stack)) q ∙ ap (λ ss. run rows ss (stack_of xs depth)) (sym next_left) ∙ r

    -- its slots as the player reads them
    pub value_read : {x y : Complex} {value : Evaluation} → x ≡ get_or xs slot filler → (suc slot < 64 → y ≡ get_or xs (suc slot) filler) → value ≡ value_of rows s x y
        → value ≡ value_of rows s (get_or xs slot filler) (get_or xs (suc slot) filler)
    value_read {x} {y} p q v = v ∙ value_second rows s x y (get_or xs (suc slot) filler) (λ two. q (omega (arith, two, taken.enough, h.few))) ∙ ap (λ a. value_of rows s a (get_or xs (suc slot) filler)) p

-- ---- what the player answers

stops : (w : Evaluation) (stack : List Complex) (next : List Complex → Outcome) → Lacks w → w ≡ result (and_then (push w stack) next)
unfolding push and_then result
stops (Evaluation.Value z) stack next k = absurd (⊎_elim (λ e. omega (arith, e)) (λ e. omega (arith, e)) k)
stops Evaluation.Incomplete stack next k = refl
stops (Evaluation.Need operation x y) stack next k = refl

pub play_stops : (rows : Rows) (bs : List ℕ) (w : Evaluation) (stack : List Complex) (next : List Complex → Outcome) → and_then (push w stack) next ≡ run rows (steps_in bs) [] → Lacks w
    → w ≡ played rows bs
play_stops rows bs w stack next p k = stops w stack next k ∙ ap result p

-- a step of the player, who has read how many values it takes
module _ {bs : List ℕ} {i depth : ℕ} (h : Left bs i depth) (l : i < count bs) {f : Fields} {s : Step} (e : f ≡ fields_in (drop (24 * i) bs)) (t : s ≡ step_of f) {k : ℕ} (w : k ≡ takes s) where
  pub record Slot : Type 0 where
    pub enough : k ≤ depth
    pub room : depth - k < 64

  pub slot_is : Slot
  slot_is =
      let a = taken h l e t in
      record { enough = omega (arith, w, a.enough); room = omega (arith, w, a.room) }

  pub player_left : Left bs (i + 1) (depth - k + 1)
  player_left = subst (λ j. Left bs (i + 1) (depth - j + 1)) (sym w) (left_on h l e t)

  module _ (rows : Rows) (xs : List Complex) (r : Same rows bs i xs depth) (y : Complex) {value : Evaluation} (q : suc (depth - k) < 64 → y ≡ get_or xs (suc (depth - k)) filler)
      (v : value ≡ value_of rows s (get_or xs (depth - k) filler) y) where
    pub reads : value ≡ value_of rows s (get_or xs (depth - takes s) filler) (get_or xs (suc (depth - takes s)) filler)
    reads =
        let a : get_or xs (depth - k) filler ≡ get_or xs (depth - takes s) filler = ap (λ j. get_or xs (depth - j) filler) w in
        let b : suc (depth - takes s) < 64 → y ≡ get_or xs (suc (depth - takes s)) filler = subst (λ j. suc (depth - j) < 64 → y ≡ get_or xs (suc (depth - j)) filler) w q in
        value_read h l e t rows xs r a b v

    runs : and_then (push value (stack_of xs (depth - k))) (λ stack. run rows (left_steps bs (i + 1)) stack) ≡ run rows (steps_in bs) []
    runs =
        ap (λ j. and_then (push value (stack_of xs (depth - j))) (λ stack. run rows (left_steps bs (i + 1)) stack)) w
        ∙ now_runs h l e t rows xs r reads

    -- what the step leaves, where it has a value
    pub player_leaves : {z : Complex} → length xs ≡ 64 → value ≡ Evaluation.Value z → step rows s (stack_of xs depth) ≡ stands (stack_of (set xs (depth - k) z) (depth - k + 1))
    unfolding push
    player_leaves {z} long p =
        let o : length (stack_of xs (depth - k)) < 64 = omega (arith, stack_length xs (depth - k), slot_is.room) in
        step_is rows s xs depth (taken h l e t).enough
        ∙ ap (λ v. push v (stack_of xs (depth - takes s))) (sym reads)
        ∙ (λ j. push (p j) (stack_of xs (depth - sym w j)))
        ∙ (rw (lt-ltb (length (stack_of xs (depth - k))) 64 o) refl)
        ∙ ap stands (sym (ap (stack_of (set xs (depth - k) z)) (add-one (depth - k)) ∙ stack_push xs (depth - k) z (omega (arith, long, slot_is.room))))

    pub player_stops : seen_value (value_of rows s (get_or xs (depth - k) filler) y) ≡ missing → value ≡ played rows bs
    player_stops m = play_stops rows bs value _ _ runs (missing_lacks value (ap seen_value v ∙ m))

-- at the end one value is left
pub play_ends : (rows : Rows) (bs : List ℕ) (i depth : ℕ) (xs : List Complex) {z : Complex} → Left bs i depth → count bs ≤ i → Same rows bs i xs depth → z ≡ get_or xs 0 filler
    → Evaluation.Value z ≡ played rows bs
unfolding run result stack_of check_from
play_ends rows bs i depth xs {z} h l r e =
    let p : check_from i depth [] ≡ Ok tt = ap (check_from i depth) (sym (none_left (count bs) i bs l)) ∙ h.sound in
    let d : depth ≡ 1 = one_left i depth p in
    let q : stands (stack_of xs depth) ≡ run rows (steps_in bs) [] = ap (λ fs. run rows (map step_of fs) (stack_of xs depth)) (sym (none_left (count bs) i bs l)) ∙ r in
    ap Evaluation.Value e ∙ ap (λ k. result (stands (stack_of xs k))) (sym d) ∙ ap result q
