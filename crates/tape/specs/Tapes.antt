-- The tape of an expression, when a tape is sound, and which of two is picked, by 01's "The tape". Definitions only.
use Rattle.std.specs.Prelude.{◌≡◌, ℕ, zero, suc, ◌/◌, ◌%◌, ◌-◌, List, [], ◌∷◌, ◌++◌, map, Bool, cond, ◌&&◌, length, drop, ltb, eqb, Result, Err, Ok}
use Rattle.std.specs.Borrow.{Bor}
use Rattle.expression.specs.declared.refusal.Refusal.{Refusal}
use Rattle.expression.specs.Trees.{Tree, Leaf, number, pi, variable, cell, leaf, function_call, prefixed, infixed, size}
use Rattle.writing.specs.Order.{fitted}
use Rattle.steps.specs.declared.Step.{Step}
use Rattle.steps.specs.declared.Fields.{Fields}
use Rattle.steps.specs.Steps.{step_bytes, within, tape_of, fields_in, known, step_of}
use Rattle.tape.specs.declared.Picked.{Picked}

-- ---- "One step a node visit in evaluation order": depth first, left before right, an operation after its operands

unfoldable pub leaf_step : Leaf → Step
leaf_step (number z) = Step.Number z
leaf_step pi = Step.Pi
leaf_step (variable v) = Step.Variable v
leaf_step (cell region index) = Step.Memory region index

unfoldable pub steps : Tree → List Step
steps (leaf l) = leaf_step l ∷ []
steps (function_call f t) = steps t ++ (Step.Function f ∷ [])
steps (prefixed o t) = steps t ++ (Step.Prefix o ∷ [])
steps (infixed o l r) = steps l ++ (steps r ++ (Step.Infix o ∷ []))

-- "size over 512", "1 to 512 whole steps"
abbrev pub most_steps : ℕ
most_steps = 512

abbrev pub tape : Tree → List ℕ
tape t = tape_of (steps t)

-- "14 LONG_TAPE: size over 512", then 13
unfoldable pub compiled : Tree → (out : List ℕ) → Result ℕ Refusal × List ℕ
compiled t out =
    cond (ltb most_steps (size t)) (Err Refusal.LongTape, out)
    (fitted (tape t) out)

-- ---- soundness

-- the fields of n steps
unfoldable pub fields_of_all : (n : ℕ) → List ℕ → List Fields
fields_of_all zero bs = []
fields_of_all (suc n) bs = fields_in bs ∷ fields_of_all n (drop step_bytes bs)

abbrev pub count : List ℕ → ℕ
count bs = length bs / step_bytes

-- the steps that a tape is
abbrev pub steps_in : List ℕ → List Step
steps_in bs = map step_of (fields_of_all (count bs) bs)

-- "1 to 512 whole steps"
abbrev pub whole : List ℕ → Bool
whole bs = eqb (length bs % step_bytes) 0 && within most_steps (count bs)

-- how many values a step takes from the stack; each step leaves one
unfoldable pub takes : Step → ℕ
takes (Step.Number z) = 0
takes Step.Pi = 0
takes (Step.Variable v) = 0
takes (Step.Memory region index) = 0
takes (Step.Function f) = 1
takes (Step.Prefix o) = 1
takes (Step.Infix o) = 2

-- "nor passes 64"
abbrev pub most_values : ℕ
most_values = 64

-- how many values the stack has after a step
abbrev pub after : (values : ℕ) → Step → ℕ
after values s = suc (values - takes s)

-- "known codes, unused fields zero, the one NaN, never pops an empty stack nor passes 64"
abbrev pub allowed : (values : ℕ) → Fields → Bool
allowed values f = known f && (ltb (takes (step_of f)) (suc values) && ltb (after values (step_of f)) (suc most_values))

-- "and ends with one value": "a wrong final count names the step past the last"
unfoldable pub check_from : (step values : ℕ) → List Fields → Result (Unit {0}) Refusal
check_from step values [] = cond (eqb values 1) (Ok tt) (Err (Refusal.BadTape step))
check_from step values (f ∷ fs) = cond (allowed values f) (check_from (suc step) (after values (step_of f)) fs) (Err (Refusal.BadTape step))

-- "Length faults name step 0"
unfoldable pub check : List ℕ → Result (Unit {0}) Refusal
check bs = cond (whole bs) (check_from 0 0 (fields_of_all (count bs) bs)) (Err (Refusal.BadTape 0))

-- ---- "the one with fewer steps, the first at a tie. An unsound one loses; if neither is sound it is the empty part of the first"

unfoldable pub better : (a b : Result (Unit {0}) Refusal) (m n : ℕ) → Picked
better (Ok u) (Ok v) m n = cond (ltb n m) Picked.Second Picked.First
better (Ok u) (Err why) m n = Picked.First
better (Err why) (Ok u) m n = Picked.Second
better (Err why) (Err why') m n = Picked.Nothing

abbrev pub picked : (a b : List ℕ) → Picked
picked a b = better (check a) (check b) (count a) (count b)

unfoldable pub part_of : Picked → (a b : List ℕ) → List ℕ
part_of Picked.First a b = a
part_of Picked.Second a b = b
part_of Picked.Nothing a b = []

abbrev pub pick : (a b : List ℕ) → List ℕ
pick a b = part_of (picked a b) a b

-- "hands back, as a part of the caller's own": the very slice that was lent, or a part that begins where the first does
abbrev pub Own : (which : Picked) (a b r : Bor (List ℕ)) → Type 0
Own which a b r = (which ≡ Picked.First → r ≡ a) × (which ≡ Picked.Second → r ≡ b) × (which ≡ Picked.Nothing → r.ref_ptr ≡ a.ref_ptr)
