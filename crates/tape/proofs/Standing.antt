-- The player has after each step the stack that the definition has, and so never more values than the expression is deep: what the loop of `play`
-- keeps. Assumes nothing.
use mathlib.Core.Path.{◌≡◌, refl, sym, ap, subst, ◌∙◌}
use mathlib.Core.List.{List, [], ◌∷◌, ◌++◌, map, append_assoc}
use Prim.Native.Nat.{ℕ, suc, ◌+◌, ◌*◌, ◌<◌, ◌≤◌, ◌-◌}
use native.Mathlib.Omega.{arith}
use lib.ListN.{length, get_or, set, take, drop, length-append, length-set}
use lib.Seq.{take_at}
use Rattle.std.specs.Prelude.{Ok}
use Rattle.complex.specs.declared.Complex.{Complex}
use Rattle.expression.specs.Trees.{Tree, size, depth}
use Rattle.expression.specs.Limits.{Proper}
use Rattle.sheet.specs.declared.Counts.{Counts}
use Rattle.sheet.specs.Rows.{Rows}
use Rattle.sheet.specs.Table.{rows_of, Held}
use Rattle.evaluation.specs.declared.Evaluation.{Evaluation}
use Rattle.steps.specs.declared.Step.{Step}
use Rattle.steps.specs.declared.Fields.{Fields}
use Rattle.steps.specs.Steps.{fields_in, step_of}
use Rattle.tape.specs.Tapes.{tape, count, steps_in, takes, check}
use Rattle.tape.specs.Playing.{stands, and_then, step, run}
use Rattle.tape.specs.Run.{filler, stack_of, value_of}
use Rattle.memory.specs.Marks.{noted}
use Rattle.tape.specs.Using.{used_in_run}
use Rattle.tape.proofs.Checking.{all_left}
use Rattle.tape.proofs.Marking.{Marking}
use Rattle.tape.proofs.Prefixes.{AtMost, run_append, tape_prefix}
use Rattle.tape.proofs.Stacks.{stack_length, Left, left_steps, Same, left_begins, next_left, player_leaves}

-- the steps so far, which with those that are left are the tape's, and what they leave: the player's values
pub record Stood (rows : Rows) (bs : List ℕ) (i : ℕ) (xs : List Complex) (depth : ℕ) : Type 0 where
  pub passed : List Step
  pub as_many : length passed ≡ i
  pub whole : passed ++ left_steps bs i ≡ steps_in bs
  pub stack : run rows passed [] ≡ stands (stack_of xs depth)

module _ {rows : Rows} {bs : List ℕ} {i depth : ℕ} {xs : List Complex} (d : Stood rows bs i xs depth) where
  -- "each step's stack is defined": after i steps of the tape the player has the definition's stack
  pub after_steps : run rows (take i (steps_in bs)) [] ≡ stands (stack_of xs depth)
  after_steps = ap (λ ss. run rows (take i ss) []) (sym d.whole) ∙ ap (λ ss. run rows ss []) (take_at d.passed (left_steps bs i) i d.as_many) ∙ d.stack

  -- what is left gives what the whole tape gives
  pub stood_same : Same rows bs i xs depth
  unfolding and_then
  stood_same =
      sym (ap (λ ss. run rows ss []) (sym d.whole) ∙ run_append rows d.passed (left_steps bs i) [] ∙ ap (λ o. and_then o (λ stack. run rows (left_steps bs i) stack)) d.stack)

-- "The stack never holds more than the expression's depth", of the player's own
pub no_more : (rows : Rows) (t : Tree) → Proper t → depth t ≤ 64 → size t ≤ 512 → (i values : ℕ) (xs : List Complex) → Stood rows (tape t) i xs values → values ≤ depth t
no_more rows t p d l i values xs s =
    let a : length (stack_of xs values) ≤ depth t = subst (AtMost (depth t)) (after_steps s) (tape_prefix rows t p d l i) in
    omega (arith, a, stack_length xs values)

pub stood_begins : (rows : Rows) (bs : List ℕ) (xs : List Complex) → Stood rows bs 0 xs 0
unfolding run stack_of
stood_begins rows bs xs = record { passed = []; as_many = refl; whole = ap (map step_of) (all_left (count bs) bs); stack = refl }

-- one step more, which the player has done
stood_on : {rows : Rows} {bs : List ℕ} {i depth depth' : ℕ} {xs xs' : List Complex} {s : Step} → Stood rows bs i xs depth → left_steps bs i ≡ s ∷ left_steps bs (i + 1)
    → step rows s (stack_of xs depth) ≡ stands (stack_of xs' depth') → Stood rows bs (i + 1) xs' depth'
unfolding run and_then
stood_on {rows} {bs} {i} {depth} {xs = xs} {s = s} d next left = record {
  passed = d.passed ++ (s ∷ []);
  as_many = length-append d.passed (s ∷ []) ∙ ap (λ n. n + 1) d.as_many;
  whole = append_assoc d.passed (s ∷ []) (left_steps bs (i + 1)) ∙ ap (λ ss. d.passed ++ ss) (sym next) ∙ d.whole;
  stack =
      run_append rows d.passed (s ∷ []) []
      ∙ ap (λ o. and_then o (λ stack. run rows (s ∷ []) stack)) d.stack
      ∙ ap (λ o. and_then o (λ stack. stands stack)) left;
}

module _ {bs : List ℕ} {i depth : ℕ} (h : Left bs i depth) (l : i < count bs) {f : Fields} {s : Step} (e : f ≡ fields_in (drop (24 * i) bs)) (t : s ≡ step_of f) {k : ℕ} (w : k ≡ takes s)
    (rows : Rows) (xs : List Complex) (d : Stood rows bs i xs depth) (y : Complex) {value : Evaluation} (q : suc (depth - k) < 64 → y ≡ get_or xs (suc (depth - k)) filler)
    (v : value ≡ value_of rows s (get_or xs (depth - k) filler) y) where
  pub player_stands : {z : Complex} → length xs ≡ 64 → value ≡ Evaluation.Value z → Stood rows bs (i + 1) (set xs (depth - k) z) (depth - k + 1)
  player_stands long p = stood_on d (next_left h l e t) (player_leaves h l e t w rows xs (stood_same d) y q v long p)

-- ---- the loop

pub record Going (table : List ℕ) (rows : Counts) (bs : List ℕ) (i : ℕ) (xs : List Complex) (depth : ℕ) (marks₀ marks : List ℕ) : Type 0 where
  pub left : Left bs i depth
  pub long : length xs ≡ 64
  pub stood : Held table rows → Stood (rows_of table rows) bs i xs depth
  pub marking : Held table rows → Marking (rows_of table rows) bs i xs depth marks₀ marks

pub played_begins : (table : List ℕ) (rows : Counts) (bs marks : List ℕ) {xs : List Complex} → check bs ≡ Ok tt → length xs ≡ 64 → Going table rows bs 0 xs 0 marks marks
unfolding stack_of
played_begins table rows bs marks {xs} e l = record {
  left = left_begins bs e;
  long = l;
  stood = λ h. stood_begins (rows_of table rows) bs xs;
  marking = λ h. record { comes = ap (λ fs. noted (used_in_run (rows_of table rows) (map step_of fs) []) marks) (all_left (count bs) bs) };
}

pub player_goes : {table : List ℕ} {rows : Counts} {bs : List ℕ} {i j depth depth' : ℕ} {xs : List Complex} {marks₀ marks marks' : List ℕ} (slot : ℕ) (z : Complex) → Going table rows bs i xs depth marks₀ marks → Left bs j depth'
    → (Held table rows → Stood (rows_of table rows) bs j (set xs slot z) depth') → (Held table rows → Marking (rows_of table rows) bs j (set xs slot z) depth' marks₀ marks')
    → Going table rows bs j (set xs slot z) depth' marks₀ marks'
player_goes {xs = xs} slot z g l s m = record { left = l; long = length-set xs slot z ∙ g.long; stood = s; marking = m }
