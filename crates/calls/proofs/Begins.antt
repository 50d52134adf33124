-- What simplifying writes begins as a node line does, and so as no other line that a program prints. Assumes nothing.
use mathlib.Core.Path.{◌≡◌, sym, subst}
use mathlib.Core.Bool.{Bool, true, false, cond}
use mathlib.Core.List.{List, [], ◌∷◌, ◌++◌}
use Prim.Native.Nat.{ℕ}
use native.Mathlib.Omega.{arith}
use lib.Dec.{ltb}
use lib.ListN.{length, get_or, take}
use lib.Seq.{take-append_seam}
use Rattle.std.specs.Prelude.{Result, Ok, Err}
use Rattle.expression.specs.declared.refusal.Refusal.{Refusal}
use Rattle.expression.specs.Trees.{Tree, number, pi, variable, cell, leaf, function_call, prefixed, infixed}
use Rattle.text.specs.Writing.{line}
use Rattle.store.specs.Storing as Storing
use Rattle.store.specs.Storing.{Answer, gives}
use Rattle.writing.specs.Order.{order, leaf_fields, line_fields, text, text_of, written}
use Rattle.tasks.specs.Tasks.{is_allowed}
use Rattle.simplification.specs.Simplifying.{simplify}
use Rattle.calls.specs.declared.Simplified.{Simplified}
use Rattle.calls.specs.Calls as Calls
use Rattle.calls.specs.Calls.{Job, ready, job, written_answer, with_calls, calls_in, simplify_job, simplify_call}

-- not with r, the first letter of `refused` and of `real`
abbrev pub NotR : List ℕ → Type 0
NotR bs = get_or bs 0 0 ≡ 114 → ⊥

line_begins : (lines : List Tree) (t : Tree) (rest : List ℕ) → NotR (line (line_fields lines t) ++ rest)
unfolding line_fields leaf_fields line
line_begins lines (leaf (number z)) rest e = omega (arith, e)
line_begins lines (leaf pi) rest e = omega (arith, e)
line_begins lines (leaf (variable v)) rest e = omega (arith, e)
line_begins lines (leaf (cell region index)) rest e = omega (arith, e)
line_begins lines (function_call f t) rest e = omega (arith, e)
line_begins lines (prefixed o t) rest e = omega (arith, e)
line_begins lines (infixed o l r) rest e = omega (arith, e)

text_begins : (lines ts : List Tree) → NotR (text lines ts)
unfolding text
text_begins lines [] e = omega (arith, e)
text_begins lines (t ∷ ts) e = line_begins lines t (text lines ts) e

-- the bytes that were written
WrittenNotR : Result ℕ Refusal → List ℕ → Type 0
WrittenNotR (Ok bytes) out = NotR (take bytes out)
WrittenNotR (Err why) out = Unit {0}

either_written : (b : Bool) (x y : Result ℕ Refusal × List ℕ) → WrittenNotR x.0 x.1 → WrittenNotR y.0 y.1 → WrittenNotR (cond b x y).0 (cond b x y).1
either_written true x y p q = p
either_written false x y p q = q

answer_begins : (out : List ℕ) (a : Answer) → WrittenNotR (written_answer out a).0 (written_answer out a).1
unfolding written_answer written WrittenNotR
answer_begins out (Storing.refused why s) = tt
answer_begins out (gives t s) =
    either_written (ltb 1024 (length (order t))) _ _ tt
    (either_written (ltb (length out) (length (text_of t))) _ _ tt (subst NotR (sym (take-append_seam (text_of t) _)) (text_begins (order t) (order t))))

SimplifiedNotR : Result Simplified Refusal → List ℕ → Type 0
SimplifiedNotR (Ok a) out = NotR (take a.bytes out)
SimplifiedNotR (Err why) out = Unit {0}

counted_begins : (calls : ℕ) (w : Result ℕ Refusal) (out : List ℕ) → WrittenNotR w out → SimplifiedNotR (with_calls calls w) out
unfolding with_calls WrittenNotR SimplifiedNotR
counted_begins calls (Ok bytes) out p = p
counted_begins calls (Err why) out p = tt

job_begins : (limit : ℕ) (out : List ℕ) (j : Job) → SimplifiedNotR (simplify_job limit out j).0 (simplify_job limit out j).1
unfolding simplify_job SimplifiedNotR
job_begins limit out (Calls.refused why) = tt
job_begins limit out (ready root store rows) =
    let a = simplify rows limit root store in
    counted_begins (calls_in a) (written_answer out a).0 (written_answer out a).1 (answer_begins out a)

pub simplified_begins : (room limit : ℕ) (list values out : List ℕ) {bytes calls : ℕ}
    → (simplify_call room limit list values out).0 ≡ Ok (record { bytes = bytes; calls = calls }) → NotR (take bytes (simplify_call room limit list values out).1)
unfolding simplify_call SimplifiedNotR
simplified_begins room limit list values out e =
    subst (λ r. SimplifiedNotR r (simplify_call room limit list values out).1) e
    (go (is_allowed limit) (simplify_job limit out (job room list values)) (job_begins limit out (job room list values)))
  where
    go : (b : Bool) (x : Result Simplified Refusal × List ℕ) → SimplifiedNotR x.0 x.1
        → SimplifiedNotR (cond b x (Err Refusal.BadLimit, out)).0 (cond b x (Err Refusal.BadLimit, out)).1
    go true x p = p
    go false x p = tt
