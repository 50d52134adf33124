-- The machine's count agrees with the definition's: a word that stays at its largest counts the lesser of the calls and that largest word, whatever
-- is simplified, and the calls of a run from a count of 0 stay far below it. Assumes nothing.
use mathlib.Core.Path.{◌≡◌, refl, sym, ap, subst, ◌∙◌}
use Prim.Native.Nat.{ℕ, suc, ◌+◌, ◌≤◌, min}
use native.Mathlib.Omega.{arith}
use native.Mathlib.Decide.{dec_lt}
use borrow.Author.Tests.{lt-ltb}
use Rattle.memory.specs.Marks.{noted}
use Rattle.expression.specs.declared.refusal.Refusal.{Refusal}
use Rattle.expression.specs.Trees.{Tree}
use Rattle.store.specs.Storing.{Tally, State, state, Answer, gives, refused}
use Rattle.sheet.specs.Rows.{Rows}
use Rattle.tasks.specs.Deciding.{one_more}
use Rattle.simplification.specs.Simplifying.{simplify_by, simplify}
use Rattle.simplification.specs.Bounds.{most_calls}
use Rattle.simplification.proofs.Counting.{count, Below, bounded}
use Rattle.simplification.proofs.Tallying.{Beside, beside, Both, both_give, both_refuse, Passing, passed}

abbrev pub largest_word : ℕ
largest_word = 18446744073709551615

-- what a word has of a count
abbrev tally_in_word : Tally → Tally
tally_in_word tally = record { calls = min tally.calls largest_word; marks = tally.marks }

unfoldable pub in_word : State → State
in_word (state room stored kept tally) = state room stored kept (tally_in_word tally)

unfoldable pub answer_in_word : Answer → Answer
answer_in_word (gives t s) = gives t (in_word s)
answer_in_word (refused why s) = refused why (in_word s)

-- ---- the machine counts in its word as the definition counts without end

one_more_lem : (n : ℕ) → one_more (min n largest_word) ≡ min (suc n) largest_word
unfolding one_more
one_more_lem n = elim (dec_lt n largest_word) [
  | yes l ↦ let e : min n largest_word ≡ n = omega arith in rw (e, lt-ltb n largest_word l) (omega arith)
  | no g ↦ let e : min n largest_word ≡ largest_word = omega arith in rw e (omega arith)
]

-- a tally of the machine, and one of the definition
InWord : (machine endless : Tally) → Type 0
InWord a b = a ≡ tally_in_word b

counts_in_word : Passing InWord one_more suc
unfolding InWord
counts_in_word = record {
  counts = λ a b e. ap (λ c. record { calls = one_more c.calls; marks = c.marks }) e ∙ (λ i. record { calls = one_more_lem b.calls i; marks = b.marks });
  notes = λ js a b e. ap (λ c. record { calls = c.calls; marks = noted js c.marks }) e;
}

beside_itself : (s : State) → Beside InWord (in_word s) s
unfolding in_word InWord
beside_itself (state room stored kept tally) = beside room stored kept _ tally refl

same_in_word : {a b : Answer} → Both InWord a b → a ≡ answer_in_word b
unfolding in_word answer_in_word InWord
same_in_word (both_give t s s' (beside room stored kept a b e)) = ap (λ c. gives t (state room stored kept c)) e
same_in_word (both_refuse why s s' (beside room stored kept a b e)) = ap (λ c. refused why (state room stored kept c)) e

-- the machine's run is the definition's, but for a count beyond the largest word
pub machine_counts : (R : Rows) (limit : ℕ) (t : Tree) (s : State) → simplify_by one_more R limit t (in_word s) ≡ answer_in_word (simplify R limit t s)
machine_counts R limit t s = same_in_word (passed InWord one_more suc counts_in_word R limit t (in_word s) s (beside_itself s))

-- ---- which is never reached

pub small_in_word : (s : State) → count s ≤ largest_word → in_word s ≡ s
unfolding count in_word
small_in_word (state room stored kept tally) h =
    let e : min tally.calls largest_word ≡ tally.calls = omega (arith, h) in
    ap (λ n. state room stored kept (record { calls = n; marks = tally.marks })) e

pub data Agreed : (machine endless : Answer) → Type 0 where
  given : (t : Tree) (s : State) → Agreed (gives t s) (gives t s)
  refusing : (why : Refusal) (s s' : State) → Agreed (refused why s) (refused why s')

-- from a count that leaves room for the calls of this limit, both give the same tree and the same state, or the same refusal
pub machine_agrees : (R : Rows) (limit : ℕ) (t : Tree) (s : State) → count s + most_calls limit ≤ largest_word → Agreed (simplify_by one_more R limit t s) (simplify R limit t s)
unfolding Below answer_in_word
machine_agrees R limit t s h =
    subst (λ a. Agreed a (simplify R limit t s)) (sym (machine_counts R limit t s) ∙ ap (simplify_by one_more R limit t) (small_in_word s (omega (arith, h)))) (go (simplify R limit t s) (bounded R limit t s))
  where
    go : (a : Answer) → Below (count s + most_calls limit) a → Agreed (answer_in_word a) a
    go (gives u s') b = subst (λ x. Agreed (gives u x) (gives u s')) (sym (small_in_word s' (omega (arith, b, h)))) (given u s')
    go (refused why s') b = refusing why (in_word s') s'
