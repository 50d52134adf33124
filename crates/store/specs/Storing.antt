-- Storing trees and keeping results, on trees alone: the state of all that builds, and what each step does to it. Definitions only.
use Rattle.std.specs.Prelude.{ℕ, suc, List, [], ◌∷◌, ◌++◌, Bool, false, cond, ◌||◌, length, ltb}
use Rattle.memory.specs.Marks.{no_marks, noted}
use Rattle.expression.specs.declared.refusal.Refusal.{Refusal}
use Rattle.expression.specs.Trees.{Tree, size, depth}
use Rattle.expression.specs.Alike.{identical, equal}
use Rattle.expression.specs.Limits.{largest, deepest}

-- the result that is kept for a tree, if any
pub data Kept : Type 0 where
  nothing : Kept
  result : Tree → Kept

-- what storing passes on: the number of simplify calls so far, and the marks of the t rows that were used
pub record Tally : Type 0 where
  pub calls : ℕ
  pub marks : List ℕ

-- how many trees there is room for; the trees that are stored, in the order of their storing; the result kept for each tree; and the tally
pub data State : Type 0 where
  state : (room : ℕ) (stored : List Tree) (kept : Tree → Kept) (tally : Tally) → State

-- an answer: a tree, which is stored then; or a refusal. Each with the state then
pub data Answer : Type 0 where
  gives : Tree → State → Answer
  refused : Refusal → State → Answer

-- one step after another; a refusal is passed on
unfoldable pub and_then : Answer → (Tree → State → Answer) → Answer
and_then (gives t s) next = next t s
and_then (refused why s) next = refused why s

-- "A node is new if no stored node has the same kind, operator, children and bits"
unfoldable pub among : List Tree → Tree → Bool
among [] t = false
among (s ∷ ts) t = identical t s || among ts t

-- where a list first has a tree that passes, or the list's length
unfoldable pub place : (Tree → Bool) → List Tree → ℕ
place test [] = 0
place test (t ∷ ts) = cond (test t) 0 (suc (place test ts))

-- "6 BIG: a new node of size over 1,000,000", "7 DEEP: a new node of depth over 64", "8 ROOM: a new node, store full"
unfoldable pub intern : Tree → State → Answer
intern t (state room stored kept tally) =
    cond (among stored t) (gives t (state room stored kept tally))
    (cond (ltb largest (size t)) (refused Refusal.Big (state room stored kept tally))
    (cond (ltb deepest (depth t)) (refused Refusal.Deep (state room stored kept tally))
    (cond (ltb (length stored) room) (gives t (state room (stored ++ (t ∷ [])) kept tally))
    (refused Refusal.Room (state room stored kept tally)))))

-- what is kept for a tree
unfoldable pub recall : Tree → State → Kept
recall t (state room stored kept tally) = kept t

-- "Results are cached on return": u is kept for all trees equal to t, in place of what was kept before
unfoldable pub keep : Tree → Tree → State → State
keep t u (state room stored kept tally) = state room stored (λ v. cond (equal t v) (result u) (kept v)) tally

-- the t rows of these numbers were used
unfoldable pub noting : (rows : List ℕ) → State → State
noting js (state room stored kept tally) = state room stored kept (record { calls = tally.calls; marks = noted js tally.marks })

-- a store in which nothing is stored, nothing kept and nothing marked
abbrev pub fresh : (room calls : ℕ) → State
fresh room calls = state room [] (λ t. nothing) (record { calls = calls; marks = no_marks })
