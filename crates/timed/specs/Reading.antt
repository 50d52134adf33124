-- What `timed_read_lines` ensures: the lines of a listing one after another, of each the fields of its node in three words of the table. Definitions only.
use Rattle.std.specs.Prelude.{ℕ, Some, None, zero, suc, ◌+◌, ◌*◌, ◌≤◌, ◌<◌, ◌≡◌, List, length, get_or, set, drop}
use Rattle.std.specs.Borrow.{Bor}
use Rattle.expression.specs.declared.node.Expression.{Expression}
use Rattle.expression.specs.declared.refusal.Refusal.{Refusal}
use Rattle.store.specs.declared.node.Fields.{Fields}
use Rattle.store.specs.Nodes.{fields_of}
use Rattle.node_lines.specs.NodeLines.{node_fields}
use Rattle.node_lines.specs.Seen.{Line, Finds}
use Rattle.timed.specs.Packed.{refused_of}

-- three words for a line
abbrev pub with_fields : (table : List ℕ) (line : ℕ) (f : Fields) → List ℕ
with_fields table line f = set (set (set table (3 * line) f.code) (3 * line + 1) f.first) (3 * line + 2) f.second

-- the line at the start, after `lines` others
abbrev pub LineAt : (s : List ℕ) (lines : ℕ) → Line → Type 0
LineAt s lines found = Finds (λ earlier. node_fields earlier (get_or s 0 0) (drop 1 s)) lines found

-- What is answered for a text, after `lines` lines: the text ends there; or there is a line too many, or one that is malformed; or the line's
-- node is put into the table, and the rest of the text is answered.
pub data Answered (Rest : (s : List ℕ) (lines : ℕ) (table : List ℕ) (r : ℕ) (table' : List ℕ) → Type 0) (s : List ℕ) (lines : ℕ) (table : List ℕ) (r : ℕ) (table' : List ℕ) : Type 0 where
  ends : length s ≡ 0 → r ≡ lines → table' ≡ table → Answered Rest s lines table r table'
  long : 0 < length s → 1024 ≤ lines → r ≡ refused_of (Refusal.LongList lines) → table' ≡ table → Answered Rest s lines table r table'
  bad : 0 < length s → lines < 1024 → LineAt s lines None → r ≡ refused_of (Refusal.BadList lines) → table' ≡ table
      → Answered Rest s lines table r table'
  goes : (e : Expression) (rest : Bor (List ℕ)) → 0 < length s → lines < 1024 → LineAt s lines (Some (e, rest))
      → Rest rest.now (lines + 1) (with_fields table lines (fields_of e)) r table' → Answered Rest s lines table r table'

-- `fuel` is one more than the lines that may still come
unfoldable pub AnsweredBy : (fuel : ℕ) (s : List ℕ) (lines : ℕ) (table : List ℕ) (r : ℕ) (table' : List ℕ) → Type 0
AnsweredBy zero s lines table r table' = ⊥
AnsweredBy (suc fuel) s lines table r table' = Answered (AnsweredBy fuel) s lines table r table'

abbrev pub ReadsLines : (text table : List ℕ) (r : ℕ) (table' : List ℕ) → Type 0
ReadsLines text table r table' = AnsweredBy 1025 text 0 table r table'
