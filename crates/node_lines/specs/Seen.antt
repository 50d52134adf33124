-- What the code's answer says, as what is read of a list of bytes. Only connecting.
use Rattle.std.specs.Prelude.{◌≡◌, ℕ, Option, Some, None, List, length, get_or}
use Rattle.std.specs.Borrow.{Bor}
use Rattle.expression.specs.declared.node.Expression.{Expression}
use Rattle.expression.specs.Nodes.{grown, Within}
use Rattle.expression.specs.Trees.{Tree, leaf, pi}
use Rattle.text.specs.Reading.{Read, is, bad}

-- a node and the bytes after its line, or none such
abbrev pub Line : Type 0
Line = Option (Expression × Bor (List ℕ))

-- a line of the code, where its operands are lines with these trees
abbrev pub line_seen : (earlier : List Tree) → Line → Read Tree
line_seen earlier (Some (e, rest)) = is (grown (λ k. get_or earlier k (leaf pi)) e) rest.now
line_seen earlier None = bad

abbrev pub LineWithin : ℕ → Line → Type 0
LineWithin n (Some (e, rest)) = Within n e
LineWithin n None = Unit {0}

-- a function that reads a node line after `lines` others: it finds what the definition says, and only earlier lines as operands
pub record Finds (want : List Tree → Read Tree) (lines : ℕ) (r : Line) : Type 0 where
  pub seen : (earlier : List Tree) → length earlier ≡ lines → line_seen earlier r ≡ want earlier
  pub within : LineWithin lines r

abbrev pub FindsLeaf : (want : Read Tree) (r : Line) → Type 0
FindsLeaf want r = (lines : ℕ) → Finds (λ earlier. want) lines r
