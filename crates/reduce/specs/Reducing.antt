-- What the reducer prints for each input. Definitions only.
use Rattle.std.specs.Prelude.{◌≡◌, ℕ, List, cond, ltb, length, take, drop, Result, Ok, Err}
use Rattle.expression.specs.declared.refusal.Refusal.{Refusal}
use Rattle.calls.specs.declared.Simplified.{Simplified}
use Rattle.calls.specs.Calls.{simplify_call}
use Rattle.calls.specs.Lent.{Work, capacity}
use Rattle.console.specs.Answers.{refused_line, refusal_line}
use Rattle.console.specs.Parting.{Parted}

-- "it simplifies at limit 10": a text whose listing has n bytes; the sheet stands after the line feed of the empty line
abbrev pub simplified_text : (room : ℕ) (text out : List ℕ) (n : ℕ) → Result Simplified Refusal × List ℕ
simplified_text room text out n = simplify_call room 10 (take n text) (drop 1 (drop n text)) out

-- "prints the result listing, or `refused·number·place`, or `need·name` and four operand fields"
unfoldable pub printed : Result Simplified Refusal → (out : List ℕ) → List ℕ
printed (Ok a) out = take a.bytes out
printed (Err why) out = refusal_line why

-- "Input over 65,536 bytes prints `refused·0·0`"
unfoldable pub reduction : (room : ℕ) (text out : List ℕ) (n : ℕ) → List ℕ
reduction room text out n =
    cond (ltb 65536 (length text)) (refused_line 0 0) (printed (simplified_text room text out n).0 (simplified_text room text out n).1)

-- ---- the promises; that every text parts somewhere is a law (console/proofs/Parts.antt)

pub record SimplifiesText (text : List ℕ) (w : Work) (out : List ℕ) (r : Result Simplified Refusal) (out' : List ℕ) : Type 0 where
  pub answer : (n : ℕ) → Parted text n → ◌≡◌ {A = Result Simplified Refusal × List ℕ} (r, out') (simplified_text (capacity w) text out n)

-- the first r bytes of the output are what is printed, with a store of so many nodes
pub record Reduces (room : ℕ) (text out : List ℕ) (r : ℕ) (out' : List ℕ) : Type 0 where
  pub bytes : (n : ℕ) → Parted text n → take r out' ≡ reduction room text out n
