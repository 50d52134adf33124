-- What each timed call ensures: what it answers is the packed form of an answer that the function behind it allows. Definitions only.
use Rattle.std.specs.Prelude.{ℕ, ◌≡◌, List, false, Float}
use Rattle.complex.specs.declared.Complex.{Complex}
use Rattle.expression.specs.declared.node.Expression.{Expression}
use Rattle.store.specs.Memory.{Memory}
use Rattle.store.specs.Held.{Lent, Adds}
use Rattle.listing.specs.Tables as Tables
use Rattle.writing.specs.Ordering as Ordering
use Rattle.sheet.specs.Rows.{sheet}
use Rattle.sheet.specs.Table.{seen, held_by}
use Rattle.timed.specs.Packed.{built_of, listing_of, sheet_of, written_of}

-- r is an answer of which P holds, packed
pub record Packs {A B : Type 0} (packed : A → B) (P : A → Type 0) (r : B) : Type 0 where
  pub answer : A
  pub number : r ≡ packed answer
  pub allowed : P answer

-- ---- numbers and nodes

-- a complex number by its two parts
abbrev pub pair : Float → Float → Complex
pair x y = record { re = x; im = y }

abbrev pub AddsNode : (e : Expression) (r : ℕ) (l l' : Lent) → Type 0
AddsNode e r l l' = Packs (built_of l'.desk) (λ x. Adds e x l l') r

-- ---- reading and writing

abbrev pub ReadsListing : (text : List ℕ) (r : ℕ) (l l' : Lent) (table : List ℕ) → Type 0
ReadsListing text r l l' table = Packs (listing_of l'.desk) (λ x. Tables.Reads false text x l l' table) r

abbrev pub ReadsSheet : (text : List ℕ) (r : ℕ) (table : List ℕ) → Type 0
ReadsSheet text r table = Packs sheet_of (λ x. (seen table x ≡ sheet text) × held_by table x) r

abbrev pub WritesListing : (m : Memory) (root r : ℕ) (out out' : List ℕ) → Type 0
WritesListing m root r out out' = Packs written_of (λ x. Ordering.Writes m root x out out') r
