-- Two numbers that a contract of `timed` allows are equal, with the words and bytes that come with them: where two answers of the function behind it
-- are packed alike, they are one number. The premises are those that the contracts of these functions have. Assumes nothing.
use mathlib.Core.Path.{◌≡◌, refl, sym, ap, ◌∙◌, subst}
use mathlib.Core.Bool.{false}
use Prim.Native.Nat.{ℕ, ◌<◌}
use mathlib.Core.List.{List}
use Rattle.std.specs.Prelude.{Result, Ok, Err}
use lib.ListN.{length}
use Rattle.std.specs.Prelude.{Result, Ok, Err}
use Rattle.expression.specs.declared.refusal.Refusal.{Refusal}
use Rattle.expression.specs.Trees.{Tree}
use Rattle.expression.specs.declared.node.Expression.{Expression}
use Rattle.expression.specs.Nodes.{Within}
use Rattle.store.specs.Storing.{State, state, intern}
use Rattle.store.specs.Memory.{Memory, tree_of}
use Rattle.store.specs.declared.desk.Refused.{Refused}
use Rattle.store.specs.Desk.{count, calls_on}
use Rattle.store.specs.Held.{Lent, state_in, Holds, Sound}
use Rattle.store.proofs.Trees.{length_trees}
use Rattle.store.proofs.Stored.{OneAnswer}
use Rattle.store.proofs.OneAnswer as Store
use Rattle.listing.specs.declared.Listed.{Listed}
use Rattle.listing.specs.Tables.{Reads}
use Rattle.listing.proofs.OneAnswer as Listings
use Rattle.sheet.proofs.OneAnswer as Sheets
use Rattle.writing.proofs.OneAnswer as Writings
use Rattle.timed.specs.Packed.{built_of, listing_of, sheet_of, written_of, node_of}
use Rattle.timed.specs.Promises.{Packs, AddsNode, ReadsListing, ReadsSheet, WritesListing}

-- ---- for every contract of this form

-- if any two answers that may be packed are packed alike, what is packed is one; two packings, since a call may have left two desks
pub one_packed : {A B : Type 0} {packed packed' : A → B} {P P' : A → Type 0} {r r' : B} → ((x x' : A) → P x → P' x' → packed x ≡ packed' x')
    → Packs packed P r → Packs packed' P' r' → r ≡ r'
one_packed one p q = p.number ∙ one p.answer q.answer p.allowed q.allowed ∙ sym q.number

-- what any two such answers have in common, packed or not
pub one_beside : {A B : Type 0} {packed packed' : A → B} {P P' : A → Type 0} {r r' : B} {E : Type 0} → ((x x' : A) → P x → P' x' → E)
    → Packs packed P r → Packs packed' P' r' → E
one_beside one p q = one p.answer q.answer p.allowed q.allowed

-- ---- answers with the desk as it is then: `timed_add`, `timed_read_listing`

trees_in_lem : State → List Tree
trees_in_lem (state room stored kept tally) = stored

calls_in_lem : State → ℕ
calls_in_lem (state room stored kept tally) = tally.calls

one_count : (l l' : Lent) → state_in l ≡ state_in l' → count l.desk ≡ count l'.desk
unfolding trees_in_lem state_in
one_count l l' e = sym (length_trees l.rows (count l.desk)) ∙ ap (λ s. length (trees_in_lem s)) e ∙ length_trees l'.rows (count l'.desk)

one_calls : (l l' : Lent) → state_in l ≡ state_in l' → calls_on l.desk ≡ calls_on l'.desk
unfolding calls_in_lem state_in
one_calls l l' e = ap calls_in_lem e

-- an answer of what builds, by its node or its refusal
pub one_built : {l l' : Lent} (r r' : Result ℕ Refused) → OneAnswer r r' l l' → built_of l.desk r ≡ built_of l'.desk r'
unfolding built_of
one_built {l} {l'} (Ok k) r' o =
    let n = one_count l l' o.state in
    let c = one_calls l l' o.state in
    rw (sym o.same, n, c) refl
one_built (Err e) r' o = rw (sym o.same, o.refusal refl) refl

-- where a store is held and the node's operands stand
pub one_added : (e : Expression) {l l₁ l₂ : Lent} {r r' : ℕ} → Sound l → Within (count l.desk) e → AddsNode e r l l₁ → AddsNode e r' l l₂ → r ≡ r'
one_added e s w = one_packed λ x x' p q. one_built x x' (Store.one_built (λ m. Within (count m.desk) e) (λ m. intern (tree_of m.rows e)) x x' s w p q)

-- one listing, whatever desk is left
listing_packed : {text : List ℕ} {l l₁ l₂ : Lent} {t₁ t₂ : List ℕ} (x : Result Listed Refusal) → Reads false text x l l₁ t₁ → Reads false text x l l₂ t₂
    → listing_of l₁.desk x ≡ listing_of l₂.desk x
listing_packed (Ok a) p q = ap (node_of a.root) (Listings.one_count a a p q)
listing_packed (Err why) p q = refl

pub one_listing : {text : List ℕ} {l l₁ l₂ : Lent} {t₁ t₂ : List ℕ} {r r' : ℕ} → ReadsListing text r l l₁ t₁ → ReadsListing text r' l l₂ t₂ → r ≡ r'
one_listing {text} {l} {l₁} {l₂} {t₁} {t₂} = one_packed λ x x' p q.
    let e = Listings.one_listing x x' p q in
    listing_packed x p (subst (λ y. Reads false text y l l₂ t₂) (sym e) q) ∙ ap (listing_of l₂.desk) e

-- ---- other answers that are read or written

pub one_sheet : (text : List ℕ) {t₁ t₂ : List ℕ} {r r' : ℕ} → ReadsSheet text r t₁ → ReadsSheet text r' t₂ → r ≡ r'
one_sheet text {t₁} {t₂} = one_packed λ x x' p q. ap sheet_of (Sheets.one_sheet text t₁ t₂ x x' p.0 q.0)

-- in a store: the number and the output bytes
pub one_written : {m : Memory} {n root : ℕ} (out : List ℕ) {out₁ out₂ : List ℕ} {r r' : ℕ} → Holds m n → root < n
    → WritesListing m root r out out₁ → WritesListing m root r' out out₂ → (r ≡ r') × (out₁ ≡ out₂)
one_written out h o p q = (
  one_packed (λ x x' a b. ap (λ y. written_of y.0) (Writings.one_written out h o a b)) p q,
  one_beside (λ x x' a b. ap (λ y. y.1) (Writings.one_written out h o a b)) p q,
)
