-- Two answers with their output bytes that the contract of `write_listing` allows are equal, and so are the rows but for the links; two that
-- the contract of `write_origins` allows; and two orders that the contract of `visit` allows. Assumes nothing.
use mathlib.Core.Path.{◌≡◌, sym, ap, ◌∙◌}
use mathlib.Core.List.{List, []}
use Prim.Native.Nat.{ℕ, ◌<◌}
use native.Mathlib.Omega.{arith}
use lib.ListN.{length, get_or}
use Rattle.std.specs.Prelude.{Result}
use Rattle.expression.specs.declared.refusal.Refusal.{Refusal}
use Rattle.expression.specs.Trees.{Tree, leaf, pi}
use Rattle.store.specs.Memory.{Memory, columns, tree_at}
use Rattle.store.specs.Desk.{count}
use Rattle.store.specs.Held.{Holds, Sound}
use Rattle.store.specs.Tracing.{Traced}
use Rattle.store.proofs.Stored.{one_node}
use Rattle.memory.proofs.Values.{length_up_to, at_up_to}
use Rattle.listing.specs.Tables.{line_trees}
use Rattle.writing.specs.Ordering.{Writes, KeepsRows, WritesTraced, Listed, Visited, Visits}

pub one_written : {m : Memory} {n root : ℕ} {r r' : Result ℕ Refusal} (out : List ℕ) {out₁ out₂ : List ℕ} → Holds m n → root < n
    → Writes m root r out out₁ → Writes m root r' out out₂ → ◌≡◌ {A = Result ℕ Refusal × List ℕ} (r, out₁) (r', out₂)
one_written {n = n} out h o p q = p n h o ∙ sym (q n h o)

pub one_traced : {m : Memory} {root : ℕ} {r r' : Result ℕ Refusal} (given : List Tree) (desk out : List ℕ) {out₁ out₂ : List ℕ} → Sound (record { rows = m; desk = desk })
    → Traced given (record { rows = m; desk = desk }) → root < count desk → WritesTraced m root r out out₁ → WritesTraced m root r' out out₂
    → ◌≡◌ {A = Result ℕ Refusal × List ℕ} (r, out₁) (r', out₂)
one_traced given desk out s t o p q = p given desk s t o ∙ sym (q given desk s t o)

-- tags, firsts and seconds of all rows
unlinked : Memory → Memory
unlinked m = columns m.tag m.first m.second []

pub one_rows : {m m₁ m₂ : Memory} {n root : ℕ} → Holds m n → root < n → KeepsRows m root m₁ → KeepsRows m root m₂
    → columns m₁.tag m₁.first m₁.second [] ≡ columns m₂.tag m₂.first m₂.second []
unfolding unlinked
one_rows {n = n} h o p q = ap unlinked (p n h o) ∙ sym (ap unlinked (q n h o))

-- ---- the order that `visit` puts into the table, in a store

module _ {m : Memory} {n : ℕ} {rows rows₁ rows₂ : Memory} {table table₁ table₂ : List ℕ} {node below count r r' : ℕ} (h : Holds m n)
    (in-range : node < below → node < n) (l : Listed m n rows table count) (p : Visits rows table node below count r rows₁ table₁)
    (q : Visits rows table node below count r' rows₂ table₂) where
  first : Visited m n table node below count r rows₁ table₁
  first = p m n h in-range l

  second : Visited m n table node below count r' rows₂ table₂
  second = q m n h in-range l

  -- the trees of the lines in their order
  pub one_order : line_trees m table₁ r ≡ line_trees m table₂ r'
  one_order = first.done ∙ sym second.done

  -- how many there are: the answer
  pub one_count : r ≡ r'
  one_count = sym (length_up_to r _) ∙ ap length one_order ∙ length_up_to r' _

  -- and their nodes
  pub one_nodes : (k : ℕ) → k < r → get_or table₁ k 0 ≡ get_or table₂ k 0
  one_nodes k o =
      let o' : k < r' = omega (arith, o, one_count) in
      let a = at_up_to r (λ k. tree_at m (get_or table₁ k 0)) (leaf pi) k o in
      let b = at_up_to r' (λ k. tree_at m (get_or table₂ k 0)) (leaf pi) k o' in
      one_node h (get_or table₁ k 0) (get_or table₂ k 0) (first.listed.nodes k o) (second.listed.nodes k o') (sym a ∙ ap (λ ts. get_or ts k (leaf pi)) one_order ∙ b)
