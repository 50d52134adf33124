-- Two answers that the contract of `read_listing` allows are equal, and so are two that the contract of `swap_of` allows. Assumes nothing.
use mathlib.Core.Path.{◌≡◌, refl, sym, ap, ◌∙◌, subst}
use mathlib.Core.Bool.{Bool}
use mathlib.Core.List.{List, []}
use Prim.Native.Nat.{ℕ, ◌≤◌}
use native.Mathlib.Omega.{arith}
use lib.ListN.{length}
use Rattle.std.specs.Prelude.{Option, Some, None, Result, Ok, Err}
use Rattle.expression.specs.declared.refusal.Refusal.{Refusal}
use Rattle.expression.specs.Trees.{Tree, leaf, pi}
use Rattle.expression.specs.Alike.{identical}
use Rattle.store.specs.Storing.{State, state, place}
use Rattle.store.specs.Desk.{count}
use Rattle.store.specs.Memory.{tree_at}
use Rattle.store.specs.Held.{Lent, state_in}
use Rattle.store.proofs.Trees.{length_trees}
use Rattle.store.proofs.Seeking.{own_place}
use Rattle.listing.specs.declared.Listed.{Listed}
use Rattle.listing.specs.Listings as Spec
use Rattle.listing.specs.Listings.{Swap, accepted}
use Rattle.listing.specs.Tables.{swap_trees, Lists, Reads, LooksUp}
use Rattle.memory.proofs.Values.{length_up_to}

root_in : Spec.Listing → Tree
root_in (accepted root swaps σ) = root
root_in (Spec.refused why) = leaf pi

swaps_in : Spec.Listing → List Swap
swaps_in (accepted root swaps σ) = swaps
swaps_in (Spec.refused why) = []

store_in : Spec.Listing → State → State
store_in (accepted root swaps σ) other = σ
store_in (Spec.refused why) other = other

trees_in_lem : State → List Tree
trees_in_lem (state room stored kept tally) = stored

why_in : Spec.Listing → Refusal → Refusal
why_in (accepted root swaps σ) other = other
why_in (Spec.refused why) other = why

IsAccepted : Spec.Listing → Type 0
IsAccepted (accepted root swaps σ) = Unit {0}
IsAccepted (Spec.refused why) = ⊥

module _ {substituting : Bool} {text : List ℕ} {l l₁ l₂ : Lent} {table₁ table₂ : List ℕ} where
  pub one_listing : (r r' : Result Listed Refusal) → Reads substituting text r l l₁ table₁ → Reads substituting text r' l l₂ table₂ → r ≡ r'
  unfolding root_in swaps_in store_in trees_in_lem why_in IsAccepted state_in
  one_listing (Ok a) (Ok b) p q =
      let e = p.answer ∙ sym q.answer in
      let t = ap root_in e in
      let ts = ap (λ x. trees_in_lem (store_in x (state_in l₁))) e in
      let k = sym (own_place p.after.2.sound.holds a.root p.after.0) ∙ (λ v. place (identical (t v)) (ts v)) ∙ own_place q.after.2.sound.holds b.root q.after.0 in
      let w = sym (length_up_to a.swaps _) ∙ ap (λ x. length (swaps_in x)) e ∙ length_up_to b.swaps _ in
      λ v. Ok (record { root = k v; swaps = w v })
  one_listing (Ok a) (Err why) p q = absurd (subst IsAccepted (p.answer ∙ sym q.answer) tt)
  one_listing (Err why) (Ok b) p q = absurd (subst IsAccepted (q.answer ∙ sym p.answer) tt)
  one_listing (Err why) (Err why') p q = ap (λ x. Err (why_in x why)) (p.answer ∙ sym q.answer)

  -- and as many nodes stand then
  pub one_count : (a b : Listed) → Reads substituting text (Ok a) l l₁ table₁ → Reads substituting text (Ok b) l l₂ table₂ → count l₁.desk ≡ count l₂.desk
  unfolding store_in trees_in_lem state_in
  one_count a b p q =
      let ts = ap (λ x. trees_in_lem (store_in x (state_in l₁))) (p.answer ∙ sym q.answer) in
      sym (length_trees l₁.rows (count l₁.desk)) ∙ ap length ts ∙ length_trees l₂.rows (count l₂.desk)

  -- and the same trees are stored
  pub one_store : (a b : Listed) → Reads substituting text (Ok a) l l₁ table₁ → Reads substituting text (Ok b) l l₂ table₂ → state_in l₁ ≡ state_in l₂
  unfolding store_in
  one_store a b p q = ap (λ x. store_in x (state_in l₁)) (p.answer ∙ sym q.answer)

  -- and the table then has the same s lines: their variables and the trees that they name
  pub one_swaps : (a b : Listed) → Reads substituting text (Ok a) l l₁ table₁ → Reads substituting text (Ok b) l l₂ table₂
      → swap_trees l₁.rows table₁ a.swaps ≡ swap_trees l₂.rows table₂ b.swaps
  unfolding swaps_in
  one_swaps a b p q = ap swaps_in (p.answer ∙ sym q.answer)

-- where the table has the s lines of a listing over a store
pub one_swap : {l : Lent} {table : List ℕ} {swaps : ℕ} (variable : ℕ) (r r' : Option ℕ) → swaps ≤ 256 → Lists l table 0 swaps
    → LooksUp table swaps variable r → LooksUp table swaps variable r' → r ≡ r'
one_swap {l} variable (Some i) (Some j) few t p q =
    let a = p l few t in
    let b = q l few t in
    let e = a.0 ∙ sym b.0 in
    let same : tree_at l.rows i ≡ tree_at l.rows j = cc in
    ap Some (t.sound.holds.apart i j a.1 b.1 same)
one_swap {l} variable (Some i) None few t p q = let e = (p l few t).0 ∙ sym (q l few t).0 in let z : ◌≡◌ {A = ℕ} 0 1 = cc in absurd (omega arith)
one_swap {l} variable None (Some j) few t p q = let e = (p l few t).0 ∙ sym (q l few t).0 in let z : ◌≡◌ {A = ℕ} 0 1 = cc in absurd (omega arith)
one_swap variable None None few t p q = refl
