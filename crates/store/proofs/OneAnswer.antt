-- Two answers that a contract of the store allows are equal; of what builds, Stored says in what sense. Assumes nothing.
use mathlib.Core.Path.{◌≡◌, refl, sym, ap, ◌∙◌}
use mathlib.Core.Bool.{Bool, true, false, cond}
use mathlib.Core.List.{List, [], ◌∷◌}
use Prim.Native.Nat.{ℕ, zero, suc, ◌≤◌, ◌<◌}
use native.Mathlib.Omega.{arith}
use native.Mathlib.Decide.{dec_lt}
use lib.Dec.{ltb}
use lib.ListN.{length, get_or}
use Rattle.std.specs.Prelude.{Option, Some, None, IfSome, Result, Ok, Err, IsErr}
use Rattle.complex.specs.declared.Complex.{Complex}
use Rattle.memory.specs.Layout.{desk_words}
use Rattle.expression.specs.declared.refusal.Operation.{Operation}
use Rattle.expression.specs.declared.refusal.Refusal.{Refusal}
use Rattle.expression.specs.declared.node.Expression.{Expression}
use Rattle.expression.specs.Trees.{Tree, size, depth}
use Rattle.expression.specs.Limits.{largest, deepest}
use Rattle.expression.specs.Alike.{identical}
use Rattle.expression.specs.Nodes.{Within, Sound as SoundNode}
use Rattle.expression.proofs.OneNode.{ByTree, one_node}
use Rattle.store.specs.Nodes.{fields_of}
use Rattle.store.specs.Storing.{State, state, Answer, gives, refused, and_then, among, intern, place}
use Rattle.store.specs.Memory.{Memory, memory, column, class_at, trees, tree_at, tree_of, kept_as}
use Rattle.store.specs.declared.desk.Refused.{Refused}
use Rattle.store.specs.Desk.{count, calls_on, marks_on, need_on, why_on, OfBuilding, refusal_on, Asks, Refuses, Notes}
use Rattle.store.specs.Index.{key_of}
use Rattle.store.specs.Held.{Holds, Lent, state_in, Sound, Built, Builds, Adds, Keeps, Recalls, Compares, Begun}
use Rattle.store.specs.Walk.{Walked, WalkedTo}
use Rattle.store.proofs.Seeking.{own_place, found_place, no_place, found_class}
use Rattle.store.proofs.Stored.{OneAnswer, one_answer}

-- ---- nodes of a store

-- a node's number can be told from its tree: it is where the tree stands
pub tells : {m : Memory} {n : ℕ} → Holds m n → ByTree n (tree_at m) (λ t. place (identical t) (trees m n))
tells h = record { number = own_place h }

-- so two nodes over a store that have one tree are one
pub one_expression : {m : Memory} {n : ℕ} → Holds m n → (e e' : Expression) → Within n e → Within n e' → tree_of m e ≡ tree_of m e' → e ≡ e'
one_expression h = one_node (tells h)

-- ---- `add` and all that builds, `keep`, `start`

pub one_built : (Of : Lent → Type 0) (want : Lent → State → Answer) {l l₁ l₂ : Lent} (r r' : Result ℕ Refused) → Sound l → Of l → Builds Of want r l l₁ → Builds Of want r' l l₂
    → OneAnswer r r' l₁ l₂
one_built Of want r r' s o p q = one_answer r r' (p s o) (q s o)

-- the answer itself is determined: one node, or that nothing was built, and then one refusal
abbrev pub Same : (r r' : Result ℕ Refused) (l l' : Lent) → Type 0
Same r r' l l' = (r ≡ r') × (IsErr r → refusal_on l.desk ≡ refusal_on l'.desk)

pub one_word : {want : Answer} {l l₁ l₂ : Lent} (r r' : Result ℕ Refused) → Built want r l l₁ → Built want r' l l₂ → Same r r' l₁ l₂
one_word r r' p q = let o = one_answer r r' p q in (o.same, o.refusal)

pub one_added : (e : Expression) {l l₁ l₂ : Lent} (r r' : Result ℕ Refused) → Sound l → Within (count l.desk) e → Adds e r l l₁ → Adds e r' l l₂ → Same r r' l₁ l₂
one_added e r r' s w p q = one_word r r' (p s w) (q s w)

-- ---- an answer that is not INCOMPLETE: so of one step after another, and of storing a tree, which is refused by 6, 7 and 8 alone

abbrev pub Complete : Answer → Type 0
Complete (gives t σ) = Unit {0}
Complete (refused why σ) = why ≡ Refusal.Incomplete → ⊥

pub complete_then : (a : Answer) (next : Tree → State → Answer) → Complete a → ((t : Tree) (σ : State) → Complete (next t σ)) → Complete (and_then a next)
unfolding and_then
complete_then (gives t σ) next c n = n t σ
complete_then (refused why σ) next c n = c

complete_if : (b : Bool) (x y : Answer) → Complete x → Complete y → Complete (cond b x y)
complete_if true x y p q = p
complete_if false x y p q = q

pub complete_stored : (t : Tree) (σ : State) → Complete (intern t σ)
unfolding intern
complete_stored t (state room stored kept tally) =
    complete_if (among stored t) _ _ tt
    (complete_if (ltb largest (size t)) _ _ (λ e. (let z : ◌≡◌ {A = ℕ} 0 1 = cc in omega arith))
    (complete_if (ltb deepest (depth t)) _ _ (λ e. (let z : ◌≡◌ {A = ℕ} 0 1 = cc in omega arith))
    (complete_if (ltb (length stored) room) _ _ tt (λ e. (let z : ◌≡◌ {A = ℕ} 0 1 = cc in omega arith)))))

pub one_kept : {m m₁ m₂ : Memory} {e r : ℕ} (desk : List ℕ) → Sound (record { rows = m; desk = desk }) → e < count desk → r < count desk → Keeps m m₁ e r → Keeps m m₂ e r
    → state_in (record { rows = m₁; desk = desk }) ≡ state_in (record { rows = m₂; desk = desk })
one_kept {r = r} desk s l l' p q = (one_answer (Ok r) (Ok r) (p desk s l l') (q desk s l l')).state

pub one_beginning : {l l₁ l₂ : Lent} → Begun l l₁ → Begun l l₂ → state_in l₁ ≡ state_in l₂
one_beginning p q = p.begins ∙ sym q.begins

-- ---- `kept_at`, `equal_at`

module _ {m : Memory} {n : ℕ} (h : Holds m n) where
  one_link : (r r' : Option ℕ) → IfSome r (λ k. k < n) → IfSome r' (λ k. k < n) → kept_as m r ≡ kept_as m r' → r ≡ r'
  one_link None None l l' e = refl
  one_link None (Some k) l l' e = let z : ◌≡◌ {A = ℕ} 0 1 = cc in absurd (omega arith)
  one_link (Some j) None l l' e = let z : ◌≡◌ {A = ℕ} 0 1 = cc in absurd (omega arith)
  one_link (Some j) (Some k) l l' e = let t : tree_at m j ≡ tree_at m k = cc in ap Some (h.apart j k l l' t)

  pub one_recalled : (e : ℕ) (r r' : Option ℕ) → e < n → Recalls m e r → Recalls m e r' → r ≡ r'
  one_recalled e r r' l p q =
      let a = p n (record { calls = 0; marks = [] }) h l in
      let b = q n (record { calls = 0; marks = [] }) h l in
      one_link r r' a.0 b.0 (a.1 ∙ sym b.1)

  pub one_compared : (a b : ℕ) {r r' : Bool} → a < n → b < n → Compares m a b r → Compares m a b r' → r ≡ r'
  one_compared a b l l' p q = p n h l l' ∙ sym (q n h l l')

  -- ---- the walk of the index: the node, and the class of its equals where there is none

  pub one_walk : (e : Expression) → SoundNode e → Within n e → {node class node' class' : ℕ} → Walked m n (fields_of e) (key_of (class_at m) (fields_of e)) node class
      → Walked m n (fields_of e) (key_of (class_at m) (fields_of e)) node' class' → (node ≡ node') × (n ≤ node → class ≡ class')
  one_walk e s w {node} {class} {node'} {class'} p q =
      let k : node ≡ node' = sym (at p (dec_lt node n)) ∙ at q (dec_lt node' n) in
      (k, λ o. found_class h e s w p o ∙ sym (found_class h e s w q (omega (arith, k, o))))
    where
      at : {i c : ℕ} → Walked m n (fields_of e) (key_of (class_at m) (fields_of e)) i c → Dec (i < n) → place (identical (tree_of m e)) (trees m n) ≡ i
      at x (yes l) = found_place h e s w x l
      at x (no g) = no_place h e s w x (omega (arith, g)) ∙ omega (arith, g, x.inside)

  pub one_find : (e : Expression) → SoundNode e → Within n e → (r r' : Result ℕ ℕ) → WalkedTo m n (fields_of e) (key_of (class_at m) (fields_of e)) r
      → WalkedTo m n (fields_of e) (key_of (class_at m) (fields_of e)) r' → r ≡ r'
  one_find e s w (Ok k) (Ok k') p q = ap Ok (one_walk e s w p.1 q.1).0
  one_find e s w (Ok k) (Err c) p q = absurd (omega (arith, p.0, (one_walk e s w p.1 q).0))
  one_find e s w (Err c) (Ok k) p q = absurd (omega (arith, q.0, (one_walk e s w p q.1).0))
  one_find e s w (Err c) (Err c') p q = ap Err ((one_walk e s w p q).1 (omega arith))

-- ---- `refuse`: why nothing was built, and what else is read of the desk

pub one_refused : {why : Refusal} {desk desk₁ desk₂ : List ℕ} → length desk ≡ desk_words → OfBuilding why
    → Refuses why desk desk₁ → Refuses why desk desk₂
    → (refusal_on desk₁ ≡ refusal_on desk₂) × (count desk₁ ≡ count desk₂) × (calls_on desk₁ ≡ calls_on desk₂) × (marks_on desk₁ ≡ marks_on desk₂)
one_refused l o p q =
    (p.told l o ∙ sym (q.told l o), p.alike.counted ∙ sym q.alike.counted, p.alike.called ∙ sym q.alike.called, p.alike.marked ∙ sym q.alike.marked)

-- ---- `ask`: what the desk says is lacking, and what else is read of it

pub one_asked : {operation : Operation} {x y : Complex} {desk desk₁ desk₂ : List ℕ} → length desk ≡ desk_words
    → Asks operation x y desk desk₁ → Asks operation x y desk desk₂
    → (need_on desk₁ ≡ need_on desk₂) × (why_on desk₁ ≡ why_on desk₂) × (count desk₁ ≡ count desk₂) × (calls_on desk₁ ≡ calls_on desk₂) × (marks_on desk₁ ≡ marks_on desk₂)
one_asked l p q =
    (p.need l ∙ sym (q.need l), p.numbered ∙ sym q.numbered, p.alike.counted ∙ sym q.alike.counted, p.alike.called ∙ sym q.alike.called, p.alike.marked ∙ sym q.alike.marked)

-- ---- `note`: what is read of the desk besides what a refusal carries

pub one_noted : {first second : Option ℕ} {desk desk₁ desk₂ : List ℕ} → Notes first second desk desk₁ → Notes first second desk desk₂
    → (count desk₁ ≡ count desk₂) × (calls_on desk₁ ≡ calls_on desk₂) × (marks_on desk₁ ≡ marks_on desk₂)
one_noted p q = (p.counted ∙ sym q.counted, p.called ∙ sym q.called, p.marked ∙ sym q.marked)

-- ---- the rows: `put_row`, `put_link` and `enter` say what the four lists are, and four words a row are no more than these

abbrev pub OfFour : List (List ℕ) → Type 0
OfFour [] = Unit {0}
OfFour (row ∷ rows) = (length row ≡ 4) × OfFour rows

four_words : (row : List ℕ) → length row ≡ 4 → row ≡ get_or row 0 0 ∷ get_or row 1 0 ∷ get_or row 2 0 ∷ get_or row 3 0 ∷ []
four_words [] e = absurd (omega (arith, e))
four_words (a ∷ []) e = absurd (omega (arith, e))
four_words (a ∷ b ∷ []) e = absurd (omega (arith, e))
four_words (a ∷ b ∷ c ∷ []) e = absurd (omega (arith, e))
four_words (a ∷ b ∷ c ∷ d ∷ []) e = refl
four_words (a ∷ b ∷ c ∷ d ∷ f ∷ row) e = absurd (omega (arith, e))

by_columns : (rows rows' : List (List ℕ)) → OfFour rows → OfFour rows' → ((k : ℕ) → k < 4 → column k rows ≡ column k rows') → rows ≡ rows'
unfolding column
by_columns [] [] f g e = refl
by_columns [] (row ∷ rows) f g e = let c = e 0 (omega arith) in let z : ◌≡◌ {A = ℕ} 0 1 = cc in absurd (omega arith)
by_columns (row ∷ rows) [] f g e = let c = e 0 (omega arith) in let z : ◌≡◌ {A = ℕ} 0 1 = cc in absurd (omega arith)
by_columns (row ∷ rows) (row' ∷ rows') f g e =
    let word : (k : ℕ) → k < 4 → get_or row k 0 ≡ get_or row' k 0 = λ k l. (let c = e k l in cc) in
    let rest = by_columns rows rows' f.1 g.1 λ k l. (let c = e k l in cc) in
    let a = word 0 (omega arith) in
    let b = word 1 (omega arith) in
    let c = word 2 (omega arith) in
    let d = word 3 (omega arith) in
    let p = four_words row f.0 in
    let q = four_words row' g.0 in
    cc

pub one_memory : (rows rows' : List (List ℕ)) → OfFour rows → OfFour rows' → memory rows ≡ memory rows' → rows ≡ rows'
unfolding memory
one_memory rows rows' f g e = by_columns rows rows' f g λ k l. each k l
  where
    each : (k : ℕ) → k < 4 → column k rows ≡ column k rows'
    each zero l = ap (λ m. m.link) e
    each (suc zero) l = ap (λ m. m.tag) e
    each (suc (suc zero)) l = ap (λ m. m.first) e
    each (suc (suc (suc zero))) l = ap (λ m. m.second) e
    each (suc (suc (suc (suc k)))) l = absurd (omega arith)
