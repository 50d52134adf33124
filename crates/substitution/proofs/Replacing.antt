-- What substituting does at a node, by its operands: each return of `substitute_node` and of what it calls. Assumes nothing.
use mathlib.Core.Path.{◌≡◌, refl, sym, ap, ◌∙◌, subst}
use mathlib.Core.Bool.{false≢true}
use mathlib.Core.List.{List, [], ◌∷◌}
use Prim.Native.Nat.{ℕ, ◌+◌, ◌%◌, ◌<◌}
use native.Mathlib.Omega.{arith}
use lib.ListN.{set}
use denote.Enum.Declared.{tag_of}
use types.Run.{OneOf, miss}
use Rattle.std.specs.Prelude.{Result, Ok, Err, IfOk, OnOk, IsErr, Option, Some, None, unwrap_or}
use Rattle.expression.specs.Trees.{Tree, leaf, number, pi, variable, cell, function_call, prefixed, infixed}
use Rattle.expression.specs.declared.node.Expression.{Expression}
use Rattle.expression.specs.contracts.node.Expression.{the_type}
use Rattle.expression.specs.Nodes.{grown, Within, operands_of, with_operands}
use Rattle.store.specs.Storing.{State, Answer, gives, and_then, intern}
use Rattle.store.specs.Memory.{Memory, expression_at, tree_at, tree_of}
use Rattle.store.specs.declared.desk.Refused.{Refused}
use Rattle.store.specs.Desk.{count}
use Rattle.store.specs.Held.{Lent, tree_in, state_in, Step, Adds, Built}
use Rattle.store.proofs.Building.{nothing_asked, Got, older, both, named, stays, got, then_node, then_refused}
use Rattle.expression.proofs.Under.{IsNothing, IsOne, IsTwo, nothing_under, one_under, two_under, within_one, within_two}
use Rattle.listing.specs.Listings as Listings
use Rattle.listing.specs.Listings.{names, nothing, swap_for}
use Rattle.listing.specs.Tables.{swap_seen, NodeWithin}
use Rattle.expression.specs.declared.node.Operands.{Operands}
use Rattle.substitution.specs.Substituting.{put_in, put_in_leaf, substitute}
use Rattle.substitution.specs.Run.{PutsIn, word_of, Settled, Knows, Rebuilds, Replaced}
use Rattle.substitution.proofs.Settling.{built_settled, knows_on, knows_more}
use Rattle.store.proofs.Trees.{room_each}
use Rattle.store.proofs.Stored.{within_node, tree_of_node}

-- ---- the tree of an operation on other operands

wrap : Expression → (left last : Tree) → Tree
wrap (Expression.Number z) t u = leaf (number z)
wrap Expression.PiConstant t u = leaf pi
wrap (Expression.Variable v) t u = leaf (variable v)
wrap (Expression.Address region index) t u = leaf (cell region index)
wrap (Expression.FunctionCall f a) t u = function_call f u
wrap (Expression.Prefix o a) t u = prefixed o u
wrap (Expression.Infix o a b) t u = infixed o t u

rebuilt_tree : (m : Memory) (e : Expression) (left last : ℕ) → tree_of m (with_operands e left last) ≡ wrap e (tree_at m left) (tree_at m last)
unfolding grown with_operands wrap
rebuilt_tree m (Expression.Number z) left last = refl
rebuilt_tree m Expression.PiConstant left last = refl
rebuilt_tree m (Expression.Variable v) left last = refl
rebuilt_tree m (Expression.Address region index) left last = refl
rebuilt_tree m (Expression.FunctionCall f a) left last = refl
rebuilt_tree m (Expression.Prefix o a) left last = refl
rebuilt_tree m (Expression.Infix o a b) left last = refl

-- the left operand, where there are two
LeftIn : Expression → Memory → (k left : ℕ) → Tree → Type 0
LeftIn (Expression.Number z) m k left t = Unit {0}
LeftIn Expression.PiConstant m k left t = Unit {0}
LeftIn (Expression.Variable v) m k left t = Unit {0}
LeftIn (Expression.Address region index) m k left t = Unit {0}
LeftIn (Expression.FunctionCall f a) m k left t = Unit {0}
LeftIn (Expression.Prefix o a) m k left t = Unit {0}
LeftIn (Expression.Infix o a b) m k left t = (left < k) × (tree_at m left ≡ t)

left_in : (e : Expression) (m : Memory) (k left : ℕ) (t : Tree) → left < k → tree_at m left ≡ t → LeftIn e m k left t
unfolding LeftIn
left_in (Expression.Number z) m k left t l p = tt
left_in Expression.PiConstant m k left t l p = tt
left_in (Expression.Variable v) m k left t l p = tt
left_in (Expression.Address region index) m k left t l p = tt
left_in (Expression.FunctionCall f a) m k left t l p = tt
left_in (Expression.Prefix o a) m k left t l p = tt
left_in (Expression.Infix o a b) m k left t l p = (l, p)

left_none : (e : Expression) (a : ℕ) → operands_of e ≡ Operands.One a → (m : Memory) (k left : ℕ) (t : Tree) → LeftIn e m k left t
unfolding LeftIn operands_of IsOne
left_none (Expression.Number z) a q m k left t = tt
left_none Expression.PiConstant a q m k left t = tt
left_none (Expression.Variable v) a q m k left t = tt
left_none (Expression.Address region index) a q m k left t = tt
left_none (Expression.FunctionCall f b) a q m k left t = tt
left_none (Expression.Prefix o b) a q m k left t = tt
left_none (Expression.Infix o b c) a q m k left t = absurd (one_under (Expression.Infix o b c) a q)

wrap_left : (e : Expression) (m : Memory) (k left : ℕ) (t u : Tree) → LeftIn e m k left t → wrap e (tree_at m left) u ≡ wrap e t u
unfolding wrap LeftIn
wrap_left (Expression.Number z) m k left t u l = refl
wrap_left Expression.PiConstant m k left t u l = refl
wrap_left (Expression.Variable v) m k left t u l = refl
wrap_left (Expression.Address region index) m k left t u l = refl
wrap_left (Expression.FunctionCall f a) m k left t u l = refl
wrap_left (Expression.Prefix o a) m k left t u l = refl
wrap_left (Expression.Infix o a b) m k left t u l = ap (λ t. infixed o t u) l.1

within_rebuilt : (e : Expression) (m : Memory) (k left last : ℕ) (t : Tree) → LeftIn e m k left t → last < k → Within k (with_operands e left last)
unfolding with_operands LeftIn
within_rebuilt (Expression.Number z) m k left last t l o = tt
within_rebuilt Expression.PiConstant m k left last t l o = tt
within_rebuilt (Expression.Variable v) m k left last t l o = tt
within_rebuilt (Expression.Address region index) m k left last t l o = tt
within_rebuilt (Expression.FunctionCall f a) m k left last t l o = o
within_rebuilt (Expression.Prefix o a) m k left last t l q = q
within_rebuilt (Expression.Infix o a b) m k left last t l q = (l.0, q)

-- ---- what the definition does at an operation

module _ (swaps : List Listings.Swap) (m : Memory) (s : State) where
  from_one_lem : Expression → Tree → Tree → State → Answer
  from_one_lem e t u s = intern (wrap e t u) s

  from_left : Expression → ℕ → Tree → State → Answer
  from_left e b t s = and_then (substitute swaps (tree_at m b) s) (from_one_lem e t)

  one_step : (e : Expression) (a : ℕ) (t : Tree) → operands_of e ≡ Operands.One a
      → and_then (substitute swaps (tree_at m a) s) (from_one_lem e t) ≡ substitute swaps (tree_of m e) s
  unfolding operands_of IsOne substitute grown wrap from_one_lem
  one_step (Expression.Number z) a t q = absurd (one_under (Expression.Number z) a q)
  one_step Expression.PiConstant a t q = absurd (one_under Expression.PiConstant a q)
  one_step (Expression.Variable v) a t q = absurd (one_under (Expression.Variable v) a q)
  one_step (Expression.Address region index) a t q = absurd (one_under (Expression.Address region index) a q)
  one_step (Expression.FunctionCall f b) a t q =
      ap (λ k. and_then (substitute swaps (tree_at m k) s) (λ u s. intern (function_call f u) s)) (sym (one_under (Expression.FunctionCall f b) a q))
  one_step (Expression.Prefix o b) a t q =
      ap (λ k. and_then (substitute swaps (tree_at m k) s) (λ u s. intern (prefixed o u) s)) (sym (one_under (Expression.Prefix o b) a q))
  one_step (Expression.Infix o b c) a t q = absurd (one_under (Expression.Infix o b c) a q)

  two_step : (e : Expression) (a b : ℕ) → operands_of e ≡ Operands.Two a b
      → and_then (substitute swaps (tree_at m a) s) (from_left e b) ≡ substitute swaps (tree_of m e) s
  unfolding operands_of IsTwo substitute grown wrap from_one_lem from_left
  two_step (Expression.Number z) a b q = absurd (two_under (Expression.Number z) a b q)
  two_step Expression.PiConstant a b q = absurd (two_under Expression.PiConstant a b q)
  two_step (Expression.Variable v) a b q = absurd (two_under (Expression.Variable v) a b q)
  two_step (Expression.Address region index) a b q = absurd (two_under (Expression.Address region index) a b q)
  two_step (Expression.FunctionCall f c) a b q = absurd (two_under (Expression.FunctionCall f c) a b q)
  two_step (Expression.Prefix o c) a b q = absurd (two_under (Expression.Prefix o c) a b q)
  two_step (Expression.Infix o c d) a b q =
      let i = two_under (Expression.Infix o c d) a b q in
      λ v. and_then (substitute swaps (tree_at m (sym i.0 v)) s) (λ t s. and_then (substitute swaps (tree_at m (sym i.1 v)) s) (λ u s. intern (infixed o t u) s))

-- ---- a leaf

leaf_stays : (swaps : List Listings.Swap) (m : Memory) (s : State) (e : Expression) → operands_of e ≡ Operands.Nothing
    → OneOf (0 ∷ 1 ∷ 2 ∷ 3 ∷ 4 ∷ 5 ∷ []) (tag_of the_type e) → gives (tree_of m e) s ≡ substitute swaps (tree_of m e) s
unfolding operands_of IsNothing substitute put_in_leaf grown
leaf_stays swaps m s (Expression.Number z) q k = refl
leaf_stays swaps m s Expression.PiConstant q k = refl
leaf_stays swaps m s (Expression.Variable v) q k = absurd (miss (0 ∷ 1 ∷ 2 ∷ 3 ∷ 4 ∷ 5 ∷ []) 6 tt k)
leaf_stays swaps m s (Expression.Address region index) q k = refl
leaf_stays swaps m s (Expression.FunctionCall f a) q k = absurd (nothing_under (Expression.FunctionCall f a) q)
leaf_stays swaps m s (Expression.Prefix o a) q k = absurd (nothing_under (Expression.Prefix o a) q)
leaf_stays swaps m s (Expression.Infix o a b) q k = absurd (nothing_under (Expression.Infix o a b) q)

module _ (m : Memory) {n node : ℕ} (l : node < n) (e : Expression) (tree : tree_of m e ≡ tree_at m node) (swaps : List Listings.Swap) where
  pub leaf_put : operands_of e ≡ Operands.Nothing → OneOf (0 ∷ 1 ∷ 2 ∷ 3 ∷ 4 ∷ 5 ∷ []) (tag_of the_type e)
      → (node < n) × ((s : State) → gives (tree_at m node) s ≡ substitute swaps (tree_at m node) s)
  leaf_put q k = (l, λ s. subst (λ t. gives t s ≡ substitute swaps t s) tree (leaf_stays swaps m s e q k))

  module _ {v : ℕ} (told : e ≡ Expression.Variable v) where
    variable_put : {t : Tree} → t ≡ put_in v (swap_for v swaps) → (s : State) → gives t s ≡ substitute swaps (tree_at m node) s
    unfolding substitute put_in_leaf grown
    variable_put p s =
        let q : leaf (variable v) ≡ tree_at m node = (rw told at tree) in
        ap (λ t. gives t s) p ∙ ap (λ t. substitute swaps t s) q

    named_put : {i : ℕ} → (names (tree_at m i) ≡ swap_for v swaps) × (i < n)
        → (i < n) × ((s : State) → gives (tree_at m i) s ≡ substitute swaps (tree_at m node) s)
    unfolding put_in
    named_put p = (p.1, λ s. variable_put (ap (put_in v) p.0) s)

    unnamed_put : nothing ≡ swap_for v swaps → (node < n) × ((s : State) → gives (tree_at m node) s ≡ substitute swaps (tree_at m node) s)
    unfolding put_in grown
    unnamed_put p =
        let q : leaf (variable v) ≡ tree_at m node = (rw told at tree) in
        (l, λ s. variable_put (sym q ∙ ap (put_in v) p) s)

    pub found_put : {r : ℕ} (found : Option ℕ) → (swap_seen m found ≡ swap_for v swaps) × NodeWithin n found → r ≡ unwrap_or found node
        → (r < n) × ((s : State) → gives (tree_at m r) s ≡ substitute swaps (tree_at m node) s)
    found_put (Some i) p e = rw e (named_put p)
    found_put None p e = rw e (unnamed_put p.0)

-- ---- an operation on what its last operand became

module _ {node left last : ℕ} {r : Result ℕ Refused} {e : Expression} {l l' : Lent} {table table' : List ℕ} (q : Rebuilds node e left last r l l' table table') where
  rebuilt_added : {l₀ : Lent} (t : Tree) → Got l₀ last l → LeftIn e l.rows (count l.desk) left t
      → Built (intern (wrap e t (tree_in l last)) (state_in l)) r l l'
  rebuilt_added t p i =
      named (ap (λ u. intern u (state_in l)) (rebuilt_tree l.rows e left last ∙ wrap_left e l.rows (count l.desk) left t (tree_in l last) i))
      (q.added p.sound (within_rebuilt e l.rows (count l.desk) left last t i p.inside))

  rebuilt_built : {want : Answer} {l₀ : Lent} (t : Tree) → Built want (Ok last) l₀ l → (Got l₀ last l → LeftIn e l.rows (count l.desk) left t)
      → Built (and_then want (λ u s. intern (wrap e t u) s)) r l₀ l'
  rebuilt_built t b f = then_node (λ u s. intern (wrap e t u) s) b refl λ p. rebuilt_added t p (f p)

pub is_rebuilt : {node left last k : ℕ} {r : Result ℕ Refused} {e : Expression} {l l' : Lent} {table table' : List ℕ} → Adds (with_operands e left last) r l l' → r ≡ Ok k
    → table' ≡ set table (word_of node) (k % 65536 + 1) → Rebuilds node e left last (Ok k) l l' table table'
is_rebuilt {k = k} a e t = record { added = rw e at a; noted = λ l. (let few : k % 65536 ≡ k = omega (arith, l) in rw few at t) }

pub not_rebuilt : {node left last : ℕ} {r r' : Result ℕ Refused} {why : Refused} {e : Expression} {l l' : Lent} {table : List ℕ} → Adds (with_operands e left last) r l l'
    → r ≡ Err why → IsErr r' → Rebuilds node e left last r' l l' table table
not_rebuilt {r' = Ok k} a e v = absurd (false≢true v)
not_rebuilt {r' = Err _} a e v = record { added = rw e at a; noted = refl }

-- what the operation became is settled, and remembered for its node
rebuilt_known : {node left last r : ℕ} {e : Expression} {l l' : Lent} {table table' : List ℕ} → Rebuilds node e left last (Ok r) l l' table table'
    → {given : List Listings.Swap} {nodes swaps : ℕ} {t : Tree} (u : Tree) → Knows given nodes swaps l table → node < nodes → tree_in l node ≡ t
    → Built (intern u (state_in l)) (Ok r) l l' → ((l'' : Lent) → Step l l'' → substitute given t (state_in l'') ≡ intern u (state_in l''))
    → Settled given l' t (tree_in l' r) × Knows given nodes swaps l' table'
rebuilt_known {node} {r = r} {l' = l'} q {given} {nodes} {swaps} {t} u k o tree b f =
    let settled = built_settled u b t f in
    let small : r < 65536 = omega (arith, b.inside, (room_each l'.rows (count l'.desk) b.step.sound.holds.fits).most) in
    let now : tree_in l' node ≡ t = b.step.stays node (omega (arith, o, k.stand)) ∙ tree in (
      settled,
      subst (λ table'. Knows given nodes swaps l' table') (sym (q.noted small))
          (knows_more (knows_on k b.step) node r o b.inside (subst (λ t. Settled given l' t (tree_in l' r)) (sym now) settled)),
    )

-- a replacement by what it answered
pub replaced_by : {given : List Listings.Swap} {nodes swaps node r : ℕ} {r' : Result ℕ Refused} {l l' : Lent} {table' : List ℕ} → Replaced given nodes swaps node r' l l' table'
    → r' ≡ Ok r → Replaced given nodes swaps node (Ok r) l l' table'
replaced_by q e = rw e at q

-- ---- the returns of `substitute_node`

module _ {given : List Listings.Swap} {nodes swaps node : ℕ} {l : Lent} {table : List ℕ} (k : Knows given nodes swaps l table) (o : node < nodes) {e : Expression}
    (e-is : e ≡ expression_at l.rows node) {operands : Operands} (o_is : operands ≡ operands_of e) where
  stands : node < count l.desk
  stands = omega (arith, o, k.stand)

  in_node : Within node e
  in_node = within_node k.lists.sound.holds stands e-is refl

  of_tree : tree_of l.rows e ≡ tree_in l node
  of_tree = tree_of_node k.lists.sound.holds stands e-is refl

  pub one_inside : {a : ℕ} → operands ≡ Operands.One a → a < node
  one_inside {a} told = within_one node e a (sym o_is ∙ told) in_node

  pub two_inside : {a b : ℕ} → operands ≡ Operands.Two a b → (a < node) × (b < node)
  two_inside {a} {b} told = within_two node e a b (sym o_is ∙ told) in_node

  of_node : (s : State) {w : Answer} → w ≡ substitute given (tree_of l.rows e) s → w ≡ substitute given (tree_in l node) s
  of_node s p = p ∙ ap (λ t. substitute given t s) of_tree

  pub leaf_replaced : {r : ℕ} → operands ≡ Operands.Nothing → PutsIn table swaps e node r → Replaced given nodes swaps node (Ok r) l l table
  leaf_replaced {r} told puts =
      let p = puts l k.few k.lists stands of_tree (sym o_is ∙ told) in
      let put : (s : State) → gives (tree_in l r) s ≡ substitute given (tree_in l node) s = λ s. p.1 s ∙ ap (λ given. substitute given (tree_in l node) s) k.same in
      record { built = stays k.lists.sound p.0 (put (state_in l)); settled = record { again = λ l' _. sym (put (state_in l')) }; knows = k }

  module _ {a : ℕ} (told : operands ≡ Operands.One a) where
    as_one : (s : State) → and_then (substitute given (tree_in l a) s) (from_one_lem given l.rows s e (leaf pi)) ≡ substitute given (tree_in l node) s
    as_one s = of_node s (one_step given l.rows s e a (leaf pi) (sym o_is ∙ told))

    pub one_refused : {x r : Result ℕ Refused} {why : Refused} {l₁ : Lent} {table₁ : List ℕ} → Replaced given nodes swaps a x l l₁ table₁ → x ≡ Err why → IsErr r
        → Replaced given nodes swaps node r l l₁ table₁
    one_refused first h v = record {
      built = named (as_one (state_in l)) (then_refused (from_one_lem given l.rows (state_in l) e (leaf pi)) first.built h v);
      settled = nothing_asked _ _ v;
      knows = nothing_asked _ _ v;
    }

    module _ {x : ℕ} {l₁ : Lent} {table₁ : List ℕ} (first : Replaced given nodes swaps a (Ok x) l l₁ table₁) where
      none : LeftIn e l₁.rows (count l₁.desk) 0 (leaf pi)
      none = left_none e a (sym o_is ∙ told) l₁.rows (count l₁.desk) 0 (leaf pi)

      one_known : (r : Result ℕ Refused) {l₂ : Lent} {table₂ : List ℕ} → Rebuilds node e 0 x r l₁ l₂ table₁ table₂
          → IfOk r (λ k. Settled given l₂ (tree_in l node) (tree_in l₂ k)) × OnOk r (Knows given nodes swaps l₂ table₂)
      unfolding from_one_lem and_then
      one_known (Ok r) q =
          let p = got first.built in
          rebuilt_known q (wrap e (leaf pi) (tree_in l₁ x)) first.knows o (p.stays node stands) (rebuilt_added q (leaf pi) p none) λ l'' step.
          sym (as_one (state_in l'')) ∙ ap (λ w. and_then w (from_one_lem given l.rows (state_in l'') e (leaf pi))) (first.settled.again l'' step)
      one_known (Err why) q = (tt, tt)

      pub one_replaced : {r : Result ℕ Refused} {l₂ : Lent} {table₂ : List ℕ} → Rebuilds node e 0 x r l₁ l₂ table₁ table₂ → Replaced given nodes swaps node r l l₂ table₂
      unfolding from_one_lem
      one_replaced {r} q =
          let z = one_known r q in
          record { built = named (as_one (state_in l)) (rebuilt_built q (leaf pi) first.built (λ p. none)); settled = z.0; knows = z.1 }

  module _ {a b : ℕ} (told : operands ≡ Operands.Two a b) where
    as_two : (s : State) → and_then (substitute given (tree_in l a) s) (from_left given l.rows s e b) ≡ substitute given (tree_in l node) s
    as_two s = of_node s (two_step given l.rows s e a b (sym o_is ∙ told))

    pub left_refused : {x r : Result ℕ Refused} {why : Refused} {l₁ : Lent} {table₁ : List ℕ} → Replaced given nodes swaps a x l l₁ table₁ → x ≡ Err why → IsErr r
        → Replaced given nodes swaps node r l l₁ table₁
    left_refused first h v = record {
      built = named (as_two (state_in l)) (then_refused (from_left given l.rows (state_in l) e b) first.built h v);
      settled = nothing_asked _ _ v;
      knows = nothing_asked _ _ v;
    }

    module _ {left : ℕ} {l₁ : Lent} {table₁ : List ℕ} (first : Replaced given nodes swaps a (Ok left) l l₁ table₁) where
      p : Got l left l₁
      p = got first.built

      right_stays : tree_in l₁ b ≡ tree_in l b
      right_stays = p.stays b (omega (arith, (two_inside told).1, stands))

      pub right_refused : {y r : Result ℕ Refused} {why : Refused} {l₂ : Lent} {table₂ : List ℕ}
          → (Knows given nodes swaps l₁ table₁ → Replaced given nodes swaps b y l₁ l₂ table₂) → y ≡ Err why → IsErr r → Replaced given nodes swaps node r l l₂ table₂
      unfolding from_left from_one_lem
      right_refused next h v =
          let second = next first.knows in
          record {
            built = named (as_two (state_in l)) (then_node (from_left given l.rows (state_in l) e b) first.built refl λ p.
                then_refused (from_one_lem given l.rows (state_in l₁) e (tree_in l₁ left)) (named (ap (λ t. substitute given t (state_in l₁)) right_stays) second.built) h v);
            settled = nothing_asked _ _ v;
            knows = nothing_asked _ _ v;
          }

      module _ {y : ℕ} {l₂ : Lent} {table₂ : List ℕ} (next : Knows given nodes swaps l₁ table₁ → Replaced given nodes swaps b (Ok y) l₁ l₂ table₂) where
        second : Replaced given nodes swaps b (Ok y) l₁ l₂ table₂
        second = next first.knows

        left_stands : Got l₁ y l₂ → LeftIn e l₂.rows (count l₂.desk) left (tree_in l₁ left)
        left_stands p₂ = left_in e l₂.rows (count l₂.desk) left (tree_in l₁ left) (older p₂ p.inside) (p₂.stays left p.inside)

        two_known : (r : Result ℕ Refused) {l₃ : Lent} {table₃ : List ℕ} → Rebuilds node e left y r l₂ l₃ table₂ table₃
            → IfOk r (λ k. Settled given l₃ (tree_in l node) (tree_in l₃ k)) × OnOk r (Knows given nodes swaps l₃ table₃)
        unfolding from_left from_one_lem and_then
        two_known (Ok r) q =
            let p₂ = got second.built in
            let tree : tree_in l₂ node ≡ tree_in l node = p₂.stays node (older p stands) ∙ p.stays node stands in
            rebuilt_known q (wrap e (tree_in l₁ left) (tree_in l₂ y)) second.knows o tree (rebuilt_added q (tree_in l₁ left) p₂ (left_stands p₂)) λ l'' step.
            sym (as_two (state_in l'')) ∙ ap (λ w. and_then w (from_left given l.rows (state_in l'') e b)) (first.settled.again l'' (both second.built.step step))
            ∙ ap (λ t. and_then (substitute given t (state_in l'')) (from_one_lem given l.rows (state_in l'') e (tree_in l₁ left))) (sym right_stays)
            ∙ ap (λ w. and_then w (from_one_lem given l.rows (state_in l'') e (tree_in l₁ left))) (second.settled.again l'' step)
        two_known (Err why) q = (tt, tt)

        pub two_replaced : {r : Result ℕ Refused} {l₃ : Lent} {table₃ : List ℕ} → Rebuilds node e left y r l₂ l₃ table₂ table₃ → Replaced given nodes swaps node r l l₃ table₃
        unfolding from_left from_one_lem
        two_replaced {r} q =
            let z = two_known r q in
            record {
              built = named (as_two (state_in l)) (then_node (from_left given l.rows (state_in l) e b) first.built refl λ p.
                  rebuilt_built q (tree_in l₁ left) (named (ap (λ t. substitute given t (state_in l₁)) right_stays) second.built) left_stands);
              settled = z.0;
              knows = z.1;
            }
