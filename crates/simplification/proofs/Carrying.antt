-- Plans carried out in steps, with what is lent after each step: each return of the carriers. Assumes nothing.
use mathlib.Core.Path.{◌≡◌, refl, sym, ap, ◌∙◌}
use Prim.Native.Nat.{ℕ, ◌<◌}
use Rattle.std.specs.Prelude.{Result, Ok, Err, IsErr}
use Rattle.complex.specs.declared.Complex.{Complex}
use Rattle.expression.specs.declared.InfixOperator.{InfixOperator}
use Rattle.expression.specs.Trees.{Tree, number, leaf, function_call, prefixed, infixed}
use Rattle.expression.specs.declared.node.Expression.{Expression}
use Rattle.expression.specs.Nodes.{Within, grown}
use Rattle.store.specs.Storing.{State, Answer, gives, refused, and_then, intern}
use Rattle.store.specs.Memory.{Memory, tree_at, tree_of}
use Rattle.store.specs.declared.desk.Refused.{Refused}
use Rattle.store.specs.Desk.{count}
use Rattle.store.specs.Held.{Lent, tree_in, state_in, Sound, Built}
use Rattle.store.proofs.Building.{Got, older, named, stays, then_node, then_refused}
use Rattle.sheet.specs.Rows.{Rows}
use Rattle.arms.specs.declared.Outer.{Outer}
use Rattle.arms.specs.Arms.{Plan, the, new, combined, S, lesser, affine, constant, smaller, minus, sum, product, quotient}
use Rattle.arms.specs.Choosing.{At, applied_to, around, regroup_plan, added_plan, OuterIn}
use Rattle.simplification.specs.Simplifying.{Simplifier, again, carry_out}

-- ---- one step after another, grouped otherwise

assoc : (a : Answer) (f g : Simplifier) → and_then (and_then a f) g ≡ and_then a (λ t s. and_then (f t s) g)
unfolding and_then
assoc (gives t s) f g = refl
assoc (refused why s) f g = refl

assoc_inner : (a : Answer) (f : Simplifier) (g : Tree → Simplifier) (h : Simplifier)
    → and_then (and_then a λ t s. and_then (f t s) (g t)) h ≡ and_then a (λ t s. and_then (f t s) λ u s. and_then (g t u s) h)
unfolding and_then
assoc_inner (gives t s) f g h = assoc (f t s) (g t) h
assoc_inner (refused why s) f g h = refl

-- ---- what stays of the nodes that stood

node_stays : {l l₁ : Lent} {i : ℕ} → Got l i l₁ → (e : Expression) → Within (count l.desk) e → tree_of l₁.rows e ≡ tree_of l.rows e
unfolding grown
node_stays p (Expression.Number z) w = refl
node_stays p Expression.PiConstant w = refl
node_stays p (Expression.Variable v) w = refl
node_stays p (Expression.Address region index) w = refl
node_stays p (Expression.FunctionCall f a) w = ap (function_call f) (p.stays a w)
node_stays p (Expression.Prefix o a) w = ap (prefixed o) (p.stays a w)
node_stays p (Expression.Infix o a b) w = λ i. infixed o (p.stays a w.0 i) (p.stays b w.1 i)

around_stays : {l l₁ : Lent} {i : ℕ} → Got l i l₁ → (outer : Outer) → OuterIn (count l.desk) outer → (p : Plan) → around l₁.rows outer p ≡ around l.rows outer p
around_stays q Outer.Negated w p = refl
around_stays q (Outer.Before o c) w p = ap (λ t. combined o p (the t)) (q.stays c w)
around_stays q (Outer.After a o) w p = ap (λ t. combined o (the t) p) (q.stays a w)

pub within_older : {l l₁ : Lent} {i : ℕ} → Got l i l₁ → (e : Expression) → Within (count l.desk) e → Within (count l₁.desk) e
within_older p (Expression.Number z) w = tt
within_older p Expression.PiConstant w = tt
within_older p (Expression.Variable v) w = tt
within_older p (Expression.Address region index) w = tt
within_older p (Expression.FunctionCall f a) w = older p w
within_older p (Expression.Prefix o a) w = older p w
within_older p (Expression.Infix o a b) w = (older p w.0, older p w.1)

pub outer_older : {l l₁ : Lent} {i : ℕ} → Got l i l₁ → (outer : Outer) → OuterIn (count l.desk) outer → OuterIn (count l₁.desk) outer
outer_older p Outer.Negated w = tt
outer_older p (Outer.Before o c) w = older p w
outer_older p (Outer.After a o) w = older p w

-- the tree that is made around another
wrapped : Memory → Outer → Tree → Tree
wrapped m Outer.Negated t = minus t
wrapped m (Outer.Before o c) t = infixed o t (tree_at m c)
wrapped m (Outer.After a o) t = infixed o (tree_at m a) t

applied_tree : {l l₁ : Lent} {i : ℕ} → Got l i l₁ → (outer : Outer) → OuterIn (count l.desk) outer → tree_of l₁.rows (applied_to outer i) ≡ wrapped l.rows outer (tree_in l₁ i)
unfolding grown wrapped
applied_tree p Outer.Negated w = refl
applied_tree {l₁ = l₁} {i = i} p (Outer.Before o c) w = ap (infixed o (tree_in l₁ i)) (p.stays c w)
applied_tree {l₁ = l₁} {i = i} p (Outer.After a o) w = ap (λ t. infixed o t (tree_in l₁ i)) (p.stays a w)

applied_within : {l l₁ : Lent} {i : ℕ} → Got l i l₁ → (outer : Outer) → OuterIn (count l.desk) outer → Within (count l₁.desk) (applied_to outer i)
applied_within p Outer.Negated w = p.inside
applied_within p (Outer.Before o c) w = (p.inside, older p w)
applied_within p (Outer.After a o) w = (older p w, p.inside)

module _ (R : Rows) (σ : Simplifier) where
  -- ---- plans as steps

  around_carried : (m : Memory) (outer : Outer) (p : Plan) (s : State) → carry_out R σ (around m outer p) s ≡ and_then (carry_out R σ p s) λ t s. intern (wrapped m outer t) s
  unfolding carry_out and_then wrapped
  around_carried m Outer.Negated p s = refl
  around_carried m (Outer.Before o c) p s = refl
  around_carried m (Outer.After a o) p s = refl

  regrouped : (m : Memory) (outer : Outer) (p : Plan) (s : State)
      → carry_out R σ (S (around m outer p)) s ≡ and_then (carry_out R σ p s) λ t s. and_then (intern (wrapped m outer t) s) σ
  unfolding carry_out
  regrouped m outer p s = ap (λ a. and_then a σ) (around_carried m outer p s) ∙ assoc (carry_out R σ p s) (λ t s. intern (wrapped m outer t) s) σ

  added : (p q : Plan) (s : State)
      → carry_out R σ (S (combined InfixOperator.Plus p q)) s ≡ and_then (carry_out R σ p s) λ t s. and_then (carry_out R σ q s) λ u s. and_then (intern (sum t u) s) σ
  unfolding carry_out
  added p q s = assoc_inner (carry_out R σ p s) (λ t s. carry_out R σ q s) (λ t u s. intern (sum t u) s) σ

  with_number : (op : InfixOperator) (z : Complex) (x : Tree) (s : State)
      → carry_out R σ (S (combined op (constant z) (the x))) s ≡ and_then (intern (leaf (number z)) s) λ t s. carry_out R σ (S (new (infixed op t x))) s
  unfolding carry_out and_then
  with_number op z x s = assoc (intern (leaf (number z)) s) (λ t s. intern (infixed op t x) s) σ

  doubled : (z : Complex) (x : Tree) (q : Plan) (s : State)
      → carry_out R σ (S (combined InfixOperator.Plus (S (combined InfixOperator.Star (constant z) (the x))) q)) s
      ≡ and_then (intern (leaf (number z)) s) λ t s. carry_out R σ (S (combined InfixOperator.Plus (S (new (product t x))) q)) s
  doubled z x q s =
      added (S (combined InfixOperator.Star (constant z) (the x))) q s
      ∙ ap (λ a. and_then a λ t s. and_then (carry_out R σ q s) λ u s. and_then (intern (sum t u) s) σ) (with_number InfixOperator.Star z x s)
      ∙ assoc (intern (leaf (number z)) s) (λ t s. carry_out R σ (S (new (product t x))) s) (λ t s. and_then (carry_out R σ q s) λ u s. and_then (intern (sum t u) s) σ)
      ∙ (λ i. and_then (intern (leaf (number z)) s) λ t s. sym (added (S (new (product t x))) q s) i)

  -- ---- the returns

  -- S(t) of a new tree
  pub again_refused : (t : Tree) (s : State) {o r : Result ℕ Refused} {why : Refused} {l l₁ : Lent}
      → Built (intern t s) o l l₁ → o ≡ Err why → IsErr r → Built (carry_out R σ (S (new t)) s) r l l₁
  unfolding carry_out
  again_refused t s b e v = then_refused σ b e v

  pub again_node : (t : Tree) (s : State) {o : ℕ} {o' r : Result ℕ Refused} {l l₁ l₂ : Lent}
      → Built (intern t s) o' l l₁ → o' ≡ Ok o
      → (Got l o l₁ → Built (σ (tree_in l₁ o) (state_in l₁)) r l₁ l₂) → Built (carry_out R σ (S (new t)) s) r l l₂
  unfolding carry_out
  again_node t s b e f = then_node σ b e f

  -- S(1/o)
  pub inverse_refused : (z : Complex) (x : Tree) (s : State) {o r : Result ℕ Refused} {why : Refused} {l l₁ : Lent}
      → Built (intern (leaf (number z)) s) o l l₁ → o ≡ Err why → IsErr r → Built (carry_out R σ (S (combined InfixOperator.Slash (constant z) (the x))) s) r l l₁
  inverse_refused z x s b e v = named (sym (with_number InfixOperator.Slash z x s)) (then_refused (λ t s. carry_out R σ (S (new (quotient t x))) s) b e v)

  pub inverse_node : (z : Complex) (a : ℕ) (s : State) {o : ℕ} {o' r : Result ℕ Refused} {l l₁ l₂ : Lent}
      → a < count l.desk → Built (intern (leaf (number z)) s) o' l l₁ → o' ≡ Ok o
      → (Got l o l₁ → Built (carry_out R σ (S (new (tree_of l₁.rows (Expression.Infix InfixOperator.Slash o a)))) (state_in l₁)) r l₁ l₂)
      → Built (carry_out R σ (S (combined InfixOperator.Slash (constant z) (the (tree_in l a)))) s) r l l₂
  unfolding grown
  inverse_node z a s {o} {l = l} {l₁} lt b e f =
      named (sym (with_number InfixOperator.Slash z (tree_in l a) s))
      (then_node (λ t s. carry_out R σ (S (new (quotient t (tree_in l a)))) s) b e
      λ p. named (ap (λ u. carry_out R σ (S (new (quotient (tree_in l₁ o) u))) (state_in l₁)) (p.stays a lt)) (f p))

  -- S around S
  pub regroup_refused : (l : Lent) (inner : Expression) (outer : Outer) (s : State) {o r : Result ℕ Refused} {why : Refused} {l₁ : Lent}
      → Built (carry_out R σ (S (new (tree_of l.rows inner))) s) o l l₁ → o ≡ Err why → IsErr r → Built (carry_out R σ (regroup_plan l.rows inner outer) s) r l l₁
  regroup_refused l inner outer s b e v = named (sym (regrouped l.rows outer (S (new (tree_of l.rows inner))) s)) (then_refused (λ t s. and_then (intern (wrapped l.rows outer t) s) σ) b e v)

  pub regroup_node : (l : Lent) (inner : Expression) (outer : Outer) (s : State) {o : ℕ} {o' r : Result ℕ Refused} {e : Expression} {l₁ l₂ : Lent}
      → OuterIn (count l.desk) outer → e ≡ applied_to outer o → Built (carry_out R σ (S (new (tree_of l.rows inner))) s) o' l l₁ → o' ≡ Ok o
      → (Got l o l₁ → Within (count l₁.desk) e → Built (carry_out R σ (S (new (tree_of l₁.rows e))) (state_in l₁)) r l₁ l₂)
      → Built (carry_out R σ (regroup_plan l.rows inner outer) s) r l l₂
  unfolding carry_out
  regroup_node l inner outer s {l₁ = l₁} w a b e f =
      named (sym (regrouped l.rows outer (S (new (tree_of l.rows inner))) s))
      (then_node (λ t s. and_then (intern (wrapped l.rows outer t) s) σ) b e
      λ p. named (ap (λ t. and_then (intern t (state_in l₁)) σ) (ap (tree_of l₁.rows) a ∙ applied_tree p outer w)) (f p (rw a (applied_within p outer w))))

  -- min of a new node and a plan
  module _ (t : Tree) (P : Plan) (s : State) where
    next : Simplifier
    next u s = and_then (carry_out R σ P s) λ v s. gives (smaller u v) s

    pub lesser_refused : {o r : Result ℕ Refused} {why : Refused} {l l₁ : Lent}
        → Built (intern t s) o l l₁ → o ≡ Err why → IsErr r → Built (carry_out R σ (lesser (new t) P) s) r l l₁
    unfolding carry_out next
    lesser_refused b e v = then_refused next b e v

    pub lesser_second : {o : ℕ} {o' q r : Result ℕ Refused} {why : Refused} {l l₁ l₂ : Lent}
        → Built (intern t s) o' l l₁ → o' ≡ Ok o
        → (Got l o l₁ → Built (carry_out R σ P (state_in l₁)) q l₁ l₂) → q ≡ Err why → IsErr r
        → Built (carry_out R σ (lesser (new t) P) s) r l l₂
    unfolding carry_out next
    lesser_second {o} {l₁ = l₁} b e f g v = then_node next b e λ p. then_refused (λ v s. gives (smaller (tree_in l₁ o) v) s) (f p) g v

    pub lesser_node : {o q i : ℕ} {o' q' : Result ℕ Refused} {l l₁ l₂ : Lent}
        → Built (intern t s) o' l l₁ → o' ≡ Ok o
        → (Got l o l₁ → Built (carry_out R σ P (state_in l₁)) q' l₁ l₂) → q' ≡ Ok q
        → (Sound l₂ → o < count l₂.desk → q < count l₂.desk → At l₂.rows (count l₂.desk) i (smaller (tree_in l₂ o) (tree_in l₂ q)))
        → Built (carry_out R σ (lesser (new t) P) s) (Ok i) l l₂
    unfolding carry_out next
    lesser_node {o} {q} {l₁ = l₁} {l₂} b e f g a =
        then_node next b e λ p.
        then_node (λ v s. gives (smaller (tree_in l₁ o) v) s) (f p) g λ z.
        let x = a z.sound (older z p.inside) z.inside in
        stays z.sound x.inside (ap (λ u. gives u (state_in l₂)) (x.tree ∙ ap (λ u. smaller u (tree_in l₂ q)) (z.stays o p.inside)))

  -- what the second choice is, before and after the first was stored
  pub regroup_later : {l l₁ : Lent} {i : ℕ} → Got l i l₁ → (inner : Expression) (outer : Outer) → Within (count l.desk) inner → OuterIn (count l.desk) outer
      → (s : State) → carry_out R σ (regroup_plan l₁.rows inner outer) s ≡ carry_out R σ (regroup_plan l.rows inner outer) s
  regroup_later {l} {l₁} p inner outer w o s =
      ap (λ q. carry_out R σ (S q) s) (around_stays p outer o (S (new (tree_of l₁.rows inner))) ∙ ap (λ t. around l.rows outer (S (new t))) (node_stays p inner w))

  pub added_later : {l l₁ : Lent} {i : ℕ} → Got l i l₁ → (a b : Expression) → Within (count l.desk) a → Within (count l.desk) b
      → (s : State) → carry_out R σ (added_plan l₁.rows a b) s ≡ carry_out R σ (added_plan l.rows a b) s
  added_later p a b w v s = λ i. carry_out R σ (S (combined InfixOperator.Plus (S (new (node_stays p a w i))) (S (new (node_stays p b v i))))) s

  -- S(S(a)+S(b))
  pub added_refused : (a b : Tree) (s : State) {o r : Result ℕ Refused} {why : Refused} {l l₁ : Lent}
      → Built (carry_out R σ (S (new a)) s) o l l₁ → o ≡ Err why → IsErr r
      → Built (carry_out R σ (S (combined InfixOperator.Plus (S (new a)) (S (new b)))) s) r l l₁
  added_refused a b s x e v = named (sym (added (S (new a)) (S (new b)) s)) (then_refused (λ t s. and_then (carry_out R σ (S (new b)) s) λ u s. and_then (intern (sum t u) s) σ) x e v)

  pub added_second : (a : Tree) (b : Expression) (s : State) {o : ℕ} {o' q r : Result ℕ Refused} {why : Refused} {l l₁ l₂ : Lent}
      → Within (count l.desk) b → Built (carry_out R σ (S (new a)) s) o' l l₁ → o' ≡ Ok o
      → (Got l o l₁ → Built (carry_out R σ (S (new (tree_of l₁.rows b))) (state_in l₁)) q l₁ l₂) → q ≡ Err why → IsErr r
      → Built (carry_out R σ (S (combined InfixOperator.Plus (S (new a)) (S (new (tree_of l.rows b))))) s) r l l₂
  added_second a b s {o} {l = l} {l₁} w x e f g v =
      named (sym (added (S (new a)) (S (new (tree_of l.rows b))) s))
      (then_node (λ t s. and_then (carry_out R σ (S (new (tree_of l.rows b))) s) λ u s. and_then (intern (sum t u) s) σ) x e λ p.
      then_refused (λ u s. and_then (intern (sum (tree_in l₁ o) u) s) σ) (named (ap (λ t. carry_out R σ (S (new t)) (state_in l₁)) (node_stays p b w)) (f p)) g v)

  pub added_node : (a : Tree) (b : Expression) (s : State) {o q : ℕ} {o' q' r : Result ℕ Refused} {l l₁ l₂ l₃ : Lent}
      → Within (count l.desk) b → Built (carry_out R σ (S (new a)) s) o' l l₁ → o' ≡ Ok o
      → (Got l o l₁ → Built (carry_out R σ (S (new (tree_of l₁.rows b))) (state_in l₁)) q' l₁ l₂) → q' ≡ Ok q
      → (Sound l₂ → o < count l₂.desk → q < count l₂.desk → Built (carry_out R σ (S (new (tree_of l₂.rows (Expression.Infix InfixOperator.Plus o q)))) (state_in l₂)) r l₂ l₃)
      → Built (carry_out R σ (S (combined InfixOperator.Plus (S (new a)) (S (new (tree_of l.rows b))))) s) r l l₃
  unfolding carry_out grown
  added_node a b s {o} {q} {l = l} {l₁} {l₂} w x e f g y =
      named (sym (added (S (new a)) (S (new (tree_of l.rows b))) s))
      (then_node (λ t s. and_then (carry_out R σ (S (new (tree_of l.rows b))) s) λ u s. and_then (intern (sum t u) s) σ) x e λ p.
      then_node (λ u s. and_then (intern (sum (tree_in l₁ o) u) s) σ) (named (ap (λ t. carry_out R σ (S (new t)) (state_in l₁)) (node_stays p b w)) (f p)) g λ z.
      named (ap (λ t. and_then (intern (sum t (tree_in l₂ q)) (state_in l₂)) σ) (z.stays o p.inside)) (y z.sound (older z p.inside) z.inside))

  -- S(S(2*x)+S(a+b))
  module _ (z : Complex) (x a b : ℕ) (s : State) {l : Lent} where
    pub double_refused : {o r : Result ℕ Refused} {why : Refused} {l₁ : Lent} → Built (intern (leaf (number z)) s) o l l₁ → o ≡ Err why → IsErr r
        → Built (carry_out R σ (S (combined InfixOperator.Plus (S (combined InfixOperator.Star (constant z) (the (tree_in l x)))) (S (new (sum (tree_in l a) (tree_in l b)))))) s) r l l₁
    double_refused y e v =
        named (sym (doubled z (tree_in l x) (S (new (sum (tree_in l a) (tree_in l b)))) s))
        (then_refused (λ t s. carry_out R σ (S (combined InfixOperator.Plus (S (new (product t (tree_in l x)))) (S (new (sum (tree_in l a) (tree_in l b)))))) s) y e v)

    pub double_node : {o : ℕ} {o' r : Result ℕ Refused} {l₁ l₂ : Lent} → x < count l.desk → a < count l.desk → b < count l.desk
        → Built (intern (leaf (number z)) s) o' l l₁ → o' ≡ Ok o
        → (Got l o l₁ → Built (carry_out R σ (added_plan l₁.rows (Expression.Infix InfixOperator.Star o x) (Expression.Infix InfixOperator.Plus a b)) (state_in l₁)) r l₁ l₂)
        → Built (carry_out R σ (S (combined InfixOperator.Plus (S (combined InfixOperator.Star (constant z) (the (tree_in l x)))) (S (new (sum (tree_in l a) (tree_in l b)))))) s) r l l₂
    unfolding grown
    double_node {o} {l₁ = l₁} lx la lb y e f =
        named (sym (doubled z (tree_in l x) (S (new (sum (tree_in l a) (tree_in l b)))) s))
        (then_node (λ t s. carry_out R σ (S (combined InfixOperator.Plus (S (new (product t (tree_in l x)))) (S (new (sum (tree_in l a) (tree_in l b)))))) s) y e λ p.
        named (λ v. carry_out R σ (S (combined InfixOperator.Plus (S (new (product (tree_in l₁ o) (p.stays x lx v)))) (S (new (sum (p.stays a la v) (p.stays b lb v)))))) (state_in l₁)) (f p))

  -- S(S(S(a)*x)+S(b))
  module _ (l : Lent) (a : Expression) (x : ℕ) (b : Expression) (s : State) where
    last : Tree → Simplifier
    last u v s = and_then (again σ (product u (tree_in l x)) s) λ w s. again σ (sum w v) s

    second : Simplifier
    second u s = and_then (again σ (tree_of l.rows b) s) (last u)

    last_is : (u v : Tree) (s : State) → carry_out R σ (S (combined InfixOperator.Plus (S (new (product u (tree_in l x)))) (the v))) s ≡ last u v s
    unfolding last again carry_out and_then
    last_is u v s = assoc (and_then (intern (product u (tree_in l x)) s) σ) (λ w s. intern (sum w v) s) σ

    pub affine_refused : {o r : Result ℕ Refused} {why : Refused} {l₁ : Lent} → Built (carry_out R σ (S (new (tree_of l.rows a))) s) o l l₁ → o ≡ Err why → IsErr r
        → Built (carry_out R σ (affine (tree_of l.rows a) (tree_in l x) (tree_of l.rows b)) s) r l l₁
    unfolding carry_out again second last
    affine_refused y e v = then_refused second y e v

    pub affine_second : {o : ℕ} {o' q r : Result ℕ Refused} {why : Refused} {l₁ l₂ : Lent} → Within (count l.desk) b
        → Built (carry_out R σ (S (new (tree_of l.rows a))) s) o' l l₁ → o' ≡ Ok o
        → (Got l o l₁ → Built (carry_out R σ (S (new (tree_of l₁.rows b))) (state_in l₁)) q l₁ l₂) → q ≡ Err why → IsErr r
        → Built (carry_out R σ (affine (tree_of l.rows a) (tree_in l x) (tree_of l.rows b)) s) r l l₂
    unfolding carry_out again second last
    affine_second {o} {l₁ = l₁} w y e f g v =
        then_node second y e λ p.
        then_refused (last (tree_in l₁ o)) (named (ap (λ t. and_then (intern t (state_in l₁)) σ) (node_stays p b w)) (f p)) g v

    pub affine_node : {o q : ℕ} {o' q' r : Result ℕ Refused} {l₁ l₂ l₃ : Lent} → x < count l.desk → Within (count l.desk) b
        → Built (carry_out R σ (S (new (tree_of l.rows a))) s) o' l l₁ → o' ≡ Ok o
        → (Got l o l₁ → Built (carry_out R σ (S (new (tree_of l₁.rows b))) (state_in l₁)) q' l₁ l₂) → q' ≡ Ok q
        → (Sound l₂ → o < count l₂.desk → x < count l₂.desk → q < count l₂.desk
        → Built (carry_out R σ (regroup_plan l₂.rows (Expression.Infix InfixOperator.Star o x) (Outer.Before InfixOperator.Plus q)) (state_in l₂)) r l₂ l₃)
        → Built (carry_out R σ (affine (tree_of l.rows a) (tree_in l x) (tree_of l.rows b)) s) r l l₃
    unfolding carry_out again second last grown
    affine_node {o} {q} {l₁ = l₁} {l₂} lx w y e f g h =
        then_node second y e λ p.
        then_node (last (tree_in l₁ o)) (named (ap (λ t. and_then (intern t (state_in l₁)) σ) (node_stays p b w)) (f p)) g λ z.
        named ((λ v. carry_out R σ (S (combined InfixOperator.Plus (S (new (product (z.stays o p.inside v) ((z.stays x (older p lx) ∙ p.stays x lx) v)))) (the (tree_in l₂ q)))) (state_in l₂)) ∙ last_is (tree_in l₁ o) (tree_in l₂ q) (state_in l₂))
        (h z.sound (older z p.inside) (older z (older p lx)) z.inside)
