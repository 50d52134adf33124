-- A stored tree's written listing fits into the store it was in: `order_room`; so what the code wrote reads back with as much work memory,
-- `written_reads_back`, and with origins `traced_reads_back`. Assumes nothing.
use mathlib.Core.Path.{◌≡◌, refl, sym, ◌∙◌, subst}
use mathlib.Core.List.{List, [], ◌∷◌, ◌++◌}
use mathlib.Core.Logic.{⊎_elim}
use mathlib.Core.Bool.{Bool, true, false, cond}
use Prim.Native.Nat.{ℕ, zero, suc, ◌≤◌, ◌<◌}
use native.Mathlib.Nat.{eq-or-lt_of_le}
use native.Mathlib.Omega.{arith}
use native.Mathlib.Decide.{dec_lt}
use lib.Dec.{T}
use lib.ListN.{length, get_or, length-append, get_or-append}
use lib.Seq.{get_or_at}
use Rattle.expression.specs.Trees.{Tree, leaf, pi, function_call, prefixed, infixed}
use Rattle.expression.specs.Alike.{identical}
use Rattle.expression.specs.Limits.{Limited, Proper}
use Rattle.expression.proofs.Likeness.{identical_sym, identical_trans}
use Rattle.expression.specs.declared.node.Expression.{Expression}
use Rattle.expression.specs.Nodes.{grown, Within}
use Rattle.store.specs.Storing.{fresh, among, place}
use Rattle.store.specs.Memory.{Memory, room, expression_at, trees, tree_at, tree_of}
use Rattle.store.specs.Held.{Holds}
use Rattle.store.proofs.Places.{place_within, place_hit, place_first, among_no, among_yes}
use Rattle.store.proofs.Stored.{as_many, stored, proper, limited, read_node}
use Rattle.listing.specs.Listings.{accepted, listing}
use Rattle.writing.specs.Order.{once, finished, order, text_of}
use Rattle.writing.specs.Origins.{traced_text_of}
use Rattle.writing.specs.Ordering.{AllIn, Laid, empty, more}
use Rattle.writing.proofs.Orders.{true_not_false, finished_laid}
use Rattle.writing.proofs.Visiting.{pigeon}
use Rattle.writing.proofs.ReadBack.{store_of, reads_back, reads_back_traced}

-- ---- all below a stored tree is stored

grown_all : (m : Memory) (ts : List Tree) (k : ℕ) (e : Expression) → Within k e → ((j : ℕ) → j < k → AllIn ts (tree_at m j)) → among ts (tree_of m e) ≡ true → AllIn ts (tree_of m e)
unfolding grown
grown_all m ts k (Expression.Number z) w f a = a
grown_all m ts k Expression.PiConstant w f a = a
grown_all m ts k (Expression.Variable v) w f a = a
grown_all m ts k (Expression.Address r i) w f a = a
grown_all m ts k (Expression.FunctionCall g c) w f a = (a, f c w)
grown_all m ts k (Expression.Prefix o c) w f a = (a, f c w)
grown_all m ts k (Expression.Infix o c d) w f a = (a, (f c w.0, f d w.1))

module _ {m : Memory} {n : ℕ} (h : Holds m n) where
  all_stored : (b k : ℕ) → k < b → k < n → AllIn (trees m n) (tree_at m k)
  all_stored zero k l o = absurd (omega arith)
  all_stored (suc b) k l o =
      let p = read_node h {r = expression_at m k} k o refl in
      subst (AllIn (trees m n)) p.1
      (grown_all m (trees m n) k (expression_at m k) p.0 (λ j q. all_stored b j (omega arith) (omega arith))
      (subst (λ t. among (trees m n) t ≡ true) (sym p.1) (stored h k o)))

-- ---- what is listed comes from there

abbrev From : (source ts : List Tree) → Type 0
From source ts = (k : ℕ) → k < length ts → among source (get_or ts k (leaf pi)) ≡ true

from_snoc : (source : List Tree) (t : Tree) (done : List Tree) → among source t ≡ true → From source done → From source (done ++ (t ∷ []))
from_snoc source t done a f k l = go (dec_lt k (length done))
  where
    go : Dec (k < length done) → among source (get_or (done ++ (t ∷ [])) k (leaf pi)) ≡ true
    go (yes y) = rw (get_or-append done (t ∷ []) (leaf pi) k y) (f k y)
    go (no z) = let e : k ≡ length done = omega (arith, length-append done (t ∷ [])) in rw (e, get_or_at done t [] (leaf pi) (length done) refl) a

from_once : (source : List Tree) (t : Tree) (done : List Tree) → among source t ≡ true → From source done → From source (once t done)
unfolding once
from_once source t done a f = go (among done t)
  where
    go : (b : Bool) → From source (cond b done (done ++ (t ∷ [])))
    go true = f
    go false = from_snoc source t done a f

from_finished : (source : List Tree) (t : Tree) (done : List Tree) → AllIn source t → From source done → From source (finished t done)
unfolding finished
from_finished source (leaf l) done a f = from_once source (leaf l) done a f
from_finished source (function_call g t) done a f = from_once source (function_call g t) (finished t done) a.0 (from_finished source t done a.1 f)
from_finished source (prefixed o t) done a f = from_once source (prefixed o t) (finished t done) a.0 (from_finished source t done a.1 f)
from_finished source (infixed o l r) done a f =
    from_once source (infixed o l r) (finished r (finished l done)) a.0 (from_finished source r (finished l done) a.1.1 (from_finished source l done a.1.0 f))

-- ---- and stands once

unlike : (ts : List Tree) (t : Tree) → among ts t ≡ false → (k : ℕ) → k < length ts → T (identical t (get_or ts k (leaf pi))) → ⊥
unlike ts t e k l i = true_not_false (sym (among_yes ts t (omega (arith, place_first (identical t) ts k l i, l))) ∙ e)

laid_apart : {ts : List Tree} → Laid ts → (i j : ℕ) → i < j → j < length ts → T (identical (get_or ts j (leaf pi)) (get_or ts i (leaf pi))) → ⊥
laid_apart empty i j p q x = absurd (omega arith)
laid_apart (more {ts} t b kids new pr li) i j p q x = go (dec_lt j (length ts)) (λ y z. laid_apart b i j p y z)
  where
    first : get_or (ts ++ (t ∷ [])) i (leaf pi) ≡ get_or ts i (leaf pi)
    first = get_or-append ts (t ∷ []) (leaf pi) i (omega (arith, p, q, length-append ts (t ∷ [])))

    go : Dec (j < length ts) → (j < length ts → T (identical (get_or ts j (leaf pi)) (get_or ts i (leaf pi))) → ⊥) → ⊥
    go (yes y) f = f y (rw (first, get_or-append ts (t ∷ []) (leaf pi) j y) at x)
    go (no z) f =
        let e : j ≡ length ts = omega (arith, length-append ts (t ∷ []), q, z) in
        unlike ts t new i (omega (arith, p, e)) (rw (first, e, get_or_at ts t [] (leaf pi) (length ts) refl) at x)

-- so there are no more than in the source
fits_in : (source ts : List Tree) → Laid ts → From source ts → length ts ≤ length source
fits_in source ts laid from = pigeon (length source) (length ts) f below apart
  where
    at : ℕ → Tree
    at k = get_or ts k (leaf pi)

    f : ℕ → ℕ
    f k = place (identical (at k)) source

    below : (k : ℕ) → k < length ts → f k < length source
    below k l = ⊎_elim (λ z. true_not_false (sym (from k l) ∙ among_no source (at k) z)) (λ o. o) (eq-or-lt_of_le (place_within (identical (at k)) source))

    alike : (i j : ℕ) → i < length ts → j < length ts → f i ≡ f j → T (identical (at j) (at i))
    alike i j p q e =
        let a = place_hit (identical (at i)) source (below i p) in
        let b = place_hit (identical (at j)) source (below j q) in
        identical_trans (at j) (get_or source (f j) (leaf pi)) (at i) b (identical_sym (at i) (get_or source (f j) (leaf pi)) (rw e at a))

    apart : (i j : ℕ) → i < length ts → j < length ts → f i ≡ f j → i ≡ j
    apart i j p q e = go (dec_lt i j) (dec_lt j i)
      where
        go : Dec (i < j) → Dec (j < i) → i ≡ j
        go (yes x) d = absurd (laid_apart laid i j x q (alike i j p q e))
        go (no x) (yes y) = absurd (laid_apart laid j i y p (alike j i q p (sym e)))
        go (no x) (no y) = omega arith

-- so a tree that is among some trees with all below it has at most as many lines
pub order_among : (source : List Tree) (t : Tree) → AllIn source t → Proper t → Limited t → length (order t) ≤ length source
order_among source t a p l = fits_in source (order t) (finished_laid t [] empty p l).0 (from_finished source t [] a (λ k h. absurd (omega arith)))

-- ---- the theorem

module _ {m : Memory} {n root : ℕ} (h : Holds m n) (inside : root < n) where
  pub order_room : length (order (tree_at m root)) ≤ n
  order_room = rw (as_many h) at (order_among (trees m n) (tree_at m root) (all_stored h (suc root) root (omega arith) inside) (proper h root) (limited h root inside))

  -- what was written from a store, of any node, reads back into rows with as much room
  pub written_reads_back : length (order (tree_at m root)) ≤ 1024 → (substituting : Bool) (room' : ℕ) → room m ≤ room'
      → listing substituting (text_of (tree_at m root)) (fresh room' 0) ≡ accepted (tree_at m root) [] (store_of room' (order (tree_at m root)))
  written_reads_back few substituting room' as-much =
      reads_back (tree_at m root) (proper h root) (limited h root inside) substituting room' few (omega (arith, order_room, h.fits, as-much))

  -- and so does what was written with origins
  pub traced_reads_back : (given : List Tree) → length given ≤ 1024 → length (order (tree_at m root)) ≤ 1024 → (substituting : Bool) (room' : ℕ) → room m ≤ room'
      → listing substituting (traced_text_of given (tree_at m root)) (fresh room' 0) ≡ accepted (tree_at m root) [] (store_of room' (order (tree_at m root)))
  traced_reads_back given lately few substituting room' as-much =
      reads_back_traced given lately (tree_at m root) (proper h root) (limited h root inside) substituting room' few (omega (arith, order_room, h.fits, as-much))
