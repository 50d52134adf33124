-- The written order of a tree: each tree once, its subtrees before it. Assumes nothing.
use mathlib.Core.Path.{◌≡◌, refl, sym, ap, ◌∙◌, subst}
use mathlib.Core.List.{List, [], ◌∷◌, ◌++◌, append_assoc, append-nil}
use mathlib.Core.Bool.{Bool, true, false, cond, ◌||◌}
use Prim.Native.Nat.{ℕ, ◌<◌}
use native.Mathlib.Omega.{arith}
use native.Mathlib.Decide.{dec_lt}
use lib.Dec.{T}
use lib.ListN.{length, get_or, length-append, get_or-append}
use lib.Seq.{get_or_at}
use Rattle.expression.specs.Trees.{Tree, leaf, pi, function_call, prefixed, infixed, size}
use Rattle.expression.specs.Alike.{identical}
use Rattle.expression.specs.Limits.{Limited, Proper}
use Rattle.expression.proofs.Likeness.{identical_refl, identical_is_equal, equal_size}
use Rattle.expression.proofs.Sizes.{limited_function, limited_prefix, limited_left, limited_right}
use Rattle.store.specs.Storing.{among}
use Rattle.writing.specs.Order.{once, finished}
use Rattle.writing.specs.Ordering.{AllIn, KidsIn, Laid, empty, more}

-- ---- among

pub true_not_false : {A : Type 0} → true ≡ false → A
true_not_false e = absurd (subst T e tt)

pub among_snoc : (ts : List Tree) (u t : Tree) → among (ts ++ (u ∷ [])) t ≡ among ts t || identical t u
unfolding among
among_snoc [] u t = or_false (identical t u)
  where
    or_false : (b : Bool) → b || false ≡ b
    or_false true = refl
    or_false false = refl
among_snoc (s ∷ ts) u t = go (identical t s) (among_snoc ts u t)
  where
    go : (b : Bool) → among (ts ++ (u ∷ [])) t ≡ among ts t || identical t u → b || among (ts ++ (u ∷ [])) t ≡ (b || among ts t) || identical t u
    go true e = refl
    go false e = e

among_more : (ts us : List Tree) (t : Tree) → among ts t ≡ true → among (ts ++ us) t ≡ true
unfolding among
among_more [] us t e = true_not_false (sym e)
among_more (s ∷ ts) us t e = go (identical t s) e (among_more ts us t)
  where
    go : (b : Bool) → b || among ts t ≡ true → (among ts t ≡ true → among (ts ++ us) t ≡ true) → b || among (ts ++ us) t ≡ true
    go true e f = refl
    go false e f = f e

is_true : (b : Bool) → T b → b ≡ true
is_true true t = refl
is_true false t = absurd t

pub among_last : (ts : List Tree) (t : Tree) → among (ts ++ (t ∷ [])) t ≡ true
among_last ts t = among_snoc ts t t ∙ rw (is_true (identical t t) (identical_refl t)) (or_true (among ts t))
  where
    or_true : (b : Bool) → b || true ≡ true
    or_true true = refl
    or_true false = refl

-- ---- a tree and all below it are among some

pub all_is : (done : List Tree) (t : Tree) → AllIn done t → among done t ≡ true
all_is done (leaf l) a = a
all_is done (function_call f t) a = a.0
all_is done (prefixed o t) a = a.0
all_is done (infixed o l r) a = a.0

all_of : (done : List Tree) (t : Tree) → among done t ≡ true → KidsIn done t → AllIn done t
all_of done (leaf l) e k = e
all_of done (function_call f t) e k = (e, k)
all_of done (prefixed o t) e k = (e, k)
all_of done (infixed o l r) e k = (e, k)

pub all_more : (done us : List Tree) (t : Tree) → AllIn done t → AllIn (done ++ us) t
all_more done us (leaf l) a = among_more done us (leaf l) a
all_more done us (function_call f t) a = (among_more done us _ a.0, all_more done us t a.1)
all_more done us (prefixed o t) a = (among_more done us _ a.0, all_more done us t a.1)
all_more done us (infixed o l r) a = (among_more done us _ a.0, (all_more done us l a.1.0, all_more done us r a.1.1))

kids_more : (done us : List Tree) (t : Tree) → KidsIn done t → KidsIn (done ++ us) t
kids_more done us (leaf l) k = tt
kids_more done us (function_call f t) k = all_more done us t k
kids_more done us (prefixed o t) k = all_more done us t k
kids_more done us (infixed o l r) k = (all_more done us l k.0, all_more done us r k.1)

-- ---- what is done stays

once_old : (t : Tree) (done : List Tree) → among done t ≡ true → once t done ≡ done
unfolding once
once_old t done e = rw e

pub once_new : (t : Tree) (done : List Tree) → among done t ≡ false → once t done ≡ done ++ (t ∷ [])
unfolding once
once_new t done e = rw e

-- a tree that is done, with all below it, adds nothing
pub done_already : (t : Tree) (done : List Tree) → AllIn done t → finished t done ≡ done
unfolding finished
done_already (leaf l) done a = once_old (leaf l) done a
done_already (function_call f t) done a = rw (done_already t done a.1) (once_old (function_call f t) done a.0)
done_already (prefixed o t) done a = rw (done_already t done a.1) (once_old (prefixed o t) done a.0)
done_already (infixed o l r) done a = rw (done_already l done a.1.0, done_already r done a.1.1) (once_old (infixed o l r) done a.0)

pub record After (done done' : List Tree) : Type 0 where
  pub later : List Tree
  pub is : done' ≡ done ++ later

after_trans : {a b c : List Tree} → After a b → After b c → After a c
after_trans {a} p q = record { later = p.later ++ q.later; is = q.is ∙ ap (λ (l : List Tree). l ++ q.later) p.is ∙ append_assoc a p.later q.later }

once_after : (t : Tree) (done : List Tree) → After done (once t done)
unfolding once
once_after t done = go (among done t) refl
  where
    go : (b : Bool) → among done t ≡ b → After done (cond b done (done ++ (t ∷ [])))
    go true e = record { later = []; is = sym (append-nil done) }
    go false e = record { later = t ∷ []; is = refl }

pub finished_after : (t : Tree) (done : List Tree) → After done (finished t done)
unfolding finished
finished_after (leaf l) done = once_after (leaf l) done
finished_after (function_call f t) done = after_trans (finished_after t done) (once_after (function_call f t) (finished t done))
finished_after (prefixed o t) done = after_trans (finished_after t done) (once_after (prefixed o t) (finished t done))
finished_after (infixed o l r) done = after_trans (finished_after l done) (after_trans (finished_after r (finished l done)) (once_after (infixed o l r) (finished r (finished l done))))

all_after : {done done' : List Tree} → After done done' → (t : Tree) → AllIn done t → AllIn done' t
all_after {done} p t a = rw p.is (all_more done p.later t a)

-- ---- laid out as a listing has them

once_laid : (t : Tree) (done : List Tree) → Laid done → KidsIn done t → Proper t → Limited t → Laid (once t done) × AllIn (once t done) t
unfolding once
once_laid t done b k p l = go (among done t) refl
  where
    go : (y : Bool) → among done t ≡ y → Laid (cond y done (done ++ (t ∷ []))) × AllIn (cond y done (done ++ (t ∷ []))) t
    go true e = (b, all_of done t e k)
    go false e = (more t b k e p l, all_of (done ++ (t ∷ [])) t (among_last done t) (kids_more done (t ∷ []) t k))

pub finished_laid : (t : Tree) (done : List Tree) → Laid done → Proper t → Limited t → Laid (finished t done) × AllIn (finished t done) t
unfolding finished
finished_laid (leaf l) done b p m = once_laid (leaf l) done b tt p m
finished_laid (function_call f t) done b p m =
    let i = finished_laid t done b p (limited_function f t m) in once_laid (function_call f t) (finished t done) i.0 i.1 p m
finished_laid (prefixed o t) done b p m =
    let i = finished_laid t done b p (limited_prefix o t m) in once_laid (prefixed o t) (finished t done) i.0 i.1 p m
finished_laid (infixed o l r) done b p m =
    let i = finished_laid l done b p.0 (limited_left o l r m) in
    let j = finished_laid r (finished l done) i.0 p.1 (limited_right o l r m) in
    once_laid (infixed o l r) (finished r (finished l done)) j.0 (all_after (finished_after r (finished l done)) l i.1, j.1) p m

-- each of them is done
pub laid_all : {ts : List Tree} → Laid ts → (k : ℕ) → k < length ts → AllIn ts (get_or ts k (leaf pi))
laid_all empty k h = absurd (omega arith)
laid_all (more {ts} t b kids new p l) k h = elim (dec_lt k (length ts)) [
  | yes y ↦ rw (get_or-append ts (t ∷ []) (leaf pi) k y) (all_more ts (t ∷ []) (get_or ts k (leaf pi)) (laid_all b k y))
  | no n ↦
      let z : k ≡ length ts = omega (arith, length-append ts (t ∷ [])) in
      rw (z, get_or_at ts t [] (leaf pi) (length ts) refl) (all_of (ts ++ (t ∷ [])) t (among_last ts t) (kids_more ts (t ∷ []) t kids))
]

-- ---- a tree is not done by what is smaller

alike_size : (s t : Tree) → Proper s → Proper t → T (identical s t) → size s ≡ size t
alike_size s t p q i = equal_size s t (identical_is_equal s t p q i)

or_no : (b c : Bool) → b ≡ false → c ≡ false → b || c ≡ false
or_no b c p q = rw (p, q)

once_smaller : (u t : Tree) (done : List Tree) → Proper u → Proper t → size u < size t → among done t ≡ false → among (once u done) t ≡ false
unfolding once
once_smaller u t done p q h e = go (among done u)
  where
    apart : (b : Bool) → identical t u ≡ b → identical t u ≡ false
    apart true i = absurd (omega (arith, h, alike_size t u q p (subst T (sym i) tt)))
    apart false i = i

    go : (y : Bool) → among (cond y done (done ++ (u ∷ []))) t ≡ false
    go true = e
    go false = among_snoc done u t ∙ or_no (among done t) (identical t u) e (apart (identical t u) refl)

pub not_yet : (u t : Tree) (done : List Tree) → Proper u → Proper t → size u < size t → among done t ≡ false → among (finished u done) t ≡ false
unfolding finished size
not_yet (leaf l) t done p q h e = once_smaller (leaf l) t done p q h e
not_yet (function_call f s) t done p q h e = once_smaller (function_call f s) t (finished s done) p q h (not_yet s t done p q (omega (arith, h)) e)
not_yet (prefixed o s) t done p q h e = once_smaller (prefixed o s) t (finished s done) p q h (not_yet s t done p q (omega (arith, h)) e)
not_yet (infixed o l r) t done p q h e =
    once_smaller (infixed o l r) t (finished r (finished l done)) p q h
    (not_yet r t (finished l done) p.1 q (omega (arith, h)) (not_yet l t done p.0 q (omega (arith, h)) e))
