-- The loop over the lines of a listing, and its answer. Assumes nothing.
use mathlib.Core.Path.{◌≡◌, refl, sym, ap, ◌∙◌, subst}
use mathlib.Core.List.{List, [], ◌∷◌, ◌++◌}
use mathlib.Core.Bool.{Bool}
use Prim.Native.Nat.{ℕ, zero, suc, ◌+◌, ◌-◌, ◌≤◌, ◌<◌}
use native.Mathlib.Omega.{arith}
use lib.ListN.{length, get_or}
use borrow.Author.Tests.{eq-eqb, ne_eqb}
use Rattle.std.specs.Prelude.{Result, Ok, Err}
use Rattle.std.specs.Borrow.{Bor}
use Rattle.std.specs.List.{IsFirstAndRest}
use Rattle.expression.specs.declared.refusal.Refusal.{Refusal}
use Rattle.expression.specs.Trees.{Tree}
use Rattle.store.specs.Memory.{room}
use Rattle.store.specs.Storing.{State, fresh}
use Rattle.store.specs.Held.{Lent, tree_in, state_in, Sound, Begun}
use Rattle.store.specs.Tracing.{Traced}
use Rattle.memory.specs.Keys.{up_to}
use Rattle.memory.proofs.Values.{up_to_snoc}
use Rattle.text.specs.Lines as Lines
use Rattle.text.proofs.Lining.{Left, begins, ends, goes_on, stops_at}
use Rattle.memory.specs.Layout.{table_words}
use Rattle.listing.specs.declared.Listed as Code
use Rattle.listing.specs.declared.Progress.{Progress}
use Rattle.listing.specs.Listings.{known, Swap, accepted, last, rooted, whole, listing, listing_line, lines_of, given}
use Rattle.listing.proofs.Shortening.{listing_shortens}
use Rattle.listing.specs.Tables.{line_trees, swap_trees, known_at, Listed, Ready, Step, Takes, lines_seen, Ended, ReadsLines, listing_seen, ListsAfter, TracedAfter, Reads, root_of}

-- after some lines
pub record Going (substituting : Bool) (text : List ℕ) (l₀ l : Lent) (table rest : List ℕ) (p : Progress) : Type 0 where
  pub lines : p.lines ≤ 1024
  pub swaps : p.swaps ≤ 256
  pub long : table_words ≤ length table
  pub listed : Listed l table p.lines p.swaps
  pub left : Left (listing_line substituting) (known_at l table p) rest (Lines.lines (listing_line substituting) (known [] [] (state_in l₀)) text)

abbrev pub at_start : Progress
at_start = record { lines = 0; swaps = 0 }

pub going_begins : (substituting : Bool) (text : List ℕ) (l : Lent) (table : List ℕ) → table_words ≤ length table → Sound l → Traced [] l → Going substituting text l l table text at_start
unfolding up_to
going_begins substituting text l table o h t = record {
  lines = omega arith;
  swaps = omega arith;
  long = o;
  listed = record {
    lists = record { sound = h; nodes = λ k o. absurd (omega arith); named = λ k o. absurd (omega arith); ascends = record { each = λ j o. absurd (omega arith) } };
    traced = t;
  };
  left = begins (listing_line substituting) (listing_shortens substituting) (known [] [] (state_in l)) text;
}

module _ {substituting : Bool} {text : List ℕ} {l₀ l : Lent} {table rest : List ℕ} {p : Progress} (g : Going substituting text l₀ l table rest p) where
  pub is_ready : Ready table p
  is_ready = record { lines = g.lines; swaps = g.swaps; long = g.long }

  pub going_ends : length rest ≡ 0 → ReadsLines substituting text (Ok p) l₀ l table
  going_ends h = record { answer = ends rest g.left h; after = record { listed = g.listed; lines = g.lines; swaps = g.swaps } }

  module _ {first : ℕ} {after : List ℕ} (f : IsFirstAndRest rest first after) {r : Step} {l' : Lent} {table' : List ℕ}
      (t : Takes (listing_line substituting (known_at l table p) first after) p r l' table') where
    pub going_stops : {why : Refusal} → r ≡ Err why → ReadsLines substituting text (Err why) l₀ l' table'
    going_stops {why} e =
        let a = rw e at t.answer in
        record { answer = stops_at g.left f (sym a); after = tt }

    pub going_on : {q : Progress} {next : Bor (List ℕ)} → r ≡ Ok (q, next) → length table' ≡ length table → Going substituting text l₀ l' table' next.now q
    going_on e k =
        let a = rw e at t.answer in
        let s = rw e at t.after in
        record {
          lines = s.lines;
          swaps = s.swaps;
          long = omega (arith, g.long, k);
          listed = s.listed;
          left = goes_on g.left f (sym a);
        }

    pub less : {q : Progress} {next : Bor (List ℕ)} → r ≡ Ok (q, next) → 1281 - (q.lines + q.swaps) < 1281 - (p.lines + p.swaps)
    less e = let s = rw e at t.after in omega (arith, s.count, g.lines, g.swaps)

-- ---- the root

last_snoc : (t u : Tree) (ts : List Tree) → last t (ts ++ (u ∷ [])) ≡ u
unfolding last
last_snoc t u [] = refl
last_snoc t u (v ∷ ts) = last_snoc v u ts

rooted_snoc : (ts : List Tree) (u : Tree) (ss : List Swap) (σ : State) → rooted (ts ++ (u ∷ [])) ss σ ≡ accepted u ss σ
unfolding rooted last
rooted_snoc [] u ss σ = refl
rooted_snoc (t ∷ ts) u ss σ = rw (last_snoc t u ts)

pub root_none : (table : List ℕ) (p : Progress) → p.lines ≡ 0 → ◌≡◌ {A = Result Code.Listed Refusal} (Err (Refusal.BadList 0)) (root_of table p)
unfolding root_of
root_none table p e = rw (eq-eqb p.lines 0 e)

pub root_some : (table : List ℕ) (p : Progress) (root : ℕ) → (p.lines ≡ 0 → ⊥) → root ≡ get_or table (p.lines - 1) 0 → ◌≡◌ {A = Result Code.Listed Refusal} (Ok (record { root = root; swaps = p.swaps })) (root_of table p)
unfolding root_of
root_some table p root e q = rw (ne_eqb p.lines 0 e, q)

root_seen : (l : Lent) (table : List ℕ) (p : Progress) (lines : ℕ) → p.lines ≡ lines → listing_seen l table (root_of table p) ≡ whole (Lines.read (known_at l table p))
unfolding whole rooted up_to root_of
root_seen l table p zero e = rw e
root_seen l table p (suc k) e =
    let z : suc k - 1 ≡ k = omega arith in
    rw (e, z, ne_eqb (suc k) 0 (λ q. omega (arith, q))) (sym (ap (λ ts. rooted ts (swap_trees l.rows table p.swaps) (state_in l)) (up_to_snoc k _) ∙ rooted_snoc (line_trees l.rows table k) (tree_in l (get_or table k 0)) (swap_trees l.rows table p.swaps) (state_in l)))

root_after : (l : Lent) (table : List ℕ) (p : Progress) → Ended l table p → (lines : ℕ) → p.lines ≡ lines → ListsAfter l table (root_of table p)
unfolding root_of
root_after l table p f zero e = rw e tt
root_after l table p f (suc k) e =
    let z : suc k - 1 ≡ k = omega arith in
    rw (e, z, ne_eqb (suc k) 0 (λ q. omega (arith, q))) (f.listed.lists.nodes k (omega (arith, e)), f.swaps, record { sound = f.listed.lists.sound; nodes = λ j h. absurd (omega arith); named = f.listed.lists.named; ascends = f.listed.lists.ascends })

root_traced : (l : Lent) (table : List ℕ) (p : Progress) (ts : List Tree) → Traced ts l → (lines : ℕ) → p.lines ≡ lines → TracedAfter ts l (root_of table p)
unfolding root_of
root_traced l table p ts t zero e = rw e tt
root_traced l table p ts t (suc k) e = rw (e, ne_eqb (suc k) 0 (λ q. omega (arith, q))) t

module _ {substituting : Bool} {text : List ℕ} {l₀ l l' : Lent} {table : List ℕ} {r : Result Progress Refusal} (b : Begun l₀ l) (t : ReadsLines substituting text r l l' table) where
  from_fresh : whole (lines_seen l' table r) ≡ listing substituting text (fresh (room l₀.rows) 0)
  unfolding listing
  from_fresh = ap whole t.answer ∙ rw b.begins

  given_is : lines_of (lines_seen l' table r) ≡ given substituting text (fresh (room l₀.rows) 0)
  given_is = ap lines_of t.answer ∙ rw b.begins

  pub reads_refused : {why : Refusal} → r ≡ Err why → Reads substituting text (Err why) l₀ l' table
  unfolding whole
  reads_refused e = record { answer = rw e at from_fresh; after = tt; traced = tt }

  pub reads_root : {p : Progress} {a : Result Code.Listed Refusal} → r ≡ Ok p → a ≡ root_of table p → Reads substituting text a l₀ l' table
  unfolding lines_of
  reads_root {p} {a} e q =
      let f = rw e at t.after in
      rw q (record {
        answer = root_seen l' table p p.lines refl ∙ (rw e at from_fresh);
        after = root_after l' table p f p.lines refl;
        traced = root_traced l' table p _ (subst (λ ts. Traced ts l') (rw e at given_is) f.listed.traced) p.lines refl;
      })

-- ---- the rows and the table keep their lengths

pub record Same (s₀ : List (List ℕ)) (t₀ : List ℕ) (s : List (List ℕ)) (t : List ℕ) : Type 0 where
  pub rows : length s ≡ length s₀
  pub table : length t ≡ length t₀

pub same_begins : (s : List (List ℕ)) (t : List ℕ) → Same s t s t
same_begins s t = record { rows = refl; table = refl }

pub same_on : {s₀ s s' : List (List ℕ)} {t₀ t t' : List ℕ} → Same s₀ t₀ s t → length s' ≡ length s → length t' ≡ length t → Same s₀ t₀ s' t'
same_on a x y = record { rows = x ∙ a.rows; table = y ∙ a.table }
