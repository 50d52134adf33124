-- Demand 2's "A listing written out reads back to the same expression, given as much work memory", on the bytes of the public calls. Assumes nothing.
use mathlib.Core.Path.{◌≡◌, refl, sym, ap, ◌∙◌}
use mathlib.Core.Bool.{Bool, true, false, cond}
use mathlib.Core.List.{List, [], ◌++◌}
use Prim.Native.Nat.{ℕ, suc, ◌≤◌}
use native.Mathlib.Omega.{arith}
use borrow.Author.Tests.{ltb-false}
use lib.Dec.{ltb}
use lib.ListN.{length, take, drop}
use lib.Seq.{take-append_seam}
use Rattle.std.specs.Prelude.{Result, Ok, Err}
use Rattle.complex.specs.Bits.{Fitting}
use Rattle.expression.specs.declared.refusal.Refusal.{Refusal}
use Rattle.expression.specs.Trees.{Tree}
use Rattle.store.specs.Storing as Storing
use Rattle.store.specs.Storing.{State, Answer, gives, fresh}
use Rattle.listing.specs.Listings as Listings
use Rattle.listing.specs.Listings.{Listing, Swap, accepted, listing}
use Rattle.sheet.specs.Rows.{Rows}
use Rattle.tasks.specs.Tasks.{is_allowed}
use Rattle.simplification.specs.Simplifying.{simplify}
use Rattle.simplification.proofs.Stored.{Given, simplified_is_in}
use Rattle.substitution.specs.Substituting.{substitute}
use Rattle.writing.specs.Order.{order, text_of, written}
use Rattle.writing.proofs.ReadBack.{store_of, reads_back}
use Rattle.calls.specs.declared.Simplified.{Simplified}
use Rattle.calls.specs.Calls as Calls
use Rattle.calls.specs.Calls.{Job, ready, after_listing, job, written_answer, with_calls, calls_in, substitute_call, simplify_job, simplify_call}
use Rattle.calls.proofs.Stored.{New, stored_in, StoredIn, Sane, limited, short, GivenIn, lasting, substituted_is_in, fitting_numbers}
use Rattle.calls.proofs.Accepted.{Listed, listing_listed, Jobbed, job_in}

-- the first bytes of an output are read as this tree, by a call that substitutes or not, in any store with as much room
abbrev pub ReadsBack : (room bytes : ℕ) (out' : List ℕ) → Tree → Type 0
ReadsBack room bytes out' t = (substituting : Bool) (room' : ℕ) → room ≤ room'
    → listing substituting (take bytes out') (fresh room' 0) ≡ accepted t [] (store_of room' (order t))

-- what was given, and stands there
pub record GivenBack (room : ℕ) (a : Answer) (bytes : ℕ) (out' : List ℕ) : Type 0 where
  pub tree : Tree
  pub after : State
  pub given : a ≡ gives tree after
  pub back : ReadsBack room bytes out' tree

not_written : {A : Type 0} {why : Refusal} {bytes : ℕ} {out out' : List ℕ}
    → ◌≡◌ {A = Result ℕ Refusal × List ℕ} (Err why, out) (Ok bytes, out') → A
not_written e = let z : ◌≡◌ {A = ℕ} 0 1 = cc (ap (λ w. w.0) e) in absurd (omega arith)

is_written : (t : Tree) (out : List ℕ) {bytes : ℕ} {out' : List ℕ} → written t out ≡ (Ok bytes, out')
    → (length (order t) ≤ 1024) × (take bytes out' ≡ text_of t)
unfolding written
is_written t out {bytes} {out'} e = go (ltb 1024 n) refl (ltb (length out) (length (text_of t))) e
  where
    n : ℕ
    n = length (order t)

    go : (b : Bool) → ltb 1024 n ≡ b → (c : Bool)
        → ◌≡◌ {A = Result ℕ Refusal × List ℕ} (cond b (Err (Refusal.LongList 0), out)
        (cond c (Err Refusal.OutRoom, out) (Ok (length (text_of t)), text_of t ++ drop (length (text_of t)) out))) (Ok bytes, out')
        → (n ≤ 1024) × (take bytes out' ≡ text_of t)
    go true q c e = not_written e
    go false q true e = not_written e
    go false q false e =
        let m : bytes ≡ length (text_of t) = cc (ap (λ w. w.0) e) in
        (ltb-false 1024 n q, (λ j. take (m j) (ap (λ w. w.1) (sym e) j)) ∙ take-append_seam (text_of t) (drop (length (text_of t)) out))

given_back : (room : ℕ) (s : State) (a : Answer) (out : List ℕ) {bytes : ℕ} {out' : List ℕ} → GivenIn room s a
    → written_answer out a ≡ (Ok bytes, out') → GivenBack room a bytes out'
unfolding written_answer Given
given_back room s (Storing.refused why s') out x e = not_written e
given_back room s (gives t s') out x e =
    let w = is_written t out e in
    record {
      tree = t;
      after = s';
      given = refl;
      back = λ substituting room' l.
          ap (λ bs. listing substituting bs (fresh room' 0)) w.1
          ∙ reads_back t x.is_in.proper (limited x.sane x.is_in) substituting room' w.0 (omega (arith, short x.sane x.is_in, l));
    }

-- ---- the public calls

-- the listing, its root with the variables replaced, and that this is read again
pub record SubstitutedBack (room : ℕ) (list : List ℕ) (bytes : ℕ) (out' : List ℕ) : Type 0 where
  pub root : Tree
  pub swaps : List Swap
  pub store : State
  pub is_listing : listing true list (fresh room 0) ≡ accepted root swaps store
  pub result : GivenBack room (substitute swaps root store) bytes out'

pub substituted_reads_back : (room : ℕ) (list out : List ℕ) {bytes : ℕ} {out' : List ℕ} → substitute_call room list out ≡ (Ok bytes, out')
    → SubstitutedBack room list bytes out'
unfolding substitute_call after_listing Listed
substituted_reads_back room list out {bytes} {out'} e = go (listing true list (fresh room 0)) refl (listing_listed room true list) e
  where
    go : (l : Listing) → listing true list (fresh room 0) ≡ l → Listed room l
        → after_listing (λ why. (Err why, out)) l (λ root swaps store. written_answer out (substitute swaps root store)) ≡ (Ok bytes, out')
        → SubstitutedBack room list bytes out'
    go (Listings.refused why) q x e = not_written e
    go (accepted root swaps store) q x e = record {
      root = root;
      swaps = swaps;
      store = store;
      is_listing = q;
      result = given_back room store (substitute swaps root store) out (substituted_is_in room swaps root store x.0 x.2 x.1) e;
    }

-- the listing and the sheet, the root simplified under it, and that this is read again
pub record SimplifiedBack (room limit : ℕ) (list values : List ℕ) (bytes : ℕ) (out' : List ℕ) : Type 0 where
  pub root : Tree
  pub store : State
  pub lookups : Rows
  pub is_job : job room list values ≡ ready root store lookups
  pub result : GivenBack room (simplify lookups limit root store) bytes out'

-- what simplifying a job gives is stored
pub simplified_stored : (room limit : ℕ) (root : Tree) (store : State) (R : Rows) → Jobbed room (ready root store R) → GivenIn room store (simplify R limit root store)
unfolding Jobbed
simplified_stored room limit root store R x =
    simplified_is_in (Sane room) StoredIn (λ s. New (stored_in s)) Fitting (lasting room) R (fitting_numbers R x.2) suc limit root store x.0 x.1

uncounted : (n : ℕ) (w : Result ℕ Refusal) {bytes calls : ℕ} → with_calls n w ≡ Ok (record { bytes = bytes; calls = calls }) → w ≡ Ok bytes
unfolding with_calls
uncounted n (Ok b) {bytes} {calls} e =
    let z : ◌≡◌ {A = Simplified} (record { bytes = b; calls = n }) (record { bytes = bytes; calls = calls }) = cc in
    ap (λ (a : Simplified). Ok a.bytes) z
uncounted n (Err why) e = let z : ◌≡◌ {A = ℕ} 0 1 = cc in absurd (omega arith)

pub simplified_reads_back : (room limit : ℕ) (list values out : List ℕ) {bytes calls : ℕ} {out' : List ℕ}
    → simplify_call room limit list values out ≡ (Ok (record { bytes = bytes; calls = calls }), out') → SimplifiedBack room limit list values bytes out'
unfolding simplify_call simplify_job Jobbed
simplified_reads_back room limit list values out {bytes} {calls} {out'} e = go (is_allowed limit) (job room list values) refl (job_in room list values) e
  where
    go : (b : Bool) (j : Job) → job room list values ≡ j → Jobbed room j
        → cond b (simplify_job limit out j) (Err Refusal.BadLimit, out) ≡ (Ok (record { bytes = bytes; calls = calls }), out')
        → SimplifiedBack room limit list values bytes out'
    go false j q x e = let z : ◌≡◌ {A = ℕ} 0 1 = cc (ap (λ w. w.0) e) in absurd (omega arith)
    go true (Calls.refused why) q x e = let z : ◌≡◌ {A = ℕ} 0 1 = cc (ap (λ w. w.0) e) in absurd (omega arith)
    go true (ready root store R) q x e =
        let a = simplify R limit root store in
        let w = uncounted (calls_in a) (written_answer out a).0 (ap (λ w. w.0) e) in
        record {
          root = root;
          store = store;
          lookups = R;
          is_job = q;
          result = given_back room store a out (simplified_stored room limit root store R x) (λ i. (w i, ap (λ w. w.1) e i));
        }
