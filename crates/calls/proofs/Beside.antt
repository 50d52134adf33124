-- A call that writes origins beside the one that does not, for all inputs: the same refusals, but for an output that is too short for the fields; and the
-- bytes without the fields are those of the call without. What is shown of the calls with origins follows from what is shown of those without:
-- demand 1, and that what is written reads back. Assumes nothing.
use mathlib.Core.Path.{◌≡◌, refl, sym, ap, subst, ◌∙◌}
use mathlib.Core.Bool.{Bool, true, false, cond}
use mathlib.Core.List.{List, ◌++◌}
use Prim.Native.Nat.{ℕ, suc, ◌≤◌, ◌<◌}
use native.Mathlib.Omega.{arith}
use borrow.Author.Tests.{ltb-false, le-ltb}
use lib.Dec.{ltb}
use lib.ListN.{length, get_or, take, drop}
use lib.Seq.{take-append_seam}
use Rattle.std.specs.Prelude.{Result, Ok, Err}
use Rattle.expression.specs.declared.refusal.Refusal.{Refusal}
use Rattle.expression.specs.Trees.{Tree, leaf, pi}
use Rattle.expression.specs.Alike.{identical}
use Rattle.store.specs.Storing as Storing
use Rattle.store.specs.Storing.{State, Answer, gives, fresh}
use Rattle.node_lines.specs.Without.{without_origins}
use Rattle.listing.specs.Listings as Listings
use Rattle.listing.specs.Listings.{Listing, Swap, accepted, listing, given}
use Rattle.listing.proofs.Ignoring.{ignored}
use Rattle.writing.specs.Order.{order, text_of, written}
use Rattle.writing.specs.Origins.{traced_text_of, written_traced}
use Rattle.store.specs.Origins.{origin_of}
use Rattle.writing.proofs.FirstLine.{First, origin_first, origin_no_line}
use Rattle.writing.proofs.Lengths.{listing_shorter}
use Rattle.writing.proofs.Stripping.{strips}
use Rattle.substitution.specs.Substituting.{substitute}
use Rattle.tasks.specs.Tasks.{is_allowed}
use Rattle.simplification.specs.Simplifying.{simplify}
use Rattle.calls.specs.declared.Simplified.{Simplified}
use Rattle.calls.specs.Calls as Calls
use Rattle.calls.specs.Calls.{Job, ready, after_listing, job, written_answer, with_calls, calls_in, substitute_call, simplify_job, simplify_call}
use Rattle.calls.specs.Origins.{traced_answer, substitute_origins, traced_job, simplify_origins}
use Rattle.calls.proofs.Given.{given_few}
use Rattle.calls.proofs.ReadBack.{ReadsBack, SubstitutedBack, SimplifiedBack, substituted_reads_back, simplified_reads_back}
use Rattle.calls.proofs.Answering.{WrittenSo, SimplifiedSo, substitute_call_so, simplify_call_so}

-- what is written of a tree, and the rest of the output
abbrev leaving : (text out : List ℕ) → Result ℕ Refusal × List ℕ
leaving text out = (Ok (length text), text ++ drop (length text) out)

-- the answer and output with origins, and those without
pub data Beside (lines : List Tree) (out : List ℕ) : Result ℕ Refusal × List ℕ → Result ℕ Refusal × List ℕ → Type 0 where
  refused : (why : Refusal) → Beside lines out (Err why, out) (Err why, out)
  short : (plain : Result ℕ Refusal × List ℕ) → Beside lines out (Err Refusal.OutRoom, out) plain
  both : (t : Tree) → without_origins (traced_text_of lines t) ≡ text_of t → Beside lines out (leaving (traced_text_of lines t) out) (leaving (text_of t) out)

module _ (lines : List Tree) (few : length lines ≤ 1024) (out : List ℕ) where
  written_beside : (t : Tree) → Beside lines out (written_traced lines t out) (written t out)
  unfolding written_traced written
  written_beside t = go (ltb 1024 (length (order t))) (ltb (length out) (length (traced_text_of lines t))) refl
    where
      go : (b c : Bool) → ltb (length out) (length (traced_text_of lines t)) ≡ c
          → Beside lines out (cond b (Err (Refusal.LongList 0), out) (cond c (Err Refusal.OutRoom, out) (leaving (traced_text_of lines t) out)))
          (cond b (Err (Refusal.LongList 0), out) (cond (ltb (length out) (length (text_of t))) (Err Refusal.OutRoom, out) (leaving (text_of t) out)))
      go true c e = refused (Refusal.LongList 0)
      go false true e = short _
      go false false e =
          let fits = ltb-false (length out) (length (traced_text_of lines t)) e in
          rw (le-ltb (length out) (length (text_of t)) (omega (arith, fits, listing_shorter lines t))) (both t (strips lines few t))

  answer_beside : (a : Answer) → Beside lines out (traced_answer lines out a) (written_answer out a)
  unfolding traced_answer written_answer
  answer_beside (gives t s) = written_beside t
  answer_beside (Storing.refused why s) = refused why

-- ---- substituting

pub substitute_beside : (room : ℕ) (list out : List ℕ) → Beside (given true list (fresh room 0)) out (substitute_origins room list out) (substitute_call room list out)
unfolding substitute_origins substitute_call after_listing
substitute_beside room list out = go (listing true list (fresh room 0))
  where
    go : (l : Listing)
        → Beside (given true list (fresh room 0)) out (after_listing (λ why. (Err why, out)) l (λ root swaps store. traced_answer (given true list (fresh room 0)) out (substitute swaps root store)))
        (after_listing (λ why. (Err why, out)) l (λ root swaps store. written_answer out (substitute swaps root store)))
    go (accepted root swaps store) = answer_beside _ (given_few true list (fresh room 0)) out (substitute swaps root store)
    go (Listings.refused why) = refused why

-- ---- simplifying: the number of calls is the same

pub record SimplifiedBeside (lines : List Tree) (out : List ℕ) (a b : Result Simplified Refusal × List ℕ) : Type 0 where
  pub calls : ℕ
  pub traced : Result ℕ Refusal × List ℕ
  pub plain : Result ℕ Refusal × List ℕ
  pub is_traced : a ≡ (with_calls calls traced.0, traced.1)
  pub is_plain : b ≡ (with_calls calls plain.0, plain.1)
  pub beside : Beside lines out traced plain

pub simplify_beside : (room limit : ℕ) (list values out : List ℕ)
    → SimplifiedBeside (given false list (fresh room 0)) out (simplify_origins room limit list values out) (simplify_call room limit list values out)
unfolding simplify_origins simplify_call traced_job simplify_job with_calls
simplify_beside room limit list values out = go (is_allowed limit) (job room list values)
  where
    lines : List Tree
    lines = given false list (fresh room 0)

    alike : (why : Refusal) → SimplifiedBeside lines out (Err why, out) (Err why, out)
    alike why = record { calls = 0; traced = (Err why, out); plain = (Err why, out); is_traced = refl; is_plain = refl; beside = refused why }

    go : (b : Bool) (j : Job)
        → SimplifiedBeside lines out (cond b (traced_job lines limit out j) (Err Refusal.BadLimit, out)) (cond b (simplify_job limit out j) (Err Refusal.BadLimit, out))
    go false j = alike Refusal.BadLimit
    go true (Calls.refused why) = alike why
    go true (ready root store rows) =
        let a = simplify rows limit root store in
        record {
          calls = calls_in a;
          traced = traced_answer lines out a;
          plain = written_answer out a;
          is_traced = refl;
          is_plain = refl;
          beside = answer_beside lines (given_few false list (fresh room 0)) out a;
        }

-- ---- demand 1, of the calls with origins: bytes, or a numbered refusal that leaves the output as it was

beside_so : {lines : List Tree} {out : List ℕ} {a b : Result ℕ Refusal × List ℕ} → Beside lines out a b → WrittenSo out b.1 b.0 → WrittenSo out a.1 a.0
beside_so (refused why) h = h
beside_so (short plain) h = ((omega arith, omega arith), refl)
beside_so (both t e) h = tt

pub substitute_origins_so : (room : ℕ) (list out : List ℕ) → WrittenSo out (substitute_origins room list out).1 (substitute_origins room list out).0
substitute_origins_so room list out = beside_so (substitute_beside room list out) (substitute_call_so room list out)

counted_so : (out : List ℕ) (calls : ℕ) (x : Result ℕ Refusal × List ℕ) → SimplifiedSo out x.1 (with_calls calls x.0) → WrittenSo out x.1 x.0
unfolding with_calls
counted_so out calls (Ok bytes, out') h = tt
counted_so out calls (Err why, out') h = h

so_counted : (out : List ℕ) (calls : ℕ) (x : Result ℕ Refusal × List ℕ) → WrittenSo out x.1 x.0 → SimplifiedSo out x.1 (with_calls calls x.0)
unfolding with_calls
so_counted out calls (Ok bytes, out') h = tt
so_counted out calls (Err why, out') h = h

pub simplify_origins_so : (room limit : ℕ) (list values out : List ℕ) → SimplifiedSo out (simplify_origins room limit list values out).1 (simplify_origins room limit list values out).0
simplify_origins_so room limit list values out =
    let s = simplify_beside room limit list values out in
    let h = subst (λ x. SimplifiedSo out x.1 x.0) s.is_plain (simplify_call_so room limit list values out) in
    subst (λ x. SimplifiedSo out x.1 x.0) (sym s.is_traced) (so_counted out s.calls s.traced (beside_so s.beside (counted_so out s.calls s.plain h)))

-- ---- "demand 2's read-back is of the expression without origins": what was written reads back to the tree that the call without origins gives

-- bytes that were written, with their tree: in its listing the line of each part u ends in `origin_text (origin_of lines u)`. Such an origin is a line of the
-- input that gives that very tree, and no earlier line does; where there is none, no line gives it. And what the call without origins writes
pub record WithOrigins (lines : List Tree) (plain : Result ℕ Refusal × List ℕ) (bytes : ℕ) (out' : List ℕ) : Type 0 where
  pub tree : Tree
  pub is_text : take bytes out' ≡ traced_text_of lines tree
  pub first : (u : Tree) (i : ℕ) → origin_of lines u ≡ suc i → First lines u i
  pub none : (u : Tree) → origin_of lines u ≡ 0 → (j : ℕ) → j < length lines → identical u (get_or lines j (leaf pi)) ≡ false
  pub fewer : ℕ
  pub beside : List ℕ
  pub is_plain : plain ≡ (Ok fewer, beside)
  pub bare : without_origins (take bytes out') ≡ take fewer beside

not_bytes : {A : Type 0} {why : Refusal} {out : List ℕ} {bytes : ℕ} {out' : List ℕ} → ◌≡◌ {A = Result ℕ Refusal × List ℕ} (Err why, out) (Ok bytes, out') → A
not_bytes e = let z : ◌≡◌ {A = ℕ} 0 1 = cc (ap (λ w. w.0) e) in absurd (omega arith)

left_text : (text out : List ℕ) {bytes : ℕ} {out' : List ℕ} → leaving text out ≡ (Ok bytes, out') → take bytes out' ≡ text
left_text text out {bytes} {out'} e =
    let m : bytes ≡ length text = cc (ap (λ w. w.0) e) in
    (λ j. take (m j) (ap (λ w. w.1) (sym e) j)) ∙ take-append_seam text (drop (length text) out)

with_origins : {lines : List Tree} {out : List ℕ} {a b : Result ℕ Refusal × List ℕ} → Beside lines out a b → {bytes : ℕ} {out' : List ℕ} → a ≡ (Ok bytes, out') → WithOrigins lines b bytes out'
with_origins (refused why) e = not_bytes e
with_origins (short plain) e = not_bytes e
with_origins {lines} {out} (both t x) e = record {
  tree = t;
  is_text = left_text (traced_text_of lines t) out e;
  first = origin_first lines;
  none = origin_no_line lines;
  fewer = length (text_of t);
  beside = text_of t ++ drop (length (text_of t)) out;
  is_plain = refl;
  bare = ap without_origins (left_text (traced_text_of lines t) out e) ∙ x ∙ sym (take-append_seam (text_of t) (drop (length (text_of t)) out));
}

-- bytes whose fields are ignored are read as the bytes without them
back_with : {room : ℕ} (fewer : ℕ) (beside : List ℕ) (bytes : ℕ) (out' : List ℕ) {t : Tree} → without_origins (take bytes out') ≡ take fewer beside → ReadsBack room fewer beside t → ReadsBack room bytes out' t
back_with fewer beside bytes out' e back substituting room' l =
    sym (ignored substituting (take bytes out') (fresh room' 0)) ∙ ap (λ bs. listing substituting bs (fresh room' 0)) e ∙ back substituting room' l

pub record SubstitutedWith (room : ℕ) (list out : List ℕ) (bytes : ℕ) (out' : List ℕ) : Type 0 where
  pub written : WithOrigins (given true list (fresh room 0)) (substitute_call room list out) bytes out'
  pub back : SubstitutedBack room list bytes out'

pub substituted_with_origins : (room : ℕ) (list out : List ℕ) {bytes : ℕ} {out' : List ℕ} → substitute_origins room list out ≡ (Ok bytes, out') → SubstitutedWith room list out bytes out'
substituted_with_origins room list out {bytes} {out'} e =
    let w = with_origins (substitute_beside room list out) e in
    let s = substituted_reads_back room list out w.is_plain in
    record {
      written = w;
      back = record {
        root = s.root;
        swaps = s.swaps;
        store = s.store;
        is_listing = s.is_listing;
        result = record { tree = s.result.tree; after = s.result.after; given = s.result.given; back = back_with w.fewer w.beside bytes out' w.bare s.result.back };
      };
    }

pub record SimplifiedWith (room limit : ℕ) (list values out : List ℕ) (bytes calls : ℕ) (out' : List ℕ) : Type 0 where
  pub plain : Result ℕ Refusal × List ℕ
  pub is_call : simplify_call room limit list values out ≡ (with_calls calls plain.0, plain.1)
  pub written : WithOrigins (given false list (fresh room 0)) plain bytes out'
  pub back : SimplifiedBack room limit list values bytes out'

uncounted : (n : ℕ) (w : Result ℕ Refusal) {bytes calls : ℕ} → with_calls n w ≡ Ok (record { bytes = bytes; calls = calls }) → (w ≡ Ok bytes) × (n ≡ calls)
unfolding with_calls
uncounted n (Ok b) {bytes} {calls} e =
    let z : ◌≡◌ {A = Simplified} (record { bytes = b; calls = n }) (record { bytes = bytes; calls = calls }) = cc in
    (ap (λ (a : Simplified). Ok a.bytes) z, ap (λ (a : Simplified). a.calls) z)
uncounted n (Err why) e = let z : ◌≡◌ {A = ℕ} 0 1 = cc in absurd (omega arith)

pub simplified_with_origins : (room limit : ℕ) (list values out : List ℕ) {bytes calls : ℕ} {out' : List ℕ} → simplify_origins room limit list values out ≡ (Ok (record { bytes = bytes; calls = calls }), out')
    → SimplifiedWith room limit list values out bytes calls out'
unfolding with_calls
simplified_with_origins room limit list values out {bytes} {calls} {out'} e =
    let s = simplify_beside room limit list values out in
    let z = sym s.is_traced ∙ e in
    let c = uncounted s.calls s.traced.0 (ap (λ x. x.0) z) in
    let w = with_origins s.beside (λ i. (c.0 i, ap (λ x. x.1) z i)) in
    let p = s.is_plain ∙ (λ i. (with_calls (c.1 i) s.plain.0, s.plain.1)) in
    let b = simplified_reads_back room limit list values out (p ∙ ap (λ x. (with_calls calls x.0, x.1)) w.is_plain) in
    record {
      plain = s.plain;
      is_call = p;
      written = w;
      back = record {
        root = b.root;
        store = b.store;
        lookups = b.lookups;
        is_job = b.is_job;
        result = record { tree = b.result.tree; after = b.result.after; given = b.result.given; back = back_with w.fewer w.beside bytes out' w.bare b.result.back };
      };
    }
