-- How much room a result needs: 36 bytes a line, and 42 with origins, so that simplifying and substituting never find an output of 36,864 or 43,008 bytes
-- too short, and never write more. Assumes nothing.
use mathlib.Core.Path.{◌≡◌, refl, subst}
use mathlib.Core.Bool.{Bool, true, false, cond}
use mathlib.Core.List.{List}
use Prim.Native.Nat.{ℕ, suc, ◌*◌, ◌≤◌}
use native.Mathlib.Omega.{arith}
use borrow.Author.Tests.{ltb-true, ltb-false}
use lib.Dec.{ltb}
use lib.ListN.{length}
use Rattle.std.specs.Prelude.{Result, Ok, Err}
use Rattle.expression.specs.declared.refusal.Refusal.{Refusal}
use Rattle.expression.specs.Trees.{Tree}
use Rattle.expression.specs.Limits.{Proper}
use Rattle.expression.specs.Refusals.{number_of}
use Rattle.store.specs.Storing as Storing
use Rattle.store.specs.Storing.{State, Answer, gives, fresh}
use Rattle.listing.specs.Listings as Listings
use Rattle.listing.specs.Listings.{Listing, accepted, listing, given}
use Rattle.writing.specs.Order.{order, text_of, written}
use Rattle.writing.specs.Origins.{traced_text_of, written_traced}
use Rattle.writing.proofs.Lengths.{listing_length, traced_listing_length}
use Rattle.substitution.specs.Substituting.{substitute}
use Rattle.tasks.specs.Tasks.{is_allowed}
use Rattle.simplification.specs.Simplifying.{simplify}
use Rattle.simplification.proofs.Inherited.{six_to_nine}
use Rattle.simplification.proofs.Stored.{Given}
use Rattle.calls.specs.declared.Simplified.{Simplified}
use Rattle.calls.specs.Calls as Calls
use Rattle.calls.specs.Calls.{Job, ready, after_listing, job, written_answer, substitute_call, with_calls, calls_in, simplify_job, simplify_call}
use Rattle.calls.specs.Origins.{traced_answer, substitute_origins, traced_job, simplify_origins}
use Rattle.calls.proofs.Given.{given_few}
use Rattle.calls.proofs.Refusing.{listing_most, job_most, ListingBy, listing_numbers, JobBy, job_numbers}
use Rattle.calls.proofs.Stored.{GivenIn, substituted_is_in}
use Rattle.calls.proofs.Accepted.{Listed, listing_listed, Jobbed, job_in}
use Rattle.calls.proofs.ReadBack.{simplified_stored}
use Rattle.calls.proofs.Answering.{AtMost9, substitutes, six_to_nine_so}

-- ---- a result is written: 13 only where the output has less than 36 bytes a line

-- how many lines its listing has
unfoldable pub lines_in : Answer → ℕ
lines_in (gives t s) = length (order t)
lines_in (Storing.refused why s) = 0

-- its leaves are such as a text can say; or it was refused before
Sayable : Answer → Type 0
Sayable (gives t s) = Proper t
Sayable (Storing.refused why s) = number_of why ≤ 9

given_result : (room : ℕ) (s : State) (a : Answer) → GivenIn room s a → AtMost9 a → Sayable a
unfolding Sayable Given
given_result room before (gives t s) x h = x.is_in.proper
given_result room before (Storing.refused why s) x h = h

HasRoom : (most : ℕ) → Result ℕ Refusal → Type 0
HasRoom most (Ok bytes) = bytes ≤ most
HasRoom most (Err why) = number_of why ≡ 13 → ⊥

-- over 1024 lines are refused by 2 before
abbrev Ample : (out : List ℕ) (lines : ℕ) → Type 0
Ample out lines = lines ≤ 1024 → 36 * lines ≤ length out

abbrev AmpleTraced : (out : List ℕ) (lines : ℕ) → Type 0
AmpleTraced out lines = lines ≤ 1024 → 42 * lines ≤ length out

either_written : (most : ℕ) (b : Bool) (x y : Result ℕ Refusal × List ℕ) → (b ≡ true → HasRoom most x.0) → (b ≡ false → HasRoom most y.0) → HasRoom most (cond b x y).0
either_written most true x y p q = p refl
either_written most false x y p q = q refl

answer_room : (out : List ℕ) (a : Answer) → Sayable a → Ample out (lines_in a) → HasRoom 36864 (written_answer out a).0
unfolding written_answer written Sayable HasRoom lines_in
answer_room out (Storing.refused why s) p ample = λ e. omega (arith, p, e)
answer_room out (gives t s) p ample =
    either_written 36864 (ltb 1024 (length (order t))) _ _ (λ _ e. omega (arith, e)) λ e.
    let few = ltb-false 1024 (length (order t)) e in
    let enough = listing_length t p few in
    either_written 36864 (ltb (length out) (length (text_of t))) _ _ (λ e' _. omega (arith, ltb-true (length out) (length (text_of t)) e', enough, ample few)) λ _. omega (arith, enough, few)

traced_answer_room : (given : List Tree) → length given ≤ 1024 → (out : List ℕ) (a : Answer) → Sayable a → AmpleTraced out (lines_in a) → HasRoom 43008 (traced_answer given out a).0
unfolding traced_answer written_traced Sayable HasRoom lines_in
traced_answer_room given lately out (Storing.refused why s) p ample = λ e. omega (arith, p, e)
traced_answer_room given lately out (gives t s) p ample =
    either_written 43008 (ltb 1024 (length (order t))) _ _ (λ _ e. omega (arith, e)) λ e.
    let few = ltb-false 1024 (length (order t)) e in
    let enough = traced_listing_length given lately t p few in
    either_written 43008 (ltb (length out) (length (traced_text_of given t))) _ _ (λ e' _. omega (arith, ltb-true (length out) (length (traced_text_of given t)) e', enough, ample few)) λ _. omega (arith, enough, few)

-- ---- simplifying

-- the lines of the result, none where a text is refused
unfoldable pub simplified_lines : (limit : ℕ) → Job → ℕ
simplified_lines limit (ready root store rows) = lines_in (simplify rows limit root store)
simplified_lines limit (Calls.refused why) = 0

SimplifiedHasRoom : (most : ℕ) → Result Simplified Refusal → Type 0
SimplifiedHasRoom most (Ok a) = a.bytes ≤ most
SimplifiedHasRoom most (Err why) = number_of why ≡ 13 → ⊥

counted_room : (most calls : ℕ) (w : Result ℕ Refusal) → HasRoom most w → SimplifiedHasRoom most (with_calls calls w)
unfolding with_calls HasRoom SimplifiedHasRoom
counted_room most calls (Ok bytes) p = p
counted_room most calls (Err why) p = p

job_room : (room limit : ℕ) (out : List ℕ) (j : Job) → Jobbed room j → JobBy j → Ample out (simplified_lines limit j) → SimplifiedHasRoom 36864 (simplify_job limit out j).0
unfolding simplify_job JobBy simplified_lines SimplifiedHasRoom
job_room room limit out (Calls.refused why) x n ample = λ e. omega (arith, job_most n, e)
job_room room limit out (ready root store rows) x n ample =
    let a = simplify rows limit root store in
    let r = given_result room store a (simplified_stored room limit root store rows x) (six_to_nine_so a (six_to_nine suc rows limit root store)) in
    counted_room 36864 (calls_in a) (written_answer out a).0 (answer_room out a r ample)

module _ (room limit : ℕ) (list values out : List ℕ) where
  simplified_room : Ample out (simplified_lines limit (job room list values)) → SimplifiedHasRoom 36864 (simplify_call room limit list values out).0
  unfolding simplify_call SimplifiedHasRoom
  simplified_room ample = go (is_allowed limit)
    where
      go : (b : Bool) → SimplifiedHasRoom 36864 (cond b (simplify_job limit out (job room list values)) (Err Refusal.BadLimit, out)).0
      go true = job_room room limit out (job room list values) (job_in room list values) (job_numbers room list values) ample
      go false = λ e. omega (arith, e)

  -- an output with 36 bytes for each line of the result is not too short
  pub simplify_room_by_lines : 36 * simplified_lines limit (job room list values) ≤ length out
      → (simplify_call room limit list values out).0 ≡ Err Refusal.OutRoom → ⊥
  unfolding SimplifiedHasRoom
  simplify_room_by_lines enough e = subst (SimplifiedHasRoom 36864) e (simplified_room λ _. enough) refl

  -- nor is one of 36,864 bytes, whatever the result is
  pub simplify_not_13 : 36864 ≤ length out → {why : Refusal} → (simplify_call room limit list values out).0 ≡ Err why → number_of why ≡ 13 → ⊥
  unfolding SimplifiedHasRoom
  simplify_not_13 enough e = subst (SimplifiedHasRoom 36864) e (simplified_room λ few. omega (arith, few, enough))

  pub simplify_room : 36864 ≤ length out → (simplify_call room limit list values out).0 ≡ Err Refusal.OutRoom → ⊥
  simplify_room enough e = simplify_not_13 enough e refl

  -- which a result never fills further
  pub simplify_most : 36864 ≤ length out → {bytes calls : ℕ} → (simplify_call room limit list values out).0 ≡ Ok (record { bytes = bytes; calls = calls }) → bytes ≤ 36864
  unfolding SimplifiedHasRoom
  simplify_most enough e = subst (SimplifiedHasRoom 36864) e (simplified_room λ few. omega (arith, few, enough))

-- ---- substituting

unfoldable pub substituted_lines : Listing → ℕ
substituted_lines (accepted root swaps store) = lines_in (substitute swaps root store)
substituted_lines (Listings.refused why) = 0

module _ (room : ℕ) (list out : List ℕ) where
  substituted_room : Ample out (substituted_lines (listing true list (fresh room 0))) → HasRoom 36864 (substitute_call room list out).0
  unfolding substitute_call after_listing substituted_lines HasRoom ListingBy Listed
  substituted_room = go (listing true list (fresh room 0)) (listing_listed room true list) (listing_numbers true list (fresh room 0))
    where
      go : (l : Listing) → Listed room l → ListingBy l → Ample out (substituted_lines l)
          → HasRoom 36864 (after_listing (λ why. (Err why, out)) l (λ root swaps store. written_answer out (substitute swaps root store))).0
      go (accepted root swaps store) x n ample =
          let a = substitute swaps root store in
          answer_room out a (given_result room store a (substituted_is_in room swaps root store x.0 x.2 x.1) (substitutes swaps root store)) ample
      go (Listings.refused why) x n ample = λ e. omega (arith, listing_most n, e)

  pub substitute_room_by_lines : 36 * substituted_lines (listing true list (fresh room 0)) ≤ length out
      → (substitute_call room list out).0 ≡ Err Refusal.OutRoom → ⊥
  unfolding HasRoom
  substitute_room_by_lines enough e = subst (HasRoom 36864) e (substituted_room λ _. enough) refl

  pub substitute_room : 36864 ≤ length out → (substitute_call room list out).0 ≡ Err Refusal.OutRoom → ⊥
  unfolding HasRoom
  substitute_room enough e = subst (HasRoom 36864) e (substituted_room λ few. omega (arith, few, enough)) refl

-- ---- the same with origins

traced_job_room : (given : List Tree) → length given ≤ 1024 → (room limit : ℕ) (out : List ℕ) (j : Job) → Jobbed room j → JobBy j → AmpleTraced out (simplified_lines limit j)
    → SimplifiedHasRoom 43008 (traced_job given limit out j).0
unfolding traced_job JobBy simplified_lines SimplifiedHasRoom
traced_job_room given lately room limit out (Calls.refused why) x n ample = λ e. omega (arith, job_most n, e)
traced_job_room given lately room limit out (ready root store rows) x n ample =
    let a = simplify rows limit root store in
    let r = given_result room store a (simplified_stored room limit root store rows x) (six_to_nine_so a (six_to_nine suc rows limit root store)) in
    counted_room 43008 (calls_in a) (traced_answer given out a).0 (traced_answer_room given lately out a r ample)

module _ (room limit : ℕ) (list values out : List ℕ) (enough : 43008 ≤ length out) where
  simplified_origins_room : SimplifiedHasRoom 43008 (simplify_origins room limit list values out).0
  unfolding simplify_origins SimplifiedHasRoom
  simplified_origins_room = go (is_allowed limit)
    where
      lines : List Tree
      lines = given false list (fresh room 0)

      go : (b : Bool) → SimplifiedHasRoom 43008 (cond b (traced_job lines limit out (job room list values)) (Err Refusal.BadLimit, out)).0
      go true =
          traced_job_room lines (given_few false list (fresh room 0)) room limit out (job room list values) (job_in room list values) (job_numbers room list values) λ few. omega (arith, few, enough)
      go false = λ e. omega (arith, e)

  pub simplify_origins_room : (simplify_origins room limit list values out).0 ≡ Err Refusal.OutRoom → ⊥
  unfolding SimplifiedHasRoom
  simplify_origins_room e = subst (SimplifiedHasRoom 43008) e simplified_origins_room refl

  pub simplify_origins_most : {bytes calls : ℕ} → (simplify_origins room limit list values out).0 ≡ Ok (record { bytes = bytes; calls = calls }) → bytes ≤ 43008
  unfolding SimplifiedHasRoom
  simplify_origins_most e = subst (SimplifiedHasRoom 43008) e simplified_origins_room

pub substitute_origins_room : (room : ℕ) (list out : List ℕ) → 43008 ≤ length out → (substitute_origins room list out).0 ≡ Err Refusal.OutRoom → ⊥
unfolding substitute_origins after_listing HasRoom ListingBy Listed
substitute_origins_room room list out enough e = subst (HasRoom 43008) e (go (listing true list (fresh room 0)) (listing_listed room true list) (listing_numbers true list (fresh room 0))) refl
  where
    lines : List Tree
    lines = given true list (fresh room 0)

    go : (l : Listing) → Listed room l → ListingBy l
        → HasRoom 43008 (after_listing (λ why. (Err why, out)) l (λ root swaps store. traced_answer lines out (substitute swaps root store))).0
    go (accepted root swaps store) x n =
        let a = substitute swaps root store in
        traced_answer_room lines (given_few true list (fresh room 0)) out a (given_result room store a (substituted_is_in room swaps root store x.0 x.2 x.1) (substitutes swaps root store)) λ few. omega (arith, few, enough)
    go (Listings.refused why) x n = λ e. omega (arith, listing_most n, e)
