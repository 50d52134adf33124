-- Every call answers for a text with origin fields what it answers for the text without them: one theorem over all calls that read a listing. It
-- rests on one law of reading alone. Assumes nothing.
use mathlib.Core.Path.{◌≡◌, refl, ap}
use mathlib.Core.Bool.{Bool, true, false}
use mathlib.Core.List.{List}
use Prim.Native.Nat.{ℕ}
use Rattle.store.specs.Storing.{fresh}
use Rattle.listing.specs.Listings.{listing, given}
use Rattle.node_lines.specs.Without.{without_origins}
use Rattle.listing.proofs.Ignoring.{ignored, given_ignored}
use Rattle.calls.specs.Calls.{job, evaluate_job, evaluate_call, substitute_call, to_real_call, simplify_call, compile_call}
use Rattle.calls.specs.Marks.{evaluate_job_marks, evaluate_marks, simplify_marks}
use Rattle.calls.specs.Origins.{substitute_origins, simplify_origins, simplify_origins_marks}

-- answer, output and marks of every call are the same for two listings
pub record SameCalls (room : ℕ) (a b : List ℕ) : Type 0 where
  pub evaluating : (values : List ℕ) → evaluate_call room a values ≡ evaluate_call room b values
  pub evaluating_marks : (values : List ℕ) → evaluate_marks room a values ≡ evaluate_marks room b values
  pub simplifying : (limit : ℕ) (values out : List ℕ) → simplify_call room limit a values out ≡ simplify_call room limit b values out
  pub simplifying_marks : (limit : ℕ) (values out : List ℕ) → simplify_marks room limit a values out ≡ simplify_marks room limit b values out
  pub simplifying_origins : (limit : ℕ) (values out : List ℕ) → simplify_origins room limit a values out ≡ simplify_origins room limit b values out
  pub simplifying_origins_marks : (limit : ℕ) (values out : List ℕ) → simplify_origins_marks room limit a values out ≡ simplify_origins_marks room limit b values out
  pub substituting : (out : List ℕ) → substitute_call room a out ≡ substitute_call room b out
  pub substituting_origins : (out : List ℕ) → substitute_origins room a out ≡ substitute_origins room b out
  pub reading_real : to_real_call room a ≡ to_real_call room b
  pub compiling : (out : List ℕ) → compile_call room a out ≡ compile_call room b out

-- what is read of two listings, and of their lines, is all that the calls know of them
module _ (room : ℕ) (a b : List ℕ) (same : (substituting : Bool) → listing substituting a (fresh room 0) ≡ listing substituting b (fresh room 0))
    (lines : (substituting : Bool) → given substituting a (fresh room 0) ≡ given substituting b (fresh room 0)) where
  jobs : (values : List ℕ) → job room a values ≡ job room b values
  unfolding job
  jobs values = rw (same false) refl

  pub same_calls : SameCalls room a b
  unfolding simplify_call simplify_marks simplify_origins simplify_origins_marks substitute_call substitute_origins to_real_call compile_call
  same_calls = record {
    evaluating = λ values. ap evaluate_job (jobs values);
    evaluating_marks = λ values. ap evaluate_job_marks (jobs values);
    simplifying = λ limit values out. rw (jobs values) refl;
    simplifying_marks = λ limit values out. rw (jobs values) refl;
    simplifying_origins = λ limit values out. rw (jobs values, lines false) refl;
    simplifying_origins_marks = λ limit values out. rw (jobs values, lines false) refl;
    substituting = λ out. rw (same true) refl;
    substituting_origins = λ out. rw (same true, lines true) refl;
    reading_real = rw (same false) refl;
    compiling = λ out. rw (same false) refl;
  }

-- for every listing, refused ones included: a field that is not well formed stays, and so does its refusal
pub fields_ignored : (room : ℕ) (list : List ℕ) → SameCalls room (without_origins list) list
fields_ignored room list =
    same_calls room (without_origins list) list (λ substituting. ignored substituting list (fresh room 0)) (λ substituting. given_ignored substituting list (fresh room 0))
