-- The demands, in their order and words: each is one statement, made of the laws that prove it. What no theorem can say is left out: that the
-- answers equal the Rust's is compared by running, and where the Rust breaks arithmetic or the Quil specification docs/DIFFERENCES.md says so. That
-- the programs give what is said here of the definitions is in the contracts of the calls; that an operation rounds once is lib.Ieee's; the rules
-- for function and prefix are in arms/specs/Arms, for the cache in store/specs/Storing, for pi, limit and leaves in tasks/specs/Tasks, and are joined in
-- simplification/specs/Simplifying; the stack is that of `run`, after each step up to the first lack, and the player has it (tape/proofs/Standing).
-- Assumes nothing.
use mathlib.Core.Path.{◌≡◌, refl, sym, ap, subst}
use mathlib.Core.Bool.{false}
use mathlib.Core.List.{List, [], ◌++◌}
use Prim.Native.Nat.{ℕ, suc, ◌-◌, ◌*◌, ◌≤◌}
use lib.Ieee as Ieee
use lib.Ieee.{Float, binary64}
use lib.ListN.{length, take, drop, replicate}
use Rattle.std.specs.Prelude.{Result, Ok}
use Rattle.complex.specs.declared.Complex.{Complex}
use Rattle.complex.specs.Arithmetic.{plus, minus, times, over, negated}
use Rattle.expression.specs.declared.refusal.Refusal.{Refusal}
use Rattle.expression.specs.declared.InfixOperator.{InfixOperator}
use Rattle.expression.specs.Trees.{Tree, infixed, size, depth}
use Rattle.store.specs.Storing.{nothing, State, and_then, recall, fresh}
use Rattle.listing.specs.Listings.{Swap, accepted, listing}
use Rattle.sheet.specs.Rows.{Rows}
use Rattle.arms.specs.Arms.{Plan}
use Rattle.arms.specs.Ordered.{arms, first_match}
use Rattle.simplification.specs.Simplifying.{counted, keeping, carry_out, simplify}
use Rattle.simplification.proofs.Ordered.{ordered}
use Rattle.tape.specs.Tapes.{tape, steps_in}
use Rattle.tape.specs.Playing.{run}
use Rattle.tape.proofs.Prefixes.{AtMost}
use Rattle.calls.specs.declared.Simplified.{Simplified}
use Rattle.calls.specs.Lent.{Work, capacity, zeroed}
use Rattle.calls.specs.Calls.{evaluate_call, substitute_call, to_real_call, simplify_call, compile_call, play_call}
use Rattle.calls.specs.Marks.{evaluate_marks, play_marks}
use Rattle.calls.specs.Origins.{substitute_origins, simplify_origins}
use Rattle.calls.specs.Promises.{Evaluates, Substitutes, SubstitutesOrigins, ReadsReal, Simplifies, SimplifiesOrigins, Compiles, Plays}
use Rattle.calls.proofs.Demand.{compiles}
use Rattle.calls.proofs.TapeBytes.{written_plays, written_depth, FromAnywhere, from_anywhere}
use Rattle.calls.proofs.MarkedDemand.{written_marks}
use Rattle.calls.proofs.ReadBack.{SimplifiedBack, SubstitutedBack, simplified_reads_back, substituted_reads_back}
use Rattle.calls.proofs.Beside.{SubstitutedWith, SimplifiedWith, substituted_with_origins, simplified_with_origins, substitute_origins_so, simplify_origins_so}
use Rattle.calls.proofs.Answering.{EvaluatedSo, RealSo, WrittenSo, SimplifiedSo, evaluate_call_so, real_call_so, substitute_call_so, compile_call_so, simplify_call_so, play_call_so}

-- ---- demand 1: "Every listing, value sheet, tape and limit gets a value or one of the numbered refusals, given exactly when 01 says. A refusal
-- leaves the output bytes untouched; every return leaves the work memory zero."

-- of each call, for all inputs: the answer is the definition's; it is a value or a numbered refusal, with which the output is as it was; the
-- work memory is zero
pub record Demand1 : Type 0 where
  pub evaluating : (list values : List ℕ) (w w' : Work) (r : Result Complex Refusal) → Evaluates list values w r w'
      → (r ≡ evaluate_call (capacity w) list values) × EvaluatedSo r × (w' ≡ zeroed w)
  pub simplifying : (limit : ℕ) (list values out out' : List ℕ) (w w' : Work) (r : Result Simplified Refusal) → Simplifies limit list values out w r out' w'
      → ((r, out') ≡ simplify_call (capacity w) limit list values out) × SimplifiedSo out out' r × (w' ≡ zeroed w)
  pub substituting : (list out out' : List ℕ) (w w' : Work) (r : Result ℕ Refusal) → Substitutes list out w r out' w'
      → ((r, out') ≡ substitute_call (capacity w) list out) × WrittenSo out out' r × (w' ≡ zeroed w)
  pub reading_real : (list : List ℕ) (w w' : Work) (r : Result Float Refusal) → ReadsReal list w r w' → (r ≡ to_real_call (capacity w) list) × RealSo r × (w' ≡ zeroed w)
  pub compiling : (list out out' : List ℕ) (w w' : Work) (r : Result ℕ Refusal) → Compiles list out w r out' w'
      → ((r, out') ≡ compile_call (capacity w) list out) × WrittenSo out out' r × (w' ≡ zeroed w)
  pub simplifying_origins : (limit : ℕ) (list values out marks out' : List ℕ) (w w' : Work) (r : Result Simplified Refusal) → SimplifiesOrigins limit list values out w r marks out' w'
      → ((r, out') ≡ simplify_origins (capacity w) limit list values out) × SimplifiedSo out out' r × (w' ≡ zeroed w)
  pub substituting_origins : (list out out' : List ℕ) (w w' : Work) (r : Result ℕ Refusal) → SubstitutesOrigins list out w r out' w'
      → ((r, out') ≡ substitute_origins (capacity w) list out) × WrittenSo out out' r × (w' ≡ zeroed w)
  pub playing : (tape values table table' : List ℕ) (r : Result Complex Refusal) → Plays tape values table r table'
      → (r ≡ play_call tape values) × EvaluatedSo r × (table' ≡ replicate (length table) 0)

pub demand_1 : Demand1
demand_1 = record {
  evaluating = λ list values w w' r p.
      (ap (λ x. x.0) p, subst EvaluatedSo (sym (ap (λ x. x.0) p)) (evaluate_call_so (capacity w) list values), ap (λ x. x.1) p);
  simplifying = λ limit list values out out' w w' r p.
      (ap (λ x. x.0) p, subst (λ x. SimplifiedSo out x.1 x.0) (sym (ap (λ x. x.0) p)) (simplify_call_so (capacity w) limit list values out), ap (λ x. x.1) p);
  substituting = λ list out out' w w' r p. (ap (λ x. x.0) p, subst (λ x. WrittenSo out x.1 x.0) (sym (ap (λ x. x.0) p)) (substitute_call_so (capacity w) list out), ap (λ x. x.1) p);
  reading_real = λ list w w' r p. (ap (λ x. x.0) p, subst RealSo (sym (ap (λ x. x.0) p)) (real_call_so (capacity w) list), ap (λ x. x.1) p);
  compiling = λ list out out' w w' r p. (ap (λ x. x.0) p, subst (λ x. WrittenSo out x.1 x.0) (sym (ap (λ x. x.0) p)) (compile_call_so (capacity w) list out), ap (λ x. x.1) p);
  simplifying_origins = λ limit list values out marks out' w w' r p.
      (ap (λ x. x.0.0) p, subst (λ x. SimplifiedSo out x.1 x.0) (sym (ap (λ x. x.0.0) p)) (simplify_origins_so (capacity w) limit list values out), ap (λ x. x.1) p);
  substituting_origins = λ list out out' w w' r p.
      (ap (λ x. x.0) p, subst (λ x. WrittenSo out x.1 x.0) (sym (ap (λ x. x.0) p)) (substitute_origins_so (capacity w) list out), ap (λ x. x.1) p);
  playing = λ tape values table table' r p. (ap (λ x. x.0) p, subst EvaluatedSo (sym (ap (λ x. x.0) p)) (play_call_so tape values), ap (λ x. x.1) p);
}

-- ---- demand 2: "Simplifying follows 01's ordered arms, and the answers equal the Rust's over the domain 01 states. Arithmetic is IEEE 754, one rounding
-- per operation. A listing written out reads back to the same expression, given as much work memory."

-- n of a quotient: c*c + d*d
abbrev pub norm : Complex → Float
norm y = Ieee.add binary64 (Ieee.mul binary64 y.re y.re) (Ieee.mul binary64 y.im y.im)

pub record Demand2 : Type 0 where
  -- Of an infix operation for which nothing is kept, at a limit above 0: the call is counted, the operands are simplified at 1 less, left before
  -- right; the first match in 01's list of arms is carried out, whose S is simplifying at 1 less again; and the result is kept
  pub ordered_arms : (rows : Rows) (k : ℕ) (op : InfixOperator) (l r : Tree) (s : State) (unmatched : Plan) → recall (infixed op l r) s ≡ nothing
      → simplify rows (suc k) (infixed op l r) s
      ≡ keeping (infixed op l r) (and_then (simplify rows k l (counted suc s)) λ x s. and_then (simplify rows k r s) λ y s.
      carry_out rows (simplify rows (k - 1)) (first_match unmatched (arms op x y)) s)
  -- each part by operations of binary64, each of which rounds once; a negation changes signs and rounds nothing
  pub sums : (x y : Complex) → plus x y ≡ record { re = Ieee.add binary64 x.re y.re; im = Ieee.add binary64 x.im y.im }
  pub differences : (x y : Complex) → minus x y ≡ record { re = Ieee.sub binary64 x.re y.re; im = Ieee.sub binary64 x.im y.im }
  pub products : (x y : Complex) → times x y
      ≡ record {
        re = Ieee.sub binary64 (Ieee.mul binary64 x.re y.re) (Ieee.mul binary64 x.im y.im);
        im = Ieee.add binary64 (Ieee.mul binary64 x.re y.im) (Ieee.mul binary64 x.im y.re);
      }
  pub quotients : (x y : Complex) → over x y
      ≡ record {
        re = Ieee.div binary64 (Ieee.add binary64 (Ieee.mul binary64 x.re y.re) (Ieee.mul binary64 x.im y.im)) (norm y);
        im = Ieee.div binary64 (Ieee.sub binary64 (Ieee.mul binary64 x.im y.re) (Ieee.mul binary64 x.re y.im)) (norm y);
      }
  pub negations : (x : Complex) → negated x ≡ record { re = Ieee.neg x.re; im = Ieee.neg x.im }
  -- the bytes that a call wrote read back to the tree that it gives, in a store of as much room or more
  pub simplified_back : (room limit : ℕ) (list values out : List ℕ) (bytes calls : ℕ) (out' : List ℕ)
      → simplify_call room limit list values out ≡ (Ok (record { bytes = bytes; calls = calls }), out') → SimplifiedBack room limit list values bytes out'
  pub substituted_back : (room : ℕ) (list out : List ℕ) (bytes : ℕ) (out' : List ℕ)
      → substitute_call room list out ≡ (Ok bytes, out') → SubstitutedBack room list bytes out'
  -- Ticket 3: and so do those with origins
  pub simplified_origins_back : (room limit : ℕ) (list values out : List ℕ) (bytes calls : ℕ) (out' : List ℕ)
      → simplify_origins room limit list values out ≡ (Ok (record { bytes = bytes; calls = calls }), out') → SimplifiedWith room limit list values out bytes calls out'
  pub substituted_origins_back : (room : ℕ) (list out : List ℕ) (bytes : ℕ) (out' : List ℕ)
      → substitute_origins room list out ≡ (Ok bytes, out') → SubstitutedWith room list out bytes out'

pub demand_2 : Demand2
unfolding plus minus times over negated
demand_2 = record {
  ordered_arms = ordered;
  sums = λ x y. refl;
  differences = λ x y. refl;
  products = λ x y. refl;
  quotients = λ x y. refl;
  negations = λ x. refl;
  simplified_back = λ room limit list values out bytes calls out' wrote. simplified_reads_back room limit list values out wrote;
  substituted_back = λ room list out bytes out' wrote. substituted_reads_back room list out wrote;
  simplified_origins_back = λ room limit list values out bytes calls out' wrote. simplified_with_origins room limit list values out wrote;
  substituted_origins_back = λ room list out bytes out' wrote. substituted_with_origins room list out wrote;
}

-- ---- demand 3: "The tape, which the port adds, plays what was written. Take any accepted expression of size at most 512 and an output with room
-- for its tape. It compiles, and for every accepted sheet, playing that tape gives what evaluating the expression gives, bit for bit: the value,
-- INCOMPLETE, or the same missing function value. The stack never holds more than the expression's depth. A tape from anywhere else is refused
-- before its first step or plays without running out of stack."

pub record Demand3 : Type 0 where
  pub it_compiles : (room : ℕ) (list out : List ℕ) (root : Tree) (swaps : List Swap) (store : State) → listing false list (fresh room 0) ≡ accepted root swaps store
      → size root ≤ 512 → 24 * size root ≤ length out → compile_call room list out ≡ (Ok (24 * size root), tape root ++ drop (24 * size root) out)
  -- the bytes that compiling wrote, for every sheet, accepted or not, and evaluating in a store of any room that accepts the listing
  pub plays_the_same : (room : ℕ) (list out : List ℕ) (bytes : ℕ) (out' : List ℕ) → compile_call room list out ≡ (Ok bytes, out')
      → (room' : ℕ) (root : Tree) (swaps : List Swap) (store : State) → listing false list (fresh room' 0) ≡ accepted root swaps store
      → (values : List ℕ) → play_call (take bytes out') values ≡ evaluate_call room' list values
  -- "Playing a compiled tape and evaluating report the same marks; that joins demand 3": the same t rows were used
  pub marks_the_same : (room : ℕ) (list out : List ℕ) (bytes : ℕ) (out' : List ℕ) → compile_call room list out ≡ (Ok bytes, out')
      → (room' : ℕ) (root : Tree) (swaps : List Swap) (store : State) → listing false list (fresh room' 0) ≡ accepted root swaps store
      → (values : List ℕ) → play_marks (take bytes out') values ≡ evaluate_marks room' list values
  -- after each step of them
  pub no_deeper : (room : ℕ) (list out : List ℕ) (bytes : ℕ) (out' : List ℕ) → compile_call room list out ≡ (Ok bytes, out')
      → (root : Tree) (swaps : List Swap) (store : State) → listing false list (fresh room 0) ≡ accepted root swaps store
      → (rows : Rows) (k : ℕ) → AtMost (depth root) (run rows (take k (steps_in (take bytes out'))) [])
  pub any_tape : (tape values : List ℕ) → FromAnywhere tape values

pub demand_3 : Demand3
demand_3 = record {
  it_compiles = λ room list out root swaps store read small ample. compiles room list out read small ample;
  plays_the_same = λ room list out bytes out' wrote room' root swaps store read values. written_plays room list out wrote room' read values;
  marks_the_same = λ room list out bytes out' wrote room' root swaps store read values. written_marks room list out wrote room' read values;
  no_deeper = λ room list out bytes out' wrote root swaps store read rows k. written_depth room list out wrote read rows k;
  any_tape = from_anywhere;
}
