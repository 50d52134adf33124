-- Any two answers that the contract of a public call allows are equal, and so are the marks, the output bytes and the work memory that come with them; and two
-- answers of what the calls share. Assumes nothing.
use mathlib.Core.Path.{◌≡◌, sym, ◌∙◌}
use Prim.Native.Nat.{ℕ, ◌<◌}
use native.Mathlib.Omega.{arith}
use mathlib.Core.List.{List}
use mathlib.Core.Bool.{Bool}
use Rattle.std.specs.Prelude.{Result, IfOk, Ok, Err, Float}
use Rattle.complex.specs.declared.Complex.{Complex}
use Rattle.expression.specs.declared.refusal.Refusal.{Refusal}
use Rattle.expression.specs.Trees.{Tree}
use Rattle.expression.specs.Alike.{identical}
use Rattle.store.specs.Storing.{State, state, place}
use Rattle.store.specs.declared.desk.Refused.{Refused}
use Rattle.store.specs.Desk.{count}
use Rattle.store.specs.Held.{Lent, tree_in, state_in, Sound}
use Rattle.store.specs.Tracing.{Traced}
use Rattle.store.proofs.Seeking.{own_place}
use Rattle.sheet.specs.Table.{rows_of}
use Rattle.sheet.proofs.OneAnswer.{one_counts}
use Rattle.calls.specs.declared.Simplified.{Simplified}
use Rattle.calls.specs.declared.Job.{Job}
use Rattle.calls.specs.Lent.{Work}
use Rattle.calls.specs.Frame.{ReadsJob, WritesAnswer}
use Rattle.calls.specs.Promises.{Evaluates, EvaluatesMarked, Substitutes, SubstitutesOrigins, ReadsReal, Simplifies, SimplifiesMarked, SimplifiesOrigins, Compiles, Plays, PlaysMarked}

pub one_evaluated : (list values : List ℕ) (w : Work) {r r' : Result Complex Refusal} {w₁ w₂ : Work}
    → Evaluates list values w r w₁ → Evaluates list values w r' w₂ → ◌≡◌ {A = Result Complex Refusal × Work} (r, w₁) (r', w₂)
one_evaluated list values w p q = p ∙ sym q

pub one_evaluated_marked : (list values : List ℕ) (w : Work) {r r' : Result Complex Refusal} {marks₁ marks₂ : List ℕ} {w₁ w₂ : Work}
    → EvaluatesMarked list values w r marks₁ w₁ → EvaluatesMarked list values w r' marks₂ w₂ → ◌≡◌ {A = (Result Complex Refusal × List ℕ) × Work} ((r, marks₁), w₁) ((r', marks₂), w₂)
one_evaluated_marked list values w p q = p ∙ sym q

pub one_substituted : (list out : List ℕ) (w : Work) {r r' : Result ℕ Refusal} {out₁ out₂ : List ℕ} {w₁ w₂ : Work}
    → Substitutes list out w r out₁ w₁ → Substitutes list out w r' out₂ w₂ → ◌≡◌ {A = (Result ℕ Refusal × List ℕ) × Work} ((r, out₁), w₁) ((r', out₂), w₂)
one_substituted list out w p q = p ∙ sym q

pub one_real : (list : List ℕ) (w : Work) {r r' : Result Float Refusal} {w₁ w₂ : Work} → ReadsReal list w r w₁ → ReadsReal list w r' w₂ → ◌≡◌ {A = Result Float Refusal × Work} (r, w₁) (r', w₂)
one_real list w p q = p ∙ sym q

pub one_simplified : (limit : ℕ) (list values out : List ℕ) (w : Work) {r r' : Result Simplified Refusal} {out₁ out₂ : List ℕ} {w₁ w₂ : Work}
    → Simplifies limit list values out w r out₁ w₁ → Simplifies limit list values out w r' out₂ w₂ → ◌≡◌ {A = (Result Simplified Refusal × List ℕ) × Work} ((r, out₁), w₁) ((r', out₂), w₂)
one_simplified limit list values out w p q = p ∙ sym q

pub one_simplified_marked : (limit : ℕ) (list values out : List ℕ) (w : Work) {r r' : Result Simplified Refusal} {marks₁ marks₂ out₁ out₂ : List ℕ} {w₁ w₂ : Work}
    → SimplifiesMarked limit list values out w r marks₁ out₁ w₁ → SimplifiesMarked limit list values out w r' marks₂ out₂ w₂
    → ◌≡◌ {A = ((Result Simplified Refusal × List ℕ) × List ℕ) × Work} (((r, out₁), marks₁), w₁) (((r', out₂), marks₂), w₂)
one_simplified_marked limit list values out w p q = p ∙ sym q

pub one_substituted_origins : (list out : List ℕ) (w : Work) {r r' : Result ℕ Refusal} {out₁ out₂ : List ℕ} {w₁ w₂ : Work}
    → SubstitutesOrigins list out w r out₁ w₁ → SubstitutesOrigins list out w r' out₂ w₂ → ◌≡◌ {A = (Result ℕ Refusal × List ℕ) × Work} ((r, out₁), w₁) ((r', out₂), w₂)
one_substituted_origins list out w p q = p ∙ sym q

pub one_simplified_origins : (limit : ℕ) (list values out : List ℕ) (w : Work) {r r' : Result Simplified Refusal} {marks₁ marks₂ out₁ out₂ : List ℕ} {w₁ w₂ : Work}
    → SimplifiesOrigins limit list values out w r marks₁ out₁ w₁ → SimplifiesOrigins limit list values out w r' marks₂ out₂ w₂
    → ◌≡◌ {A = ((Result Simplified Refusal × List ℕ) × List ℕ) × Work} (((r, out₁), marks₁), w₁) (((r', out₂), marks₂), w₂)
one_simplified_origins limit list values out w p q = p ∙ sym q

pub one_compiled : (list out : List ℕ) (w : Work) {r r' : Result ℕ Refusal} {out₁ out₂ : List ℕ} {w₁ w₂ : Work}
    → Compiles list out w r out₁ w₁ → Compiles list out w r' out₂ w₂ → ◌≡◌ {A = (Result ℕ Refusal × List ℕ) × Work} ((r, out₁), w₁) ((r', out₂), w₂)
one_compiled list out w p q = p ∙ sym q

pub one_played : (tape values table : List ℕ) {r r' : Result Complex Refusal} {t₁ t₂ : List ℕ}
    → Plays tape values table r t₁ → Plays tape values table r' t₂ → ◌≡◌ {A = Result Complex Refusal × List ℕ} (r, t₁) (r', t₂)
one_played tape values table p q = p ∙ sym q

pub one_played_marked : (tape values table : List ℕ) {r r' : Result Complex Refusal} {marks₁ marks₂ t₁ t₂ : List ℕ}
    → PlaysMarked tape values table r marks₁ t₁ → PlaysMarked tape values table r' marks₂ t₂ → ◌≡◌ {A = (Result Complex Refusal × List ℕ) × List ℕ} ((r, marks₁), t₁) ((r', marks₂), t₂)
one_played_marked tape values table p q = p ∙ sym q

-- ---- what the calls share: `frame::read_job`, and `frame::write_answer` where a store is held

stored_in_lem : State → List Tree
stored_in_lem (state room stored kept tally) = stored

module _ {list values : List ℕ} {l l₁ l₂ : Lent} {table₁ table₂ : List ℕ} where
  pub one_job : (r r' : Result Job Refusal) → ReadsJob list values r l l₁ table₁ → ReadsJob list values r' l l₂ table₂ → r ≡ r'
  unfolding stored_in_lem state_in
  one_job (Ok a) (Ok b) p q =
      let e = p.answer ∙ sym q.answer in
      let t : tree_in l₁ a.root ≡ tree_in l₂ b.root = cc in
      let s : state_in l₁ ≡ state_in l₂ = cc in
      let w : rows_of table₁ a.counts ≡ rows_of table₂ b.counts = cc in
      let root = sym (own_place p.after.1.holds a.root p.after.0) ∙ (λ x. place (identical (t x)) (stored_in_lem (s x))) ∙ own_place q.after.1.holds b.root q.after.0 in
      let c : a.counts ≡ b.counts = one_counts table₁ table₂ a.counts b.counts w in
      λ x. Ok (record { root = root x; counts = c x })
  one_job (Ok a) (Err why) p q = let e = p.answer ∙ sym q.answer in let z : ◌≡◌ {A = ℕ} 0 1 = cc in absurd (omega arith)
  one_job (Err why) (Ok b) p q = let e = p.answer ∙ sym q.answer in let z : ◌≡◌ {A = ℕ} 0 1 = cc in absurd (omega arith)
  one_job (Err why) (Err why') p q = let e = p.answer ∙ sym q.answer in cc

  -- and what it leaves is one: the root's tree, the state of the store, and the rows of the sheet
  pub one_job_state : (a b : Job) → ReadsJob list values (Ok a) l l₁ table₁ → ReadsJob list values (Ok b) l l₂ table₂
      → (tree_in l₁ a.root ≡ tree_in l₂ b.root) × (state_in l₁ ≡ state_in l₂) × (rows_of table₁ a.counts ≡ rows_of table₂ b.counts)
  unfolding state_in
  one_job_state a b p q =
      let e = p.answer ∙ sym q.answer in
      let t : tree_in l₁ a.root ≡ tree_in l₂ b.root = cc in
      let s : state_in l₁ ≡ state_in l₂ = cc in
      let w : rows_of table₁ a.counts ≡ rows_of table₂ b.counts = cc in
      (t, s, w)

pub one_written : (traced : Bool) (lines : List Tree) {l : Lent} (built : Result ℕ Refused) {r r' : Result ℕ Refusal} (out : List ℕ) {out₁ out₂ : List ℕ} → Sound l → Traced lines l → IfOk built (λ k. k < count l.desk)
    → WritesAnswer traced l built r out out₁ → WritesAnswer traced l built r' out out₂ → ◌≡◌ {A = Result ℕ Refusal × List ℕ} (r, out₁) (r', out₂)
one_written traced lines built out s t b p q = p lines s t b ∙ sym (q lines s t b)
