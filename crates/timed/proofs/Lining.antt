-- The lines that `timed_read_lines` reads: each turn of its loop, and that two answers are one. Assumes nothing.
use Rattle.std.specs.Prelude.{Some, None}
use Rattle.std.specs.Borrow.{Bor}
use Rattle.std.specs.List.{IsFirstAndRest}
use mathlib.Core.Path.{◌≡◌, refl, sym, ap, ◌∙◌, subst}
use Prim.Native.Nat.{ℕ, zero, suc, ◌+◌, ◌-◌, ◌≤◌, ◌<◌}
use mathlib.Core.List.{List}
use native.Mathlib.Omega.{arith}
use lib.ListN.{length}
use Rattle.expression.specs.declared.node.Expression.{Expression}
use Rattle.expression.specs.declared.refusal.Refusal.{Refusal}
use Rattle.store.specs.declared.node.Fields.{Fields}
use Rattle.store.specs.Nodes.{fields_of}
use Rattle.node_lines.specs.NodeLines.{node_fields}
use Rattle.node_lines.specs.Seen.{Line, Finds}
use Rattle.node_lines.proofs.OneAnswer.{one_line}
use Rattle.timed.specs.Packed.{refused_of}
use Rattle.timed.specs.Reading.{with_fields, LineAt, Answered, ends, long, bad, goes, AnsweredBy}

-- ---- a turn of the loop, and its three ends

module _ (s : List ℕ) (lines : ℕ) (few : lines ≤ 1024) (table : List ℕ) where
  one_step : (r : ℕ) (table' : List ℕ) → Answered (AnsweredBy (1024 - lines)) s lines table r table' → AnsweredBy (1025 - lines) s lines table r table'
  unfolding AnsweredBy
  one_step r table' a = let z : 1025 - lines ≡ suc (1024 - lines) = omega arith in rw z a

  pub ends_there : length s ≡ 0 → AnsweredBy (1025 - lines) s lines table lines table
  ends_there l = one_step lines table (ends l refl refl)

  pub too_long_lem : (r : ℕ) → 0 < length s → 1024 ≤ lines → r ≡ refused_of (Refusal.LongList lines) → AnsweredBy (1025 - lines) s lines table r table
  too_long_lem r l o e = one_step r table (long l o e refl)

  module _ {b : ℕ} {after : List ℕ} (x : IsFirstAndRest s b after) (found : Line) (f : Finds (λ earlier. node_fields earlier b after) lines found) (o : lines < 1024) where
    line_at : LineAt s lines found
    line_at = rw x.0 f

    pub malformed : (r : ℕ) → found ≡ None → r ≡ refused_of (Refusal.BadList lines) → AnsweredBy (1025 - lines) s lines table r table
    malformed r b e = one_step r table (bad (omega (arith, x.1)) o (subst (LineAt s lines) b line_at) e refl)

    pub goes_on : (e : Expression) (next : Bor (List ℕ)) → found ≡ Some (e, next) → (new : List ℕ) (g : Fields) → new ≡ with_fields table lines g → g ≡ fields_of e → (r : ℕ) (table' : List ℕ)
        → AnsweredBy (1025 - (lines + 1)) next.now (lines + 1) new r table' → AnsweredBy (1025 - lines) s lines table r table'
    goes_on e next b new g p q r table' a =
        let z : 1025 - (lines + 1) ≡ 1024 - lines = omega arith in
        let t : new ≡ with_fields table lines (fields_of e) = p ∙ ap (with_fields table lines) q in
        one_step r table' (goes e next (omega (arith, x.1)) o (subst (LineAt s lines) b line_at) (subst (λ k. AnsweredBy k next.now (lines + 1) (with_fields table lines (fields_of e)) r table') z (subst (λ x. AnsweredBy (1025 - (lines + 1)) next.now (lines + 1) x r table') t a)))

-- ---- two answers are one

abbrev One : (r : ℕ) (t : List ℕ) (r' : ℕ) (t' : List ℕ) → Type 0
One r t r' t' = ◌≡◌ {A = ℕ × List ℕ} (r, t) (r', t')

two : {r r' n : ℕ} {t t' table : List ℕ} → r ≡ n → t ≡ table → r' ≡ n → t' ≡ table → One r t r' t'
two p q p' q' = λ i. ((p ∙ sym p') i, (q ∙ sym q') i)

module _ {Rest : (s : List ℕ) (lines : ℕ) (table : List ℕ) (r : ℕ) (table' : List ℕ) → Type 0} (s : List ℕ) (lines : ℕ) (table : List ℕ)
    (rest : (s : List ℕ) (lines : ℕ) (table : List ℕ) (r r' : ℕ) (t t' : List ℕ) → Rest s lines table r t → Rest s lines table r' t' → One r t r' t')
    (r r' : ℕ) (t t' : List ℕ) where
  one_turn : Answered Rest s lines table r t → Answered Rest s lines table r' t' → One r t r' t'
  one_turn (ends l p q) (ends l' p' q') = two p q p' q'
  one_turn (ends l p q) (long l' o' p' q') = absurd (omega (arith, l, l'))
  one_turn (ends l p q) (bad l' o' f' p' q') = absurd (omega (arith, l, l'))
  one_turn (ends l p q) (goes e' next' l' o' f' a') = absurd (omega (arith, l, l'))
  one_turn (long l o p q) (ends l' p' q') = absurd (omega (arith, l, l'))
  one_turn (long l o p q) (long l' o' p' q') = two p q p' q'
  one_turn (long l o p q) (bad l' o' f' p' q') = absurd (omega (arith, o, o'))
  one_turn (long l o p q) (goes e' next' l' o' f' a') = absurd (omega (arith, o, o'))
  one_turn (bad l o f p q) (ends l' p' q') = absurd (omega (arith, l, l'))
  one_turn (bad l o f p q) (long l' o' p' q') = absurd (omega (arith, o, o'))
  one_turn (bad l o f p q) (bad l' o' f' p' q') = two p q p' q'
  one_turn (bad l o f p q) (goes e' next' l' o' f' a') = let k = (one_line s None (Some (e', next')) f f').0 in let z : ◌≡◌ {A = ℕ} 0 1 = cc in absurd (omega arith)
  one_turn (goes e next l o f a) (ends l' p' q') = absurd (omega (arith, l, l'))
  one_turn (goes e next l o f a) (long l' o' p' q') = absurd (omega (arith, o, o'))
  one_turn (goes e next l o f a) (bad l' o' f' p' q') = let k = (one_line s (Some (e, next)) None f f').0 in let z : ◌≡◌ {A = ℕ} 0 1 = cc in absurd (omega arith)
  one_turn (goes e next l o f a) (goes e' next' l' o' f' a') =
      let k = (one_line s (Some (e, next)) (Some (e', next')) f f').0 in
      let q : ◌≡◌ {A = Expression × List ℕ} (e, next.now) (e', next'.now) = cc in
      let n : next.now ≡ next'.now = ap (λ p. p.1) q in
      let x : e ≡ e' = ap (λ p. p.0) q in
      rest next.now (lines + 1) (with_fields table lines (fields_of e)) r r' t t' a
      (subst (λ y. Rest next.now (lines + 1) (with_fields table lines (fields_of y)) r' t') (sym x) (subst (λ k. Rest k (lines + 1) (with_fields table lines (fields_of e')) r' t') (sym n) a'))

pub one_lines : (fuel : ℕ) (s : List ℕ) (lines : ℕ) (table : List ℕ) (r r' : ℕ) (t t' : List ℕ)
    → AnsweredBy fuel s lines table r t → AnsweredBy fuel s lines table r' t' → One r t r' t'
unfolding AnsweredBy
one_lines zero s lines table r r' t t' a b = absurd a
one_lines (suc fuel) s lines table r r' t t' a b = one_turn s lines table (one_lines fuel) r r' t t' a b
