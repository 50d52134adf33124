-- The steps of a node from those of its operands, and how they are written one after another. Assumes nothing.
use mathlib.Core.Path.{◌≡◌, refl, sym, ap, subst, ◌∙◌}
use mathlib.Core.List.{List, [], ◌∷◌, ◌++◌, append_assoc, append-nil}
use Prim.Native.Nat.{ℕ, ◌+◌, ◌*◌, ◌<◌, ◌≤◌}
use native.Mathlib.Nat.{zero-add}
use native.Mathlib.Omega.{arith}
use lib.ListN.{length, length-append, drop}
use lib.Seq.{sets-eq}
use borrow.Author.Tests.{lt-ltb, le-ltb}
use Rattle.std.specs.Prelude.{Result, Ok, Err}
use Rattle.expression.specs.declared.refusal.Refusal.{Refusal}
use Rattle.expression.specs.Trees.{Tree, leaf, function_call, prefixed, infixed, size}
use Rattle.expression.specs.declared.node.Expression.{Expression}
use Rattle.expression.specs.Nodes.{grown, operands_of}
use Rattle.store.specs.Memory.{Memory, expression_at, tree_at, tree_of}
use Rattle.store.specs.Held.{Holds}
use Rattle.store.proofs.Stored.{read_node}
use Rattle.text.specs.Put.{Put}
use Rattle.text.proofs.Putting.{put_then, put_length}
use Rattle.expression.specs.declared.node.Operands.{Operands}
use Rattle.expression.proofs.Under.{nothing_under, one_under, two_under, within_one, within_two, IsNothing, IsOne, IsTwo}
use Rattle.steps.specs.declared.Step.{Step}
use Rattle.steps.specs.Steps.{encoded, tape_of}
use Rattle.steps.proofs.Writing.{step_size, tape_size}
use Rattle.tape.specs.Tapes.{leaf_step, steps, tape, compiled}
use Rattle.tape.specs.Run.{step_for, Places}

-- ---- how many steps

pub steps_size : (t : Tree) → length (steps t) ≡ size t
unfolding steps size
steps_size (leaf l) = refl
steps_size (function_call f t) = omega (arith, length-append (steps t) (Step.Function f ∷ []), steps_size t)
steps_size (prefixed o t) = omega (arith, length-append (steps t) (Step.Prefix o ∷ []), steps_size t)
steps_size (infixed o l r) = omega (arith, length-append (steps l) (steps r ++ (Step.Infix o ∷ [])), length-append (steps r) (Step.Infix o ∷ []), steps_size l, steps_size r)

pub tape_length : (t : Tree) → length (tape t) ≡ 24 * size t
tape_length t = tape_size (steps t) ∙ ap (λ k. 24 * k) (steps_size t)

pub tape_append : (ss us : List Step) → tape_of (ss ++ us) ≡ tape_of ss ++ tape_of us
unfolding tape_of
tape_append [] us = refl
tape_append (s ∷ ss) us = ap (λ (bs : List ℕ). encoded s ++ bs) (tape_append ss us) ∙ sym (append_assoc (encoded s) (tape_of ss) (tape_of us))

tape_one : (s : Step) → tape_of (s ∷ []) ≡ encoded s
unfolding tape_of
tape_one s = append-nil (encoded s)

-- ---- a node's steps

steps_none : (m : Memory) (e : Expression) → operands_of e ≡ Operands.Nothing → steps (tree_of m e) ≡ step_for e ∷ []
unfolding operands_of IsNothing steps leaf_step step_for grown
steps_none m (Expression.Number z) q = refl
steps_none m Expression.PiConstant q = refl
steps_none m (Expression.Variable v) q = refl
steps_none m (Expression.Address region index) q = refl
steps_none m (Expression.FunctionCall f a) q = absurd (nothing_under (Expression.FunctionCall f a) q)
steps_none m (Expression.Prefix o a) q = absurd (nothing_under (Expression.Prefix o a) q)
steps_none m (Expression.Infix o a b) q = absurd (nothing_under (Expression.Infix o a b) q)

steps_one : (m : Memory) (e : Expression) (a : ℕ) → operands_of e ≡ Operands.One a → steps (tree_of m e) ≡ steps (tree_at m a) ++ (step_for e ∷ [])
unfolding operands_of IsOne steps step_for grown
steps_one m (Expression.Number z) a q = absurd (one_under (Expression.Number z) a q)
steps_one m Expression.PiConstant a q = absurd (one_under Expression.PiConstant a q)
steps_one m (Expression.Variable v) a q = absurd (one_under (Expression.Variable v) a q)
steps_one m (Expression.Address region index) a q = absurd (one_under (Expression.Address region index) a q)
steps_one m (Expression.FunctionCall f b) a q = ap (λ k. steps (tree_at m k) ++ (Step.Function f ∷ [])) (one_under (Expression.FunctionCall f b) a q)
steps_one m (Expression.Prefix o b) a q = ap (λ k. steps (tree_at m k) ++ (Step.Prefix o ∷ [])) (one_under (Expression.Prefix o b) a q)
steps_one m (Expression.Infix o b c) a q = absurd (one_under (Expression.Infix o b c) a q)

steps_two : (m : Memory) (e : Expression) (a b : ℕ) → operands_of e ≡ Operands.Two a b
    → steps (tree_of m e) ≡ steps (tree_at m a) ++ (steps (tree_at m b) ++ (step_for e ∷ []))
unfolding operands_of IsTwo steps step_for grown
steps_two m (Expression.Number z) a b q = absurd (two_under (Expression.Number z) a b q)
steps_two m Expression.PiConstant a b q = absurd (two_under Expression.PiConstant a b q)
steps_two m (Expression.Variable v) a b q = absurd (two_under (Expression.Variable v) a b q)
steps_two m (Expression.Address region index) a b q = absurd (two_under (Expression.Address region index) a b q)
steps_two m (Expression.FunctionCall f c) a b q = absurd (two_under (Expression.FunctionCall f c) a b q)
steps_two m (Expression.Prefix o c) a b q = absurd (two_under (Expression.Prefix o c) a b q)
steps_two m (Expression.Infix o c d) a b q =
    let i = two_under (Expression.Infix o c d) a b q in
    λ v. steps (tree_at m (i.0 v)) ++ (steps (tree_at m (i.1 v)) ++ (Step.Infix o ∷ []))

-- ---- the returns of `emit`

module _ {m : Memory} {n node : ℕ} (h : Holds m n) (l : node < n) {e : Expression} (e-is : e ≡ expression_at m node) {operands : Operands} (o_is : operands ≡ operands_of e) where
  pub one_inside : {a : ℕ} → operands ≡ Operands.One a → a < node
  one_inside {a} told = within_one node e a (sym o_is ∙ told) (read_node h node l e-is).0

  pub two_inside : {a b : ℕ} → operands ≡ Operands.Two a b → (a < node) × (b < node)
  two_inside {a} {b} told = within_two node e a b (sym o_is ∙ told) (read_node h node l e-is).0

  tree_is : tree_of m e ≡ tree_at m node
  tree_is = (read_node h node l e-is).1

  module _ {s : Step} (s-is : s ≡ step_for e) where
    tape_none : operands ≡ Operands.Nothing → encoded s ≡ tape (tree_at m node)
    tape_none told = ap encoded s-is ∙ sym (tape_one (step_for e)) ∙ ap tape_of (sym (steps_none m e (sym o_is ∙ told))) ∙ ap tape tree_is

    tape_of_one : {a : ℕ} → operands ≡ Operands.One a → tape (tree_at m a) ++ encoded s ≡ tape (tree_at m node)
    tape_of_one {a} told =
        ap (λ s. tape (tree_at m a) ++ encoded s) s-is
        ∙ ap (λ (bs : List ℕ). tape (tree_at m a) ++ bs) (sym (tape_one (step_for e)))
        ∙ sym (tape_append (steps (tree_at m a)) (step_for e ∷ []))
        ∙ ap tape_of (sym (steps_one m e a (sym o_is ∙ told)))
        ∙ ap tape tree_is

    tape_of_two : {a b : ℕ} → operands ≡ Operands.Two a b → tape (tree_at m a) ++ (tape (tree_at m b) ++ encoded s) ≡ tape (tree_at m node)
    tape_of_two {a} {b} told =
        ap (λ s. tape (tree_at m a) ++ (tape (tree_at m b) ++ encoded s)) s-is
        ∙ ap (λ (bs : List ℕ). tape (tree_at m a) ++ (tape (tree_at m b) ++ bs)) (sym (tape_one (step_for e)))
        ∙ ap (λ (bs : List ℕ). tape (tree_at m a) ++ bs) (sym (tape_append (steps (tree_at m b)) (step_for e ∷ [])))
        ∙ sym (tape_append (steps (tree_at m a)) (steps (tree_at m b) ++ (step_for e ∷ [])))
        ∙ ap tape_of (sym (steps_two m e a b (sym o_is ∙ told)))
        ∙ ap tape tree_is

    pub emits_none : {at r : ℕ} {out out' : List ℕ} → operands ≡ Operands.Nothing → Places out at s r out' → at + length (tape (tree_at m node)) ≤ length out
        → Put out at (tape (tree_at m node)) r out'
    emits_none {at} {r} {out} {out'} told p room =
        let t = tape_none told in
        subst (λ bs. Put out at bs r out') t (p (omega (arith, room, step_size s, ap length t)))

    pub emits_one : {a at p r : ℕ} {out out₁ out₂ : List ℕ} → operands ≡ Operands.One a → (at + length (tape (tree_at m a)) ≤ length out → Put out at (tape (tree_at m a)) p out₁)
        → Places out₁ p s r out₂ → at + length (tape (tree_at m node)) ≤ length out → Put out at (tape (tree_at m node)) r out₂
    emits_one {a} {at} {p} {r} {out} {out₁} {out₂} told x y room =
        let t = tape_of_one told in
        let k = ap length t in
        let j = length-append (tape (tree_at m a)) (encoded s) in
        let x = x (omega (arith, room, k, j)) in
        subst (λ bs. Put out at bs r out₂) t (put_then x (y (omega (arith, room, k, j, step_size s, x.place, put_length x))))

    pub emits_two : {a b at p q r : ℕ} {out out₁ out₂ out₃ : List ℕ} → operands ≡ Operands.Two a b
        → (at + length (tape (tree_at m a)) ≤ length out → Put out at (tape (tree_at m a)) p out₁)
        → (p + length (tape (tree_at m b)) ≤ length out₁ → Put out₁ p (tape (tree_at m b)) q out₂) → Places out₂ q s r out₃
        → at + length (tape (tree_at m node)) ≤ length out → Put out at (tape (tree_at m node)) r out₃
    emits_two {a} {b} {at} {p} {q} {r} {out} {out₁} {out₂} {out₃} told x y z room =
        let t = tape_of_two told in
        let k = ap length t in
        let i = length-append (tape (tree_at m a)) (tape (tree_at m b) ++ encoded s) in
        let j = length-append (tape (tree_at m b)) (encoded s) in
        let x = x (omega (arith, room, k, i, j)) in
        let y = y (omega (arith, room, k, i, j, x.place, put_length x)) in
        subst (λ bs. Put out at bs r out₃) t (put_then x (put_then y (z (omega (arith, room, k, i, j, step_size s, x.place, put_length x, y.place, put_length y)))))

-- ---- the returns of `compile`

module _ (t : Tree) (out : List ℕ) where
  pub compiles_long : 512 < size t → ◌≡◌ {A = Result ℕ Refusal × List ℕ} (Err Refusal.LongTape, out) (compiled t out)
  unfolding compiled
  compiles_long l = rw (lt-ltb 512 (size t) l) refl

  pub compiles_short : size t ≤ 512 → length out < 24 * size t → ◌≡◌ {A = Result ℕ Refusal × List ℕ} (Err Refusal.OutRoom, out) (compiled t out)
  unfolding compiled
  compiles_short l k = rw (le-ltb 512 (size t) l, lt-ltb (length out) (length (tape t)) (omega (arith, k, tape_length t))) refl

  pub compiles : {r : ℕ} {out' : List ℕ} → size t ≤ 512 → 24 * size t ≤ length out → (0 + length (tape t) ≤ length out → Put out 0 (tape t) r out')
      → ◌≡◌ {A = Result ℕ Refusal × List ℕ} (Ok r, out') (compiled t out)
  unfolding compiled
  compiles {r} {out'} l k put =
      let p = put (omega (arith, k, tape_length t)) in
      let a : r ≡ length (tape t) = p.place ∙ zero-add (length (tape t)) in
      let b : out' ≡ tape t ++ drop (length (tape t)) out = p.stored ∙ sets-eq (tape t) out 0 (omega (arith, k, tape_length t)) ∙ rw (zero-add (length (tape t))) refl in
      rw (le-ltb 512 (size t) l, le-ltb (length out) (length (tape t)) (omega (arith, k, tape_length t))) λ i. (Ok (a i), b i)
