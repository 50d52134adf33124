-- A line with an origin is the line without, whose LF gives way to a tab, the origin and LF; and how it is written over the other. Assumes nothing.
use mathlib.Core.Path.{◌≡◌, refl, sym, ap, ◌∙◌}
use mathlib.Core.List.{List, [], ◌∷◌, ◌++◌, append_assoc}
use Prim.Native.Nat.{ℕ, suc, ◌+◌, ◌-◌, ◌≤◌}
use native.Mathlib.Nat.{add-zero}
use native.Mathlib.Omega.{arith}
use lib.ListN.{length, set, length-append}
use lib.Seq.{sets, set-set}
use Rattle.expression.specs.declared.node.Expression.{Expression}
use Rattle.origins.specs.Fields.{origin_text}
use Rattle.text.specs.Put.{Put}
use Rattle.text.specs.Writing.{line}
use Rattle.text.proofs.Putting.{put_then}
use Rattle.writing.specs.Order.{leaf_fields}
use Rattle.writing.specs.Ordering.{text_fields, line_text, origin_end, traced_text}

-- ---- fields

-- the fields of a line, parted by tabs
unfoldable pub parted : List ℕ → List (List ℕ) → List ℕ
parted f [] = f
parted f (g ∷ fs) = f ++ (9 ∷ parted g fs)

pub plain_line_lem : (f : List ℕ) (fs : List (List ℕ)) → line (f ∷ fs) ≡ parted f fs ++ (10 ∷ [])
unfolding line parted
plain_line_lem f [] = refl
plain_line_lem f (g ∷ fs) = ap (λ (l : List ℕ). f ++ (9 ∷ l)) (plain_line_lem g fs) ∙ sym (append_assoc f (9 ∷ parted g fs) (10 ∷ []))

pub longer_line : (f : List ℕ) (fs : List (List ℕ)) (o : List ℕ) → line ((f ∷ fs) ++ (o ∷ [])) ≡ parted f fs ++ (9 ∷ (o ++ (10 ∷ [])))
unfolding line parted
longer_line f [] o = refl
longer_line f (g ∷ fs) o = ap (λ (l : List ℕ). f ++ (9 ∷ l)) (longer_line g fs o) ∙ sym (append_assoc f (9 ∷ parted g fs) (9 ∷ (o ++ (10 ∷ []))))

-- ---- lines

pub end_length : (o : ℕ) → length (origin_end o) ≡ length (origin_text o) + 2
end_length o = omega (arith, length-append (origin_text o) (10 ∷ []))

-- what a line is with any end
pub record Ended (e : Expression) : Type 0 where
  pub body : List ℕ
  pub plain : line_text e ≡ body ++ (10 ∷ [])
  pub traced : (o : ℕ) → traced_text o e ≡ body ++ origin_end o

ended_by : (e : Expression) (f : List ℕ) (fs : List (List ℕ)) → text_fields e ≡ f ∷ fs → Ended e
unfolding line_text traced_text
ended_by e f fs q = record {
  body = parted f fs;
  plain = rw q (plain_line_lem f fs);
  traced = λ o. rw q (longer_line f fs (origin_text o));
}

pub ended : (e : Expression) → Ended e
unfolding text_fields leaf_fields
ended (Expression.Number z) = ended_by (Expression.Number z) _ _ refl
ended Expression.PiConstant = ended_by Expression.PiConstant _ _ refl
ended (Expression.Variable v) = ended_by (Expression.Variable v) _ _ refl
ended (Expression.Address r i) = ended_by (Expression.Address r i) _ _ refl
ended (Expression.FunctionCall f a) = ended_by (Expression.FunctionCall f a) _ _ refl
ended (Expression.Prefix o a) = ended_by (Expression.Prefix o a) _ _ refl
ended (Expression.Infix o a b) = ended_by (Expression.Infix o a b) _ _ refl

pub line_some : (e : Expression) → 1 ≤ length (line_text e)
line_some e = let p = ended e in omega (arith, ap length p.plain, length-append p.body (10 ∷ []))

pub traced_long : (o : ℕ) (e : Expression) → length (traced_text o e) ≡ length (line_text e) + length (origin_text o) + 1
traced_long o e =
    let p = ended e in
    omega (arith, ap length p.plain, ap length (p.traced o), length-append p.body (10 ∷ []), length-append p.body (origin_end o), end_length o)

-- ---- one writer over the last byte of another

over : (l : List ℕ) (i : ℕ) (xs : List ℕ) (y z : ℕ) (zs : List ℕ) → sets (sets l i (xs ++ (y ∷ []))) (i + length xs) (z ∷ zs) ≡ sets l i (xs ++ (z ∷ zs))
over l i [] y z zs = rw add-zero (ap (λ (r : List ℕ). sets r (suc i) zs) (set-set l i y z))
over l i (x ∷ xs) y z zs =
    let e : i + suc (length xs) ≡ suc i + length xs = omega arith in
    rw e (over (set l i x) (suc i) xs y z zs)

put_over : {e m x : List ℕ} {at p r : ℕ} (xs : List ℕ) (y z : ℕ) (zs : List ℕ) → Put e at (xs ++ (y ∷ [])) p m → Put m (p - 1) (z ∷ zs) r x → Put e at (xs ++ (z ∷ zs)) r x
put_over {e} {m} {x} {at} {p} {r} xs y z zs a b =
    let q : p - 1 ≡ at + length xs = omega (arith, a.place, length-append xs (y ∷ [])) in
    record {
      place = omega (arith, q, b.place, length-append xs (z ∷ zs));
      stored = rw (q, a.stored) at b.stored ∙ over e at xs y z zs;
    }

pub traced_put : {out m out' : List ℕ} {at p r : ℕ} (e : Expression) (o : ℕ) → Put out at (line_text e) p m → Put m (p - 1) (origin_end o) r out' → Put out at (traced_text o e) r out'
traced_put {out} {m} {out'} {at} {p} {r} e o a b =
    let q = ended e in
    rw (q.traced o) (put_over q.body 10 9 (origin_text o ++ (10 ∷ [])) (rw q.plain at a) b)

pub end_put : {out m m' out' : List ℕ} {at p q r : ℕ} (o : ℕ) → Put out at (9 ∷ []) p m → Put m p (origin_text o) q m' → Put m' q (10 ∷ []) r out' → Put out at (origin_end o) r out'
end_put o a b c = put_then a (put_then b c)
