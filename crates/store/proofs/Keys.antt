-- The key of a node: the keys of two nodes are the same exactly where their trees are equal, and its fields exactly where they are
-- identical. Both are one law, over what is taken of a double and of an operand. Assumes nothing.
use mathlib.Core.Path.{◌≡◌, refl, sym, ap, ◌∙◌, subst}
use mathlib.Core.Bool.{Bool, true, false, cond, ◌&&◌}
use Prim.Native.Nat.{ℕ, ◌<◌}
use native.Mathlib.Omega.{arith}
use lib.Dec.{T, eqb, eqb→eq}
use lib.Ieee.{Float, binary64, fits, to_bits, of_bits}
use lib.Ieee.Fits.{and_i, and_l, and_r, eq→eqb}
use Rattle.complex.specs.declared.Complex.{Complex}
use Rattle.complex.specs.Bits.{bits_of, double_of, Fitting}
use Rattle.complex.specs.Constants.{of_parts}
use Rattle.complex.specs.Classes.{class_of_bits, class_of}
use Rattle.complex.specs.Equality as Numbers
use Rattle.complex.proofs.Doubles.{bits_back, bits_canonical}
use Rattle.complex.proofs.Pairs.{equal_by_classes, of_parts_fitting}
use Rattle.expression.specs.Codes.{infix_code, prefix_code, function_code}
use Rattle.expression.specs.Trees.{Tree, number, pi, variable, cell, leaf, function_call, prefixed, infixed}
use Rattle.expression.specs.Alike.{alike, alike_leaves, equal}
use Rattle.expression.specs.Limits.{Proper}
use Rattle.expression.proofs.Numbering.{infix_known, prefix_known, function_known}
use Rattle.expression.proofs.Likeness.{Like, numbers, pis, variables, cells, functions, prefixes, infixes, like_of, test_of, equal_refl, equal_sym, equal_trans}
use Rattle.expression.specs.declared.node.Expression.{Expression}
use Rattle.store.specs.declared.node.Fields.{Fields}
use Rattle.store.specs.Words.{code_of}
use Rattle.store.specs.Nodes.{fields, fields_of, expression_as, expression_of}
use Rattle.expression.specs.Nodes.{grown, Within, Sound}
use Rattle.store.specs.Index.{word_key, key_of}
use Rattle.store.proofs.Coding.{coded, back, of_function, of_prefix, of_infix}

-- fields with `part` of each double's bits and `class` of each operand
abbrev pub through : (part class : ℕ → ℕ) → Expression → Fields
through part class (Expression.Number z) = fields 1 (part (bits_of z.re)) (part (bits_of z.im))
through part class Expression.PiConstant = fields 2 0 0
through part class (Expression.Variable v) = fields 3 v 0
through part class (Expression.Address r i) = fields 4 r i
through part class (Expression.FunctionCall f a) = fields (code_of 5 (function_code f)) (class a) 0
through part class (Expression.Prefix o a) = fields (code_of 6 (prefix_code o)) (class a) 0
through part class (Expression.Infix o a b) = fields (code_of 7 (infix_code o)) (class a) (class b)

abbrev own : ℕ → ℕ
own k = k

pub fields_through : (e : Expression) → fields_of e ≡ through own own e
fields_through (Expression.Number z) = refl
fields_through Expression.PiConstant = refl
fields_through (Expression.Variable v) = refl
fields_through (Expression.Address r i) = refl
fields_through (Expression.FunctionCall f a) = refl
fields_through (Expression.Prefix o a) = refl
fields_through (Expression.Infix o a b) = refl

pub key_through : (class : ℕ → ℕ) (e : Expression) → key_of class (fields_of e) ≡ through class_of_bits class e
unfolding key_of word_key
key_through class (Expression.Number z) = refl
key_through class Expression.PiConstant = refl
key_through class (Expression.Variable v) = refl
key_through class (Expression.Address r i) = refl
key_through class (Expression.FunctionCall f a) = rw (coded 5 (function_code f) (omega arith) (function_known f).most).kind refl
key_through class (Expression.Prefix o a) = rw (coded 6 (prefix_code o) (omega arith) (omega (arith, (prefix_known o).most))).kind refl
key_through class (Expression.Infix o a b) = rw (coded 7 (infix_code o) (omega arith) (infix_known o).most).kind refl

-- ---- from the tree

-- the same fields, of a tree, with `num` of each operand's tree
abbrev fields_from : (part : ℕ → ℕ) (num : Tree → ℕ) → Tree → Fields
fields_from part num (leaf (number z)) = fields 1 (part (bits_of z.re)) (part (bits_of z.im))
fields_from part num (leaf pi) = fields 2 0 0
fields_from part num (leaf (variable v)) = fields 3 v 0
fields_from part num (leaf (cell r i)) = fields 4 r i
fields_from part num (function_call f t) = fields (code_of 5 (function_code f)) (num t) 0
fields_from part num (prefixed o t) = fields (code_of 6 (prefix_code o)) (num t) 0
fields_from part num (infixed o l r) = fields (code_of 7 (infix_code o)) (num l) (num r)

from_tree : (part class : ℕ → ℕ) (num : Tree → ℕ) (look : ℕ → Tree) (n : ℕ) (e : Expression) → Within n e
    → ((a : ℕ) → a < n → num (look a) ≡ class a) → through part class e ≡ fields_from part num (grown look e)
unfolding grown
from_tree part class num look n (Expression.Number z) w h = refl
from_tree part class num look n Expression.PiConstant w h = refl
from_tree part class num look n (Expression.Variable v) w h = refl
from_tree part class num look n (Expression.Address r i) w h = refl
from_tree part class num look n (Expression.FunctionCall f a) w h = rw (h a w) refl
from_tree part class num look n (Expression.Prefix o a) w h = rw (h a w) refl
from_tree part class num look n (Expression.Infix o a b) w h = rw (h a w.0, h b w.1) refl

-- identical trees, so the same fields
pub same_fields : (num : Tree → ℕ) (look : ℕ → Tree) (n : ℕ) → ((a : ℕ) → a < n → num (look a) ≡ a)
    → (e e' : Expression) → Within n e → Within n e' → grown look e ≡ grown look e' → fields_of e ≡ fields_of e'
same_fields num look n h e e' w w' p =
    fields_through e ∙ from_tree own own num look n e w h ∙ ap (fields_from own num) p ∙ sym (from_tree own own num look n e' w' h) ∙ sym (fields_through e')

-- equal numbers have parts of the same class
classes : (x y : Complex) → Fitting x → Fitting y → T (Numbers.equal x y) → (class_of x.re ≡ class_of y.re) × (class_of x.im ≡ class_of y.im)
classes x y p q h =
    let a = eqb (class_of x.re) (class_of y.re) in
    let b = eqb (class_of x.im) (class_of y.im) in
    let d : T (a && b) = subst T (equal_by_classes x y p q) h in
    (eqb→eq _ _ (and_l a b d), eqb→eq _ _ (and_r a b d))

equal_from : (num : Tree → ℕ) → ((s t : Tree) → T (equal s t) → num s ≡ num t) → {s t : Tree} → Like (λ x y. T (Numbers.equal x y)) s t → Proper s → Proper t
    → fields_from class_of_bits num s ≡ fields_from class_of_bits num t
unfolding class_of
equal_from num f (numbers {x} {y} h) p q = let c = classes x y p q h in let a = c.0 in let b = c.1 in λ i. fields 1 (a i) (b i)
equal_from num f pis p q = refl
equal_from num f (variables v) p q = refl
equal_from num f (cells r i) p q = refl
equal_from num f (functions g {s} {t} h) p q = ap (λ k. fields (code_of 5 (function_code g)) k 0) (f s t (test_of Numbers.equal h))
equal_from num f (prefixes o {s} {t} h) p q = ap (λ k. fields (code_of 6 (prefix_code o)) k 0) (f s t (test_of Numbers.equal h))
equal_from num f (infixes o {s} {t} {u} {v} h k) p q =
    let a = f s u (test_of Numbers.equal h) in
    let b = f t v (test_of Numbers.equal k) in
    λ i. fields (code_of 7 (infix_code o)) (a i) (b i)

-- equal trees, so the same key
pub same_key : (class : ℕ → ℕ) (num : Tree → ℕ) (look : ℕ → Tree) (n : ℕ) → ((a : ℕ) → a < n → num (look a) ≡ class a)
    → ((s t : Tree) → T (equal s t) → num s ≡ num t)
    → (e e' : Expression) → Within n e → Within n e' → Proper (grown look e) → Proper (grown look e')
    → T (equal (grown look e) (grown look e')) → key_of class (fields_of e) ≡ key_of class (fields_of e')
same_key class num look n h f e e' w w' p p' q =
    key_through class e ∙ from_tree class_of_bits class num look n e w h
    ∙ equal_from num f (like_of Numbers.equal _ _ q) p p'
    ∙ sym (from_tree class_of_bits class num look n e' w' h) ∙ sym (key_through class e')

-- ---- the same key, so equal trees: both are equal to the tree of the key itself, whose operands are classes

class_stays : (x : Float) → T (fits binary64 x) → class_of (double_of (class_of x)) ≡ class_of x
unfolding class_of class_of_bits to_bits of_bits
class_stays x h = go (eqb (bits_of x) 0x8000_0000_0000_0000) refl
  where
    go : (b : Bool) → eqb (bits_of x) 0x8000_0000_0000_0000 ≡ b → class_of_bits (bits_of (double_of (cond b 0 (bits_of x)))) ≡ cond b 0 (bits_of x)
    go true e = refl
    go false e = rw (bits_back (bits_of x) (bits_canonical x h), e) refl

number_class : (z : Complex) → Fitting z → T (Numbers.equal z (of_parts (class_of z.re) (class_of z.im)))
number_class z h =
    let a = class_of z.re in
    let b = class_of z.im in
    subst T (sym (equal_by_classes z (of_parts a b) h (of_parts_fitting a b)))
    (and_i (eqb a (class_of (double_of a))) (eqb b (class_of (double_of b))) (eq→eqb (sym (class_stays z.re h.re))) (eq→eqb (sym (class_stays z.im h.im))))

module _ (class : ℕ → ℕ) (look : ℕ → Tree) (n : ℕ) (h : (a : ℕ) → a < n → T (equal (look a) (look (class a)))) where
  -- a node whose fields are as they were
  unmoved : (e : Expression) → Sound e → T (equal (grown look e) (grown look (expression_of (fields_of e))))
  unmoved e s = subst (λ x. T (equal (grown look e) (grown look x))) (sym (back e s)) (equal_refl (grown look e))

  key_tree : (e : Expression) → Sound e → Within n e → T (equal (grown look e) (grown look (expression_of (through class_of_bits class e))))
  unfolding grown alike alike_leaves expression_of expression_as class_of
  key_tree (Expression.Number z) s w = number_class z s
  key_tree Expression.PiConstant s w = tt
  key_tree (Expression.Variable v) s w = unmoved (Expression.Variable v) s
  key_tree (Expression.Address r i) s w = unmoved (Expression.Address r i) s
  key_tree (Expression.FunctionCall f a) s w =
      rw (of_function f (class a) 0) (test_of Numbers.equal (functions f (like_of Numbers.equal (look a) (look (class a)) (h a w))))
  key_tree (Expression.Prefix o a) s w =
      rw (of_prefix o (class a) 0) (test_of Numbers.equal (prefixes o (like_of Numbers.equal (look a) (look (class a)) (h a w))))
  key_tree (Expression.Infix o a b) s w =
      rw (of_infix o (class a) (class b))
      (test_of Numbers.equal
      (infixes o (like_of Numbers.equal (look a) (look (class a)) (h a w.0)) (like_of Numbers.equal (look b) (look (class b)) (h b w.1))))

  pub key_equal : (e e' : Expression) → Sound e → Sound e' → Within n e → Within n e'
      → key_of class (fields_of e) ≡ key_of class (fields_of e') → T (equal (grown look e) (grown look e'))
  key_equal e e' s s' w w' p =
      let q = sym (key_through class e) ∙ p ∙ key_through class e' in
      let a = subst (λ k. T (equal (grown look e) (grown look (expression_of k)))) q (key_tree e s w) in
      equal_trans _ _ _ a (equal_sym _ _ (key_tree e' s' w'))

-- ---- a key hangs on the classes of the operands alone

pub key_alike : (class class' : ℕ → ℕ) (n : ℕ) (e : Expression) → Within n e → ((a : ℕ) → a < n → class a ≡ class' a)
    → key_of class (fields_of e) ≡ key_of class' (fields_of e)
key_alike class class' n e w h = key_through class e ∙ go e w ∙ sym (key_through class' e)
  where
    go : (e : Expression) → Within n e → through class_of_bits class e ≡ through class_of_bits class' e
    go (Expression.Number z) w = refl
    go Expression.PiConstant w = refl
    go (Expression.Variable v) w = refl
    go (Expression.Address r i) w = refl
    go (Expression.FunctionCall f a) w = rw (h a w) refl
    go (Expression.Prefix o a) w = rw (h a w) refl
    go (Expression.Infix o a b) w = rw (h a w.0, h b w.1) refl
