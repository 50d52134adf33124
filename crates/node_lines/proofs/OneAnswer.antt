-- Two answers that the contract of `read_node` allows are one. Assumes nothing.
use mathlib.Core.Path.{◌≡◌, refl, sym, ap, subst, ◌∙◌}
use mathlib.Core.List.{List, [], ◌∷◌}
use Prim.Native.Nat.{ℕ, zero, suc, ◌+◌, ◌-◌, ◌<◌}
use native.Mathlib.Omega.{arith}
use lib.ListN.{length, get_or}
use Rattle.expression.specs.declared.node.Expression.{Expression}
use Rattle.expression.specs.Trees.{Tree, leaf, number, pi, variable, cell, function_call, prefixed, infixed}
use Rattle.expression.specs.Nodes.{grown}
use Rattle.expression.proofs.OneNode.{ByTree, one_node}
use Rattle.text.specs.Reading.{Read}
use Rattle.std.specs.Prelude.{Option, Some, None}
use Rattle.text.proofs.OneAnswer.{place_in, LeftAt}
use Rattle.text.proofs.Shortening.{EndOf, end_place, end_of, Remains}
use Rattle.node_lines.specs.NodeLines.{node_fields}
use Rattle.node_lines.specs.Seen.{Line, line_seen, Finds}
use Rattle.node_lines.proofs.Shortening.{node_rest}

-- earlier lines that differ: line k is the variable k
unfoldable variables : (from n : ℕ) → List Tree
variables from zero = []
variables from (suc n) = leaf (variable from) ∷ variables (suc from) n

how_many : (from n : ℕ) → length (variables from n) ≡ n
unfolding variables
how_many from zero = refl
how_many from (suc n) = ap suc (how_many (suc from) n)

which : (from n k : ℕ) → k < n → get_or (variables from n) k (leaf pi) ≡ leaf (variable (from + k))
unfolding variables
which from zero k h = absurd (omega arith)
which from (suc n) zero h = ap (λ v. leaf (variable v)) (omega arith)
which from (suc n) (suc k) h = which (suc from) n k (omega arith) ∙ ap (λ v. leaf (variable v)) (omega arith)

line_by : Tree → ℕ
line_by (leaf (number z)) = 0
line_by (leaf pi) = 0
line_by (leaf (variable v)) = v
line_by (leaf (cell region index)) = 0
line_by (function_call f t) = 0
line_by (prefixed o t) = 0
line_by (infixed o l r) = 0

tells : (n : ℕ) → ByTree n (λ k. get_or (variables 0 n) k (leaf pi)) line_by
unfolding line_by
tells n = record { number = λ k h. ap line_by (which 0 n k h) ∙ omega arith }

-- what an answer says: a node, and the bytes after its line
abbrev pub said : Line → Option (Expression × List ℕ)
said (Some (e, rest)) = Some (e, rest.now)
said None = None

place_said : (text : List ℕ) → Option (Expression × List ℕ) → ℕ
place_said text (Some (e, rest)) = length text - length rest
place_said text None = length text

place_is : (text : List ℕ) (r : Line) → place_in text r ≡ place_said text (said r)
unfolding place_said
place_is text (Some (e, rest)) = refl
place_is text None = refl

module _ {want : List Tree → Read Tree} {lines : ℕ} where
  seen_same : (r r' : Line) → Finds want lines r → Finds want lines r' → line_seen (variables 0 lines) r ≡ line_seen (variables 0 lines) r'
  seen_same r r' p q = p.seen (variables 0 lines) (how_many 0 lines) ∙ sym (q.seen (variables 0 lines) (how_many 0 lines))

  one_said : (r r' : Line) → Finds want lines r → Finds want lines r' → said r ≡ said r'
  one_said (Some (e, rest)) (Some (e', rest')) p q =
      let s = seen_same (Some (e, rest)) (Some (e', rest')) p q in
      let g : grown (λ k. get_or (variables 0 lines) k (leaf pi)) e ≡ grown (λ k. get_or (variables 0 lines) k (leaf pi)) e' = cc in
      let n = one_node (tells lines) e e' p.within q.within g in
      let k : rest.now ≡ rest'.now = cc in
      λ i. Some (n i, k i)
  one_said (Some (e, rest)) None p q = let s = seen_same (Some (e, rest)) None p q in let z : ◌≡◌ {A = ℕ} 0 1 = cc in absurd (omega arith)
  one_said None (Some (e', rest')) p q = let s = seen_same None (Some (e', rest')) p q in let z : ◌≡◌ {A = ℕ} 0 1 = cc in absurd (omega arith)
  one_said None None p q = refl

  -- with the place of these bytes in the text
  pub one_line : (text : List ℕ) (r r' : Line) → Finds want lines r → Finds want lines r' → (said r ≡ said r') × (place_in text r ≡ place_in text r')
  one_line text r r' p q = let s = one_said r r' p q in (s, place_is text r ∙ ap (place_said text) s ∙ sym (place_is text r'))

-- what `read_node` leaves is what the text has from its place on
pub node_left : (first : ℕ) (text : List ℕ) {lines : ℕ} (r : Line) → Finds (λ earlier. node_fields earlier first text) lines r → LeftAt text r
node_left first text {lines} (Some (e, rest)) f =
    let l : EndOf text rest.now = subst (Remains EndOf text) (sym (f.seen (variables 0 lines) (how_many 0 lines))) (node_rest end_of (variables 0 lines) first text) in
    (omega arith, end_place l)
node_left first text None f = tt
