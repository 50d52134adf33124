-- Two answers that the contract of a reader or a writer allows are one. Assumes nothing.
use Rattle.std.proofs.Common.{◌≡◌, ℕ, ◌-◌, ◌≤◌, List, length, drop, sym, ap, refl, subst, ◌∙◌, arith, length-drop}
use Rattle.std.specs.Prelude.{Option, Some, None}
use Rattle.std.specs.Borrow.{Bor}
use Rattle.text.specs.Reading.{Read}
use Rattle.text.specs.Put.{Put}
use Rattle.text.specs.Seen.{seen}
use Rattle.text.proofs.Only.{never}
use Rattle.text.proofs.Shortening.{EndOf, end_place, Remains}

-- `Put` is the contract of every writer
pub one_put : {entry bytes exit exit' : List ℕ} {at next next' : ℕ} → Put entry at bytes next exit → Put entry at bytes next' exit'
    → (next ≡ next') × (exit ≡ exit')
one_put p q = (p.place ∙ sym q.place, p.stored ∙ sym q.stored)

-- a place inside the text is told by what follows on it
pub one_place : (text : List ℕ) (next next' : ℕ) → next ≤ length text → next' ≤ length text → drop next text ≡ drop next' text → next ≡ next'
one_place text next next' h h' e = omega (arith, ap length e, length-drop next text, length-drop next' text)

-- what a reader hands back of a text: a place inside it, from which on its bytes are left
abbrev pub place_in : {A : Type 0} → (text : List ℕ) → Option (A × Bor (List ℕ)) → ℕ
place_in text (Some (v, rest)) = length text - length rest.now
place_in text None = length text

abbrev pub LeftAt : {A : Type 0} → (text : List ℕ) → Option (A × Bor (List ℕ)) → Type 0
LeftAt text (Some (v, rest)) = (place_in text (Some (v, rest)) ≤ length text) × (drop (place_in text (Some (v, rest))) text ≡ rest.now)
LeftAt text None = Unit {0}

pub left_at : {A : Type 0} {want : Read A} (text : List ℕ) → Remains EndOf text want → (r : Option (A × Bor (List ℕ))) → seen r ≡ want → LeftAt text r
left_at text s (Some (v, rest)) e = let l : EndOf text rest.now = subst (Remains EndOf text) (sym e) s in (omega arith, end_place l)
left_at text s None e = tt

-- what is read is the contract of every reader of a number or a name: two answers say the same, the number, the bytes after it and their place
pub one_number_lem : {A : Type 0} {want : Read A} (text : List ℕ) (r r' : Option (A × Bor (List ℕ))) → seen r ≡ want → seen r' ≡ want
    → (seen r ≡ seen r') × (place_in text r ≡ place_in text r')
one_number_lem {A = A} text r r' a b = (a ∙ sym b, one r r' (a ∙ sym b))
  where
    one : (r r' : Option (A × Bor (List ℕ))) → seen r ≡ seen r' → place_in text r ≡ place_in text r'
    one (Some (v, rest)) (Some (w, rest')) e = let k : rest.now ≡ rest'.now = cc in ap (λ l. length text - length l) k
    one (Some (v, rest)) None e = never (sym e)
    one None (Some (w, rest')) e = never e
    one None None e = refl
