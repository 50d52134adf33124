-- What a reader's answer tells of the text: for those who read one field after another. Assumes nothing.
use Rattle.std.proofs.Common.{◌≡◌, ℕ, suc, ◌<◌, true, false, ◌&&◌, eqb, List, [], ◌∷◌, length, take, drop, sym, refl, ap, ◌∙◌}
use lib.Pointwise.{pointwise}
use Rattle.std.specs.Prelude.{Option, Some, None}
use Rattle.std.specs.Borrow.{Bor}
use Rattle.text.specs.Reading.{Read, is, bad, ended, decimal, decimal_field, starts, name_from}
use Rattle.text.specs.Seen.{seen}
use Rattle.text.proofs.Only.{decimal_only, ended_only}

-- what was wanted was read, or it was not
pub told : {A : Type 0} {want : Read A} {n : Option (A × Bor (List ℕ))} {v : A} {rest : Bor (List ℕ)} → seen n ≡ want → n ≡ Some (v, rest) → want ≡ is v rest.now
told r q = sym r ∙ ap seen q

pub told_bad : {A : Type 0} {want : Read A} {n : Option (A × Bor (List ℕ))} → seen n ≡ want → n ≡ None → want ≡ bad
told_bad r q = sym r ∙ ap seen q

-- and the end of its field
pub ends : {A : Type 0} {want n m : Read A} (stop : ℕ) → m ≡ ended stop n → n ≡ want → m ≡ ended stop want
ends stop e r = e ∙ ap (ended stop) r

module _ {n : Option (ℕ × Bor (List ℕ))} {v : ℕ} {rest : Bor (List ℕ)} where
  -- a decimal number is below its limit
  pub told_low : (limit : ℕ) (bs : List ℕ) → seen n ≡ decimal limit bs → n ≡ Some (v, rest) → v < limit
  told_low limit bs r q = (decimal_only limit _ bs _ (told r q)).0

  pub told_below : (stop limit : ℕ) (bs : List ℕ) → seen n ≡ decimal_field stop limit bs → n ≡ Some (v, rest) → v < limit
  told_below stop limit bs r q = (decimal_only limit _ bs _ (ended_only stop _ _ _ (told r q))).0

-- a word at the start, as `strip_prefix` compares it
starts_as : (w bs : List ℕ) → pointwise eqb (take (length w) bs) w ≡ starts w bs
unfolding starts
starts_as [] bs = refl
starts_as (w ∷ ws) [] = refl
starts_as (w ∷ ws) (b ∷ bs) = ap (λ r. eqb b w && r) (starts_as ws bs)

-- one of some names: the first, or one of the others
module _ (first : ℕ) (word : List ℕ) (words : List (List ℕ)) (s : List ℕ) where
  pub name_here : {rest : List ℕ} → pointwise eqb (take (length word) s) word ≡ true → rest ≡ drop (length word) s → name_from first (word ∷ words) s ≡ is first rest
  unfolding name_from
  name_here e q = rw (sym (starts_as word s) ∙ e, q)

  pub name_later : pointwise eqb (take (length word) s) word ≡ false → name_from first (word ∷ words) s ≡ name_from (suc first) words s
  unfolding name_from
  name_later e = rw (sym (starts_as word s) ∙ e)

pub name_none : (first : ℕ) (bs : List ℕ) → name_from first [] bs ≡ bad
unfolding name_from
name_none first bs = refl
