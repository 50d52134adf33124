-- The lent rows, read as four lists: with these laws all that is stated over `Memory` holds of them. Besides, only `one_memory` of OneAnswer opens `memory`.
-- Assumes nothing.
use mathlib.Core.Path.{◌≡◌, refl, sym, ap, ◌∙◌}
use mathlib.Core.List.{List, [], ◌∷◌, map}
use Prim.Native.Nat.{ℕ, zero, suc, ◌≤◌, min}
use native.Mathlib.Omega.{arith}
use lib.ListN.{length, get_or, set, length-map, get_or-map, get_or-eq_default}
use lib.Seq.{set-get_or, set_out}
use Rattle.store.specs.Memory.{Memory, columns, column, memory, with_row, with_link, room}

map_set : {A B : Type 0} (f : A → B) (l : List A) (i : ℕ) (a : A) → map f (set l i a) ≡ set (map f l) i (f a)
map_set f [] i a = refl
map_set f (x ∷ l) zero a = refl
map_set f (x ∷ l) (suc i) a = ap (λ z. f x ∷ z) (map_set f l i a)

-- what is read of a row
word_is : (s : List (List ℕ)) (i k : ℕ) → get_or (get_or s i []) k 0 ≡ get_or (column k s) i 0
unfolding column
word_is s i k = sym (get_or-map (λ (r : List ℕ). get_or r k 0) s i [])

word_out : (s : List (List ℕ)) (i k : ℕ) → length s ≤ i → ◌≡◌ {A = ℕ} 0 (get_or (column k s) i 0)
word_out s i k h = sym (sym (word_is s i k) ∙ ap (λ (r : List ℕ). get_or r k 0) (get_or-eq_default s [] h))

length_column : (k : ℕ) (s : List (List ℕ)) → length (column k s) ≡ length s
unfolding column
length_column k s = length-map s λ (r : List ℕ). get_or r k 0

column_set : (k : ℕ) (s : List (List ℕ)) (i : ℕ) (r : List ℕ) → column k (set s i r) ≡ set (column k s) i (get_or r k 0)
unfolding column
column_set k s i r = map_set (λ (r : List ℕ). get_or r k 0) s i r

-- each word of node i, where there is one and where there is none
module _ (s : List (List ℕ)) (i : ℕ) where
  pub tag_in : get_or (get_or s i []) 1 0 ≡ get_or (memory s).tag i 0
  unfolding memory
  tag_in = word_is s i 1

  pub first_in : get_or (get_or s i []) 2 0 ≡ get_or (memory s).first i 0
  unfolding memory
  first_in = word_is s i 2

  pub second_in : get_or (get_or s i []) 3 0 ≡ get_or (memory s).second i 0
  unfolding memory
  second_in = word_is s i 3

  pub link_in : get_or (get_or s i []) 0 0 ≡ get_or (memory s).link i 0
  unfolding memory
  link_in = word_is s i 0

  module _ (h : length s ≤ i) where
    pub tag_out : ◌≡◌ {A = ℕ} 0 (get_or (memory s).tag i 0)
    unfolding memory
    tag_out = word_out s i 1 h

    pub first_out : ◌≡◌ {A = ℕ} 0 (get_or (memory s).first i 0)
    unfolding memory
    first_out = word_out s i 2 h

    pub second_out : ◌≡◌ {A = ℕ} 0 (get_or (memory s).second i 0)
    unfolding memory
    second_out = word_out s i 3 h

    pub link_out : ◌≡◌ {A = ℕ} 0 (get_or (memory s).link i 0)
    unfolding memory
    link_out = word_out s i 0 h

-- a row written whole
module _ (s : List (List ℕ)) (i v a b l : ℕ) where
  pub written : memory (set s i (l ∷ v ∷ a ∷ b ∷ [])) ≡ with_row (memory s) i v a b l
  unfolding memory
  written = rw (column_set 0 s i (l ∷ v ∷ a ∷ b ∷ []), column_set 1 s i (l ∷ v ∷ a ∷ b ∷ []), column_set 2 s i (l ∷ v ∷ a ∷ b ∷ []), column_set 3 s i (l ∷ v ∷ a ∷ b ∷ [])) refl

  pub not_written : length s ≤ i → memory s ≡ with_row (memory s) i v a b l
  not_written h = ap memory (sym (set_out s i (l ∷ v ∷ a ∷ b ∷ []) h)) ∙ written

-- a row written with three of the words that it has
pub relinked : (m : Memory) (i l : ℕ) → with_row m i (get_or m.tag i 0) (get_or m.first i 0) (get_or m.second i 0) l ≡ with_link m i l
relinked m i l = rw (set-get_or m.tag i 0, set-get_or m.first i 0, set-get_or m.second i 0) refl

pub retagged : (m : Memory) (i t : ℕ)
    → with_row m i t (get_or m.first i 0) (get_or m.second i 0) (get_or m.link i 0) ≡ columns (set m.tag i t) m.first m.second m.link
retagged m i t = rw (set-get_or m.first i 0, set-get_or m.second i 0, set-get_or m.link i 0) refl

-- "The store's capacity is the shortest work slice, at most 4096"
pub room_is : (s : List (List ℕ)) → min (length s) 4096 ≡ room (memory s)
unfolding memory room
room_is s = rw (length_column 0 s, length_column 1 s, length_column 2 s, length_column 3 s) (omega arith)
