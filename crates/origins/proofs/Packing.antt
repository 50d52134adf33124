-- The origin in the upper bits of a word: it is what was put there, the lower fields stay, and the first is kept. Assumes nothing.
use mathlib.Core.Path.{◌≡◌, sym, ap, ◌∙◌}
use Prim.Native.Nat.{ℕ, ◌+◌, ◌%◌, ◌/◌, ◌<◌}
use native.Mathlib.Omega.{arith}
use native.Mathlib.Decide.{ℕ_discrete}
use borrow.Author.Tests.{eq-eqb, ne_eqb}
use Rattle.origins.specs.Words.{origin_unit, origin_in, with_origin, first_kept}

-- ---- a word with an origin

pub with_lower : (w line : ℕ) → with_origin w line % origin_unit ≡ w % origin_unit
with_lower w line = omega arith

pub with_origin_lem : (w line : ℕ) → line < 1024 → origin_in (with_origin w line) ≡ line + 1
with_origin_lem w line h = omega arith

-- it has one
pub with_some : (w line : ℕ) → origin_in (with_origin w line) ≡ 0 → ⊥
with_some w line h = omega (arith, h)

-- below 2 to the 57th
pub with_fits : (w line : ℕ) → with_origin w line < 144115188075855872
with_fits w line = omega arith

-- ---- the first is kept

pub first_new : (w line : ℕ) → origin_in w ≡ 0 → first_kept w line ≡ with_origin w line
first_new w line h = rw (eq-eqb (origin_in w) 0 h)

pub first_stays : (w line : ℕ) → (origin_in w ≡ 0 → ⊥) → first_kept w line ≡ w
first_stays w line h = rw (ne_eqb (origin_in w) 0 h)

pub first_lower : (w line : ℕ) → first_kept w line % origin_unit ≡ w % origin_unit
first_lower w line = elim (ℕ_discrete (origin_in w) 0) [
  | yes z ↦ ap (λ v. v % origin_unit) (first_new w line z) ∙ with_lower w line
  | no n ↦ ap (λ v. v % origin_unit) (first_stays w line n)
]

pub first_origin : (w line : ℕ) → origin_in w ≡ 0 → line < 1024 → origin_in (first_kept w line) ≡ line + 1
first_origin w line z h = ap origin_in (first_new w line z) ∙ with_origin_lem w line h

-- after it there is one
pub first_some : (w line : ℕ) → origin_in (first_kept w line) ≡ 0 → ⊥
first_some w line e = elim (ℕ_discrete (origin_in w) 0) [
  | yes z ↦ with_some w line (sym (ap origin_in (first_new w line z)) ∙ e)
  | no n ↦ n (sym (ap origin_in (first_stays w line n)) ∙ e)
]

-- ---- a word without one

pub none_in : (w : ℕ) → w < origin_unit → origin_in w ≡ 0
none_in w h = omega arith

-- ---- the lower fields are those of the lower bits

pub lower_code : (w : ℕ) → w % 64 ≡ (w % origin_unit) % 64
lower_code w = omega arith

pub lower_size : (w : ℕ) → w / 64 % 1048576 ≡ (w % origin_unit) / 64 % 1048576
lower_size w = omega arith

pub lower_depth : (w : ℕ) → w / 67108864 % 128 ≡ (w % origin_unit) / 67108864 % 128
lower_depth w = omega arith

pub lower_home : (w : ℕ) → w / 8589934592 % 8192 ≡ (w % origin_unit) / 8589934592 % 8192
lower_home w = omega arith

-- so words with the same lower bits have the same lower fields
pub record SameLower (v w : ℕ) : Type 0 where
  pub code : v % 64 ≡ w % 64
  pub size : v / 64 % 1048576 ≡ w / 64 % 1048576
  pub depth : v / 67108864 % 128 ≡ w / 67108864 % 128
  pub home : v / 8589934592 % 8192 ≡ w / 8589934592 % 8192

pub same_lower : (v w : ℕ) → v % origin_unit ≡ w % origin_unit → SameLower v w
same_lower v w e = record {
  code = lower_code v ∙ ap (λ l. l % 64) e ∙ sym (lower_code w);
  size = lower_size v ∙ ap (λ l. l / 64 % 1048576) e ∙ sym (lower_size w);
  depth = lower_depth v ∙ ap (λ l. l / 67108864 % 128) e ∙ sym (lower_depth w);
  home = lower_home v ∙ ap (λ l. l / 8589934592 % 8192) e ∙ sym (lower_home w);
}
