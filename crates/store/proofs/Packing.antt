-- The fields of packed words: each is what was put there, the others stay. Assumes nothing.
use mathlib.Core.Path.{◌≡◌, refl, sym, ap, ◌∙◌, subst}
use mathlib.Core.Bool.{Bool, true, false, cond}
use mathlib.Core.List.{List}
use Prim.Native.Nat.{ℕ, ◌+◌, ◌*◌, ◌%◌, ◌/◌, ◌≤◌, ◌<◌}
use native.Mathlib.Nat.{div-div-eq-div-mul}
use native.Mathlib.Omega.{arith}
use lib.Dec.{T, eqb, eqb→eq, eqb_refl}
use Rattle.origins.specs.Words.{origin_in}
use Rattle.store.specs.Words.{code_in, size_in, depth_in, home_in, tag_of, class_in, kept_in, next_in, with_node, with_kept}
use Rattle.store.specs.Memory.{size_on, depth_on}

-- ---- bounds of what is read

pub size_small : {r : ℕ} (tag : List ℕ) (k : ℕ) → r ≡ size_on tag k → r < 1048576
unfolding size_on
size_small tag k e = omega arith

pub depth_small : {r : ℕ} (tag : List ℕ) (k : ℕ) → r ≡ depth_on tag k → r < 128
unfolding depth_on
depth_small tag k e = omega arith

-- ---- a tag

pub record Tagged (w c s d h : ℕ) : Type 0 where
  pub code : code_in w ≡ c
  pub size : size_in w ≡ s
  pub depth : depth_in w ≡ d
  pub home : home_in w ≡ h

pub tagged : (c s d h : ℕ) → c < 64 → s ≤ 1000000 → d ≤ 64 → h < 8192 → Tagged (tag_of c s d h) c s d h
tagged c s d h l m o p = record { code = omega arith; size = omega arith; depth = omega arith; home = omega arith }

-- a word of these fields alone has no origin
pub no_origin : (c s d h : ℕ) → origin_in (tag_of c s d h) ≡ 0
no_origin c s d h = omega arith

-- ---- a link: its fields, with the heads of an even and of an odd bucket

pub record Linked (w h₀ h₁ c k x : ℕ) : Type 0 where
  pub even : w % 8192 ≡ h₀
  pub odd : w / 8192 % 8192 ≡ h₁
  pub class : class_in w ≡ c
  pub kept : kept_in w ≡ k
  pub next : next_in w ≡ x

-- what lies above a field
above : (v w p k : ℕ) → v / p ≡ w / p → v / (p * k) ≡ w / (p * k)
above v w p k e = sym (div-div-eq-div-mul v p k) ∙ ap (λ x. x / k) e ∙ div-div-eq-div-mul w p k

pub with_node_lem : (w c x : ℕ) → c < 4096 → x < 8192 → Linked (with_node w c x) (w % 8192) (w / 8192 % 8192) c 0 x
with_node_lem w c x l m = record { even = omega arith; odd = omega arith; class = omega arith; kept = omega arith; next = omega arith }

pub with_even : (w h : ℕ) → h < 4096 → Linked (h % 4096 + 1 + 8192 * (w / 8192)) (h + 1) (w / 8192 % 8192) (class_in w) (kept_in w) (next_in w)
with_even w h l =
    let v = h % 4096 + 1 + 8192 * (w / 8192) in
    let e : v / 8192 ≡ w / 8192 = omega arith in
    record {
      even = omega arith;
      odd = ap (λ x. x % 8192) e;
      class = ap (λ x. x % 4096) (above v w 8192 8192 e);
      kept = ap (λ x. x % 8192) (above v w 8192 33554432 e);
      next = above v w 8192 274877906944 e;
    }

pub with_odd : (w h : ℕ) → h < 4096
    → Linked (w % 8192 + 8192 * (h % 4096 + 1) + 67108864 * (w / 67108864)) (w % 8192) (h + 1) (class_in w) (kept_in w) (next_in w)
with_odd w h l =
    let v = w % 8192 + 8192 * (h % 4096 + 1) + 67108864 * (w / 67108864) in
    let e : v / 67108864 ≡ w / 67108864 = omega arith in
    record {
      even = omega arith;
      odd = omega arith;
      class = ap (λ x. x % 4096) e;
      kept = ap (λ x. x % 8192) (above v w 67108864 4096 e);
      next = above v w 67108864 33554432 e;
    }

pub with_kept_lem : (w k : ℕ) → k < 4096 → Linked (with_kept w k) (w % 8192) (w / 8192 % 8192) (class_in w) (k + 1) (next_in w)
with_kept_lem w k l = record { even = omega arith; odd = omega arith; class = omega arith; kept = omega arith; next = omega arith }

-- ---- the head of one of two buckets

eqb_ne : (a b : ℕ) → eqb a b ≡ false → a ≡ b → ⊥
eqb_ne a b e d = subst T e (subst (λ x. T (eqb a x)) d (eqb_refl a))

abbrev half : Bool → ℕ → ℕ
half b w = cond b (w % 8192) (w / 8192 % 8192)

abbrev pub with_half : Bool → ℕ → ℕ → ℕ
with_half b w h = cond b (h % 4096 + 1 + 8192 * (w / 8192)) (w % 8192 + 8192 * (h % 4096 + 1) + 67108864 * (w / 67108864))

pub half_new : (b : Bool) (w h : ℕ) → h < 4096 → half b (with_half b w h) ≡ h + 1
half_new true w h l = (with_even w h l).even
half_new false w h l = (with_odd w h l).odd

pub half_other : (b c : Bool) (w h : ℕ) → h < 4096 → (c ≡ b → ⊥) → half c (with_half b w h) ≡ half c w
half_other true true w h l q = absurd (q refl)
half_other true false w h l q = (with_even w h l).odd
half_other false true w h l q = (with_odd w h l).even
half_other false false w h l q = absurd (q refl)

-- the fields beside the heads
pub record Others (v w : ℕ) : Type 0 where
  pub class : class_in v ≡ class_in w
  pub kept : kept_in v ≡ kept_in w
  pub next : next_in v ≡ next_in w

pub half_rest : (b : Bool) (w h : ℕ) → h < 4096 → Others (with_half b w h) w
half_rest true w h l = let k = with_even w h l in record { class = k.class; kept = k.kept; next = k.next }
half_rest false w h l = let k = with_odd w h l in record { class = k.class; kept = k.kept; next = k.next }

-- words with the same heads
pub half_same : (b : Bool) (v w : ℕ) → v % 8192 ≡ w % 8192 → v / 8192 % 8192 ≡ w / 8192 % 8192 → half b v ≡ half b w
half_same true v w e d = e
half_same false v w e d = d

-- two buckets of one word, the one even and the other odd
pub siblings : (a b : ℕ) → a / 2 ≡ b / 2 → (a ≡ b → ⊥) → eqb (a % 2) 0 ≡ eqb (b % 2) 0 → ⊥
siblings a b e q p = go (eqb (a % 2) 0) (eqb (b % 2) 0) refl refl p
  where
    go : (c d : Bool) → eqb (a % 2) 0 ≡ c → eqb (b % 2) 0 ≡ d → c ≡ d → ⊥
    go true true x y z = q (let u = eqb→eq (a % 2) 0 (rw x tt) in let v = eqb→eq (b % 2) 0 (rw y tt) in omega arith)
    go true false x y z = subst T z tt
    go false true x y z = subst T (sym z) tt
    go false false x y z = q (let u = eqb_ne (a % 2) 0 x in let v = eqb_ne (b % 2) 0 y in omega arith)
