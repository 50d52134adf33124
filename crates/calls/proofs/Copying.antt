-- The marks on the desk as bytes, copied one after another. Assumes nothing.
use mathlib.Core.Path.{◌≡◌, ◌∙◌}
use mathlib.Core.List.{List}
use Prim.Native.Nat.{ℕ, ◌+◌, ◌%◌, ◌≤◌, ◌<◌}
use native.Mathlib.Omega.{arith}
use native.Mathlib.Decide.{ℕ_discrete}
use lib.ListN.{length, get_or, set, length-set, length-drop}
use lib.Seq.{ext_get_or, get_or-drop, get_or-set_same, get_or-set_other}
use Rattle.store.specs.Desk.{marks_on}
use Rattle.calls.specs.Frame.{Marked}

-- the first ones are copied
pub record Copied (desk marks₀ : List ℕ) (row : ℕ) (marks : List ℕ) : Type 0 where
  pub inside : row ≤ 256
  pub long : length marks ≡ length marks₀
  pub same : length marks₀ ≡ 256 → (k : ℕ) → k < row → get_or marks k 0 ≡ get_or desk (16 + k) 0 % 256

pub copied_more : {desk marks₀ marks : List ℕ} {row b : ℕ} → Copied desk marks₀ row marks → row < 256 → b ≡ get_or desk (16 + row) 0 % 256 → Copied desk marks₀ (row + 1) (set marks row b)
copied_more {desk} {marks₀} {marks} {row} {b} c l e = record {
  inside = omega (arith, l);
  long = length-set marks row b ∙ c.long;
  same = λ w k i. elim (ℕ_discrete k row) [
    | yes p ↦ rw (p, get_or-set_same marks row b 0 (omega (arith, l, c.long, w))) e
    | no p ↦ rw (get_or-set_other marks row k b 0 p) (c.same w k (omega (arith, i, p)))
  ];
}

-- all of them, where each is 0 or 1
pub copied_all : {desk marks₀ marks : List ℕ} {row : ℕ} → Copied desk marks₀ row marks → 256 ≤ row → length marks₀ ≡ 256 → Marked desk → marks ≡ marks_on desk
unfolding marks_on
copied_all {desk} {marks₀} {marks} c l w m =
    ext_get_or 0 marks (marks_on desk) (omega (arith, c.long, w, m.long, length-drop 16 desk)) λ k i.
    let d = get_or-drop 16 desk k 0 in
    let f = m.few k in
    let s = c.same w k (omega (arith, i, l, c.long, w)) in
    omega (arith, d, f, s)
