-- The reducer never finds its output too short: with as many bytes as 1024 lines of the longest form take it never prints `refused·13·0`. Assumes nothing.
use mathlib.Core.Path.{◌≡◌, refl, sym, ap, ◌∙◌}
use mathlib.Core.Bool.{Bool, true, false, cond}
use mathlib.Core.List.{List}
use Prim.Native.Nat.{ℕ, ◌≤◌}
use native.Mathlib.Omega.{arith}
use lib.Dec.{ltb}
use lib.ListN.{length, get_or, take, drop}
use Rattle.std.specs.Prelude.{Result, Ok, Err}
use Rattle.expression.specs.declared.refusal.Refusal.{Refusal}
use Rattle.calls.specs.declared.Simplified.{Simplified}
use Rattle.calls.proofs.OutRoom.{simplify_not_13, simplify_room}
use Rattle.calls.proofs.Begins.{simplified_begins}
use Rattle.console.specs.Answers.{refused_line}
use Rattle.console.proofs.Parts.{every_text}
use Rattle.console.proofs.Refusals.{refused_first, refused_number, refusal_number}
use Rattle.reduce.specs.Reducing.{simplified_text, printed, reduction, Reduces}

module _ (room : ℕ) (text out : List ℕ) (n : ℕ) (enough : 36864 ≤ length out) where
  pub never_out_of_room : (simplified_text room text out n).0 ≡ Err Refusal.OutRoom → ⊥
  never_out_of_room = simplify_room room 10 (take n text) (drop 1 (drop n text)) out enough

  printed_other : (at : ℕ) (r : Result Simplified Refusal) → (simplified_text room text out n).0 ≡ r → printed r (simplified_text room text out n).1 ≡ refused_line 13 at → ⊥
  unfolding printed
  printed_other at (Ok a) e p =
      simplified_begins room 10 (take n text) (drop 1 (drop n text)) out e (ap (λ bs. get_or bs 0 0) p ∙ refused_first 13 at)
  printed_other at (Err why) e p = simplify_not_13 room 10 (take n text) (drop 1 (drop n text)) out enough e (refusal_number why 13 at p)

  never_13 : (at : ℕ) → reduction room text out n ≡ refused_line 13 at → ⊥
  unfolding reduction
  never_13 at = go (ltb 65536 (length text))
    where
      go : (b : Bool) → cond b (refused_line 0 0) (printed (simplified_text room text out n).0 (simplified_text room text out n).1) ≡ refused_line 13 at → ⊥
      go true p = let z : ◌≡◌ {A = ℕ} 0 13 = refused_number 0 13 0 at p in omega (arith, z)
      go false p = printed_other at (simplified_text room text out n).0 refl p

-- on the bytes that it prints: the first r of its output, which has 65,536
pub never_prints_13 : {text out out' : List ℕ} {room r : ℕ} → 36864 ≤ length out → Reduces room text out r out' → (at : ℕ) → take r out' ≡ refused_line 13 at → ⊥
never_prints_13 {text} {out} {room = room} enough q at e = let p = every_text text in never_13 room text out p.place enough at (sym (q.bytes p.place p.parted) ∙ e)
