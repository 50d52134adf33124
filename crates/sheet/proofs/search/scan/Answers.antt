-- `scan` meets its contract. Assumes nothing.
use Rattle.std.proofs.Common.{rules}
use mathlib.Core.Path.{◌≡◌}
use mathlib.Core.Bool.{Bool, true, false}
use Prim.Native.Nat.{ℕ, ◌≤◌, ◌<◌}
use native.Mathlib.Omega.{arith}
use Rattle.std.specs.Prelude.{Option, Some, None, MatchOption}
use Rattle.std.proofs.lemmas.Iterator.{first_from_Range}
use Rattle.memory.specs.Keys.{FirstOf}
use Rattle.sheet.specs.Table.{row_matches}
use Rattle.sheet.proofs.search.scan.Goals as goal

of_range : (test : ℕ → Bool) (count : ℕ) (r : Option ℕ)
    → MatchOption r ((k : ℕ) → 0 ≤ k → k < count → test k ≡ false) (λ i. (0 ≤ i) × (i < count) × (test i ≡ true) × ((k : ℕ) → 0 ≤ k → k < i → test k ≡ false)) → FirstOf test count r
of_range test count (Some j) m = (m.1, record { within = omega (arith, m.1); hit = λ _. m.2; before = λ k l. m.3 k (omega arith) l })
of_range test count None m = λ k l. m k (omega arith) l

pub returns : goal.returns
returns c = of_range _ _ _ (first_from_Range _ _ _ _
    (λ k. row_matches c.args.table.now c.args.name c.args.x c.args.y k ≡ true) (λ k. row_matches c.args.table.now c.args.name c.args.x c.args.y k ≡ false)
    c.find.ensures.ran (λ x q e. search rules) (λ x q e. search rules))
