-- How many simplify calls there can be at a limit. Definitions only.
use Rattle.std.specs.Prelude.{ℕ, zero, suc, ◌+◌, ◌*◌}

-- "1 at limit 0; else 1 plus twice the bound at 1 less plus four times the bound at 2 less, stopping at 0"
unfoldable pub most_calls : (limit : ℕ) → ℕ
most_calls zero = 1
most_calls (suc zero) = 1 + 2 * most_calls zero + 4 * most_calls zero
most_calls (suc (suc k)) = 1 + 2 * most_calls (suc k) + 4 * most_calls k
