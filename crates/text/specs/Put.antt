-- The one form in which every writer says what it leaves. Only connecting.
use Rattle.std.specs.Prelude.{◌≡◌, ℕ, ◌+◌, List, length}
use Rattle.std.proofs.lemmas.List.Edits.{sets}

-- `bytes` stand from `at` on in what were the bytes `entry`, nothing else has changed, and `next` is the place after them
pub record Put (entry : List ℕ) (at : ℕ) (bytes : List ℕ) (next : ℕ) (exit : List ℕ) : Type 0 where
  pub place : next ≡ at + length bytes
  pub stored : exit ≡ sets entry at bytes
