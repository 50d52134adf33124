-- What the code's answer says, as what is read of a list of bytes. Only connecting.
use Rattle.std.specs.Prelude.{ℕ, Option, Some, None, ◌+◌, ◌-◌, cond, List, nat_lt}
use Rattle.std.specs.Borrow.{Bor}
use Rattle.text.specs.Reading.{Read, is, bad}

-- what was read and the bytes after it, or none such; a reader's contract leaves no choice in these (proofs/OneAnswer.antt, `one_number_lem`)
abbrev pub seen : {A : Type 0} → Option (A × Bor (List ℕ)) → Read A
seen (Some (v, rest)) = is v rest.now
seen None = bad

-- how far a byte is above that of 0, and above that of A, in the circle of the 256 bytes: below 10 for 0-9, below 6 for A-F (proofs/Running.antt,
-- `digit_low`, `digit_high`, `digit_none`)
unfoldable pub low_digit : ℕ → ℕ
low_digit b = cond (nat_lt b 48) (b + 208) (b - 48)

unfoldable pub high_digit : ℕ → ℕ
high_digit b = cond (nat_lt b 65) (b + 191) (b - 65)
