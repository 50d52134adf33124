-- The hash by which the index spreads keys over its buckets. Only connecting, and any function of a key would do: all that is known of this one is
-- `hash_below` (proofs/Hashing), and only that law and the proof of `hash_of` open it.
use Rattle.std.specs.Prelude.{ℕ, ◌+◌, ◌*◌, ◌%◌, ◌/◌}
use Rattle.store.specs.declared.node.Fields.{Fields}

-- a product that no word makes vanish
unfoldable pub product : ℕ → ℕ → ℕ
product x y = (x % 4294967296 + 1) * (y % 2147483648 + 2147483648)

-- of the halves of a word
unfoldable pub halves : (word shift stretch : ℕ) → ℕ
halves word shift stretch = product (word % 4294967296 + shift) (word / 4294967296 + stretch)

-- of the products of two words, and the words' halves again
unfoldable pub both : (p q word word₂ : ℕ) → ℕ
both p q word word₂ =
    product ((p / 4294967296 + q % 4294967296) % 4294967296 + (word % 4294967296 + word / 4294967296) % 4294967296)
    ((p % 4294967296 + q / 4294967296) % 4294967296 + (word₂ % 4294967296 + word₂ / 4294967296) % 4294967296)

-- a product as one number of 32 bits
unfoldable pub folded : ℕ → ℕ
folded r = (r / 4294967296 + r % 4294967296) % 4294967296

unfoldable pub hash : Fields → ℕ
hash f = folded (both (halves f.first 1013904223 (f.code % 64 * 640531527)) (halves f.second 747796405 829304459) f.first f.second)
