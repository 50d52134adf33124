-- What a list of bytes starts with, and the bytes after it: the numbers, names and fields of the two texts. Definitions only.
use Rattle.std.specs.Prelude.{ℕ, zero, suc, ◌+◌, ◌-◌, ◌*◌, Bool, true, false, cond, ◌&&◌, List, [], ◌∷◌, length, drop, ◌==◌, nat_le, nat_lt}
use Prim.Native.Char.{Char}
use Rattle.text.specs.Letters.{letter}

-- what was read, and the rest
pub data Read (A : Type 0) : Type 0 where
  is : A → List ℕ → Read A
  bad : Read A

-- one thing after another
unfoldable pub then : {A B : Type 0} → Read A → (A → List ℕ → Read B) → Read B
then (is x rest) next = next x rest
then bad next = bad

-- "Lines end in LF, fields are parted by one tab"
abbrev pub tab : ℕ
tab = letter "\t"

abbrev pub lf : ℕ
lf = letter "\n"

-- the byte that ends a field, after what stood in it
unfoldable pub ended : {A : Type 0} → (stop : ℕ) → Read A → Read A
ended stop (is x []) = bad
ended stop (is x (b ∷ rest)) = cond (b == stop) (is x rest) bad
ended stop bad = bad

-- one of the letters from the first to the last
abbrev pub is_from : (first last : Char) → ℕ → Bool
is_from first last b = nat_le (letter first) b && nat_le b (letter last)

-- the value of the byte of a digit, 0-9 or A-F, and 16 for any other byte
unfoldable pub digit_of : ℕ → ℕ
digit_of b = cond (is_from "0" "9" b) (b - letter "0") (cond (is_from "A" "F" b) (10 + (b - letter "A")) 16)

-- the decimal digits up to the first byte that is none
unfoldable pub run : List ℕ → List ℕ
run [] = []
run (b ∷ bs) = cond (nat_lt (digit_of b) 10) (digit_of b ∷ run bs) []

-- the number that decimal digits spell after those that spell v
unfoldable pub value : (v : ℕ) → List ℕ → ℕ
value v [] = v
value v (d ∷ ds) = value (v * 10 + d) ds

-- "Whole numbers are decimal without leading zeros": digits that spell a number below the limit
unfoldable pub spelt : (limit : ℕ) (digits rest : List ℕ) → Read ℕ
spelt limit [] rest = bad
spelt limit (d ∷ ds) rest =
    cond (d == 0 && nat_lt 0 (length ds)) bad
    (cond (nat_lt (value 0 (d ∷ ds)) limit) (is (value 0 (d ∷ ds)) rest)
    bad)

unfoldable pub decimal : (limit : ℕ) → List ℕ → Read ℕ
decimal limit bs = spelt limit (run bs) (drop (length (run bs)) bs)

-- k more hex digits, after those that spell v
unfoldable pub hex_from : (k v : ℕ) → List ℕ → Read ℕ
hex_from zero v bs = is v bs
hex_from (suc k) v [] = bad
hex_from (suc k) v (b ∷ bs) = cond (nat_lt (digit_of b) 16) (hex_from k (v * 16 + digit_of b) bs) bad

-- "A double is its bits in 16 upper-case hex digits"
unfoldable pub hex : List ℕ → Read ℕ
hex = hex_from 16 0

-- whether bytes start with a word
unfoldable pub starts : (word : List ℕ) → List ℕ → Bool
starts [] bs = true
starts (w ∷ ws) [] = false
starts (w ∷ ws) (b ∷ bs) = b == w && starts ws bs

-- one of some names: its number, where the first has this number
unfoldable pub name_from : (number : ℕ) → List (List ℕ) → List ℕ → Read ℕ
name_from number [] bs = bad
name_from number (w ∷ ws) bs = cond (starts w bs) (is number (drop (length w) bs)) (name_from (suc number) ws bs)

-- a field is a number or a name, and the byte that ends it
abbrev pub decimal_field : (stop limit : ℕ) → List ℕ → Read ℕ
decimal_field stop limit bs = ended stop (decimal limit bs)

abbrev pub hex_field : (stop : ℕ) → List ℕ → Read ℕ
hex_field stop bs = ended stop (hex bs)

abbrev pub name_field : (stop : ℕ) (names : List (List ℕ)) → List ℕ → Read ℕ
name_field stop names bs = ended stop (name_from 1 names bs)
