-- When what a case has left behind is as it should be: lists that are the same, zero or blank everywhere. Definitions only.
use Rattle.std.specs.Prelude.{ℕ, zero, suc, ◌+◌, ◌%◌, min, List, [], Bool, true, ◌&&◌, cond, length, get_or, take, drop, leb, eqb}

-- whether a test holds at each of the first n places
unfoldable pub every : (test : ℕ → Bool) (n : ℕ) → Bool
every test zero = true
every test (suc n) = test n && every test n

-- ---- slices

-- whether the first n numbers of two lists are the same
abbrev pub same_up_to : (n : ℕ) (a b : List ℕ) → Bool
same_up_to n a b = every (λ k. eqb (get_or a k 0) (get_or b k 0)) n

abbrev pub same : (a b : List ℕ) → Bool
same a b = eqb (length a) (length b) && same_up_to (length a) a b

-- whether all numbers of a list are this one
abbrev pub all_are : (x : ℕ) (s : List ℕ) → Bool
all_are x s = every (λ k. eqb (get_or s k 0) x) (length s)

-- a row of a store
abbrev pub blank : List ℕ → Bool
blank row = every (λ k. eqb (get_or row k 0) 0) 4

-- the first n rows, at most all
abbrev pub blank_rows : (n : ℕ) (rows : List (List ℕ)) → Bool
blank_rows n rows = every (λ k. blank (get_or rows k [])) (min n (length rows))

-- ---- what a case lends

abbrev pub clear : (n : ℕ) (rows : List (List ℕ)) (desk table : List ℕ) → Bool
clear n rows desk table = blank_rows n rows && (all_are 0 desk && all_are 0 table)

-- a paper begins with the wanted bytes, and the others are as they were, 0xA5
abbrev pub written : (wanted paper : List ℕ) → Bool
written wanted paper = same wanted (take (length wanted) paper) && all_are 165 (drop (length wanted) paper)

-- ---- a line's digits

-- of the bytes 0 to 9, A to F and a to f their values
abbrev pub digit_of : ℕ → ℕ
digit_of c = cond (leb c 57) (c % 16) (c % 8 + 9)
