-- What follows on the first word: a limit, the words `marks` and `origins`, a file, nothing. Assumes nothing.
use Rattle.std.specs.Prelude.{Option, Some, None, is_some, unwrap_or}
use Rattle.std.specs.Borrow.{Bor}
use Rattle.std.specs.List.{slice_range}
use Rattle.std.proofs.lemmas.List.{nil_from_length}
use mathlib.Core.Path.{◌≡◌, refl, sym, ap, ◌∙◌}
use mathlib.Core.List.{List, [], ◌∷◌, ◌++◌, append_assoc}
use mathlib.Core.Bool.{Bool, true, false}
use Prim.Native.Nat.{ℕ, ◌+◌, ◌-◌, ◌≤◌, ◌<◌, min}
use native.Mathlib.Decide.{dec_lt}
use native.Mathlib.Omega.{arith}
use lib.Dec.{eqb}
use lib.ListN.{length, drop, length-drop, length-append, drop_of_length-le}
use lib.Seq.{drop-drop, take_all}
use Rattle.text.specs.Letters.{bytes}
use Rattle.text.specs.Reading.{is, starts, decimal, decimal_field}
use Rattle.text.specs.Seen as Seen
use Rattle.text.specs.Writing.{in_decimal}
use Rattle.text.proofs.Fields.{told, told_bad}
use Rattle.text.proofs.Only.{decimal_only, ended_only}
use Rattle.steps.proofs.Knowing.{second_true}
use Rattle.console.specs.TapeText.{next_line}
use Rattle.commands.specs.declared.words.Asked.{Asked}
use Rattle.commands.specs.declared.words.Command.{Command}
use Rattle.commands.specs.declared.words.Parted.{Parted}
use Rattle.commands.specs.Words.{job, too_many, after, marking, tracing, simplifying, with_limit, at_limit, first_word, with_file, request}
use Rattle.commands.specs.Asking.{seen, FoundAt}
use Rattle.commands.proofs.Choosing.{never, chosen, passed}

-- ---- the words `marks` and `origins`

starts_inside : (word bs : List ℕ) → starts word bs ≡ true → length word ≤ length bs
unfolding starts
starts_inside [] bs e = omega arith
starts_inside (w ∷ ws) [] e = never e
starts_inside (w ∷ ws) (b ∷ bs) e = omega (arith, starts_inside ws bs (second_true (eqb b w) (starts ws bs) e))

module _ (words : List ℕ) (at : ℕ) (word : List ℕ) {t : Bool} (q : t ≡ starts word (drop at words)) where
  pub found_inside : t ≡ true → length word ≤ length words - at
  found_inside o = omega (arith, starts_inside word (drop at words) (sym q ∙ o), length-drop at words)

  pub found_there : t ≡ true → FoundAt words at word (Some (at + length word))
  unfolding after
  found_there o = (sym o ∙ q, sym (drop-drop (length word) at words) ∙ chosen q o _ _)

  pub not_there : t ≡ false → FoundAt words at word None
  unfolding after
  not_there o = (sym o ∙ q, passed q o _ _ refl)

module _ (words : List ℕ) (at : ℕ) where
  pub takes_marks : (command : Bool → Parted) (m : Option ℕ) → FoundAt words at (bytes "marks\n") m
      → job (Command.Parted (command (is_some m))) (drop (unwrap_or m at) words) ≡ marking command (drop at words)
  takes_marks command m (p, q) = λ i. job (Command.Parted (command (p i))) (q i)

  pub takes_origins : (command : Bool → Command) (o : Option ℕ) → FoundAt words at (bytes "origins\n") o
      → job (command (is_some o)) (drop (unwrap_or o at) words) ≡ tracing command (drop at words)
  takes_origins command o (p, q) = λ i. job (command (p i)) (q i)

pub takes_both : (words : List ℕ) (at limit : ℕ) (m o : Option ℕ) → FoundAt words at (bytes "marks\n") m → FoundAt words (unwrap_or m at) (bytes "origins\n") o
    → job (Command.Parted (Parted.Simplify limit (is_some m) (is_some o))) (drop (unwrap_or o (unwrap_or m at)) words) ≡ simplifying limit (drop at words)
takes_both words at limit m o (p, q) x =
    takes_origins words (unwrap_or m at) (λ traced. Command.Parted (Parted.Simplify limit (is_some m) traced)) o x
    ∙ (λ i. tracing (λ traced. Command.Parted (Parted.Simplify limit (p i) traced)) (q i))

-- ---- the limit

-- the words from the place on, or none where the place is past the end
from_place : (words : List ℕ) (at : ℕ) {from : ℕ} → from ≡ min at (length words) → slice_range words from (length words) ≡ drop at words
from_place words at {from} p = take_all (length words - from) (drop from words) (omega (arith, length-drop from words)) ∙ elim (dec_lt at (length words)) [
  | yes l ↦ ap (λ k. drop k words) (omega (arith, p))
  | no n ↦ rw (drop_of_length-le words {i = at} (omega arith)) (drop_of_length-le words {i = from} (omega (arith, p)))
]

-- what is read leaves the end of the words
record Left (words after : List ℕ) : Type 0 where
  shorter : length after ≤ length words
  place : drop (length words - length after) words ≡ after

left_of : (words : List ℕ) (at : ℕ) (front after : List ℕ) → drop at words ≡ front ++ after → Left words after
left_of words at front after e =
    let l : length words - at ≡ length front + length after = omega (arith, length-drop at words, ap length e, length-append front after) in
    elim (dec_lt at (length words)) [
      | yes lt ↦
          let z : length words - length after ≡ at + length front = omega (arith, l, lt) in
          record { shorter = omega (arith, l); place = rw z (sym (drop-drop (length front) at words) ∙ ap (drop (length front)) e ∙ drop_append front after) }
      | no ge ↦
          let n : length after ≡ 0 = omega (arith, l, ge) in
          record { shorter = omega (arith, n); place = rw n (drop_of_length-le words {i = length words - 0} (omega arith)) ∙ sym (nil_from_length after n) }
    ]
  where
    drop_append : (front after : List ℕ) → drop (length front) (front ++ after) ≡ after
    drop_append [] after = refl
    drop_append (x ∷ front) after = drop_append front after

module _ (words : List ℕ) (at : ℕ) {from : ℕ} (p : from ≡ min at (length words)) (r : Option (ℕ × Bor (List ℕ))) (q : Seen.seen r ≡ decimal_field 10 4294967296 (slice_range words from (length words))) where
  module _ {limit : ℕ} {rest : Bor (List ℕ)} (e : r ≡ Some (limit, rest)) where
    limit_is : decimal_field 10 4294967296 (drop at words) ≡ is limit rest.now
    limit_is = rw (from_place words at p) at (told q e)

    limit_leaves : Left words rest.now
    limit_leaves =
        let k = decimal_only 4294967296 limit (drop at words) (10 ∷ rest.now) (ended_only 10 (decimal 4294967296 (drop at words)) limit rest.now limit_is) in
        left_of words at (in_decimal limit ++ (10 ∷ [])) rest.now (k.1 ∙ sym (append_assoc (in_decimal limit) (10 ∷ []) rest.now))

    pub limit_inside : length rest.now ≤ length words
    limit_inside = limit_leaves.shorter

    pub limit_read : simplifying limit (drop (length words - length rest.now) words) ≡ at_limit (drop at words)
    unfolding with_limit
    limit_read = rw (limit_leaves.place, limit_is)

  pub no_limit : r ≡ None → simplifying 10 (drop at words) ≡ at_limit (drop at words)
  unfolding with_limit
  no_limit e = let k = rw (from_place words at p) at (told_bad q e) in rw k

-- ---- the file

module _ (words : List ℕ) (command : Command) (at : ℕ) where
  pub no_file : length words ≤ at → (job command (drop (length words) words) ≡ with_file (job command (drop at words))) × (length words ≤ length words)
  unfolding with_file next_line
  no_file h = (rw (drop_of_length-le words {i = at} h, drop_of_length-le words {i = length words} (omega arith)), omega arith)

  module _ (h : at < length words) {next : List ℕ} (q : next ≡ next_line (slice_range words at (length words))) where
    next_is : next ≡ next_line (drop at words)
    next_is = q ∙ ap next_line (take_all (length words - at) (drop at words) (omega (arith, length-drop at words)))

    pub too_many_lem : eqb (length next) 0 ≡ false → too_many ≡ with_file (job command (drop at words))
    unfolding with_file
    too_many_lem e = rw (← next_is, e)

    pub one_file : eqb (length next) 0 ≡ true → (job command (drop at words) ≡ with_file (job command (drop at words))) × (at ≤ length words)
    unfolding with_file
    one_file e = (rw (← next_is, e), omega arith)

-- ---- the whole

module _ (words : List ℕ) {first : Asked} (q : seen words first ≡ first_word words) where
  pub then_file : (a : Asked) → first ≡ a → with_file (seen words a) ≡ request words
  unfolding request
  then_file a e = ap (λ x. with_file (seen words x)) (sym e) ∙ ap with_file q
