-- A function value more, with its entry in the index: what `put_row` leaves. Assumes nothing.
use mathlib.Core.Bool.{true, false, true≢false, false≢true}
use mathlib.Core.Path.{◌≡◌, refl, sym, ap, ◌∙◌, subst}
use mathlib.Core.List.{List}
use Prim.Native.Nat.{ℕ, ◌+◌, ◌*◌, ◌%◌, ◌≤◌, ◌<◌}
use native.Mathlib.Omega.{arith}
use native.Mathlib.Decide.{dec_lt, ℕ_discrete}
use lib.ListN.{length, get_or, set}
use lib.Seq.{get_or-set_same, get_or-set_other}
use Rattle.std.specs.Prelude.{Option, Some, None, is_some}
use Rattle.expression.specs.Codes.{operation_of}
use Rattle.memory.specs.Keys.{FirstOf}
use Rattle.memory.specs.Layout.{table_words, functions_from}
use Rattle.sheet.specs.declared.fields.Words.{Words}
use Rattle.sheet.specs.Seen.{number_of}
use Rattle.sheet.specs.Rows.{row}
use Rattle.sheet.specs.Index.{word_at, name_in, next_in, home_in, head_in, linked, headed, bucket_of, head_for}
use Rattle.sheet.specs.Table.{row_at, Comparable, row_matches, next_at, Indexed, with_row, canonical_words, Outside, Alike, Entered}
use Rattle.sheet.proofs.Indexing.{linked_name, linked_next, linked_home, linked_head, headed_low, headed_head, head_within, same_next, same_home, same_matches, Owns, stands_indexed, fresh_indexed}
use Rattle.sheet.proofs.Placing.{set_outside, then_outside, alike_below, same_row, same_comparable, row_outside, row_length, row_name, row_there, row_comparable, row_owns}

-- ---- the words of the new row

-- t' has row n more than t; the heads are those of t
record Written (t t' : List ℕ) (n name next home : ℕ) (x y z : Words) : Type 0 where
  outside : Outside t t' functions_from table_words
  kept : (j : ℕ) → j < n → Alike t t' j
  heads : (b : ℕ) → head_in (word_at t' b) ≡ head_in (word_at t b)
  long : length t' ≡ length t
  next_is : next_at t' n ≡ next
  home_is : home_in (word_at t' n) ≡ home
  there : row_at t' n ≡ row (operation_of name) (number_of x) (number_of y) (number_of z)
  comparable : Comparable t' n
  owns : Owns t' n name (canonical_words x) (canonical_words y)

module _ (t : List ℕ) (n name next home : ℕ) (x y z : Words) (room : 7 * n + functions_from + 6 < length t) where
  abbrev word : ℕ
  word = linked (word_at t n) name next home

  abbrev with : List ℕ
  with = with_row t n word x y z

  there_is : word_at with n ≡ word
  there_is = row_name t n word x y z room

  written_heads : (b : ℕ) → head_in (word_at with b) ≡ head_in (word_at t b)
  written_heads b = elim (ℕ_discrete b n) [
    | yes e ↦ rw e (ap head_in there_is ∙ linked_head (word_at t n) name next home)
    | no a ↦ elim (dec_lt b n) [
      | yes l ↦ ap head_in ((row_outside t n word x y z).below (7 * b + functions_from) (omega arith))
      | no l ↦ ap head_in ((row_outside t n word x y z).beyond (7 * b + functions_from) (omega arith))
    ]
  ]

  written : n < 256 → (0 < name) × (name < 6) → next < 512 → home < 256 → Written t with n name next home x y z
  written few named l m =
      let e : name_in word ≡ name = linked_name (word_at t n) name next home (omega (arith, named.1)) in
      record {
        outside = record { below = λ i k. (row_outside t n word x y z).below i (omega arith); beyond = λ i k. (row_outside t n word x y z).beyond i (omega arith) };
        kept = λ j k. alike_below (row_outside t n word x y z) j (omega arith);
        heads = written_heads;
        long = row_length t n word x y z;
        next_is = ap next_in there_is ∙ linked_next (word_at t n) name next home l;
        home_is = ap home_in there_is ∙ linked_home (word_at t n) name next home m;
        there = row_there t n word x y z room ∙ ap (λ k. row (operation_of k) (number_of x) (number_of y) (number_of z)) e;
        comparable = row_comparable t n word x y z room (rw e named.0) (rw e named.1);
        owns = subst (λ k. Owns with n k (canonical_words x) (canonical_words y)) e (row_owns t n word x y z room);
      }

-- ---- another head of a bucket

module _ (t : List ℕ) (b head : ℕ) where
  abbrev pub entry : List ℕ
  entry = set t (7 * b + functions_from) (headed (word_at t b) head)

  entry_same : (i : ℕ) → (i ≡ 7 * b + functions_from → ⊥) → get_or entry i 0 ≡ get_or t i 0
  entry_same i e = get_or-set_other t (7 * b + functions_from) i (headed (word_at t b) head) 0 e

  entry_others : (c : ℕ) → (c ≡ b → ⊥) → head_in (word_at entry c) ≡ head_in (word_at t c)
  entry_others c a = ap head_in (entry_same (7 * c + functions_from) λ q. a (omega arith))

  module _ (room : 7 * b + functions_from < length t) where
    entry_there : word_at entry b ≡ headed (word_at t b) head
    entry_there = get_or-set_same t (7 * b + functions_from) (headed (word_at t b) head) 0 room

    entry_alike : (j : ℕ) → Alike t entry j
    entry_alike j = record {
      low = elim (ℕ_discrete j b) [
        | yes e ↦ rw e (ap (λ w. w % 1048576) entry_there ∙ headed_low (word_at t b) head)
        | no a ↦ ap (λ w. w % 1048576) (entry_same (7 * j + functions_from) λ q. a (omega arith))
      ];
      rest = λ i l m. entry_same i λ q. omega arith;
    }

    entry_head : head < 512 → head_in (word_at entry b) ≡ head
    entry_head l = ap head_in entry_there ∙ headed_head (word_at t b) head l

-- ---- a row more, in the index

alike_then : {t t' t'' : List ℕ} {j : ℕ} → Alike t t' j → Alike t' t'' j → Alike t t'' j
alike_then p q = record { low = q.low ∙ p.low; rest = λ i l m. q.rest i l m ∙ p.rest i l m }

module _ {t t' : List ℕ} {n name next b : ℕ} {x y z : Words} (w : Written t t' n name next b x y z) where
  -- a row with its name and operands stands
  stands_entered : (s : ℕ) → (Indexed t n → FirstOf (row_matches t name (canonical_words x) (canonical_words y)) n (Some s)) → Entered t t' n name x y z
  stands_entered s f = record {
    outside = w.outside;
    kept = w.kept;
    there = w.there;
    comparable = w.comparable;
    indexed = λ h. stands_indexed h w.kept w.owns s (f h).0 ((f h).1.hit (f h).0) w.heads;
  }

  -- none does, and the new one is the head of its bucket
  module _ (few : n < 256) (room : table_words ≤ length t) (small : b < 256) (q : b ≡ bucket_of name (canonical_words x) (canonical_words y)) (u : next ≡ head_for t n b)
      (f : Indexed t n → FirstOf (row_matches t name (canonical_words x) (canonical_words y)) n None) where
    place : 7 * b + functions_from < length t'
    place = omega (arith, w.long)

    new : List ℕ
    new = entry t' b (n + 1)

    alike : (j : ℕ) → Alike t' new j
    unfolding new
    alike = entry_alike t' b (n + 1) place

    new_owns : Owns new n name (canonical_words x) (canonical_words y)
    new_owns = record { own = λ name' x' y' e. w.owns.own name' x' y' (sym (same_matches (alike n) name' x' y') ∙ e) }

    new_others : (c : ℕ) → (c ≡ b → ⊥) → head_in (word_at new c) ≡ head_in (word_at t c)
    unfolding new
    new_others c a = entry_others t' b (n + 1) c a ∙ w.heads c

    new_head : head_in (word_at new b) ≡ n + 1
    unfolding new
    new_head = entry_head t' b (n + 1) place (omega arith)

    new_indexed : Indexed t n → Indexed new (n + 1)
    new_indexed h =
        fresh_indexed h (λ j k. alike_then (w.kept j k) (alike j)) new_owns (f h) (λ c a. new_others c λ e. a (e ∙ q)) (rw (sym q) new_head)
        (same_home (alike n) ∙ w.home_is ∙ q)
        (same_next (alike n) ∙ w.next_is ∙ u ∙ ap (λ c. head_for t n c) q)

    new_outside : Outside t' new functions_from table_words
    unfolding new
    new_outside = set_outside t' (7 * b + functions_from) (headed (word_at t' b) (n + 1)) functions_from table_words (omega arith) (omega arith)

    fresh_entered : Entered t (set t' (7 * b + functions_from) (headed (word_at t' b) (n + 1))) n name x y z
    unfolding new
    fresh_entered = record {
      outside = then_outside w.outside new_outside;
      kept = λ j k. alike_then (w.kept j k) (alike j);
      there = same_row (alike n) ∙ w.there;
      comparable = same_comparable (alike n) w.comparable;
      indexed = new_indexed;
    }

-- ---- what `put_row` does

module _ (t : List ℕ) (n name next b : ℕ) (x y z : Words) (few : n < 256) (room : table_words ≤ length t) (named : (0 < name) × (name < 6)) (small : b < 256)
    (q : b ≡ bucket_of name (canonical_words x) (canonical_words y)) (u : next ≡ head_for t n b) (stands : Option ℕ)
    (f : Indexed t n → next ≡ head_for t n (bucket_of name (canonical_words x) (canonical_words y)) → FirstOf (row_matches t name (canonical_words x) (canonical_words y)) n stands) where
  found : Indexed t n → FirstOf (row_matches t name (canonical_words x) (canonical_words y)) n stands
  found h = f h (u ∙ ap (λ c. head_for t n c) q)

  row_written : Written t (with_row t n (linked (word_at t n) name next b) x y z) n name next b x y z
  row_written = written t n name next b x y z (omega arith) few named (omega (arith, head_within t n b u)) small

  pub put_stands : is_some stands ≡ true → Entered t (with_row t n (linked (word_at t n) name next b) x y z) n name x y z
  put_stands e = go stands refl e
    where
      go : (r : Option ℕ) → stands ≡ r → is_some r ≡ true → Entered t (with_row t n (linked (word_at t n) name next b) x y z) n name x y z
      go (Some s) i e = stands_entered row_written s λ h. rw i at (found h)
      go None i e = absurd (false≢true e)

  pub put_fresh : is_some stands ≡ false
      → Entered t (set (with_row t n (linked (word_at t n) name next b) x y z) (7 * b + functions_from) (headed (word_at (with_row t n (linked (word_at t n) name next b) x y z) b) (n + 1))) n name x y z
  put_fresh e = go stands refl e
    where
      go : (r : Option ℕ) → stands ≡ r → is_some r ≡ false
          → Entered t (set (with_row t n (linked (word_at t n) name next b) x y z) (7 * b + functions_from) (headed (word_at (with_row t n (linked (word_at t n) name next b) x y z) b) (n + 1))) n name x y z
      go None i e = fresh_entered row_written few room small q u λ h. rw i at (found h)
      go (Some s) i e = absurd (true≢false e)
