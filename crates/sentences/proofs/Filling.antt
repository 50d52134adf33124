-- How a line of the table is written, byte by byte. Assumes nothing.
use mathlib.Core.Path.{◌≡◌, refl, sym, ap, subst, ◌∙◌}
use mathlib.Core.List.{List, [], ◌++◌, append_assoc, append-nil}
use Prim.Native.Nat.{ℕ, ◌+◌, ◌-◌, ◌*◌, ◌≤◌, ◌<◌}
use native.Mathlib.Omega.{arith}
use lib.ListN.{length, drop, get_or, drop_of_length-le}
use borrow.Author.Tests.{eq-eqb, ne_eqb}
use Rattle.text.specs.Put.{Put}
use Rattle.text.proofs.Putting.{put_then, put_none}
use Rattle.text.proofs.Running.{here}
use Rattle.console.proofs.Lines.{Line, put_counts}
use Rattle.sentences.specs.Table.{piece, filled}

-- what was passed of the line, and what is to come
pub record Filling (out₀ table : List ℕ) (from first second : ℕ) (out : List ℕ) (i at : ℕ) : Type 0 where
  pub done : List ℕ
  pub put : Put out₀ 0 done at out
  pub whole : filled first second (drop from table) ≡ done ++ filled first second (drop i table)
  pub room : at + 20 * (length table - i) ≤ 20 * length table

pub begun : (out table : List ℕ) (from first second : ℕ) → Filling out table from first second out from 0
begun out table from first second = record { done = []; put = put_none out 0; whole = refl; room = omega arith }

module _ {out₀ table : List ℕ} {from first second : ℕ} {out : List ℕ} {i at : ℕ} (f : Filling out₀ table from first second out i at) (h : i < length table)
    {out' : List ℕ} {next : ℕ} (p : Put out at (piece first second (get_or table i 0)) next out' × (next ≤ at + 20)) where
  pub goes_on : (get_or table i 0 ≡ 10 → ⊥) → Filling out₀ table from first second out' (i + 1) next
  unfolding filled
  goes_on n = record {
    done = f.done ++ piece first second (get_or table i 0);
    put = put_then f.put p.0;
    whole =
        f.whole ∙ ap (λ l. f.done ++ filled first second l) (here table i h)
        ∙ rw (ne_eqb (get_or table i 0) 10 n) (sym (append_assoc f.done (piece first second (get_or table i 0)) (filled first second (drop (i + 1) table))));
    room = omega (arith, f.room, p.1, h);
  }

  pub ends : get_or table i 0 ≡ 10 → 20 * length table ≤ length out₀ → Line out₀ (filled first second (drop from table)) next out'
  unfolding filled
  ends e o =
      let w : filled first second (drop from table) ≡ f.done ++ piece first second (get_or table i 0) =
      f.whole ∙ ap (λ l. f.done ++ filled first second l) (here table i h)
      ∙ rw (eq-eqb (get_or table i 0) 10 e, append-nil) in
      let q : Put out₀ 0 (filled first second (drop from table)) next out' = subst (λ l. Put out₀ 0 l next out') (sym w) (put_then f.put p.0) in
      (q, put_counts q (omega (arith, q.place, f.room, p.1, h, o)))

pub runs_out : {out₀ table : List ℕ} {from first second : ℕ} {out : List ℕ} {i at : ℕ} → Filling out₀ table from first second out i at → length table ≤ i
    → 20 * length table ≤ length out₀ → Line out₀ (filled first second (drop from table)) at out
unfolding filled
runs_out {out₀} {table} {from} {first} {second} {out} {i} {at} f h o =
    let w : filled first second (drop from table) ≡ f.done = f.whole ∙ rw (drop_of_length-le table {i = i} h, append-nil) in
    let q : Put out₀ 0 (filled first second (drop from table)) at out = subst (λ l. Put out₀ 0 l at out) (sym w) f.put in
    (q, put_counts q (omega (arith, q.place, f.room, o)))
