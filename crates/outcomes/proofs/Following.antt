-- What is written after what stands at the start of an output, where the writer of that was lent the output's first k bytes. Assumes nothing.
use mathlib.Core.Path.{◌≡◌, refl, sym, ap, subst, ◌∙◌}
use mathlib.Core.List.{List, ◌++◌, append-nil}
use mathlib.Core.Bool.{Bool, true, false}
use Prim.Native.Nat.{ℕ, ◌+◌, ◌≤◌}
use native.Mathlib.Omega.{arith}
use lib.ListN.{length, take, drop, length-append}
use lib.Seq.{length-take-le, length_front, take-take, take-append-le, take-append_seam, sets-eq}
use Rattle.io.specs.Counts.{IsPrefixLen}
use Rattle.text.specs.Put.{Put}
use Rattle.text.proofs.Putting.{put_length}
use Rattle.marks.specs.Marking.{marks_line, used_line}
use Rattle.origins.specs.Standing.{standing}
use Rattle.console.proofs.Lines.{Line, stands}
use Rattle.outcomes.specs.declared.Outcome.{Outcome}
use Rattle.outcomes.specs.Outcomes.{output, output_with, said, listing_of, standing_with, said_with}
use Rattle.outcomes.specs.Coming.{seen, said_of, bytes_of, Inside, Short, Prints, Stands}

-- ---- what is said goes by no byte of the output

said_alike : (out : List ℕ) (o : Outcome) → said_of o ≡ said (seen out o)
unfolding said
said_alike out (Outcome.Printed n) = refl
said_alike out (Outcome.Simplified n calls) = refl
said_alike out (Outcome.Refused why detail) = refl
said_alike out Outcome.TooLong = refl

-- ---- the line

append_line : (l bytes : List ℕ) {line x : List ℕ} {n r : ℕ} → take n l ≡ bytes → n ≡ length bytes → Put l n line r x → r ≤ length l → Stands (bytes ++ line) r x
append_line l bytes {line} {x} {n} {r} e a p h =
    let f : n + length line ≤ length l = omega (arith, p.place, h) in
    let z : r ≡ length (bytes ++ line) = omega (arith, p.place, length-append bytes line, a) in
    let s : x ≡ (bytes ++ line) ++ drop (n + length line) l =
    p.stored ∙ sets-eq line l n f ∙ ap (λ b. b ++ line ++ drop (n + length line) l) e in
    let i : r ≤ length x = omega (arith, put_length p, h) in
    record { are = rw (z, s) (take-append_seam (bytes ++ line) (drop (n + length line) l)); within = (i, sym (length-take-le r x i)) }

module _ (more k : ℕ) (whole : List ℕ) (h : k + more ≤ length whole) where
  pub part_length : k ≡ length (take k whole)
  part_length = sym (length-take-le k whole (omega (arith, h)))

  module _ (part : List ℕ) (e : length part ≡ length (take k whole)) where
    pub room_after : {n : ℕ} → n ≤ length part → n + more ≤ length (part ++ drop k whole)
    room_after l = omega (arith, h, e, l, part_length, length_front whole part k e)

    then_line : {bytes line x : List ℕ} {n r : ℕ} → take n part ≡ bytes → IsPrefixLen n part → Put (part ++ drop k whole) n line r x × (r ≤ n + more) → Stands (bytes ++ line) r x
    then_line {bytes} q c (p, w) =
        append_line (part ++ drop k whole) bytes (take-append-le _ part (drop k whole) c.0 ∙ q) (c.1 ∙ ap length q) p (omega (arith, w, room_after c.0))

    -- what is said, and the rows
    pub says_rows : {out bytes line x : List ℕ} {n r : ℕ} → Line out bytes n part → Put (part ++ drop k whole) n line r x × (r ≤ n + more) → Stands (bytes ++ line) r x
    says_rows l w = then_line (stands l) l.1 w

    -- and where lines of the job stand
    pub says_standing : (out : List ℕ) (o : Outcome) (marks : List ℕ) (traced : Bool) {x : List ℕ} {n r : ℕ} → Stands (said_of o ++ used_line marks) n part
        → Put (part ++ drop k whole) n (standing_with traced (seen out o)) r x × (r ≤ n + more) → Stands (said_with traced marks (seen out o)) r x
    says_standing out o marks traced {x} {n} {r} s w =
        subst (λ b. Stands ((b ++ used_line marks) ++ standing_with traced (seen out o)) r x) (said_alike out o) (then_line s.are s.within w)

-- ---- where lines of the job stand

as_listed : (out : List ℕ) (o : Outcome) → take (bytes_of o) out ≡ listing_of (seen out o)
unfolding listing_of
as_listed out (Outcome.Printed n) = refl
as_listed out (Outcome.Simplified n calls) = refl
as_listed out (Outcome.Refused why detail) = refl
as_listed out Outcome.TooLong = refl

bytes_in : (out : List ℕ) (o : Outcome) → Inside out o → bytes_of o ≤ length out
bytes_in out (Outcome.Printed n) i = i.0
bytes_in out (Outcome.Simplified n calls) i = i.0
bytes_in out (Outcome.Refused why detail) i = omega arith
bytes_in out Outcome.TooLong i = omega arith

module _ (out : List ℕ) (o : Outcome) where
  pub bytes_length : {n : ℕ} → n ≡ bytes_of o → Inside out o → n ≡ length (take n out)
  bytes_length {n} e i = sym (length-take-le n out (omega (arith, e, bytes_in out o i)))

  module _ {traced : Bool} {said : List ℕ} {at : ℕ} where
    pub standing_told : {n : ℕ} → traced ≡ true → n ≡ bytes_of o → {x : List ℕ} {r : ℕ} → Put said at (standing (take n out)) r x × (r ≤ at + 56320)
        → Put said at (standing_with traced (seen out o)) r x × (r ≤ at + 56320)
    standing_told t e {x} {r} (p, h) =
        (subst (λ b. Put said at b r x) (ap (λ k. standing (take k out)) e ∙ ap standing (as_listed out o) ∙ ap (λ b. standing_with b (seen out o)) (sym t)) p, h)

    pub nothing_told : traced ≡ false → Put said at (standing_with traced (seen out o)) at said × (at ≤ at + 56320)
    nothing_told t = (subst (λ b. Put said at b at said) (ap (λ b. standing_with b (seen out o)) (sym t)) (record { place = omega arith; stored = refl }), omega arith)

-- ---- what is printed

module _ (out : List ℕ) (l : 65536 ≤ length out) where
  counts_in : (n : ℕ) → n ≤ 64496 → IsPrefixLen n (take 64496 out)
  counts_in n h =
      let z : n ≤ length (take 64496 out) = omega (arith, h, part_length 1040 64496 out l) in
      (z, sym (length-take-le n (take 64496 out) z))

  pub inside_part : (o : Outcome) → Short o → Inside (take 64496 out) o
  inside_part (Outcome.Printed n) h = counts_in n h
  inside_part (Outcome.Simplified n calls) h = counts_in n h
  inside_part (Outcome.Refused why detail) h = tt
  inside_part Outcome.TooLong h = tt

seen_part : (out : List ℕ) (o : Outcome) → Short o → output (seen (take 64496 out) o) ≡ output (seen out o)
unfolding output
seen_part out (Outcome.Printed n) h = take-take n 64496 out h
seen_part out (Outcome.Simplified n calls) h = take-take n 64496 out h
seen_part out (Outcome.Refused why detail) h = refl
seen_part out Outcome.TooLong h = refl

module _ (marks out : List ℕ) (o : Outcome) {shown : Bool} where
  pub without_marks : shown ≡ false → {n : ℕ} {out' : List ℕ} → Prints out o n out' → Stands (output_with shown marks (seen out o)) n out'
  without_marks e p = record {
    are = p.bytes ∙ sym (append-nil (output (seen out o))) ∙ ap (λ b. output_with b marks (seen out o)) (sym e);
    within = p.within;
  }

  pub with_marks_lem : 65536 ≤ length out → shown ≡ true → Short o → {n : ℕ} {part : List ℕ} → length part ≡ length (take 64496 out) → Prints (take 64496 out) o n part
      → {x : List ℕ} {r : ℕ} → Put (part ++ drop 64496 out) n (marks_line marks) r x × (r ≤ n + 1040) → Stands (output_with shown marks (seen out o)) r x
  with_marks_lem l e h {part = part} q p {x} {r} w =
      subst (λ b. Stands (output_with b marks (seen out o)) r x) (sym e) (then_line 1040 64496 out l part q (p.bytes ∙ seen_part out o h) p.within w)
