-- The laws of `lines`: more fuel changes nothing, so a text is its first line and then the lines of the rest; and for a loop over a text: its
-- end, a line that is read, and one that is refused. Assumes nothing.
use Rattle.std.proofs.Common.{◌≡◌, ℕ, zero, suc, ◌≤◌, List, [], ◌∷◌, length, sym, refl, ◌∙◌, arith}
use Rattle.std.specs.List.{IsFirstAndRest}
use Rattle.text.specs.Lines.{Line, goes, stops, Whole, read, refused, at_line, after_line, lines_by, lines}
use Rattle.text.proofs.Shortening.{ShorterLine, Shortens, EndOf, AllRemain, ends_shorten}

module _ {S R : Type 0} (line : S → ℕ → List ℕ → Line S R) (shortens : Shortens line) where
  none_left : (fuel : ℕ) (s : S) → lines_by fuel line s [] ≡ read s
  unfolding lines_by at_line
  none_left zero s = refl
  none_left (suc fuel) s = refl

  after : (bs : List ℕ) (l : Line S R) (m n : S → List ℕ → Whole S R) → ShorterLine bs l → ((s : S) (rest : List ℕ) → length rest ≤ length bs → m s rest ≡ n s rest)
      → after_line l m ≡ after_line l n
  unfolding after_line
  after bs (goes s rest) m n h e = e s rest h
  after bs (stops why) m n h e = refl

  enough : (f g : ℕ) (s : S) (bs : List ℕ) → length bs ≤ f → length bs ≤ g → lines_by f line s bs ≡ lines_by g line s bs
  unfolding lines_by at_line
  enough zero g s [] hf hg = sym (none_left g s)
  enough zero g s (b ∷ bs) hf hg = absurd (omega arith)
  enough (suc f) zero s [] hf hg = refl
  enough (suc f) zero s (b ∷ bs) hf hg = absurd (omega arith)
  enough (suc f) (suc g) s [] hf hg = refl
  enough (suc f) (suc g) s (b ∷ bs) hf hg = after bs (line s b bs) _ _ (shortens s b bs) λ s rest h. enough f g s rest (omega (arith, h, hf)) (omega (arith, h, hg))

  -- the fuel never runs out
  pub more_changes_nothing : (fuel : ℕ) (s : S) (bs : List ℕ) → length bs ≤ fuel → lines_by fuel line s bs ≡ lines line s bs
  unfolding lines
  more_changes_nothing fuel s bs h = enough fuel (length bs) s bs h (omega arith)

  -- the empty rest after the last LF is no line
  pub no_line : (s : S) → lines line s [] ≡ read s
  unfolding lines
  no_line s = none_left 0 s

  -- a line, and then the lines of the rest
  pub next_line_lem : (s : S) (b : ℕ) (bs : List ℕ) → lines line s (b ∷ bs) ≡ after_line (line s b bs) (λ s rest. lines line s rest)
  unfolding lines lines_by at_line
  next_line_lem s b bs = after bs (line s b bs) _ _ (shortens s b bs) λ s rest h. enough (length bs) (length rest) s rest h (omega arith)

-- ---- a loop

-- what is left of a text is the whole
pub record Left {S R : Type 0} (line : S → ℕ → List ℕ → Line S R) (s : S) (text : List ℕ) (whole : Whole S R) : Type 0 where
  pub shortens : Shortens line
  pub rest : lines line s text ≡ whole

pub begins : {S R : Type 0} (line : S → ℕ → List ℕ → Line S R) → Shortens line → (s : S) (text : List ℕ) → Left line s text (lines line s text)
begins line h s text = record { shortens = h; rest = refl }

pub ends : {S R : Type 0} {line : S → ℕ → List ℕ → Line S R} {s : S} (text : List ℕ) {whole : Whole S R} → Left line s text whole → length text ≡ 0 → read s ≡ whole
ends {line = line} {s} [] l h = sym (no_line line l.shortens s) ∙ l.rest
ends (b ∷ text) l h = absurd (omega arith)

module _ {S R : Type 0} {line : S → ℕ → List ℕ → Line S R} {s : S} {text : List ℕ} {whole : Whole S R} (l : Left line s text whole) {b : ℕ} {after : List ℕ} (f : IsFirstAndRest text b after) where
  unrolled : after_line (line s b after) (λ s rest. lines line s rest) ≡ whole
  unrolled = sym (next_line_lem line l.shortens s b after) ∙ (rw f.0 at l.rest)

  pub goes_on : {s' : S} {next : List ℕ} → line s b after ≡ goes s' next → Left line s' next whole
  unfolding after_line
  goes_on e = record { shortens = l.shortens; rest = rw e at unrolled }

  pub stops_at : {why : R} → line s b after ≡ stops why → refused why ≡ whole
  unfolding after_line
  stops_at e = rw e at unrolled

-- ---- the same where each line leaves an end of the text; of where it ends and stops the laws of `left` speak

pub record LeftByEnds {S R : Type 0} (line : S → ℕ → List ℕ → Line S R) (s : S) (text : List ℕ) (whole : Whole S R) : Type 0 where
  pub left : Left line s text whole
  pub rests : AllRemain EndOf line

pub begins_by_ends : {S R : Type 0} (line : S → ℕ → List ℕ → Line S R) → AllRemain EndOf line → (s : S) (text : List ℕ) → LeftByEnds line s text (lines line s text)
begins_by_ends line h s text = record { left = begins line (ends_shorten line h) s text; rests = h }

pub goes_on_by_ends : {S R : Type 0} {line : S → ℕ → List ℕ → Line S R} {s : S} {text : List ℕ} {whole : Whole S R} → LeftByEnds line s text whole
    → {b : ℕ} {after : List ℕ} → IsFirstAndRest text b after → {s' : S} {next : List ℕ} → line s b after ≡ goes s' next → LeftByEnds line s' next whole
goes_on_by_ends l f e = record { left = goes_on l.left f e; rests = l.rests }
