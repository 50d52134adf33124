-- The loop over the lines: what is left of the text, from the rows in the table on, is the whole sheet. Assumes nothing.
use mathlib.Core.Path.{◌≡◌, refl, sym, ◌∙◌}
use mathlib.Core.List.{List}
use Prim.Native.Nat.{ℕ, ◌-◌, ◌≤◌, ◌<◌}
use native.Mathlib.Omega.{arith}
use lib.ListN.{length}
use Rattle.std.specs.Prelude.{Ok, Err}
use Rattle.std.specs.Borrow.{Bor}
use Rattle.std.specs.List.{IsFirstAndRest}
use Rattle.expression.specs.declared.refusal.Refusal.{Refusal}
use Rattle.memory.specs.Keys.{up_to}
use Rattle.text.specs.Lines.{Line, read, refused}
use Rattle.text.proofs.Lining.{Left, begins, ends, goes_on, stops_at}
use Rattle.memory.specs.Layout.{table_words}
use Rattle.sheet.specs.declared.Counts.{Counts}
use Rattle.sheet.specs.Rows.{Rows, sheet, sheet_line}
use Rattle.sheet.specs.Table.{rows_of, line_of, Held, Takes}
use Rattle.sheet.proofs.Shortening.{sheet_shortens}

pub record Reading (text t₀ t rest : List ℕ) (n : Counts) : Type 0 where
  pub same : length t ≡ length t₀
  pub room : table_words ≤ length t
  pub held : Held t n
  pub left : Left sheet_line (rows_of t n) rest (sheet text)

pub reading_begins : (text t : List ℕ) → table_words ≤ length t → Reading text t t text (record { variables = 0; cells = 0; functions = 0 })
unfolding sheet up_to
reading_begins text t h = record {
  same = refl;
  room = h;
  held = record {
    variables = omega arith;
    cells = omega arith;
    functions = omega arith;
    numbers = record { each = λ j l. absurd (omega arith) };
    pairs = record { each = λ j l. absurd (omega arith) };
    operands = λ j l. absurd (omega arith);
    index = record { leads = λ name x y r f l. absurd (omega arith) };
  };
  left = begins sheet_line sheet_shortens _ text;
}

module _ {text t₀ t rest : List ℕ} {n : Counts} (r : Reading text t₀ t rest n) where
  few : line_of n < 1537
  few = omega (arith, r.held.variables, r.held.cells, r.held.functions)

  pub reading_ends : length rest ≡ 0 → read (rows_of t n) ≡ sheet text
  reading_ends l = ends rest r.left l

  pub reading_less : {t' : List ℕ} {n' : Counts} {next : Bor (List ℕ)} {line : Line Rows Refusal} → Takes t' n line (Ok (n', next)) → 1537 - line_of n' < 1537 - line_of n
  reading_less s = omega (arith, few, s.held.1)

  module _ {b : ℕ} {after : List ℕ} (f : IsFirstAndRest rest b after) where
    pub reading_goes_on : {t' : List ℕ} {n' : Counts} {next : Bor (List ℕ)} → length t' ≡ length t → Takes t' n (sheet_line (rows_of t n) b after) (Ok (n', next)) → Reading text t₀ t' next.now n'
    reading_goes_on e s = record {
      same = e ∙ r.same;
      room = omega (arith, r.room, e);
      held = s.held.0;
      left = goes_on r.left f (sym s.answer);
    }

    pub reading_stops : {t' : List ℕ} {why : Refusal} → Takes t' n (sheet_line (rows_of t n) b after) (Err why) → refused why ≡ sheet text
    reading_stops s = stops_at r.left f (sym s.answer)
