-- One line: each answer of the code is the definition's, and after a row more the table holds the rows. Assumes nothing.
use mathlib.Core.Path.{◌≡◌, refl, sym, ap, ◌∙◌}
use mathlib.Core.List.{List, [], ◌∷◌, ◌++◌}
use mathlib.Core.Bool.{Bool, true, false, ◌&&◌}
use Prim.Native.Nat.{ℕ, ◌+◌, ◌*◌, ◌≤◌, ◌<◌}
use native.Mathlib.Omega.{arith}
use native.Mathlib.Decide.{dec_lt}
use lib.ListN.{length, get_or}
use lib.Dec.{eqb}
use lib.Ieee.{Float}
use borrow.Author.Tests.{lt-ltb, le-ltb, ne_eqb}
use Rattle.std.specs.Prelude.{Result, Ok, Err}
use Rattle.std.specs.Borrow.{Bor}
use Rattle.complex.specs.declared.Complex.{Complex}
use Rattle.complex.specs.Bits.{double_of}
use Rattle.expression.specs.declared.refusal.Refusal.{Refusal}
use Rattle.text.specs.Reading.{Read, is, bad}
use Rattle.text.specs.Lines.{Line, goes, stops, none, above_last}
use Rattle.memory.specs.Keys.{up_to}
use Rattle.memory.proofs.Values.{length_up_to, up_to_alike, up_to_grown}
use Rattle.memory.proofs.Ascending.{ascends_same, ascends_more}
use Rattle.memory.specs.Layout.{table_words, cells_from}
use Rattle.sheet.specs.declared.fields.Words.{Words}
use Rattle.sheet.specs.declared.Counts.{Counts}
use Rattle.sheet.specs.Seen.{number_of}
use Rattle.sheet.specs.Rows.{variable, cell, row, Rows, rows, above_number, above_pair, line_number, formed, counted, variable_fields, cell_fields, row_fields, fields_after, variable_line, cell_line, function_line, sheet_line}
use Rattle.expression.specs.Codes.{operation_of}
use Rattle.sheet.specs.Table.{number_at, variable_at, cell_at, row_at, rows_of, line_of, number_key, pair_key, Held, Takes, with_variable, with_cell, Outside, Entered, above, variable_may, cell_may}
use Rattle.sheet.proofs.Ordering.{none_up_to, variables_above, cells_above, above_last_lem}
use Rattle.sheet.proofs.Seeking.{both}
use Rattle.sheet.proofs.Indexing.{indexed_same}
use Rattle.sheet.proofs.Placing.{same_variable, same_cell, same_cell_beyond, alike_beyond, same_row, same_comparable, variable_outside, variable_key, variable_there, cell_outside, cell_key, cell_there}

abbrev counts : ℕ → ℕ → ℕ → Counts
counts v m f = record { variables = v; cells = m; functions = f }

-- a line that is refused
pub refuses : {t : List ℕ} {n : Counts} {line : Line Rows Refusal} {why : Refusal} → stops why ≡ line → Takes t n line (Err why)
refuses e = record { answer = e; held = tt }

pub as_line : {t : List ℕ} {n : Counts} {line line' : Line Rows Refusal} {r : Result (Counts × Bor (List ℕ)) Refusal} → Takes t n line r → line ≡ line' → Takes t n line' r
as_line p e = record { answer = p.answer ∙ e; held = p.held }

module _ (t : List ℕ) (n : Counts) where
  pub line_number_lem : line_number (rows_of t n) ≡ line_of n
  line_number_lem = rw (length_up_to n.variables (variable_at t), length_up_to n.cells (cell_at t), length_up_to n.functions (row_at t))

-- ---- the count, the form and the order of a line, of any kind

module _ {A : Type 0} (s : Rows) (most i : ℕ) (before : List A) (may : A → Bool) (with : A → Rows) (line : ℕ) (here : line_number s ≡ line) (many : length before ≡ i) where
  pub too_many_lem : (fields : Read A) → most ≤ i → stops (Refusal.LongSheet line) ≡ counted s most before (formed s may with fields)
  unfolding counted
  too_many_lem fields h = rw (many, le-ltb i most h, here)

  malformed : (fields : Read A) → i < most → bad ≡ fields → stops (Refusal.BadSheet line) ≡ counted s most before (formed s may with fields)
  unfolding counted formed
  malformed fields h e = rw (sym e, many, lt-ltb i most h, here)

  misplaced : (fields : Read A) (x : A) (rest : List ℕ) → i < most → is x rest ≡ fields → false ≡ may x
      → stops (Refusal.BadSheet line) ≡ counted s most before (formed s may with fields)
  unfolding counted formed
  misplaced fields x rest h e f = rw (sym e, many, lt-ltb i most h, here, sym f)

  pub taken : (fields : Read A) (x : A) (rest : List ℕ) → i < most → is x rest ≡ fields → true ≡ may x
      → goes (with x) rest ≡ counted s most before (formed s may with fields)
  unfolding counted formed
  taken fields x rest h e f = rw (sym e, many, lt-ltb i most h, here, sym f)

-- ---- each kind: one too many, and malformed

module _ (t : List ℕ) (n : Counts) (line : ℕ) (here : line ≡ line_of n) (first : ℕ) (bs : List ℕ) where
  number_is : line_number (rows_of t n) ≡ line
  number_is = line_number_lem t n ∙ sym here

  pub variable_many : 256 ≤ n.variables → stops (Refusal.LongSheet line) ≡ variable_line (rows_of t n) first bs
  unfolding variable_line
  variable_many h = too_many_lem _ 256 n.variables _ _ _ line number_is (length_up_to n.variables (variable_at t)) _ h

  pub variable_malformed : n.variables < 256 → bad ≡ fields_after first bs variable_fields → stops (Refusal.BadSheet line) ≡ variable_line (rows_of t n) first bs
  unfolding variable_line
  variable_malformed h e = malformed _ 256 n.variables _ _ _ line number_is (length_up_to n.variables (variable_at t)) _ h e

  pub cell_many : 1024 ≤ n.cells → stops (Refusal.LongSheet line) ≡ cell_line (rows_of t n) first bs
  unfolding cell_line
  cell_many h = too_many_lem _ 1024 n.cells _ _ _ line number_is (length_up_to n.cells (cell_at t)) _ h

  pub cell_malformed : n.cells < 1024 → bad ≡ fields_after first bs cell_fields → stops (Refusal.BadSheet line) ≡ cell_line (rows_of t n) first bs
  unfolding cell_line
  cell_malformed h e = malformed _ 1024 n.cells _ _ _ line number_is (length_up_to n.cells (cell_at t)) _ h e

  pub row_many : 256 ≤ n.functions → stops (Refusal.LongSheet line) ≡ function_line (rows_of t n) first bs
  unfolding function_line
  row_many h = too_many_lem _ 256 n.functions _ _ _ line number_is (length_up_to n.functions (row_at t)) _ h

  pub row_malformed : n.functions < 256 → bad ≡ fields_after first bs row_fields → stops (Refusal.BadSheet line) ≡ function_line (rows_of t n) first bs
  unfolding function_line
  row_malformed h e = malformed _ 256 n.functions _ _ _ line number_is (length_up_to n.functions (row_at t)) _ h e

-- ---- the order of variables and cells, on the table's keys

module _ (t : List ℕ) (n : Counts) where
  pub variable_order : (k : ℕ) (z : Complex)
      → variable_may t n k ≡ none (up_to n.cells (cell_at t)) && (none (up_to n.functions (row_at t)) && above_last above_number (up_to n.variables (variable_at t)) (variable k z))
  variable_order k z =
      rw (none_up_to n.cells (cell_at t), none_up_to n.functions (row_at t), variables_above (λ j. get_or t (3 * j) 0) (λ j. number_at t (3 * j + 1)) n.variables k z)

  pub cell_order : (region index : ℕ) (r : Float) → index < 4294967296
      → cell_may t n (region * 4294967296 + index) ≡ none (up_to n.functions (row_at t)) && above_last above_pair (up_to n.cells (cell_at t)) (cell region index r)
  cell_order region index r h =
      rw (none_up_to n.functions (row_at t), cells_above (λ j. get_or t (2 * j + cells_from) 0) (λ j. double_of (get_or t (2 * j + cells_from + 1) 0)) n.cells region index r h)

module _ (t : List ℕ) (n : Counts) (line : ℕ) (here : line ≡ line_of n) (first : ℕ) (bs : List ℕ) where
  pub variable_misplaced : {k : ℕ} {z : Complex} {rest : List ℕ} → n.variables < 256 → is (variable k z) rest ≡ fields_after first bs variable_fields
      → false ≡ variable_may t n k → stops (Refusal.BadSheet line) ≡ variable_line (rows_of t n) first bs
  unfolding variable_line
  variable_misplaced {k} {z} {rest} few e f =
      misplaced _ 256 n.variables _ _ _ line (number_is t n line here first bs) (length_up_to n.variables (variable_at t)) _ _ rest few e (f ∙ variable_order t n k z)

  pub cell_misplaced : {region index : ℕ} {r : Float} {rest : List ℕ} → n.cells < 1024 → index < 4294967296 → is (cell region index r) rest ≡ fields_after first bs cell_fields
      → false ≡ cell_may t n (region * 4294967296 + index) → stops (Refusal.BadSheet line) ≡ cell_line (rows_of t n) first bs
  unfolding cell_line
  cell_misplaced {region} {index} {r} {rest} few small e f =
      misplaced _ 1024 n.cells _ _ _ line (number_is t n line here first bs) (length_up_to n.cells (cell_at t)) _ _ rest few e (f ∙ cell_order t n region index r small)

-- ---- a row more

module _ (t : List ℕ) (n : Counts) (h : Held t n) (room : table_words ≤ length t) (line : ℕ) (here : line ≡ line_of n) (first : ℕ) (bs : List ℕ) where
  module _ (k : ℕ) (w : Words) (rest : Bor (List ℕ)) (few : n.variables < 256) (e : is (variable k (number_of w)) rest.now ≡ fields_after first bs variable_fields) where
    module _ (f : true ≡ variable_may t n k) where
      changed : Outside t (with_variable t n.variables k w) (3 * n.variables) (3 * n.variables + 3)
      changed = variable_outside t n.variables k w

      variable_rows : rows_of (with_variable t n.variables k w) (counts (n.variables + 1) n.cells n.functions)
          ≡ rows (up_to n.variables (variable_at t) ++ (variable k (number_of w) ∷ [])) (up_to n.cells (cell_at t)) (up_to n.functions (row_at t))
      variable_rows =
          rw (
            up_to_grown n.variables (variable_at (with_variable t n.variables k w)) (variable_at t) (variable k (number_of w)) (λ j l. same_variable changed j (omega arith)) (variable_there t n.variables k w (omega arith)),
            up_to_alike n.cells (cell_at (with_variable t n.variables k w)) (cell_at t) (λ j l. same_cell_beyond changed j (omega arith)),
            up_to_alike n.functions (row_at (with_variable t n.variables k w)) (row_at t) (λ j l. same_row (alike_beyond changed j (omega arith))),
          )

      variable_held : Held (with_variable t n.variables k w) (counts (n.variables + 1) n.cells n.functions)
      variable_held = record {
        variables = omega arith;
        cells = h.cells;
        functions = h.functions;
        numbers = ascends_more _ _ n.variables k h.numbers (above_last_lem (number_key t) n.variables k (both (eqb n.functions 0) (above (number_key t) n.variables k) (both (eqb n.cells 0) _ (sym f)).1).1) (λ j l. changed.below (3 * j) (omega arith)) (variable_key t n.variables k w (omega arith));
        pairs = ascends_same _ _ n.cells h.pairs (λ j l. changed.beyond (2 * j + cells_from) (omega arith));
        operands = λ j l. same_comparable (alike_beyond changed j (omega arith)) (h.operands j l);
        index = indexed_same h.index λ i l. changed.beyond i (omega arith);
      }

      pub variable_taken : Takes (with_variable t n.variables k w) n (variable_line (rows_of t n) first bs) (Ok (counts (n.variables + 1) n.cells n.functions, rest))
      unfolding variable_line
      variable_taken = record {
        answer = ap (λ s. goes s rest.now) variable_rows ∙ taken _ 256 n.variables _ _ _ line (number_is t n line here first bs) (length_up_to n.variables (variable_at t)) _ _ rest.now few e (f ∙ variable_order t n k (number_of w));
        held = (variable_held, omega arith);
      }

  module _ (region index real : ℕ) (rest : Bor (List ℕ)) (few : n.cells < 1024) (small : index < 4294967296) (e : is (cell region index (double_of real)) rest.now ≡ fields_after first bs cell_fields) where
    module _ (f : true ≡ cell_may t n (region * 4294967296 + index)) where
      key : ℕ
      key = region * 4294967296 + index

      p : Outside t (with_cell t n.cells key real) (2 * n.cells + cells_from) (2 * n.cells + cells_from + 2)
      p = cell_outside t n.cells key real

      cell_rows : rows_of (with_cell t n.cells key real) (counts n.variables (n.cells + 1) n.functions)
          ≡ rows (up_to n.variables (variable_at t)) (up_to n.cells (cell_at t) ++ (cell region index (double_of real) ∷ [])) (up_to n.functions (row_at t))
      unfolding key
      cell_rows =
          rw (
            up_to_alike n.variables (variable_at (with_cell t n.cells key real)) (variable_at t) (λ j l. same_variable p j (omega (arith, h.variables))),
            up_to_grown n.cells (cell_at (with_cell t n.cells key real)) (cell_at t) (cell region index (double_of real)) (λ j l. same_cell p j (omega arith)) (cell_there t n.cells key real (omega arith) region index refl small),
            up_to_alike n.functions (row_at (with_cell t n.cells key real)) (row_at t) (λ j l. same_row (alike_beyond p j (omega arith))),
          )

      cell_held : Held (with_cell t n.cells key real) (counts n.variables (n.cells + 1) n.functions)
      unfolding key
      cell_held = record {
        variables = h.variables;
        cells = omega arith;
        functions = h.functions;
        numbers = ascends_same _ _ n.variables h.numbers (λ j l. p.below (3 * j) (omega (arith, h.variables)));
        pairs = ascends_more _ _ n.cells key h.pairs (above_last_lem (pair_key t) n.cells key (both (eqb n.functions 0) (above (pair_key t) n.cells key) (sym f)).1) (λ j l. p.below (2 * j + cells_from) (omega arith)) (cell_key t n.cells key real (omega arith));
        operands = λ j l. same_comparable (alike_beyond p j (omega arith)) (h.operands j l);
        index = indexed_same h.index λ i l. p.beyond i (omega arith);
      }

      pub cell_taken : Takes (with_cell t n.cells (region * 4294967296 + index) real) n (cell_line (rows_of t n) first bs) (Ok (counts n.variables (n.cells + 1) n.functions, rest))
      unfolding cell_line key
      cell_taken = record {
        answer = ap (λ s. goes s rest.now) cell_rows ∙ taken _ 1024 n.cells _ _ _ line (number_is t n line here first bs) (length_up_to n.cells (cell_at t)) _ _ rest.now few e (f ∙ cell_order t n region index (double_of real) small);
        held = (cell_held, omega arith);
      }

  module _ (k : ℕ) (x y z : Words) (rest : Bor (List ℕ)) (few : n.functions < 256)
      (e : is (row (operation_of k) (number_of x) (number_of y) (number_of z)) rest.now ≡ fields_after first bs row_fields)
      {t' : List ℕ} (q : Entered t t' n.functions k x y z) where
    row_rows : rows_of t' (counts n.variables n.cells (n.functions + 1))
        ≡ rows (up_to n.variables (variable_at t)) (up_to n.cells (cell_at t)) (up_to n.functions (row_at t) ++ (row (operation_of k) (number_of x) (number_of y) (number_of z) ∷ []))
    row_rows =
        rw (
          up_to_alike n.variables (variable_at t') (variable_at t) (λ j l. same_variable q.outside j (omega (arith, h.variables))),
          up_to_alike n.cells (cell_at t') (cell_at t) (λ j l. same_cell q.outside j (omega (arith, h.cells))),
          up_to_grown n.functions (row_at t') (row_at t) (row (operation_of k) (number_of x) (number_of y) (number_of z)) (λ j l. same_row (q.kept j l)) q.there,
        )

    row_held : Held t' (counts n.variables n.cells (n.functions + 1))
    row_held = record {
      variables = h.variables;
      cells = h.cells;
      functions = omega arith;
      numbers = ascends_same _ _ n.variables h.numbers (λ j l. q.outside.below (3 * j) (omega (arith, h.variables)));
      pairs = ascends_same _ _ n.cells h.pairs (λ j l. q.outside.below (2 * j + cells_from) (omega (arith, h.cells)));
      operands = λ j l. elim (dec_lt j n.functions) [
        | yes b ↦ same_comparable (q.kept j b) (h.operands j b)
        | no b ↦ let i : j ≡ n.functions = omega arith in rw i q.comparable
      ];
      index = q.indexed h.index;
    }

    pub row_taken : Takes t' n (function_line (rows_of t n) first bs) (Ok (counts n.variables n.cells (n.functions + 1), rest))
    unfolding function_line
    row_taken = record {
      answer = ap (λ s. goes s rest.now) row_rows ∙ taken _ 256 n.functions _ _ _ line (number_is t n line here first bs) (length_up_to n.functions (row_at t)) _ _ rest.now few e refl;
      held = (row_held, omega arith);
    }

-- ---- the first byte decides

module _ (s : Rows) (first : ℕ) (bs : List ℕ) where
  pub at_variable : first ≡ 118 → variable_line s 118 bs ≡ sheet_line s first bs
  unfolding sheet_line
  at_variable e = rw e

  pub at_cell : first ≡ 109 → cell_line s 109 bs ≡ sheet_line s first bs
  unfolding sheet_line
  at_cell e = rw e

  pub at_row : first ≡ 116 → function_line s 116 bs ≡ sheet_line s first bs
  unfolding sheet_line
  at_row e = rw e

pub at_other : (t : List ℕ) (n : Counts) (line : ℕ) → line ≡ line_of n → (first : ℕ) (bs : List ℕ) → (first ≡ 118 → ⊥) → (first ≡ 109 → ⊥) → (first ≡ 116 → ⊥)
    → stops (Refusal.BadSheet line) ≡ sheet_line (rows_of t n) first bs
unfolding sheet_line
at_other t n line here first bs a b c = rw (ne_eqb first 118 a, ne_eqb first 109 b, ne_eqb first 116 c, number_is t n line here first bs)
