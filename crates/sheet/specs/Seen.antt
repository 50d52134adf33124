-- What the readers of fields answer, as what is read of a list of bytes. Only connecting.
use Rattle.std.specs.Prelude.{ℕ, Option, Some, None, ◌<◌, List}
use Rattle.std.specs.Borrow.{Bor}
use Rattle.complex.specs.declared.Complex.{Complex}
use Rattle.complex.specs.Bits.{double_of}
use Rattle.complex.specs.Constants.{of_parts}
use Rattle.text.specs.Reading.{Read, is, bad}
use Rattle.sheet.specs.declared.fields.Words.{Words}
use Rattle.sheet.specs.declared.fields.VariableFields.{VariableFields}
use Rattle.sheet.specs.declared.fields.CellFields.{CellFields}
use Rattle.sheet.specs.declared.fields.RowFields.{RowFields}
use Rattle.sheet.specs.Rows.{Variable, variable, Cell, cell, Row, row}
use Rattle.expression.specs.Codes.{operation_of}

abbrev pub number_of : Words → Complex
number_of w = of_parts w.re w.im

-- each with the bytes after it
abbrev pub seen_pair : Option (Words × Bor (List ℕ)) → Read Complex
seen_pair (Some (w, rest)) = is (number_of w) rest.now
seen_pair None = bad

abbrev pub seen_variable : Option (VariableFields × Bor (List ℕ)) → Read Variable
seen_variable (Some (v, rest)) = is (variable v.number (number_of v.value)) rest.now
seen_variable None = bad

abbrev pub seen_cell : Option (CellFields × Bor (List ℕ)) → Read Cell
seen_cell (Some (c, rest)) = is (cell c.region c.index (double_of c.real)) rest.now
seen_cell None = bad

abbrev pub seen_row : Option (RowFields × Bor (List ℕ)) → Read Row
seen_row (Some (r, rest)) = is (row (operation_of r.name) (number_of r.x) (number_of r.y) (number_of r.value)) rest.now
seen_row None = bad

-- numbers below their limits
abbrev pub small_cell : Option (CellFields × Bor (List ℕ)) → Type 0
small_cell (Some (c, rest)) = (c.region < 65536) × (c.index < 4294967296)
small_cell None = Unit {0}

abbrev pub small_row : Option (RowFields × Bor (List ℕ)) → Type 0
small_row (Some (r, rest)) = (0 < r.name) × (r.name < 6)
small_row None = Unit {0}
