-- `put_number` meets its contract: the row is written whole; that z has doubles stands with the parameter. Assumes nothing.
use mathlib.Core.Path.{refl, sym, subst}
use lib.Dec.{T}
use Rattle.store.proofs.numbers.put_number.Goals as goal

pub returns : goal.returns
returns c = record { store_after = rw (c.put_row.ensures, c.to_bits.ensures, c.to_bits-2.ensures) refl; fitting = (let g = c.well_formed.1.1.0 in record { re = subst T (sym g.1.1.0.1) tt; im = subst T (sym g.1.1.1.0.1) tt }) }
