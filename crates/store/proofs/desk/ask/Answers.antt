-- `ask` meets its contract: each word is what was asked for. Assumes nothing.
use mathlib.Core.Path.{sym, subst}
use lib.Dec.{T}
use Rattle.store.proofs.Asking.{asked}
use Rattle.store.proofs.desk.ask.Goals as goal

pub returns : goal.returns
returns c = let x = c.well_formed.1.1.0 in
    let y = c.well_formed.1.1.1.0 in
    rw (c.from.ensures, c.to_bits.ensures, c.to_bits-2.ensures, c.to_bits-3.ensures, c.to_bits-4.ensures)
    (asked _ _ _ _ (record { re = subst T (sym x.1.1.0.1) tt; im = subst T (sym x.1.1.1.0.1) tt }) (record { re = subst T (sym y.1.1.0.1) tt; im = subst T (sym y.1.1.1.0.1) tt }))
