-- `fields_of` meets its contract: by the kind of the node. That its leaf is sound stands with the variant. Assumes nothing.
use mathlib.Core.Path.{refl, sym, subst}
use native.Mathlib.Omega.{arith}
use lib.Dec.{T}
use Rattle.store.proofs.node.fields_of.Goals as goal

pub returns-in-Number : goal.returns-in-Number
returns-in-Number c = let g = c.in-Number.known_told-1-own.given.0 in
    record { value = rw (c.new.ensures, c.in-Number.is, ← c.to_bits.ensures, ← c.to_bits-in-Number.ensures) refl; sound = rw c.in-Number.is (record { re = subst T (sym g.1.1.0.1) tt; im = subst T (sym g.1.1.1.0.1) tt }) }

pub returns-in-PiConstant : goal.returns-in-PiConstant
returns-in-PiConstant c = record { value = rw (c.new-in-PiConstant.ensures, c.in-PiConstant.is) refl; sound = rw c.in-PiConstant.is tt }

pub returns-in-Variable : goal.returns-in-Variable
returns-in-Variable c = record { value = rw (c.new-in-Variable.ensures, c.in-Variable.is) refl; sound = rw c.in-Variable.is (omega (arith, c.in-Variable.known_told-in-Variable-1-own.given.0)) }

pub returns-in-Address : goal.returns-in-Address
returns-in-Address c = record { value = rw (c.new-in-Address.ensures, c.in-Address.is) refl; sound = rw c.in-Address.is (omega (arith, c.in-Address.known_told-in-Address-1-own.given.0), omega (arith, c.in-Address.known_told-in-Address-1-own.given.1.0)) }

pub returns-in-FunctionCall : goal.returns-in-FunctionCall
returns-in-FunctionCall c = record { value = rw (c.new-in-FunctionCall.ensures, c.in-FunctionCall.is, ← c.from.ensures, ← c.code_of.ensures) refl; sound = rw c.in-FunctionCall.is tt }

pub returns-in-Prefix : goal.returns-in-Prefix
returns-in-Prefix c = record { value = rw (c.new-in-Prefix.ensures, c.in-Prefix.is, ← c.from-in-Prefix.ensures, ← c.code_of-in-Prefix.ensures) refl; sound = rw c.in-Prefix.is tt }

pub returns-in-Infix : goal.returns-in-Infix
returns-in-Infix c = record { value = rw (c.new-in-Infix.ensures, c.in-Infix.is, ← c.from-in-Infix.ensures, ← c.code_of-in-Infix.ensures) refl; sound = rw c.in-Infix.is tt }
