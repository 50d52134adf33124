-- `write_row` meets its contract: by the kind. Assumes nothing.
use mathlib.Core.Path.{refl}
use native.Mathlib.Omega.{arith}
use Rattle.writing.proofs.LineTexts.{row_short, number_short, pi_short, variable_short, cell_short, call_short, prefix_short, infix_short, short_room, prefix_room, infix_room, row_number, row_pi, row_variable, row_cell, row_call, row_prefix, row_infix, row_written}
use Rattle.writing.proofs.line.write_row.Goals as goal

pub write_number-requires : goal.write_number-requires
write_number-requires c = short_room _ _ (number_short _) c.requires

pub write_pi-requires : goal.write_pi-requires
write_pi-requires c = short_room _ _ pi_short c.requires

pub write_variable-requires : goal.write_variable-requires
write_variable-requires c = short_room _ _ (variable_short _ (omega arith)) c.requires

pub write_cell-requires : goal.write_cell-requires
write_cell-requires c = short_room _ _ (cell_short _ _ (omega arith) (omega arith)) c.requires

pub write_call-requires : goal.write_call-requires
write_call-requires c = short_room _ _ (call_short _ _ (omega arith)) c.requires

pub write_prefix-requires : goal.write_prefix-requires
write_prefix-requires c = prefix_room _ _ (omega arith) c.requires

pub write_infix-requires : goal.write_infix-requires
write_infix-requires c = infix_room _ _ _ (omega arith) (omega arith) c.requires

pub returns-in-1 : goal.returns-in-1
returns-in-1 c = record { put = (row_written _ _ (row_number _ _ c.in-1.is (rw (c.from_bits.ensures, c.from_bits-in-1.ensures) refl)) (number_short _) c.write_number.ensures).0; short = row_short _ (number_short _) c.write_number.ensures }

pub returns-in-2 : goal.returns-in-2
returns-in-2 c = record { put = (row_written _ _ (row_pi _ _ c.in-2.is) pi_short c.write_pi.ensures).0; short = row_short _ pi_short c.write_pi.ensures }

pub returns-in-3 : goal.returns-in-3
returns-in-3 c = record { put = (row_written _ _ (row_variable _ _ c.in-3.is) (variable_short _ (omega arith)) c.write_variable.ensures).0; short = row_short _ (variable_short _ (omega arith)) c.write_variable.ensures }

pub returns-in-4 : goal.returns-in-4
returns-in-4 c = record { put = (row_written _ _ (row_cell _ _ c.in-4.is) (cell_short _ _ (omega arith) (omega arith)) c.write_cell.ensures).0; short = row_short _ (cell_short _ _ (omega arith) (omega arith)) c.write_cell.ensures }

pub returns-in-5 : goal.returns-in-5
returns-in-5 c = record { put = (row_written _ _ (row_call _ _ c.in-5.is c.from_code.ensures c.link_at-left.ensures) (call_short _ _ (omega arith)) c.write_call.ensures).0; short = row_short _ (call_short _ _ (omega arith)) c.write_call.ensures }

pub returns-in-6 : goal.returns-in-6
returns-in-6 c = record { put = (row_written _ _ (row_prefix _ _ c.in-6.is refl c.link_at-left.ensures) (prefix_short _ _ (omega arith)) (c.write_prefix.ensures _ c.prefix_byte_of.ensures)).0; short = row_short _ (prefix_short _ _ (omega arith)) (c.write_prefix.ensures _ c.prefix_byte_of.ensures) }

pub returns-in_default : goal.returns-in_default
returns-in_default c = record { put = (row_written _ _ (row_infix _ _ c.in_default.in_default-own.rest refl c.link_at-left.ensures c.link_at-right.ensures) (infix_short _ _ _ (omega arith) (omega arith)) (c.write_infix.ensures _ c.infix_byte_of.ensures)).0; short = row_short _ (infix_short _ _ _ (omega arith) (omega arith)) (c.write_infix.ensures _ c.infix_byte_of.ensures) }
