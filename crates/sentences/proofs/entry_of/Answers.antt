-- `entry_of` meets its contract. Assumes nothing.
use Rattle.sentences.proofs.Entries.{entry_plain, entry_fault, entry_missing, entry_sheet}
use Rattle.sentences.proofs.entry_of.Goals as goal

pub returns-in-Plain : goal.returns-in-Plain
returns-in-Plain c = entry_plain c.args.why c.in-Plain.is c.plain_line.ensures c.place.ensures c.from_one.ensures

pub returns-in-Fault : goal.returns-in-Fault
returns-in-Fault c = entry_fault c.args.why c.in-Fault.is c.number.ensures c.fault_line.ensures c.place-in-Fault.ensures c.from_one-in-Fault.ensures

pub returns-in-Missing : goal.returns-in-Missing
returns-in-Missing c = entry_missing c.args.why c.in-Missing.is c.missing_entry.ensures

pub returns-in-Sheet : goal.returns-in-Sheet
returns-in-Sheet c = entry_sheet c.args.why c.in-Sheet.is c.place-in-Sheet.ensures c.from_one-in-Sheet.ensures
