-- `write_refusal` meets its contract. Assumes nothing.
use Rattle.console.proofs.Lines.{placed, lacks}
use borrow.Enum.Refused.{opened}
use Rattle.console.proofs.line.write_refusal.Goals as goal

pub returns-in_default : goal.returns-in_default
returns-in_default c = record { put = (placed c.args.why (opened c.in_default.in_default-own.keys2) c.number.ensures c.place.ensures (c.write_refused.ensures.put, c.write_refused.ensures.within)).0; within = (placed c.args.why (opened c.in_default.in_default-own.keys2) c.number.ensures c.place.ensures (c.write_refused.ensures.put, c.write_refused.ensures.within)).1 }

pub returns : goal.returns
returns c = record { put = (lacks c.in-Need.is (c.write_need.ensures.put, c.write_need.ensures.within)).0; within = (lacks c.in-Need.is (c.write_need.ensures.put, c.write_need.ensures.within)).1 }
