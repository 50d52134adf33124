-- `put_refusal` meets its contract. Assumes nothing.
use Rattle.exports.proofs.Answers.{placed, lacks}
use borrow.Enum.Refused.{opened}
use Rattle.exports.proofs.answer.put_refusal.Goals as goal

pub returns-in_default : goal.returns-in_default
returns-in_default c = placed c.args.why (opened c.in_default.in_default-own.keys2) c.number.ensures c.place.ensures c.put_words.ensures

pub returns : goal.returns
returns c = lacks c.in-Need.is c.number-2.ensures c.from.ensures c.to_bits.ensures c.to_bits-2.ensures c.to_bits-3.ensures c.to_bits-4.ensures c.put_words-2.ensures
