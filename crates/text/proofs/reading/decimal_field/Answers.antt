-- `decimal_field` meets its contract. Assumes nothing.
use Rattle.text.proofs.Fields.{ends}
use Rattle.text.proofs.reading.decimal_field.Goals as goal

pub returns : goal.returns
returns c = ends _ c.end_field.ensures c.read_decimal.ensures
