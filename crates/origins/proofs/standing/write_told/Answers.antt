-- `write_told` meets its contract. Assumes nothing.
use Rattle.text.proofs.Fields.{told_low}
use Rattle.origins.proofs.Sentences.{says_nothing, says}
use Rattle.origins.proofs.standing.write_told.Goals as goal

pub returns-in_default : goal.returns-in_default
returns-in_default c = says_nothing _ c.read_decimal.ensures c.in_default.is

pub write_stands-requires : goal.write_stands-requires
write_stands-requires c = (told_low _ _ c.read_decimal.ensures c.in-Some.is, c.requires.0, c.requires.1)

pub returns : goal.returns
returns c = says _ c.read_decimal.ensures c.in-Some.is c.requires.0 c.write_stands.ensures
