-- `write_named` meets its contract. Assumes nothing.
use native.Mathlib.Omega.{arith}
use Rattle.text.proofs.Putting.{put_length}
use Rattle.origins.proofs.Lengths.{line_short}
use Rattle.origins.proofs.Sentences.{named_put}
use Rattle.origins.proofs.standing.write_named.Goals as goal

pub write_decimal-requires : goal.write_decimal-requires
write_decimal-requires c = omega (arith, c.requires.0, c.requires.1, c.write_bytes-next.ensures.place, put_length c.write_bytes-next.ensures, line_short _ c.requires.0)

pub returns : goal.returns
returns c = named_put c.write_bytes-next.ensures c.write_decimal.ensures c.requires.0
