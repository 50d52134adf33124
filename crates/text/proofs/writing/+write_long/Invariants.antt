-- `write_long` meets its contract: each return is a law of proofs/Putting. The measure is the number. Assumes nothing.
use Rattle.text.proofs.writing.+write_long.Given as goal

abbrev pub decreases-write_long : goal.decreases-write_long
decreases-write_long l = l.n
