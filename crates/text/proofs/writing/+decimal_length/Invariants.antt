-- `decimal_length` meets its contract, by the equations of `in_decimal`. The measure is the number. Assumes nothing.
use Rattle.text.proofs.writing.+decimal_length.Given as goal

abbrev pub decreases-decimal_length : goal.decreases-decimal_length
decreases-decimal_length l = l.n
