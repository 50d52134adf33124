-- `prefix_byte` meets its contract: each operator has a name of one byte. Assumes nothing.
use Rattle.spelling.proofs.prefix_byte.Goals as goal

pub returns-in-Plus : goal.returns-in-Plus
returns-in-Plus c = rw c.in-Plus.is

pub returns-in-Minus : goal.returns-in-Minus
returns-in-Minus c = rw c.in-Minus.is
