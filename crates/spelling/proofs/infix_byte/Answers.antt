-- `infix_byte` meets its contract: each operator has a name of one byte. Assumes nothing.
use Rattle.spelling.proofs.infix_byte.Goals as goal

pub returns-in-Plus : goal.returns-in-Plus
returns-in-Plus c = rw c.in-Plus.is

pub returns-in-Minus : goal.returns-in-Minus
returns-in-Minus c = rw c.in-Minus.is

pub returns-in-Star : goal.returns-in-Star
returns-in-Star c = rw c.in-Star.is

pub returns-in-Slash : goal.returns-in-Slash
returns-in-Slash c = rw c.in-Slash.is

pub returns-in-Caret : goal.returns-in-Caret
returns-in-Caret c = rw c.in-Caret.is
