-- `judge` meets its contract: limit by limit. Assumes nothing.
use mathlib.Core.Path.{refl}
use borrow.Author.Tests.{lt-ltb, le-ltb}
use Rattle.store.specs.Held.{judged}
use Rattle.store.proofs.judge.Goals as goal

pub returns-then-size-gt-LARGEST : goal.returns-then-size-gt-LARGEST
unfolding judged
returns-then-size-gt-LARGEST c = rw (lt-ltb _ _ c.if-size-gt-LARGEST.true) (refl, c.refuse.ensures)

pub returns-then-depth-gt-DEEPEST : goal.returns-then-depth-gt-DEEPEST
unfolding judged
returns-then-depth-gt-DEEPEST c = rw (le-ltb _ _ c.if-size-gt-LARGEST.false, lt-ltb _ _ c.if-depth-gt-DEEPEST.true) (refl, c.refuse-then-depth-gt-DEEPEST.ensures)

pub returns-then-not-has_room : goal.returns-then-not-has_room
unfolding judged
returns-then-not-has_room c = rw (le-ltb _ _ c.if-size-gt-LARGEST.false, le-ltb _ _ c.if-depth-gt-DEEPEST.false, c.if-not-has_room.true) (refl, c.refuse-then-not-has_room.ensures)

pub returns : goal.returns
unfolding judged
returns c = rw (le-ltb _ _ c.if-size-gt-LARGEST.false, le-ltb _ _ c.if-depth-gt-DEEPEST.false, c.if-not-has_room.false) (refl, refl)
