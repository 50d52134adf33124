-- `which` meets its contract: by what is sound. Assumes nothing.
use Rattle.tape.proofs.Checking.{so, pick_second, pick_neither, pick_shorter, pick_only, pick_first}
use Rattle.tape.proofs.which.Goals as goal

pub returns-then-is_sound : goal.returns-then-is_sound
returns-then-is_sound c = pick_second _ _ _ _ (so c.is_sound.ensures c.if-not-is_sound.true) (so c.is_sound-then-not-is_sound.ensures c.if-is_sound.true)

pub returns-then-not-is_sound : goal.returns-then-not-is_sound
returns-then-not-is_sound c = pick_neither _ _ _ _ (so c.is_sound.ensures c.if-not-is_sound.true) (so c.is_sound-then-not-is_sound.ensures c.if-is_sound.false)

pub returns-then-is_sound-2 : goal.returns-then-is_sound-2
returns-then-is_sound-2 c = pick_shorter _ _ _ _ (so c.is_sound.ensures c.if-not-is_sound.false) c.if-b-a.true (so c.is_sound-then-b-a.ensures c.if-is_sound-2.true)

pub returns-else-is_sound-2 : goal.returns-else-is_sound-2
returns-else-is_sound-2 c = pick_only _ _ _ _ (so c.is_sound.ensures c.if-not-is_sound.false) (so c.is_sound-then-b-a.ensures c.if-is_sound-2.false)

pub returns-else-b-a : goal.returns-else-b-a
returns-else-b-a c = pick_first _ _ _ _ (so c.is_sound.ensures c.if-not-is_sound.false) c.if-b-a.false
