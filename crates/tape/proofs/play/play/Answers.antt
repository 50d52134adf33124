-- `play` meets its contract: after each step the player has the definition's stack. Assumes nothing.
use mathlib.Core.Path.{refl, sym, ap, ◌∙◌}
use lib.ListN.{get_or}
use Rattle.tape.specs.Run.{filler}
use native.Mathlib.Omega.{arith}
use Rattle.sheet.specs.Table.{seen_found}
use Rattle.tape.proofs.Ways.{seen_is}
use Rattle.tape.proofs.Stacks.{some_opcode, slot_is, player_left, player_stops, play_ends}
use Rattle.tape.proofs.Marking.{still_marking, lack_marked, end_marked}
use Rattle.tape.proofs.Standing.{stood_same, player_stands, played_begins, player_goes}
use Rattle.tape.proofs.play.play.Goals as goal

pub loop-i-init : goal.loop-i-init
loop-i-init c = played_begins _ _ _ _ c.requires refl

pub overflow_mul-i : goal.overflow_mul-i
overflow_mul-i c = omega (arith, c.loop-i-test.true, c.loop-i.invariant.left.long)

pub fields_at-f-requires : goal.fields_at-f-requires
fields_at-f-requires c = omega (arith, c.loop-i-test.true)

pub overflow_sub-slot : goal.overflow_sub-slot
overflow_sub-slot c = let t = slot_is c.loop-i.invariant.left c.loop-i-test.true c.fields_at-f.ensures refl c.taken.ensures.0 in omega (arith, t.enough, t.room)

pub above-next-requires : goal.above-next-requires
above-next-requires c = let t = slot_is c.loop-i.invariant.left c.loop-i-test.true c.fields_at-f.ensures refl c.taken.ensures.0 in omega (arith, t.enough, t.room)

pub offset_bounds-player-slot : goal.offset_bounds-player-slot
offset_bounds-player-slot c = let t = slot_is c.loop-i.invariant.left c.loop-i-test.true c.fields_at-f.ensures refl c.taken.ensures.0 in omega (arith, t.enough, t.room)

pub bounds-player-slot : goal.bounds-player-slot
bounds-player-slot c = let t = slot_is c.loop-i.invariant.left c.loop-i-test.true c.fields_at-f.ensures refl c.taken.ensures.0 in omega (arith, t.enough, t.room)

pub offset_bounds-player-next : goal.offset_bounds-player-next
offset_bounds-player-next c = let t = slot_is c.loop-i.invariant.left c.loop-i-test.true c.fields_at-f.ensures refl c.taken.ensures.0 in omega (arith, t.enough, t.room)

pub bounds-player-next : goal.bounds-player-next
bounds-player-next c = c.above-next.ensures.0

pub value_of-requires : goal.value_of-requires
value_of-requires c = some_opcode c.loop-i.invariant.left c.loop-i-test.true c.fields_at-f.ensures refl

pub lack-requires : goal.lack-requires
lack-requires c = some_opcode c.loop-i.invariant.left c.loop-i-test.true c.fields_at-f.ensures refl

pub returns-in_default : goal.returns-in_default
returns-in_default c = λ h. let m = sym (c.value_of.ensures h).value ∙ ap seen_found c.in_default.is in record { value = player_stops c.loop-i.invariant.left c.loop-i-test.true c.fields_at-f.ensures refl c.taken.ensures.0 _ _ (stood_same (c.loop-i.invariant.stood h)) _ (λ l. ap (λ k. get_or c.loop-i.player.stack k filler) (c.above-next.ensures.1 (omega (arith, l)))) (c.lack.ensures h m) m; marked = lack_marked c.loop-i.invariant.left c.loop-i-test.true c.fields_at-f.ensures refl c.taken.ensures.0 _ _ (stood_same (c.loop-i.invariant.stood h)) _ (λ l. ap (λ k. get_or c.loop-i.player.stack k filler) (c.above-next.ensures.1 (omega (arith, l)))) (c.lack.ensures h m) (c.loop-i.invariant.marking h) (c.value_of.ensures h).marked m }

pub offset_bounds-player-slot-in-loop-i : goal.offset_bounds-player-slot-in-loop-i
offset_bounds-player-slot-in-loop-i c = let t = slot_is c.loop-i.invariant.left c.loop-i-test.true c.fields_at-f.ensures refl c.taken.ensures.0 in omega (arith, t.enough, t.room)

pub bounds-player-slot-in-loop-i : goal.bounds-player-slot-in-loop-i
bounds-player-slot-in-loop-i c = let t = slot_is c.loop-i.invariant.left c.loop-i-test.true c.fields_at-f.ensures refl c.taken.ensures.0 in omega (arith, t.enough, t.room)

pub overflow_add-player : goal.overflow_add-player
overflow_add-player c = let t = slot_is c.loop-i.invariant.left c.loop-i-test.true c.fields_at-f.ensures refl c.taken.ensures.0 in omega (arith, t.enough, t.room)

pub loop-i-preserved : goal.loop-i-preserved
loop-i-preserved c = player_goes _ _ c.loop-i.invariant (player_left c.loop-i.invariant.left c.loop-i-test.true c.fields_at-f.ensures refl c.taken.ensures.0) (λ h. player_stands c.loop-i.invariant.left c.loop-i-test.true c.fields_at-f.ensures refl c.taken.ensures.0 _ _ (c.loop-i.invariant.stood h) _ (λ l. ap (λ k. get_or c.loop-i.player.stack k filler) (c.above-next.ensures.1 (omega (arith, l)))) (seen_is _ (ap seen_found (sym c.in-Some.is) ∙ (c.value_of.ensures h).value)) c.loop-i.invariant.long refl) λ h. still_marking c.loop-i.invariant.left c.loop-i-test.true c.fields_at-f.ensures refl c.taken.ensures.0 _ _ (stood_same (c.loop-i.invariant.stood h)) _ (λ l. ap (λ k. get_or c.loop-i.player.stack k filler) (c.above-next.ensures.1 (omega (arith, l)))) (seen_is _ (ap seen_found (sym c.in-Some.is) ∙ (c.value_of.ensures h).value)) (c.loop-i.invariant.marking h) (c.value_of.ensures h).marked c.loop-i.invariant.long refl

pub bounds-player-0 : goal.bounds-player-0
bounds-player-0 c = omega arith

pub returns : goal.returns
returns c = λ h. record { value = play_ends _ _ _ _ _ c.loop-i.invariant.left c.loop-i-test.false (stood_same (c.loop-i.invariant.stood h)) refl; marked = end_marked _ _ _ _ _ c.loop-i-test.false (c.loop-i.invariant.marking h) }
