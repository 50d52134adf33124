-- `meet` meets its contract: by the code, the words and those of the key. Assumes nothing.
use Rattle.store.specs.Memory.{memory}
use Rattle.store.proofs.Walks.{meets_code, meets_own, other_first, other_second, meets_first, meets_second, meets_kin}
use Rattle.store.proofs.index.meet.Goals as goal
use Rattle.store.proofs.index.meet.Goals.{then-first-f+else-second-f, else-first-f}

pub returns-then-code_in-f : goal.returns-then-code_in-f
returns-then-code_in-f c = λ k. meets_code _ _ _ _ k _ _ c.code_in.ensures c.tag_at.ensures c.if-code_in-f.true

pub returns-then-second-f : goal.returns-then-second-f
returns-then-second-f c = λ k. meets_own _ _ _ _ k _ _ c.code_in.ensures c.tag_at.ensures c.if-code_in-f.false c.first_at-first.ensures c.second_at-second.ensures c.if-first-f.true c.if-second-f.true

pub returns-then-word_key-key : goal.returns-then-word_key-key
returns-then-word_key-key c = λ k. meets_first _ _ _ _ k _ _ c.code_in.ensures c.tag_at.ensures c.if-code_in-f.false c.first_at-first.ensures c.second_at-second.ensures c.word_key.ensures c.if-word_key-key.true

pub returns-then-word_key-key-2 : goal.returns-then-word_key-key-2
returns-then-word_key-key-2 c = λ k. meets_kin _ _ _ _ k _ _ c.code_in.ensures c.tag_at.ensures c.if-code_in-f.false c.first_at-first.ensures c.second_at-second.ensures c.word_key.ensures c.word_key-2.ensures c.if-word_key-key.false c.if-word_key-key-2.true (elim c.if-first-f.branch [ then-first-f+else-second-f w ↦ other_second (memory c.args.store.now) _ _ c.second_at-second.ensures w.if-second-f.false | else-first-f w ↦ other_first (memory c.args.store.now) _ _ c.first_at-first.ensures w.if-first-f.false ])

pub returns : goal.returns
returns c = λ k. meets_second _ _ _ _ k _ _ c.code_in.ensures c.tag_at.ensures c.if-code_in-f.false c.first_at-first.ensures c.second_at-second.ensures c.word_key.ensures c.word_key-2.ensures c.if-word_key-key-2.false
