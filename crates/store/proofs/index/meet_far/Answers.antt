-- `meet_far` meets its contract: by the code, the words of the key and those of the node. Assumes nothing.
use Rattle.store.specs.Memory.{memory}
use Rattle.store.proofs.Walks.{meets_code, meets_own, other_first, other_second, meets_first, meets_second, meets_kin}
use Rattle.store.proofs.index.meet_far.Goals as goal

pub returns-then-code_in-f : goal.returns-then-code_in-f
returns-then-code_in-f c = λ k. meets_code _ _ _ _ k _ _ c.code_in.ensures c.tag_at.ensures c.if-code_in-f.true

pub returns-then-word_key-key : goal.returns-then-word_key-key
returns-then-word_key-key c = λ k. meets_first _ _ _ _ k _ _ c.code_in.ensures c.tag_at.ensures c.if-code_in-f.false c.first_at-first.ensures c.second_at-second.ensures c.word_key.ensures c.if-word_key-key.true

pub returns-then-word_key-key-2 : goal.returns-then-word_key-key-2
returns-then-word_key-key-2 c = λ k. meets_second _ _ _ _ k _ _ c.code_in.ensures c.tag_at.ensures c.if-code_in-f.false c.first_at-first.ensures c.second_at-second.ensures c.word_key.ensures c.word_key-2.ensures c.if-word_key-key-2.true

pub returns-then-first-f : goal.returns-then-first-f
returns-then-first-f c = λ k. meets_kin _ _ _ _ k _ _ c.code_in.ensures c.tag_at.ensures c.if-code_in-f.false c.first_at-first.ensures c.second_at-second.ensures c.word_key.ensures c.word_key-2.ensures c.if-word_key-key.false c.if-word_key-key-2.false (other_first (memory c.args.store.now) _ _ c.first_at-first.ensures c.if-first-f.true)

pub returns-then-second-f : goal.returns-then-second-f
returns-then-second-f c = λ k. meets_kin _ _ _ _ k _ _ c.code_in.ensures c.tag_at.ensures c.if-code_in-f.false c.first_at-first.ensures c.second_at-second.ensures c.word_key.ensures c.word_key-2.ensures c.if-word_key-key.false c.if-word_key-key-2.false (other_second (memory c.args.store.now) _ _ c.second_at-second.ensures c.if-second-f.true)

pub returns : goal.returns
returns c = λ k. meets_own _ _ _ _ k _ _ c.code_in.ensures c.tag_at.ensures c.if-code_in-f.false c.first_at-first.ensures c.second_at-second.ensures c.if-first-f.false c.if-second-f.false
