-- `digit_byte` meets its contract: by the digit. Assumes nothing.
use Rattle.std.proofs.Common.{◌≡◌, ℕ, ◌<◌, ◌≤◌, arith}
use Rattle.text.specs.Writing.{byte_of}
use Rattle.text.proofs.Putting.{not_yet}
use Rattle.text.proofs.writing.digit_byte.Goals as goal

-- what is left after the first fifteen
last_left : {d : ℕ} → d < 16 → (((((((((((((((Unit {0} × (d ≡ 0 → ⊥)) × (d ≡ 1 → ⊥)) × (d ≡ 2 → ⊥)) × (d ≡ 3 → ⊥)) × (d ≡ 4 → ⊥)) × (d ≡ 5 → ⊥)) × (d ≡ 6 → ⊥)) × (d ≡ 7 → ⊥)) × (d ≡ 8 → ⊥)) × (d ≡ 9 → ⊥)) × (d ≡ 10 → ⊥)) × (d ≡ 11 → ⊥)) × (d ≡ 12 → ⊥)) × (d ≡ 13 → ⊥)) × (d ≡ 14 → ⊥)) → d ≡ 15
last_left {d} h r = let l : 15 ≤ d = (not_yet (not_yet (not_yet (not_yet (not_yet (not_yet (not_yet (not_yet (not_yet (not_yet (not_yet (not_yet (not_yet (not_yet (not_yet (omega arith) r.0.0.0.0.0.0.0.0.0.0.0.0.0.0.1) r.0.0.0.0.0.0.0.0.0.0.0.0.0.1) r.0.0.0.0.0.0.0.0.0.0.0.0.1) r.0.0.0.0.0.0.0.0.0.0.0.1) r.0.0.0.0.0.0.0.0.0.0.1) r.0.0.0.0.0.0.0.0.0.1) r.0.0.0.0.0.0.0.0.1) r.0.0.0.0.0.0.0.1) r.0.0.0.0.0.0.1) r.0.0.0.0.0.1) r.0.0.0.0.1) r.0.0.0.1) r.0.0.1) r.0.1) r.1) in omega (arith, h, l)

pub returns-in-0 : goal.returns-in-0
unfolding byte_of
returns-in-0 c = rw c.in-0.is

pub returns-in-1 : goal.returns-in-1
unfolding byte_of
returns-in-1 c = rw c.in-1.is

pub returns-in-2 : goal.returns-in-2
unfolding byte_of
returns-in-2 c = rw c.in-2.is

pub returns-in-3 : goal.returns-in-3
unfolding byte_of
returns-in-3 c = rw c.in-3.is

pub returns-in-4 : goal.returns-in-4
unfolding byte_of
returns-in-4 c = rw c.in-4.is

pub returns-in-5 : goal.returns-in-5
unfolding byte_of
returns-in-5 c = rw c.in-5.is

pub returns-in-6 : goal.returns-in-6
unfolding byte_of
returns-in-6 c = rw c.in-6.is

pub returns-in-7 : goal.returns-in-7
unfolding byte_of
returns-in-7 c = rw c.in-7.is

pub returns-in-8 : goal.returns-in-8
unfolding byte_of
returns-in-8 c = rw c.in-8.is

pub returns-in-9 : goal.returns-in-9
unfolding byte_of
returns-in-9 c = rw c.in-9.is

pub returns-in-10 : goal.returns-in-10
unfolding byte_of
returns-in-10 c = rw c.in-10.is

pub returns-in-11 : goal.returns-in-11
unfolding byte_of
returns-in-11 c = rw c.in-11.is

pub returns-in-12 : goal.returns-in-12
unfolding byte_of
returns-in-12 c = rw c.in-12.is

pub returns-in-13 : goal.returns-in-13
unfolding byte_of
returns-in-13 c = rw c.in-13.is

pub returns-in-14 : goal.returns-in-14
unfolding byte_of
returns-in-14 c = rw c.in-14.is

pub returns-in_default : goal.returns-in_default
unfolding byte_of
returns-in_default c = rw (last_left c.requires c.in_default.in_default-own.rest)
