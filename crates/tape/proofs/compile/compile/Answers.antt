-- `compile` meets its contract: 14, 13, then the tape. Assumes nothing.
use native.Mathlib.Omega.{arith}
use Rattle.store.proofs.Stored.{read_size}
use Rattle.tape.proofs.Emitting.{compiles_long, compiles_short, compiles}
use Rattle.tape.proofs.compile.compile.Goals as goal

pub returns-then-size-gt512 : goal.returns-then-size-gt512
returns-then-size-gt512 c = λ h l. let z = read_size h _ l c.size_at-size.ensures in compiles_long _ _ (omega (arith, z, c.if-size-gt512.true))

pub overflow_mul-size : goal.overflow_mul-size
overflow_mul-size c = omega (arith, c.if-size-gt512.false)

pub returns-then-out-size : goal.returns-then-out-size
returns-then-out-size c = λ h l. let z = read_size h _ l c.size_at-size.ensures in compiles_short _ _ (omega (arith, z, c.if-size-gt512.false)) (omega (arith, z, c.if-out-size.true))

pub shape_of-out : goal.shape_of-out
shape_of-out c = c.emit.auto.out

pub returns : goal.returns
returns c = λ h l. let z = read_size h _ l c.size_at-size.ensures in compiles _ _ (omega (arith, z, c.if-size-gt512.false)) (omega (arith, z, c.if-out-size.false)) (c.emit.ensures _ h l l)
