-- `complex::squares::squares_below` meets its contract: the squares cut off at T's last place decide (`Decide`, `by_cut_squares`).
-- Assumes nothing.
use Rattle.std.proofs.Common.{◌+◌, ◌%◌, ◌^◌, ltb, sym, ◌∙◌, arith}
use Rattle.complex.specs.Parts.{magnitude_of_bits}
use Rattle.complex.proofs.Decide.{t_squared, cut_fits, by_cut_squares}
use Rattle.complex.proofs.squares.squares_below.Goals as goal

pub overflow_add-sum : goal.overflow_add-sum
overflow_add-sum c =
    let p = c.part_of in
    let q = c.part_of-2 in
    omega (arith, cut_fits _ p.result p.ensures, cut_fits _ q.result q.ensures, c.cut_square-sum.ensures, c.cut_square-sum-2.ensures)

pub returns : goal.returns
returns c = λ re im.
    let p = c.part_of in
    let q = c.part_of-2 in
    (λ i. ltb (c.cut_square-sum.ensures i + c.cut_square-sum-2.ensures i) (t_squared i))
    ∙ sym (by_cut_squares (magnitude_of_bits (c.args.re % 2 ^ 63)) (magnitude_of_bits (c.args.im % 2 ^ 63)) p.result q.result p.ensures q.ensures re im)
