-- Why a contract that is an equation determines the answer. Assumes nothing.
use Rattle.std.proofs.Common.{◌≡◌, sym, ◌∙◌}

-- two answers that `r ≡ definition` allows are equal
pub one_answer : {A : Type 0} {r s d : A} → r ≡ d → s ≡ d → r ≡ s
one_answer p q = p ∙ sym q
