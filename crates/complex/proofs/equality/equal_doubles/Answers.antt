-- `complex::equality::equal_doubles` meets its contract: the class numbers are compared. Assumes nothing.
use Rattle.std.proofs.Common.{T, eqb, sym, ◌∙◌, subst}
use Rattle.complex.proofs.Classes.{equal_is_same_class}
use Rattle.complex.proofs.equality.equal_doubles.Goals as goal

pub returns : goal.returns
returns c =
    (λ i. eqb (c.class_of.ensures i) (c.class_of-2.ensures i))
    ∙ sym (equal_is_same_class c.args.x c.args.y (subst T (sym c.well_formed.0.1) tt) (subst T (sym c.well_formed.1.0.1) tt))
