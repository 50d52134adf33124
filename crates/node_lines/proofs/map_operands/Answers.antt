-- `map_operands` meets its contract. Assumes nothing.
use mathlib.Core.Path.{ap, ◌∙◌}
use Rattle.expression.specs.Nodes.{with_operands, mapped_to}
use Rattle.node_lines.proofs.map_operands.Goals as goal

pub returns-in-Nothing : goal.returns-in-Nothing
unfolding mapped_to
returns-in-Nothing g c = λ given h. ap (mapped_to given c.args.e) c.in-Nothing.ensures

pub returns-in-One : goal.returns-in-One
unfolding mapped_to
returns-in-One g c = λ given h. c.with_operands.ensures ∙ ap (with_operands c.args.e 0) (h c.in-One.a c.look.result c.look.ensures) ∙ ap (mapped_to given c.args.e) c.in-One.ensures

pub returns : goal.returns
unfolding mapped_to
returns g c = λ given h.
    c.with_operands-in-Two.ensures
    ∙ (λ i. with_operands c.args.e (h c.in-Two.a c.look-in-Two.result c.look-in-Two.ensures i) (h c.in-Two.b c.look-in-Two-2.result c.look-in-Two-2.ensures i))
    ∙ ap (mapped_to given c.args.e) c.in-Two.ensures
