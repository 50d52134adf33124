-- Whether two steps' fields are the same, field by field. Only connecting.
use Rattle.std.specs.Prelude.{Bool, ◌&&◌, eqb}
use Rattle.steps.specs.declared.Fields.{Fields}

unfoldable pub same : (f g : Fields) → Bool
same f g =
    eqb f.opcode g.opcode
    && (eqb f.sub g.sub && (eqb f.half g.half && (eqb f.word g.word && (eqb f.re g.re && eqb f.im g.im))))
