-- `fields_fault` meets its contract. The invariant is `Fielding`; the measure is what is left of the form. Assumes nothing.
use Rattle.faults.specs.Faulting.{form_with}
use Rattle.faults.proofs.Telling.{Fielding}
use Rattle.faults.proofs.fields.fields_fault.Given as goal

abbrev pub invariant-loop-k : goal.invariant-loop-k
invariant-loop-k l = Fielding l.line (form_with l.origin l.form) l.rest l.k
