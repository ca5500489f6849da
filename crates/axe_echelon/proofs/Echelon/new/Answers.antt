use Rattle.std.proofs.Common.{ap, ap₂}
use Rattle.axe_echelon.specs.Echelons.{EchelonValue}
use Rattle.axe_echelon.specs.Steps.{echelon_of}
use Rattle.axe_echelon.proofs.InsertedRows.{steps_none}
use Rattle.axe_echelon.proofs.StepLaws.{echelon_of_steps}
use Rattle.axe_echelon.proofs.Echelon.new.Goals as goal

pub invariant_of-result : goal.invariant_of-result
invariant_of-result c =
    steps_none c.zero.result c.new.result.items c.new.ensures.items (ap (λ (e : EchelonValue). e.rows) c.zero.ensures.no_rows) c.zero.ensures.well_formed

pub returns-clause-no_rows : goal.returns-clause-no_rows
returns-clause-no_rows c = ap₂ echelon_of c.zero.ensures.no_rows c.new.ensures.items

pub returns-clause-well_formed : goal.returns-clause-well_formed
returns-clause-well_formed c =
    echelon_of_steps c.zero.result c.new.result.items
    (steps_none c.zero.result c.new.result.items c.new.ensures.items (ap (λ (e : EchelonValue). e.rows) c.zero.ensures.no_rows) c.zero.ensures.well_formed)
