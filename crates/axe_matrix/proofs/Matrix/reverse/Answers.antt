use Rattle.std.proofs.Common.{subst, sym}
use Rattle.axe_matrix.specs.RowLists.{MakeMatrix}
use Rattle.axe_matrix.proofs.ReversedRows.{MakeMatrix-reverse, reversed_of}
use Rattle.axe_matrix.proofs.Matrix.reverse.Goals as goal

pub invariant_of-self : goal.invariant_of-self
invariant_of-self c =
    subst (MakeMatrix c.self.inside.field c.self.inside.cols) (sym c.reverse.ensures.items)
    (MakeMatrix-reverse c.self.inside.field c.self.inside.cols c.self.inside.rows.items c.self.invariant)

pub returns-clause-reversed : goal.returns-clause-reversed
returns-clause-reversed c = reversed_of _ _ c.self.inside.rows.items _ _ c.self.view_is c.reverse.ensures.items

pub returns-clause-well_formed : goal.returns-clause-well_formed
returns-clause-well_formed c = (invariant_of-self c).matrix
