use Rattle.axe_echelon.proofs.InsertedRows.{pivots_of_space}
use Rattle.axe_echelon.proofs.Echelon.is_pivot.Goals as goal

pub returns : goal.returns
returns c = rw (← c.self.view_is) (
  λ told. (pivots_of_space _ _ c.self.invariant c.args.column).0 (c.is_pivot.ensures.0 told),
  λ pivot. c.is_pivot.ensures.1 ((pivots_of_space _ _ c.self.invariant c.args.column).1 pivot),
)
