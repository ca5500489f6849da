use Rattle.axe_echelon.proofs.PivotLaws.{pivot_if_marked, marked_if_pivot}
use Rattle.axe_echelon.proofs.subspace.Subspace.is_pivot.Goals as goal

pub returns : goal.returns
returns c = rw (← c.self.view_is) (
  λ told. pivot_if_marked _ _ _ _ _ c.self.invariant (c.is_pivot.ensures.0 told),
  λ pivot. c.is_pivot.ensures.1 (marked_if_pivot _ _ _ _ _ c.self.invariant pivot),
)
