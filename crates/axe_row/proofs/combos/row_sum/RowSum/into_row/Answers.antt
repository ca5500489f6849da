use Rattle.std.proofs.Common.{refl, ◌∙◌}
use Rattle.axe_row.proofs.KeptPlanes.{alone_is_prime}
use Rattle.axe_row.proofs.SumRows.{own_plane, row_of_plane}
use Rattle.axe_row.proofs.combos.row_sum.RowSum.into_row.Goals as goal

pub of_plane-requires-clause-prime : goal.of_plane-requires-clause-prime
of_plane-requires-clause-prime c = alone_is_prime _ _ _ _ c.self.invariant refl

pub of_plane-requires-clause-plane : goal.of_plane-requires-clause-plane
of_plane-requires-clause-plane c = own_plane _ _ _ c.self.invariant c.self.view_is _ c.into_plane-plane.ensures

pub returns-clause-value : goal.returns-clause-value
returns-clause-value c =
    c.of_plane.ensures.entries ∙ row_of_plane _ _ _ c.self.invariant c.self.view_is _ c.into_plane-plane.ensures
