use Rattle.std.proofs.Common.{subst}
use Rattle.axe_echelon.specs.OrthogonalPoints.{IsOrthogonalPoint}
use Rattle.axe_echelon.proofs.InverseLaws.{matrix_over}
use Rattle.axe_norton.proofs.SearchLaws.{orthogonal_point_is, some_orthogonal_point}
use Rattle.axe_norton.proofs.spaces.transposed_point.Goals as goal

pub unreachable-requires : goal.unreachable-requires
unreachable-requires c =
    some_orthogonal_point c.args.rows.now (matrix_over c.args.rows.now c.cols.ensures.well_formed) c.requires
    (subst (IsOrthogonalPoint c.args.rows.now) c.in-None.is c.in_ok-point.ensures)

pub returns : goal.returns
returns c =
    orthogonal_point_is c.args.rows.now (matrix_over c.args.rows.now c.cols.ensures.well_formed) c.requires c.in-Some.point
    (subst (IsOrthogonalPoint c.args.rows.now) c.in-Some.is c.in_ok-point.ensures)
