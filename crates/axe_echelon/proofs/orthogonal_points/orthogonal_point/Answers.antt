use Rattle.std.proofs.Common.{◌≡◌, ◌-◌, sym, ◌∙◌, arith}
use Rattle.axe_matrix.proofs.OnlyZeros.{all_rows_of_zeros}
use Rattle.axe_echelon.proofs.OrthogonalPoints.{point_is, no_point}
use Rattle.axe_echelon.proofs.ZeroMatrices.{point_of_zeros}
use Rattle.axe_echelon.proofs.orthogonal_points.orthogonal_point.Goals as goal

pub orthogonal_vector-requires-clause-within : goal.orthogonal_vector-requires-clause-within
orthogonal_vector-requires-clause-within c = omega (arith, c.in-Some.ensures.within)

pub orthogonal_vector-requires-clause-no_pivot : goal.orthogonal_vector-requires-clause-no_pivot
orthogonal_vector-requires-clause-no_pivot c = c.in-Some.ensures.no_pivot

pub returns-in-Some : goal.returns-in-Some
returns-in-Some c =
    point_is c.args.rows.now c.in_ok-mirrored_matrix.field-0 c.in_ok-space.space c.in_ok-mirrored_matrix.ensures.well_formed
    c.in_ok-mirrored_matrix.ensures.mirrored c.in_ok-space.ensures c.in-Some.column c.in_ok-orthogonal_vector-in-Some.field-0
    c.in-Some.ensures c.in_ok-orthogonal_vector-in-Some.ensures

pub returns : goal.returns
returns c =
    no_point c.args.rows.now c.in_ok-mirrored_matrix.field-0 c.in_ok-space.space c.in_ok-mirrored_matrix.ensures.well_formed
    c.in_ok-mirrored_matrix.ensures.mirrored c.in_ok-space.ensures c.in-None.ensures

pub returns-then-has_only_zeros : goal.returns-then-has_only_zeros
returns-then-has_only_zeros c =
    let last : c.cols-then-has_only_zeros.result - 1 ≡ c.args.rows.now.cols - 1 = omega (arith, c.cols-then-has_only_zeros.ensures.count) in
    point_of_zeros c.args.rows.now _ _ _ c.in_ok-point.point c.cols.ensures.well_formed (all_rows_of_zeros c.args.rows.now.rows (sym c.has_only_zeros.ensures ∙ c.if-has_only_zeros.true)) c.field.ensures.order
    c.cols.ensures.count last c.in_ok-point.ensures.unit
