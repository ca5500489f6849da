use Rattle.std.proofs.Common.{◌≡◌, length, arith}
use Rattle.axe_echelon.proofs.NullSpacePoints.{whole_where_all}
use Rattle.axe_echelon.proofs.first_points.points_orthogonal_to.Goals as goal

pub unreachable-requires : goal.unreachable-requires
unreachable-requires c =
    let whole : length c.args.space.now.rows ≡ c.args.space.now.cols =
    whole_where_all c.args.space.now c.cols.ensures.well_formed c.in_default.ensures in
    omega (arith, c.cols.ensures.count, c.dim.ensures.count)
