use Rattle.std.proofs.Common.{refl, arith}
use Rattle.axe_echelon.proofs.NullSpacePoints.{small_of_zeros, first_of_zeros}
use Rattle.axe_echelon.proofs.first_points.points_of_zeros.Goals as goal

pub returns-then-rows-most : goal.returns-then-rows-most
returns-then-rows-most c =
    small_of_zeros c.args.matrix.now c.in_ok-identity.field-0 _ _ c.args.most c.requires.some_row (omega (arith, c.field.ensures.well_formed.rows_fit))
    c.requires.zeros c.field.ensures.order c.rows-rows.ensures.count (omega arith) c.in_ok-identity.ensures.identity c.in_ok-identity.ensures.well_formed

pub returns : goal.returns
returns c =
    first_of_zeros c.args.matrix.now _ _ _ c.args.most c.in_ok-unit.field-0 c.requires.some_row (omega (arith, c.field.ensures.well_formed.rows_fit))
    c.requires.zeros c.field.ensures.order c.rows-rows.ensures.count (omega arith) refl c.in_ok-unit.ensures.unit c.in_ok-unit.ensures.well_formed
