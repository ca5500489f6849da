use Rattle.std.proofs.Common.{subst}
use Rattle.axe_lane.specs.Entries.{AreZerosFrom}
use Rattle.axe_iso.proofs.FollowLaws.{none_past, first_length, compared}
use Rattle.axe_iso.proofs.matching.follow_image.Goals as goal

pub vec_mul-requires-clause-fits : goal.vec_mul-requires-clause-fits
vec_mul-requires-clause-fits c =
    first_length c.args.coefficients.now c.in_ok-first.first c.args.basis.now.rows c.rows-2.result c.rows-2.ensures.count c.in_ok-first.ensures.part

pub returns-clause-follows : goal.returns-clause-follows
returns-clause-follows c =
    compared c.args.coefficients.now c.in_ok-first.first c.args.image c.in_ok-combination.combination c.args.basis.now c.rows-2.result c.rows-2.ensures.count
    c.in_ok-first.ensures.part c.in_ok-combination.ensures.product c.requires.image_field
    (subst (AreZerosFrom c.args.coefficients.now.entries) c.rows.ensures.count
    (none_past c.next_nonzero.result _ _ c.if-is_some.ensures c.next_nonzero.ensures))
    c.same.result c.same.ensures
