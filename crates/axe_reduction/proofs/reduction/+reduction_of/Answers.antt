use Rattle.std.proofs.Common.{arith, ◌≡◌, ◌<◌, ap, ◌∙◌, subst, length, ◌-◌, ◌/◌}
use Rattle.axe_reduction.specs.Augmented.{AugmentedValue}
use Rattle.axe_reduction.specs.Reductions.{cleared, IsReductionOf}
use Rattle.axe_reduction.proofs.ClearLaws.{length-some, length-some_cleared, both_fit}
use Rattle.axe_reduction.proofs.Exits.{answers_more}
use Rattle.axe_reduction.proofs.ReductionLaws.{join_reduces}
use Rattle.axe_reduction.proofs.reduction.+reduction_of.Goals as goal

pub reduction_of-requires : goal.reduction_of-requires
reduction_of-requires t c =
    let count : length c.in_ok-first.first.rows ≡ c.rows-half.result / 2 =
    length-some c.args.rows c.in_ok-first.first 0 _ c.in_ok-first.ensures.first in
    let falls : length c.in_ok-first.first.rows < t =
    omega (
      arith,
      count,
      c.if-rows-le-FEW_ROWS.false,
      c.rows.ensures.count,
      c.rows-half.ensures.count,
      c.requires,
      c.decreases,
    ) in
    (falls, omega (arith, count, c.if-rows-le-FEW_ROWS.false, c.rows.ensures.count, c.rows-half.ensures.count, c.requires))

pub reduction_of-requires-2 : goal.reduction_of-requires-2
reduction_of-requires-2 t c =
    let count : length c.in_ok-second.second.rows ≡ length c.args.rows.rows - c.rows-half.result / 2 =
    length-some_cleared c.in_ok-first-2.first.pivots.items c.in_ok-first-2.first.reduced c.args.rows
    c.in_ok-first.second c.in_ok-second.second _ _ c.in_ok-first.ensures.after c.in_ok-second.ensures.cleared in
    let falls : length c.in_ok-second.second.rows < t =
    omega (
      arith,
      count,
      c.if-rows-le-FEW_ROWS.false,
      c.rows.ensures.count,
      c.rows-half.ensures.count,
      c.requires,
      c.decreases,
    ) in (
      falls,
      omega (
        arith,
        count,
        c.if-rows-le-FEW_ROWS.false,
        c.rows.ensures.count,
        c.rows-half.ensures.count,
        c.requires,
      ),
    )

pub join-requires-clause-room : goal.join-requires-clause-room
join-requires-clause-room t c =
    (both_fit _ (c.rows-half.result / 2) (length c.args.rows.rows - c.rows-half.result / 2) _ _ _ _ c.in_ok-first-2.first.pivots.items
    c.in_ok-first-2.first.reduced _ _ _ _
    (omega (arith, c.rows-half.ensures.count, c.rows.ensures.well_formed.rows_fit))
    c.in_ok-first.ensures.first c.in_ok-first.ensures.after c.in_ok-second.ensures.cleared c.in_ok-first-2.ensures.count
    c.in_ok-second-2.ensures.count).0

pub join-requires-clause-rest_room : goal.join-requires-clause-rest_room
join-requires-clause-rest_room t c =
    (both_fit _ (c.rows-half.result / 2) (length c.args.rows.rows - c.rows-half.result / 2) _ _ _ _ c.in_ok-first-2.first.pivots.items
    c.in_ok-first-2.first.reduced _ _ _ _
    (omega (arith, c.rows-half.ensures.count, c.rows.ensures.well_formed.rows_fit))
    c.in_ok-first.ensures.first c.in_ok-first.ensures.after c.in_ok-second.ensures.cleared c.in_ok-first-2.ensures.count
    c.in_ok-second-2.ensures.count).1

pub returns : goal.returns
returns t c =
    answers_more c.join.result _ _ c.join.ensures (λ r join.
    join_reduces c.args.rows (c.rows-half.result / 2) (length c.args.rows.rows - c.rows-half.result / 2) c.in_ok-first-2.first
    c.in_ok-second-2.second r c.rows.ensures.well_formed
    (omega (arith, c.rows-half.ensures.count))
    (subst (λ (a : AugmentedValue). IsReductionOf a c.in_ok-first-2.first) c.in_ok-first.ensures.first
    c.in_ok-first-2.ensures)
    (subst (λ (a : AugmentedValue). IsReductionOf a c.in_ok-second-2.second)
    (c.in_ok-second.ensures.cleared
    ∙ ap (cleared c.in_ok-first-2.first.pivots.items c.in_ok-first-2.first.reduced) c.in_ok-first.ensures.after)
    c.in_ok-second-2.ensures)
    join)
