use Rattle.std.proofs.Common.{◌∙◌, ap}
use Rattle.axe_field.specs.Order.{order_number}
use Rattle.axe_echelon.proofs.Exits.{no_memory, memory_if_accepted}
use Rattle.axe_norton.proofs.FirstLaws.{value_accepted, null_points_are, small_is_tested, small_has_few, first_of_many, told_by_points}
use Rattle.axe_norton.proofs.decisions.test_null_space.Goals as goal

pub returns-in_err-null_space-clause-tells : goal.returns-in_err-null_space-clause-tells
returns-in_err-null_space-clause-tells c =
    no_memory _ c.from_residual.result _ c.from_residual.ensures.1
    (memory_if_accepted _ _ _ (value_accepted c.args.module.now c.args.matrix.now c.requires.value c.field.ensures.well_formed) c.in_err-null_space.ensures)

pub test_points-requires-clause-value : goal.test_points-requires-clause-value
test_points-requires-clause-value c =
    small_is_tested c.args.module.now c.args.matrix.now c.requires.value c.most_dimensions-most.result c.in-Basis.null_space
    (rw c.in-Basis.is at (null_points_are c.args.module.now c.args.matrix.now c.requires.value c.field.ensures.well_formed _ _ c.in_ok-null_space.ensures))

pub test_points-requires-clause-few : goal.test_points-requires-clause-few
test_points-requires-clause-few c =
    small_has_few c.args.module.now c.args.matrix.now c.requires.value c.most_dimensions-most.result c.order.result c.in-Basis.null_space
    (c.order.ensures.value ∙ ap order_number c.field.ensures.order) c.most_dimensions-most.ensures
    (rw c.in-Basis.is at (null_points_are c.args.module.now c.args.matrix.now c.requires.value c.field.ensures.well_formed _ _ c.in_ok-null_space.ensures))

pub test_first-requires-clause-value : goal.test_first-requires-clause-value
test_first-requires-clause-value c =
    first_of_many c.args.module.now c.args.matrix.now c.requires.value c.most_dimensions-most.result c.order.result c.in-First.point
    (c.order.ensures.value ∙ ap order_number c.field.ensures.order) c.most_dimensions-most.ensures
    (rw c.in-First.is at (null_points_are c.args.module.now c.args.matrix.now c.requires.value c.field.ensures.well_formed _ _ c.in_ok-null_space.ensures))

pub returns-in-Basis-clause-tells : goal.returns-in-Basis-clause-tells
returns-in-Basis-clause-tells c =
    told_by_points c.args.module.now c.args.matrix.now c.in-Basis.null_space c.test_points.result
    (small_is_tested c.args.module.now c.args.matrix.now c.requires.value c.most_dimensions-most.result c.in-Basis.null_space
    (rw c.in-Basis.is at (null_points_are c.args.module.now c.args.matrix.now c.requires.value c.field.ensures.well_formed _ _ c.in_ok-null_space.ensures)))
    c.test_points.ensures.tells
