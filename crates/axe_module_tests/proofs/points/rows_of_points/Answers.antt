use Rattle.std.proofs.Common.{sym}
use Rattle.axe_module_tests.proofs.points.rows_of_points.Goals as goal

pub few_points-requires : goal.few_points-requires
few_points-requires g c = record { order = record { order = c.field-2.result.now; is = sym c.order-order.ensures.value } }
