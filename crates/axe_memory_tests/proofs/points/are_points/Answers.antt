use Rattle.std.proofs.Common.{sym}
use Rattle.axe_memory_tests.proofs.points.are_points.Goals as goal

pub few_points-requires : goal.few_points-requires
few_points-requires g c = record { order = record { order = c.field.result.now; is = sym c.order-order.ensures.value } }
