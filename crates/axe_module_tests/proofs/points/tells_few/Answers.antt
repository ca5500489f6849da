use Rattle.std.proofs.Common.{sym}
use Rattle.axe_module_tests.proofs.points.tells_few.Goals as goal

pub few_points-requires : goal.few_points-requires
few_points-requires c = record { order = record { order = c.in_ok-field.field; is = sym c.order.ensures.value } }
