use Rattle.std.proofs.Common.{arith}
use Rattle.axe_report.proofs.WitnessLaws.{power_fits}
use Rattle.axe_report.proofs.witnesses.are_digits.Goals as goal

pub pow-requires : goal.pow-requires
pow-requires c = power_fits c.from.result _ (omega (arith, c.from.ensures, c.requires.order.1)) c.requires.digits
