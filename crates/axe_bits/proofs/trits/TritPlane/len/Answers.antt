use Rattle.std.proofs.Common.{sym}
use Rattle.axe_bits.proofs.TritHalves.{halves_long}
use Rattle.axe_bits.proofs.TritPlaneLaws.{trits_below}
use Rattle.axe_bits.proofs.trits.TritPlane.len.Goals as goal

pub returns-clause-count : goal.returns-clause-count
returns-clause-count c = sym (halves_long _ _ _ c.self.view_is)

pub returns-clause-digits : goal.returns-clause-digits
returns-clause-digits c = trits_below _ _ _ c.self.invariant.together c.self.view_is
