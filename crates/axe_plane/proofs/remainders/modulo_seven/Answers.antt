use Rattle.std.proofs.Common.{get_or, ap, ◌∙◌}
use Rattle.axe_plane.proofs.RemainderTables.{modulo_seven, modulo_seven_at}
use Rattle.axe_plane.proofs.remainders.modulo_seven.Goals as goal

pub returns : goal.returns
returns c = ap (λ i. get_or modulo_seven i 0) c.from.ensures ∙ modulo_seven_at c.args.byte c.ranges.byte.fits
