use Rattle.std.proofs.Common.{get_or, ap, ◌∙◌}
use Rattle.axe_plane.proofs.RemainderTables.{modulo_five, modulo_five_at}
use Rattle.axe_plane.proofs.remainders.modulo_five.Goals as goal

pub returns : goal.returns
returns c = ap (λ i. get_or modulo_five i 0) c.from.ensures ∙ modulo_five_at c.args.byte c.ranges.byte.fits
