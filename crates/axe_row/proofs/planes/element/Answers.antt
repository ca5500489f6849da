use Rattle.std.proofs.Common.{sym}
use Rattle.axe_row.proofs.RowPlanes.{element_value}
use Rattle.axe_row.proofs.planes.element.Goals as goal

pub returns : goal.returns
returns c = rw c.prime-prime.ensures (sym (element_value c.args.field.now c.args.constant c.args.linear c.args.quadratic))
