use Rattle.std.proofs.Common.{refl}
use Rattle.axe_row.proofs.FourMultiples.{four_digits}
use Rattle.axe_row.proofs.Row.entries_by_planes.Goals as goal

pub returns : goal.returns
returns c =
    four_digits c.args.self.now.entries c.args.self.now.entries c.args.indices c.get.result c.get-2.result c.get-3.result c.get-4.result refl
    c.get.ensures.entry c.get-2.ensures.entry c.get-3.ensures.entry c.get-4.ensures.entry
