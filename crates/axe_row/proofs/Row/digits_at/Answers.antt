use Rattle.std.proofs.Common.{sym, ap, ◌∙◌}
use Rattle.axe_plane.specs.Planes.{digits_of}
use Rattle.axe_row.proofs.FourMultiples.{four_digits}
use Rattle.axe_row.proofs.KeptPlanes.{prime_entries}
use Rattle.axe_row.proofs.Row.digits_at.Goals as goal

pub returns-in-Bits : goal.returns-in-Bits
returns-in-Bits c =
    four_digits c.in-Bits.plane c.args.self.now.entries c.args.indices c.get.result c.get-in-Bits.result c.get-in-Bits-2.result c.get-in-Bits-3.result
    (sym (ap digits_of c.in-Bits.is) ∙ prime_entries _ _ _ _ c.self.invariant c.self.view_is c.requires) c.get.ensures c.get-in-Bits.ensures
    c.get-in-Bits-2.ensures c.get-in-Bits-3.ensures

pub returns-in-Trits : goal.returns-in-Trits
returns-in-Trits c =
    four_digits c.in-Trits.plane c.args.self.now.entries c.args.indices c.get-in-Trits.result c.get-in-Trits-2.result c.get-in-Trits-3.result
    c.get-in-Trits-4.result (sym (ap digits_of c.in-Trits.is) ∙ prime_entries _ _ _ _ c.self.invariant c.self.view_is c.requires)
    c.get-in-Trits.ensures c.get-in-Trits-2.ensures c.get-in-Trits-3.ensures c.get-in-Trits-4.ensures

pub returns-in-Bytes : goal.returns-in-Bytes
returns-in-Bytes c =
    four_digits c.in-Bytes.plane.digits c.args.self.now.entries c.args.indices c.get-in-Bytes.result c.get-in-Bytes-2.result c.get-in-Bytes-3.result
    c.get-in-Bytes-4.result (sym (ap digits_of c.in-Bytes.is) ∙ prime_entries _ _ _ _ c.self.invariant c.self.view_is c.requires)
    c.get-in-Bytes.ensures c.get-in-Bytes-2.ensures c.get-in-Bytes-3.ensures c.get-in-Bytes-4.ensures
