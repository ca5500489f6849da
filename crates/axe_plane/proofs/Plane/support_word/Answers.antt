use Rattle.std.proofs.Common.{sym, subst}
use Rattle.axe_layer.specs.Supports.{IsSupportWord}
use Rattle.axe_layer.proofs.SupportLaws.{support_of_bits}
use Rattle.axe_plane.specs.Planes.{digits_of}
use Rattle.axe_plane.specs.declared.Plane.{Plane}
use Rattle.axe_plane.proofs.Plane.support_word.Goals as goal

pub returns-in-Bits : goal.returns-in-Bits
returns-in-Bits c =
    subst (λ (plane : Plane). IsSupportWord (digits_of plane) c.args.at c.word.result) (sym c.in-Bits.is)
    (support_of_bits c.in-Bits.plane c.args.at c.word.result c.word.ensures)

pub returns-in-Trits : goal.returns-in-Trits
returns-in-Trits c = rw c.in-Trits.is c.support_word.ensures
