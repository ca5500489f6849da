use Rattle.std.proofs.Common.{get_or, ap, ◌∙◌}
use Rattle.std.specs.Int.{bit_at}
use Rattle.axe_layer.proofs.TurnedPieces.{turned_bytes, turned_is}
use Rattle.axe_layer.proofs.packed.turned_byte.Goals as goal

pub returns : goal.returns
returns c = λ j low.
    ap (λ i. bit_at (get_or turned_bytes i 0) j) c.from.ensures ∙ turned_is c.args.byte j c.ranges.byte.fits low
