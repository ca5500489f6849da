use Rattle.std.proofs.Common.{List, ap, ◌∙◌}
use Rattle.axe_layer.specs.Packed.{packed_bit}
use Rattle.axe_echelon.proofs.ReversedBits.{packed_bit_from_high}
use Rattle.axe_echelon.proofs.word_mirrors.reversed.Goals as goal

pub returns : goal.returns
returns c = λ i low.
    c.word_of_packed.ensures i low ∙ ap (λ (bytes : List _). packed_bit bytes i) c.to_be_bytes.ensures ∙ packed_bit_from_high c.args.word i low
