use Rattle.std.proofs.Common.{◌+◌, ◌*◌, length, get_or, refl, arith}
use Rattle.axe_layer.specs.Bits.{bits}
use Rattle.axe_layer.proofs.SupportLaws.{support_of_both}
use Rattle.axe_bits.proofs.TritZeros.{trit_of}
use Rattle.axe_layer.proofs.WordWrites.{word_of_digits}
use Rattle.axe_bits.proofs.trits.TritPlane.support_word.Goals as goal

pub returns-then-at-ones : goal.returns-then-at-ones
returns-then-at-ones c =
    let n = length c.args.self.now in
    let at = c.args.at in
    let ones = c.layers.result.0.now in
    let twos = c.layers.result.1.now in
    let holds = c.layers.ensures.holds in
    support_of_both c.args.self.now at (get_or ones at 0) (get_or twos at 0) (λ i low.
    omega (
      arith,
      trit_of _ _ _ holds.together c.layers.ensures.digits (at * 64 + i),
      word_of_digits n ones (bits n ones) at (get_or ones at 0) i holds.ones_held refl refl low,
      word_of_digits n twos (bits n twos) at (get_or twos at 0) i holds.twos_held refl refl low,
    ))
