use Rattle.std.proofs.Common.{length, ap, ◌∙◌, arith}
use Rattle.axe_layer.specs.Bits.{bits}
use Rattle.axe_layer.proofs.BitLaws.{length-bits}
use Rattle.axe_bits.proofs.TritHalves.{halves_long, HoldLayers-len, trits-len}
use Rattle.axe_bits.proofs.TritSums.{layers_small, sum_of_layers}
use Rattle.axe_bits.proofs.trits.TritPlane.copy_to.Goals as goal

pub copy_digits-requires : goal.copy_digits-requires
copy_digits-requires c = omega (arith, c.requires, c.layers.ensures.holds.ones_held.long)

pub add_digits-requires-clause-long : goal.add_digits-requires-clause-long
add_digits-requires-clause-long c = (HoldLayers-len _ _ _ _ _ c.self.view_is c.layers.ensures.holds).twos_held.long

pub add_digits-requires-clause-fits : goal.add_digits-requires-clause-fits
add_digits-requires-clause-fits c =
    omega (
      arith,
      c.requires,
      halves_long _ _ _ c.self.view_is,
      ap length c.copy_digits.ensures,
      length-bits (length c.args.numbers.now) c.layers.result.0.now,
    )

pub add_digits-requires-clause-small : goal.add_digits-requires-clause-small
add_digits-requires-clause-small c =
    layers_small _ _ _ (HoldLayers-len _ _ _ _ _ c.self.view_is c.layers.ensures.holds).together
    (c.copy_digits.ensures ∙ ap (λ n. bits n c.layers.result.0.now) (c.requires ∙ halves_long _ _ _ c.self.view_is))

pub returns : goal.returns
returns c =
    sum_of_layers _ _ _ _ _ (HoldLayers-len _ _ _ _ _ c.self.view_is c.layers.ensures.holds).together
    (trits-len _ _ _ _ _ c.self.view_is c.layers.ensures.digits)
    (c.copy_digits.ensures ∙ ap (λ n. bits n c.layers.result.0.now) (c.requires ∙ halves_long _ _ _ c.self.view_is))
    c.add_digits.ensures
