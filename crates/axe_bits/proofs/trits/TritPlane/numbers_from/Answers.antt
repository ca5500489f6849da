use Rattle.axe_bits.proofs.TritHalves.{HoldLayers-len, trits-len}
use Rattle.axe_bits.proofs.TritNumbers.{four_numbers, four_numbers_small}
use Rattle.axe_bits.proofs.trits.TritPlane.numbers_from.Goals as goal

pub numbers_by_digits-ones-requires-clause-long : goal.numbers_by_digits-ones-requires-clause-long
numbers_by_digits-ones-requires-clause-long c = (HoldLayers-len _ _ _ _ _ c.self.view_is c.layers.ensures.holds).ones_held.long

pub numbers_by_digits-twos-requires-clause-long : goal.numbers_by_digits-twos-requires-clause-long
numbers_by_digits-twos-requires-clause-long c = (HoldLayers-len _ _ _ _ _ c.self.view_is c.layers.ensures.holds).twos_held.long

pub returns-clause-value : goal.returns-clause-value
returns-clause-value c =
    let held = HoldLayers-len _ _ _ _ _ c.self.view_is c.layers.ensures.holds in
    let digits = trits-len _ _ _ _ _ c.self.view_is c.layers.ensures.digits in
    four_numbers _ _ _ _ _ _ _ _ held.together digits c.numbers_by_digits-ones.ensures.value c.numbers_by_digits-twos.ensures.value

pub returns-clause-small : goal.returns-clause-small
returns-clause-small c =
    let held = HoldLayers-len _ _ _ _ _ c.self.view_is c.layers.ensures.holds in
    let digits = trits-len _ _ _ _ _ c.self.view_is c.layers.ensures.digits in
    four_numbers_small c.args.base c.args.size c.args.at _ _ _ _ _ held.together digits c.numbers_by_digits-ones.ensures.value
    c.numbers_by_digits-twos.ensures.value c.requires.base c.requires.short
