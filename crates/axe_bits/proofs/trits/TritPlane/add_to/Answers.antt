use Rattle.std.proofs.Common.{arith}
use Rattle.axe_layer.proofs.BitLaws.{length-bits}
use Rattle.axe_bits.proofs.TritHalves.{HoldLayers-len, trits-len}
use Rattle.axe_bits.proofs.TritSums.{have_small_sums, ones_fit, ones_small, twos_fit, twos_small, twos_fit_again, twos_small_again, added}
use Rattle.axe_bits.proofs.trits.TritPlane.add_to.Goals as goal

pub add_digits-requires-clause-long : goal.add_digits-requires-clause-long
add_digits-requires-clause-long c = (HoldLayers-len _ _ _ _ _ c.self.view_is c.layers.ensures.holds).ones_held.long

pub add_digits-requires-clause-fits : goal.add_digits-requires-clause-fits
add_digits-requires-clause-fits c =
    let held = HoldLayers-len _ _ _ _ _ c.self.view_is c.layers.ensures.holds in
    let digits = trits-len _ _ _ _ _ c.self.view_is c.layers.ensures.digits in
    let sums = have_small_sums _ _ _ _ _ held.together digits c.requires.fits c.requires.small in
    omega (arith, ones_fit _ _ _ _ _ sums, length-bits c.self.inside.len c.layers.result.0.now)

pub add_digits-requires-clause-small : goal.add_digits-requires-clause-small
add_digits-requires-clause-small c =
    let held = HoldLayers-len _ _ _ _ _ c.self.view_is c.layers.ensures.holds in
    let digits = trits-len _ _ _ _ _ c.self.view_is c.layers.ensures.digits in
    let sums = have_small_sums _ _ _ _ _ held.together digits c.requires.fits c.requires.small in
    ones_small _ _ _ _ _ sums

pub add_digits-requires-2-clause-long : goal.add_digits-requires-2-clause-long
add_digits-requires-2-clause-long c = (HoldLayers-len _ _ _ _ _ c.self.view_is c.layers.ensures.holds).twos_held.long

pub add_digits-requires-2-clause-fits : goal.add_digits-requires-2-clause-fits
add_digits-requires-2-clause-fits c =
    let held = HoldLayers-len _ _ _ _ _ c.self.view_is c.layers.ensures.holds in
    let digits = trits-len _ _ _ _ _ c.self.view_is c.layers.ensures.digits in
    let sums = have_small_sums _ _ _ _ _ held.together digits c.requires.fits c.requires.small in
    omega (arith, twos_fit _ _ _ _ _ sums _ c.add_digits.ensures, length-bits c.self.inside.len c.layers.result.1.now)

pub add_digits-requires-2-clause-small : goal.add_digits-requires-2-clause-small
add_digits-requires-2-clause-small c =
    let held = HoldLayers-len _ _ _ _ _ c.self.view_is c.layers.ensures.holds in
    let digits = trits-len _ _ _ _ _ c.self.view_is c.layers.ensures.digits in
    let sums = have_small_sums _ _ _ _ _ held.together digits c.requires.fits c.requires.small in
    twos_small _ _ _ _ _ sums _ c.add_digits.ensures

pub add_digits-requires-3-clause-long : goal.add_digits-requires-3-clause-long
add_digits-requires-3-clause-long c = (HoldLayers-len _ _ _ _ _ c.self.view_is c.layers.ensures.holds).twos_held.long

pub add_digits-requires-3-clause-fits : goal.add_digits-requires-3-clause-fits
add_digits-requires-3-clause-fits c =
    let held = HoldLayers-len _ _ _ _ _ c.self.view_is c.layers.ensures.holds in
    let digits = trits-len _ _ _ _ _ c.self.view_is c.layers.ensures.digits in
    let sums = have_small_sums _ _ _ _ _ held.together digits c.requires.fits c.requires.small in
    omega (arith, twos_fit_again _ _ _ _ _ sums _ c.add_digits.ensures _ c.add_digits-2.ensures, length-bits c.self.inside.len c.layers.result.1.now)

pub add_digits-requires-3-clause-small : goal.add_digits-requires-3-clause-small
add_digits-requires-3-clause-small c =
    let held = HoldLayers-len _ _ _ _ _ c.self.view_is c.layers.ensures.holds in
    let digits = trits-len _ _ _ _ _ c.self.view_is c.layers.ensures.digits in
    let sums = have_small_sums _ _ _ _ _ held.together digits c.requires.fits c.requires.small in
    twos_small_again _ _ _ _ _ sums _ c.add_digits.ensures _ c.add_digits-2.ensures

pub returns : goal.returns
returns c =
    let held = HoldLayers-len _ _ _ _ _ c.self.view_is c.layers.ensures.holds in
    let digits = trits-len _ _ _ _ _ c.self.view_is c.layers.ensures.digits in
    let sums = have_small_sums _ _ _ _ _ held.together digits c.requires.fits c.requires.small in
    added _ _ _ _ _ sums _ c.add_digits.ensures _ c.add_digits-2.ensures _ c.add_digits-3.ensures
