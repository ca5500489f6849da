use Rattle.std.proofs.Common.{◌≡◌, ◌<◌, arith, lit<, rules, get_or}
use Rattle.axe_layer.proofs.DigitLaws.{digits_with_multiple-none, digit-below}
use Rattle.axe_plane.proofs.cancel_bits.Goals as goal

pub returns-else-digit-ne0-clause-sum : goal.returns-else-digit-ne0-clause-sum
returns-else-digit-ne0-clause-sum c =
    let none : c.get-digit.result ≡ 0 = omega (arith, c.if-digit-ne0.false) in
    digits_with_multiple-none _ _ _ _ (lit< tt) none c.requires.digits

pub returns-then-digit-ne0-clause-factor : goal.returns-then-digit-ne0-clause-factor
returns-then-digit-ne0-clause-factor c =
    let below : get_or c.args.plane.now c.args.index 0 < 2 = digit-below _ _ c.args.index (lit< tt) c.requires.digits in
    omega (arith, below, c.get-digit.ensures, c.if-digit-ne0.true)

pub returns-else-digit-ne0-clause-factor : goal.returns-else-digit-ne0-clause-factor
returns-else-digit-ne0-clause-factor c = search rules

pub returns-then-digit-ne0-clause-digit : goal.returns-then-digit-ne0-clause-digit
returns-then-digit-ne0-clause-digit c =
    let below : get_or c.args.plane.now c.args.index 0 < 2 = digit-below _ _ c.args.index (lit< tt) c.requires.digits in
    omega (arith, below, c.get-digit.ensures)

pub returns-then-digit-ne0-clause-sum : goal.returns-then-digit-ne0-clause-sum
returns-then-digit-ne0-clause-sum c =
    let below : get_or c.args.plane.now c.args.index 0 < 2 = digit-below _ _ c.args.index (lit< tt) c.requires.digits in
    let one : c.get-digit.result ≡ 1 = omega (arith, below, c.get-digit.ensures, c.if-digit-ne0.true) in
    rw one c.add_from.ensures
