use Rattle.std.proofs.Common.{lit<, ap, ◌-◌, ◌%◌, rules, ◌<◌, arith, get_or}
use Rattle.axe_layer.proofs.DigitLaws.{digits_with_multiple-none, digit-below}
use Rattle.axe_plane.proofs.cancel_trits.Goals as goal

pub returns-else-trit-ne0-clause-sum : goal.returns-else-trit-ne0-clause-sum
returns-else-trit-ne0-clause-sum c =
    digits_with_multiple-none _ _ _ _ (lit< tt) (ap (λ d. (3 - d) % 3) c.if-trit-ne0.false) c.requires.digits

pub returns-then-trit-ne0-clause-factor : goal.returns-then-trit-ne0-clause-factor
returns-then-trit-ne0-clause-factor c = search rules

pub returns-else-trit-ne0-clause-factor : goal.returns-else-trit-ne0-clause-factor
returns-else-trit-ne0-clause-factor c = search rules

pub overflow_sub-factor : goal.overflow_sub-factor
overflow_sub-factor c =
    let below : get_or c.args.plane.now c.args.index 0 < 3 = digit-below _ _ c.args.index (lit< tt) c.requires.digits in
    omega (arith, below, c.get-trit.ensures)
