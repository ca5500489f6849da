use Rattle.std.proofs.Common.{arith}
use Rattle.axe_report.proofs.WitnessLaws.{too_many, few_read, other_digits}
use Rattle.axe_report.proofs.witnesses.poly_digits.Goals as goal

pub returns-then-numeral-gt-MAX_DIGITS : goal.returns-then-numeral-gt-MAX_DIGITS
returns-then-numeral-gt-MAX_DIGITS c = too_many c.args.order c.args.numeral.now c.requires.order.0 (omega (arith, c.if-numeral-gt-MAX_DIGITS.true))

pub are_digits-requires-clause-digits : goal.are_digits-requires-clause-digits
are_digits-requires-clause-digits c =
    rw c.deref.ensures.value (few_read c.args.numeral.now c.in_ok-digits.digits.items (omega (arith, c.if-numeral-gt-MAX_DIGITS.false)) c.in_ok-digits.ensures)

pub returns-then-not-are_digits : goal.returns-then-not-are_digits
returns-then-not-are_digits c =
    let are = rw c.deref.ensures.value at c.are_digits.ensures in
    other_digits c.args.order c.args.numeral.now c.in_ok-digits.digits.items c.in_ok-digits.ensures (λ are'. absurd (cc (are.1 are', c.if-not-are_digits.true)))
