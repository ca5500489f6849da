use Rattle.axe_algebra.proofs.Digits.{digits_are_below, digits_are_injective, lists_are_digits}
use Rattle.axe_algebra.proofs.points.numbers_are_their_digits.Goals as goal

pub returns-clause-below : goal.returns-clause-below
returns-clause-below c = digits_are_below

pub returns-clause-injective : goal.returns-clause-injective
returns-clause-injective c = digits_are_injective

pub returns-clause-onto : goal.returns-clause-onto
returns-clause-onto c = lists_are_digits
