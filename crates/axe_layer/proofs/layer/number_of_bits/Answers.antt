use Rattle.std.proofs.Common.{arith, refl}
use Rattle.axe_layer.proofs.PieceBits.{next_number_fits, number_of_bits_is, number_of_bits_small, one_bit, two_bits, three_bits}
use Rattle.axe_layer.proofs.layer.number_of_bits.Goals as goal

pub returns-in-0-clause-value : goal.returns-in-0-clause-value
returns-in-0-clause-value c = number_of_bits_is _ _ 0 _ _ refl c.in-0.is

pub returns-in-1-clause-value : goal.returns-in-1-clause-value
returns-in-1-clause-value c = number_of_bits_is _ _ 1 _ _ (one_bit c.args.base c.args.word) c.in-1.is

pub returns-in-2-clause-value : goal.returns-in-2-clause-value
returns-in-2-clause-value c = number_of_bits_is _ _ 2 _ _ (two_bits c.args.base c.args.word) c.in-2.is

pub returns-in-3-clause-value : goal.returns-in-3-clause-value
returns-in-3-clause-value c = number_of_bits_is _ _ 3 _ _ (three_bits c.args.base c.args.word) c.in-3.is

pub overflow_mul-number-in-loop-place : goal.overflow_mul-number-in-loop-place
overflow_mul-number-in-loop-place c =
    omega (arith, next_number_fits c.args.base c.args.word c.loop-place.place c.loop-place.number 0 c.loop-place.invariant c.requires.base (omega (arith, c.loop-place-test.true, c.requires.short)))

pub overflow_add-number-in-loop-place : goal.overflow_add-number-in-loop-place
overflow_add-number-in-loop-place c =
    omega (arith, next_number_fits c.args.base c.args.word c.loop-place.place c.loop-place.number c.loop-place.place c.loop-place.invariant c.requires.base (omega (arith, c.loop-place-test.true, c.requires.short)))

pub returns-after-loop-place-clause-value : goal.returns-after-loop-place-clause-value
returns-after-loop-place-clause-value c =
    number_of_bits_is c.args.base c.args.word c.loop-place.place c.args.count c.loop-place.number c.loop-place.invariant
    (omega (arith, c.in_default, c.loop-place-test.false, c.loop-place.auto.place-end))

pub returns-after-loop-place-clause-small : goal.returns-after-loop-place-clause-small
returns-after-loop-place-clause-small c =
    number_of_bits_small c.args.base c.args.word c.loop-place.place c.loop-place.number c.loop-place.invariant c.requires.base
    (omega (arith, c.in_default, c.loop-place.auto.place-end, c.requires.short))
