use Rattle.std.proofs.Common.{rules, ◌≢◌, ◌<◌}
use Rattle.axe_row.proofs.TritBlockLaws.{constant_by_one, linear_by_one, constant_by_sum, linear_by_sum, constant_by_difference, linear_by_difference, digit_below, five_or_seven, one_or_two}
use Rattle.axe_row.proofs.bit_block.multiple_over_nine.Goals as goal

pub returns-in-1-clause-constant : goal.returns-in-1-clause-constant
returns-in-1-clause-constant c i low small hc hl =
    let first = c.with_sign.ensures.constant i low hc in
    let second = c.with_sign.ensures.linear i low hl in
    let few : c.args.scalar < 3 = search rules in
    constant_by_one c.args.scalar _ _ _ _ _ c.is_negative.ensures first second (one_or_two c.args.scalar c.requires.nonzero few)

pub returns-in-1-clause-linear : goal.returns-in-1-clause-linear
returns-in-1-clause-linear c i low small hc hl =
    let first = c.with_sign.ensures.constant i low hc in
    let second = c.with_sign.ensures.linear i low hl in
    let few : c.args.scalar < 3 = search rules in
    linear_by_one c.args.scalar _ _ _ _ _ c.is_negative.ensures first second (one_or_two c.args.scalar c.requires.nonzero few)

pub returns-in-4-clause-constant : goal.returns-in-4-clause-constant
returns-in-4-clause-constant c i low small hc hl =
    let first = c.with_sign.ensures.constant i low hc in
    let second = c.with_sign.ensures.linear i low hl in
    let sum = c.sum_of_trits-in-4.ensures i low (digit_below _ _ first) (digit_below _ _ second) in
    constant_by_sum c.args.scalar _ _ _ _ _ c.is_negative.ensures first second _ c.in-4.is sum

pub returns-in-4-clause-linear : goal.returns-in-4-clause-linear
returns-in-4-clause-linear c i low small hc hl =
    let first = c.with_sign.ensures.constant i low hc in
    let second = c.with_sign.ensures.linear i low hl in
    let other = c.negative_trits.ensures i low (digit_below _ _ second) in
    let sum = c.sum_of_trits-in-4-2.ensures i low (digit_below _ _ first) (digit_below _ _ other) in
    linear_by_sum c.args.scalar _ _ _ _ _ c.is_negative.ensures first second _ _ c.in-4.is other sum

pub returns-in_default-clause-constant : goal.returns-in_default-clause-constant
returns-in_default-clause-constant c i low small hc hl =
    let first = c.with_sign.ensures.constant i low hc in
    let second = c.with_sign.ensures.linear i low hl in
    let not_one : c.args.scalar ≢ 1 = search rules in
    let not_two : c.args.scalar ≢ 2 = search rules in
    let not_three : c.args.scalar ≢ 3 = search rules in
    let not_four : c.args.scalar ≢ 4 = search rules in
    let not_six : c.args.scalar ≢ 6 = search rules in
    let not_eight : c.args.scalar ≢ 8 = search rules in
    let other = c.negative_trits-in_default.ensures i low (digit_below _ _ second) in
    let sum = c.sum_of_trits-in_default.ensures i low (digit_below _ _ first) (digit_below _ _ other) in
    constant_by_difference c.args.scalar _ _ _ _ _ c.is_negative.ensures first second _ _
    (five_or_seven c.args.scalar small c.requires.nonzero not_one not_two not_three not_four not_six not_eight) other sum

pub returns-in_default-clause-linear : goal.returns-in_default-clause-linear
returns-in_default-clause-linear c i low small hc hl =
    let first = c.with_sign.ensures.constant i low hc in
    let second = c.with_sign.ensures.linear i low hl in
    let not_one : c.args.scalar ≢ 1 = search rules in
    let not_two : c.args.scalar ≢ 2 = search rules in
    let not_three : c.args.scalar ≢ 3 = search rules in
    let not_four : c.args.scalar ≢ 4 = search rules in
    let not_six : c.args.scalar ≢ 6 = search rules in
    let not_eight : c.args.scalar ≢ 8 = search rules in
    let other = c.negative_trits-in_default-2.ensures i low (digit_below _ _ first) in
    linear_by_difference c.args.scalar _ _ _ _ _ c.is_negative.ensures first second _
    (five_or_seven c.args.scalar small c.requires.nonzero not_one not_two not_three not_four not_six not_eight) other
