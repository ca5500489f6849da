use Rattle.std.proofs.Common.{◌≤◌, ◌+◌, ◌%◌, ◌/◌, ◌∙◌, length, take, drop, sym, ap, arith}
use Rattle.axe_bits.proofs.TritEnds.{AreTrits-part, AreTritsOf-part}
use Rattle.axe_bits.proofs.TritMultiples.{halves_anew, halves_row}
use Rattle.axe_bits.proofs.trits.add_to_two_halves.Goals as goal

pub add_multiple_over_nine-requires-clause-row : goal.add_multiple_over_nine-requires-clause-row
add_multiple_over_nine-requires-clause-row c =
    let cut = c.split_at_mut-ones.ensures in
    AreTrits-part c.args.first _ _ (halves_row c.args.constant.now _ _ cut.front cut.back c.requires.constant)

pub add_multiple_over_nine-requires-clause-linear : goal.add_multiple_over_nine-requires-clause-linear
add_multiple_over_nine-requires-clause-linear c =
    let cut = c.split_at_mut-linear_ones.ensures in
    let front = cut.front ∙ ap (λ k. take (k / 2) c.args.linear.now) (sym c.requires.fits) in
    let back = cut.back ∙ ap (λ k. drop (k / 2) c.args.linear.now) (sym c.requires.fits) in
    AreTritsOf-part c.args.first _ _ _ (omega (arith, cut.front_len, c.split_at_mut-ones.ensures.front_len))
    (halves_row c.args.linear.now _ _ front back c.requires.linear)

pub add_multiple_over_nine-requires-clause-a : goal.add_multiple_over_nine-requires-clause-a
add_multiple_over_nine-requires-clause-a c =
    AreTritsOf-part c.args.first _ _ _ (omega (arith, c.requires.a.long, c.split_at_mut-ones.ensures.front_len)) c.requires.a.are_trits

pub add_multiple_over_nine-requires-clause-b : goal.add_multiple_over_nine-requires-clause-b
add_multiple_over_nine-requires-clause-b c =
    AreTritsOf-part c.args.first _ _ _ (omega (arith, c.requires.b.long, c.split_at_mut-ones.ensures.front_len)) c.requires.b.are_trits

pub returns-clause-constant : goal.returns-clause-constant
returns-clause-constant c =
    let cut = c.split_at_mut-ones.ensures in
    let room : c.args.first ≤ length c.split_at_mut-ones.result.0.now = omega (arith, c.requires.within, cut.front_len) in
    halves_anew c.args.first c.args.p c.args.q c.args.constant.now _ _ c.args.a.0.now c.args.a.1.now c.args.b.0.now c.args.b.1.now _ _ room
    (halves_row c.args.constant.now _ _ cut.front cut.back c.requires.constant) cut.front cut.back c.requires.a_zeros c.requires.b_zeros
    c.add_multiple_over_nine.ensures.constant

pub returns-clause-linear : goal.returns-clause-linear
returns-clause-linear c =
    let cut = c.split_at_mut-linear_ones.ensures in
    let front = cut.front ∙ ap (λ k. take (k / 2) c.args.linear.now) (sym c.requires.fits) in
    let back = cut.back ∙ ap (λ k. drop (k / 2) c.args.linear.now) (sym c.requires.fits) in
    let room : c.args.first ≤ length c.split_at_mut-linear_ones.result.0.now = omega (arith, c.requires.within, cut.front_len) in
    halves_anew c.args.first c.args.q ((c.args.p + c.args.q) % 3) c.args.linear.now _ _ c.args.a.0.now c.args.a.1.now c.args.b.0.now c.args.b.1.now _ _ room
    (halves_row c.args.linear.now _ _ front back c.requires.linear) front back c.requires.a_zeros c.requires.b_zeros
    c.add_multiple_over_nine.ensures.linear
