-- No word of ones has a bit in common with the word of twos at its index.
use Rattle.std.proofs.Common.{rules, ◌≡◌, ◌≤◌, length, arith}
use Rattle.axe_row_tests.proofs.ApartWords.{apart_trits}
use Rattle.axe_row_tests.proofs.trits.assert_trits.Goals as goal

pub returns : goal.returns
returns g c =
    let fits : length c.args.twos.now ≡ length c.args.ones.now = search rules in
    let end : length c.args.ones.now ≤ c.loop-at.at = omega (arith, c.loop-at-test.false) in
    apart_trits c.args.ones.now c.args.twos.now c.loop-at.at fits end c.loop-at.invariant
