use Rattle.std.proofs.Common.{rules, ◌≡◌, ◌+◌, ◌*◌, ◌/◌, length, subst, arith}
use Rattle.axe_lane.specs.Trits.{HasSumBetween}
use Rattle.axe_lane.proofs.TritSums.{made_more, sum_made}
use Rattle.axe_lane.proofs.trits.add_trits.Goals as goal

pub returns-in-0 : goal.returns-in-0
returns-in-0 c =
    let end : c.loop-block.block * 4 ≡ length c.args.ones.now = omega (arith, c.in-0.is) in
    sum_made _ _ _ _ _ _ c.requires.row c.requires.more c.requires.fits
    (subst (λ n. HasSumBetween 0 n c.args.ones.now c.args.twos.now c.args.more_ones.now c.args.more_twos.now c.loop-block.ones c.loop-block.twos) end c.loop-block.invariant)

pub returns-in-1 : goal.returns-in-1
returns-in-1 c =
    let n = length c.args.ones.now / 4 * 4 in
    let block : c.loop-block.block * 4 ≡ n = omega arith in
    let end : n + 1 ≡ length c.args.ones.now = omega (arith, c.in-1.is) in
    let before = subst (λ k. HasSumBetween 0 k c.args.ones.now c.args.twos.now c.args.more_ones.now c.args.more_twos.now c.loop-block.ones c.loop-block.twos) block c.loop-block.invariant in
    sum_made _ _ _ _ _ _ c.requires.row c.requires.more c.requires.fits
    (subst (λ k. HasSumBetween 0 k c.args.ones.now c.args.twos.now c.args.more_ones.now c.args.more_twos.now c.add_word.new.ones c.add_word.new.twos) end
    (made_more n (n + 1) _ _ _ _ _ _ _ _ before c.add_word.ensures (omega arith)))

pub returns-in-2 : goal.returns-in-2
returns-in-2 c =
    let n = length c.args.ones.now / 4 * 4 in
    let block : c.loop-block.block * 4 ≡ n = omega arith in
    let end : n + 2 ≡ length c.args.ones.now = omega (arith, c.in-2.is) in
    let before = subst (λ k. HasSumBetween 0 k c.args.ones.now c.args.twos.now c.args.more_ones.now c.args.more_twos.now c.loop-block.ones c.loop-block.twos) block c.loop-block.invariant in
    sum_made _ _ _ _ _ _ c.requires.row c.requires.more c.requires.fits
    (subst (λ k. HasSumBetween 0 k c.args.ones.now c.args.twos.now c.args.more_ones.now c.args.more_twos.now c.add_pair.new.ones c.add_pair.new.twos) end
    (made_more n (n + 2) _ _ _ _ _ _ _ _ before c.add_pair.ensures (omega arith)))

pub returns-in_default : goal.returns-in_default
returns-in_default c =
    let n = length c.args.ones.now / 4 * 4 in
    let block : c.loop-block.block * 4 ≡ n = omega arith in
    let end : n + 2 + 1 ≡ length c.args.ones.now = search rules in
    let before = subst (λ k. HasSumBetween 0 k c.args.ones.now c.args.twos.now c.args.more_ones.now c.args.more_twos.now c.loop-block.ones c.loop-block.twos) block c.loop-block.invariant in
    sum_made _ _ _ _ _ _ c.requires.row c.requires.more c.requires.fits
    (subst (λ k. HasSumBetween 0 k c.args.ones.now c.args.twos.now c.args.more_ones.now c.args.more_twos.now c.add_word-in_default.new.ones c.add_word-in_default.new.twos) end
    (made_more (n + 2) (n + 2 + 1) _ _ _ _ _ _ _ _
    (made_more n (n + 2) _ _ _ _ _ _ _ _ before c.add_pair-in_default.ensures (omega arith)) c.add_word-in_default.ensures (omega arith)))
