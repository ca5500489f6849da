use Rattle.std.proofs.Common.{◌<◌, ◌*◌, ◌+◌, ◌-◌, length, arith, refl}
use Rattle.axe_layer.specs.Bits.{bits}
use Rattle.axe_layer.proofs.BitLaws.{length-bits}
use Rattle.axe_layer.proofs.NumberSums.{added_all, added_word, word_sums_small}
use Rattle.axe_layer.proofs.layer.add_digits.Goals as goal

pub add_spread-requires-clause-small : goal.add_spread-requires-clause-small
add_spread-requires-clause-small c =
    let before : c.loop-at.at < length c.args.words.now = c.loop-at-test.true in
    word_sums_small c.args.len c.args.words.now (bits c.args.len c.args.words.now) c.args.numbers.now c.loop-at.numbers c.args.factor c.loop-at.at
    (c.loop-at.at * 64 + c.min-count.result - c.loop-at.at * 64) _ record {
      is = refl;
      within = omega (arith, before, c.requires.long);
      wide = omega (arith, c.min-count.ensures);
      room = c.requires.fits;
      word_is = refl;
      before = c.loop-at.invariant;
    } c.requires.small

pub loop-at-preserved : goal.loop-at-preserved
loop-at-preserved c =
    let before : c.loop-at.at < length c.args.words.now = c.loop-at-test.true in
    added_word c.args.len c.args.words.now (bits c.args.len c.args.words.now) c.args.numbers.now c.loop-at.numbers c.args.factor c.loop-at.at
    (c.loop-at.at * 64 + c.min-count.result - c.loop-at.at * 64) _ record {
      is = refl;
      within = omega (arith, before, c.requires.long);
      wide = omega (arith, c.min-count.ensures);
      room = c.requires.fits;
      word_is = refl;
      before = c.loop-at.invariant;
    } _ _ c.add_spread.ensures.long c.add_spread.ensures.sums refl

pub returns : goal.returns
returns c =
    added_all _ _ _ _ _ c.loop-at.invariant
    (omega (arith, c.loop-at-test.false, c.requires.long, length-bits c.args.len c.args.words.now))
