use Rattle.std.proofs.Common.{◌*◌, ◌<◌, ◌≤◌, ◌+◌, ◌/◌, length, refl, arith, sym, ap, ◌∙◌}
use Rattle.axe_algebra.proofs.ListEntries.{listed_length}
use Rattle.axe_lane.specs.Words.{bit_of}
use Rattle.axe_layer.proofs.DigitWords.{have_no_digits, have_next_word, HoldsBits-digits, bits-digits, part_word}
use Rattle.axe_layer.proofs.layer.fill_with_part.Goals as goal

pub loop-at-init : goal.loop-at-init
loop-at-init c =
    have_no_digits _ _ _ (λ k. (c.type_inv.words k).fits)
    (c.requires.long ∙ ap (λ n. (n + 63) / 64) (sym (listed_length c.args.len (λ j. bit_of c.args.layer.now (c.args.start + j))))) refl

pub overflow_add-start : goal.overflow_add-start
overflow_add-start c =
    let before : c.loop-at.at * 64 < c.args.len = omega (arith, c.loop-at-test.true, c.loop-at.invariant.long, c.requires.long, listed_length c.args.len (λ j. bit_of c.args.layer.now (c.args.start + j))) in
    omega (arith, c.requires.counted)

pub word_from-requires : goal.word_from-requires
word_from-requires c =
    let before : c.loop-at.at * 64 < c.args.len = omega (arith, c.loop-at-test.true, c.loop-at.invariant.long, c.requires.long, listed_length c.args.len (λ j. bit_of c.args.layer.now (c.args.start + j))) in
    omega (arith, c.requires.within)

pub loop-at-preserved : goal.loop-at-preserved
loop-at-preserved c =
    let within : c.loop-at.at < length c.loop-at.words =
    omega (arith, c.loop-at.invariant.long, c.loop-at-test.true, c.requires.long, listed_length c.args.len (λ j. bit_of c.args.layer.now (c.args.start + j))) in
    have_next_word _ c.loop-at.at _ _ _ c.loop-at.invariant within c.lowest.type_inv
    (λ i low. part_word c.args.layer.now c.args.start c.args.len (c.loop-at.at * 64) i _ _ low (c.word_from.ensures i)
    (c.lowest.ensures.kept i) (c.lowest.ensures.cleared i)) refl

pub returns-clause-holds : goal.returns-clause-holds
returns-clause-holds c =
    let long = listed_length c.args.len (λ j. bit_of c.args.layer.now (c.args.start + j)) in
    let all : length c.loop-at.words * 64 ≤ c.loop-at.at * 64 =
    omega (arith, c.loop-at.invariant.long, c.loop-at-test.false, c.requires.long, long) in
    HoldsBits-digits _ _ _ _ long c.loop-at.invariant all c.ranges.len.fits

pub returns-clause-digits : goal.returns-clause-digits
returns-clause-digits c =
    let long = listed_length c.args.len (λ j. bit_of c.args.layer.now (c.args.start + j)) in
    let all : length c.loop-at.words * 64 ≤ c.loop-at.at * 64 =
    omega (arith, c.loop-at.invariant.long, c.loop-at-test.false, c.requires.long, long) in
    bits-digits _ _ _ _ long c.loop-at.invariant all
