use Rattle.std.proofs.Common.{◌+◌, ◌*◌, ◌/◌, ◌<◌, ◌≤◌, length, refl, sym, ap, ◌∙◌, arith}
use Rattle.axe_layer.proofs.DigitWords.{have_no_digits, have_next_word, HoldsBits-digits, bits-digits}
use Rattle.axe_layer.proofs.NumberDigits.{digit_is_bit, length-digits_at}
use Rattle.axe_layer.proofs.layer.fill_with_bits.Goals as goal

pub loop-at-init : goal.loop-at-init
loop-at-init c =
    have_no_digits _ _ _ (λ k. (c.type_inv.words k).fits)
    (c.requires.long ∙ ap (λ n. (n + 63) / 64) (sym (length-digits_at 2 c.args.place c.args.numbers.now))) refl

pub loop-at-preserved : goal.loop-at-preserved
loop-at-preserved c =
    let within : c.loop-at.at < length c.loop-at.words =
    omega (arith, c.loop-at.invariant.long, c.loop-at-test.true, c.requires.long, length-digits_at 2 c.args.place c.args.numbers.now) in
    have_next_word _ c.loop-at.at _ _ _ c.loop-at.invariant within c.word_of.type_inv
    (λ i low. c.word_of.ensures i low ∙ sym (digit_is_bit c.args.place c.args.numbers.now (c.loop-at.at * 64 + i))) refl

pub returns-clause-holds : goal.returns-clause-holds
returns-clause-holds c =
    let long = length-digits_at 2 c.args.place c.args.numbers.now in
    let all : length c.loop-at.words * 64 ≤ c.loop-at.at * 64 =
    omega (arith, c.loop-at.invariant.long, c.loop-at-test.false, c.requires.long, long) in
    HoldsBits-digits _ _ _ _ long c.loop-at.invariant all (omega arith)

pub returns-clause-digits : goal.returns-clause-digits
returns-clause-digits c =
    let long = length-digits_at 2 c.args.place c.args.numbers.now in
    let all : length c.loop-at.words * 64 ≤ c.loop-at.at * 64 =
    omega (arith, c.loop-at.invariant.long, c.loop-at-test.false, c.requires.long, long) in
    bits-digits _ _ _ _ long c.loop-at.invariant all
