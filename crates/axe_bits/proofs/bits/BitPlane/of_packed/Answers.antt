use Rattle.std.proofs.Common.{◌*◌, ◌<◌, ◌≤◌, length, refl, arith, ℕ, sym, subst}
use Rattle.std.proofs.lemmas.List.{length-replicate}
use Rattle.axe_algebra.proofs.ListEntries.{listed_length}
use Rattle.axe_layer.specs.Packed.{packed_bit}
use Rattle.axe_layer.proofs.BitLaws.{zeros, get_or-zeros}
use Rattle.axe_layer.proofs.DigitWords.{HaveDigits, have_no_digits, have_next_word, HoldsBits-digits, bits-digits}
use Rattle.axe_layer.proofs.PackedWords.{packed_part_word}
use Rattle.axe_bits.proofs.bits.BitPlane.of_packed.Goals as goal

pub loop-at-init : goal.loop-at-init
loop-at-init c =
    let k = c.div_ceil.result in
    let made = c.in_ok-words.ensures.items_if_clones_equal (λ y e. e) in
    subst (HaveDigits _ 0) (sym made)
    (have_no_digits _ 0 (zeros k) (λ i. omega (arith, get_or-zeros k i)) (omega (arith, c.div_ceil.ensures, length-replicate {A = ℕ} k 0, listed_length c.args.len (packed_bit c.args.bytes.now))) refl)

pub loop-at-preserved : goal.loop-at-preserved
loop-at-preserved c =
    let within : c.loop-at.at < length c.loop-at.words.items =
    omega (
      arith,
      c.loop-at.invariant.long,
      c.loop-at-test.true,
      c.len-at-end.ensures,
      c.in_ok-words.ensures.len,
      c.div_ceil.ensures,
      listed_length c.args.len (packed_bit c.args.bytes.now),
    ) in
    have_next_word _ c.loop-at.at _ _ _ c.loop-at.invariant within c.lowest.type_inv
    (λ i low. packed_part_word c.args.bytes.now c.args.len c.loop-at.at i _ _ low
    (c.word_of_packed-word.ensures i) (c.lowest.ensures.kept i) (c.lowest.ensures.cleared i)) refl

pub invariant_of-result : goal.invariant_of-result
invariant_of-result c =
    let long = listed_length c.args.len (packed_bit c.args.bytes.now) in
    let all : length c.loop-at.words.items * 64 ≤ c.loop-at.at * 64 =
    omega (arith, c.loop-at.invariant.long, c.loop-at-test.false, c.len-at-end.ensures, c.in_ok-words.ensures.len, c.div_ceil.ensures, long) in
    HoldsBits-digits _ _ _ _ long c.loop-at.invariant all c.ranges.len.fits

pub returns : goal.returns
returns c =
    let long = listed_length c.args.len (packed_bit c.args.bytes.now) in
    let all : length c.loop-at.words.items * 64 ≤ c.loop-at.at * 64 =
    omega (arith, c.loop-at.invariant.long, c.loop-at-test.false, c.len-at-end.ensures, c.in_ok-words.ensures.len, c.div_ceil.ensures, long) in
    bits-digits _ _ _ _ long c.loop-at.invariant all
