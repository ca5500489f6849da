use Rattle.std.proofs.Common.{◌*◌, ◌<◌, ◌≤◌, length, arith, ◌∙◌, sym, subst}
use Rattle.axe_field.specs.Order.{prime_of, degree_of}
use Rattle.axe_echelon.proofs.MirroredWords.{mirrored_words_none, mirrored_words_more, mirrored_words_all, reversed_digit_small}
use Rattle.axe_echelon.proofs.word_mirrors.mirror_coefficients.Goals as goal

pub loop-at-init : goal.loop-at-init
loop-at-init c = record {
  part = mirrored_words_none c.args.power c.args.row.now c.args.mirrored.now;
  well_formed = c.requires.row;
}

pub set_digit_words-requires-clause-prime : goal.set_digit_words-requires-clause-prime
set_digit_words-requires-clause-prime c =
    subst (λ o. prime_of o ≤ 3) (sym (c.loop-at.invariant.part.order ∙ c.requires.field)) c.requires.prime

pub set_digit_words-requires-clause-power : goal.set_digit_words-requires-clause-power
set_digit_words-requires-clause-power c =
    subst (λ o. c.args.power < degree_of o) (sym (c.loop-at.invariant.part.order ∙ c.requires.field)) c.requires.power

pub set_digit_words-requires-clause-digits : goal.set_digit_words-requires-clause-digits
set_digit_words-requires-clause-digits c = λ i low.
    subst (λ x. x < prime_of c.loop-at.mirrored.order) (sym (c.mirrored_words.ensures i low))
    (reversed_digit_small c.args.power c.loop-at.at c.args.row.now c.args.mirrored.now c.loop-at.mirrored c.requires.power c.requires.field c.requires.fits
    c.loop-at.invariant.part _ c.len.ensures.well_formed)

pub loop-at-preserved : goal.loop-at-preserved
loop-at-preserved c = record {
  part = mirrored_words_more c.args.power c.loop-at.at c.args.row.now c.args.mirrored.now c.loop-at.mirrored c.requires.power c.requires.field c.requires.fits
      c.loop-at.invariant.part _ _ c.set_digit_words.ensures.written c.mirrored_words.ensures;
  well_formed = c.set_digit_words.ensures.well_formed;
}

pub returns-clause-written : goal.returns-clause-written
returns-clause-written c =
    let all : length c.args.row.now.entries ≤ c.loop-at.at * 64 = omega (arith, c.loop-at-test.false, c.div_ceil-at-end.ensures, c.len.ensures.count) in
    mirrored_words_all c.args.power c.loop-at.at c.args.row.now c.args.mirrored.now c.loop-at.mirrored c.requires.power c.requires.field c.requires.fits
    c.loop-at.invariant.part all
