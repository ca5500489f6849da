use Rattle.std.proofs.Common.{rules, ◌≡◌, ◌<◌, ◌*◌, ◌+◌, ◌-◌, length, arith, refl, sym, ◌∙◌, min}
use Rattle.std.proofs.lemmas.List.{ext_get_or}
use Rattle.axe_layer.proofs.BitLaws.{length-bits}
use Rattle.axe_layer.proofs.DigitWords.{word_written}
use Rattle.axe_layer.proofs.layer.copy_digits.Goals as goal

pub loop-at-init : goal.loop-at-init
loop-at-init c = record {
  long = sym (length-bits (length c.args.numbers.now) c.args.words.now);
  so_far = λ j before _. absurd (omega arith);
}

pub loop-at-preserved : goal.loop-at-preserved
loop-at-preserved c =
    let long = c.loop-at.invariant.long ∙ length-bits (length c.args.numbers.now) c.args.words.now in
    let within : c.loop-at.at * 64 < length c.args.numbers.now = omega (arith, c.loop-at-test.true, c.requires) in
    let wide : c.loop-at.at * 64 + c.min-count.result - c.loop-at.at * 64 ≡ min 64 (length c.args.numbers.now - c.loop-at.at * 64) =
    omega (arith, c.min-count.ensures, long) in
    word_written _ _ _ c.loop-at.at _ _ _ c.loop-at.numbers c.spread.new.numbers refl within wide c.loop-at.invariant
    (search rules) refl (search rules) refl

pub returns : goal.returns
returns c =
    ext_get_or 0 _ _ c.loop-at.invariant.long (λ e inside.
    let long = length-bits (length c.args.numbers.now) c.args.words.now in
    c.loop-at.invariant.so_far e (omega (arith, c.loop-at.invariant.long, c.loop-at-test.false, c.requires, long))
    (omega (arith, c.loop-at.invariant.long)))
