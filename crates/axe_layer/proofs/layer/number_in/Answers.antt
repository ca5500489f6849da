use Rattle.std.proofs.Common.{arith, refl}
use Rattle.axe_layer.proofs.PieceBits.{no_bits, number_of_word}
use Rattle.axe_layer.proofs.layer.number_in.Goals as goal

pub returns-then-at-len-clause-value : goal.returns-then-at-len-clause-value
returns-then-at-len-clause-value c = no_bits _ _ _ _ _ _ refl c.if-at-len.true

pub returns-clause-value : goal.returns-clause-value
returns-clause-value c =
    number_of_word _ _ _ c.args.len c.word_from.result c.min-count.result _ c.args.words.now _ refl
    c.min-count.ensures (λ i below. c.word_from.ensures i (omega (arith, c.min-count.ensures, c.requires.short))) c.number_of_bits.ensures.value
