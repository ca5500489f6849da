use Rattle.std.proofs.Common.{ap}
use Rattle.axe_row.specs.declared.bit_block.BitBlock.{BitBlock}
use Rattle.axe_row.proofs.BlockElements.{zero_block}
use Rattle.axe_row.proofs.bit_block.BitBlock.zeros.Goals as goal

pub returns : goal.returns
returns c = λ o.
    let is = c.of_words.ensures in
    zero_block o _ (ap (λ (b : BitBlock). b.ones) is) (ap (λ (b : BitBlock). b.twos) is) (ap (λ (b : BitBlock). b.high_ones) is)
    (ap (λ (b : BitBlock). b.high_twos) is)
