use Rattle.std.proofs.Common.{ap}
use Rattle.axe_row.specs.EntryWords.{weighted_numbers}
use Rattle.axe_row.proofs.EntryWordLaws.{weighted_entry}
use Rattle.axe_row.proofs.bit_block.BitBlock.entry.Goals as goal

pub returns : goal.returns
returns g c = λ o is prime.
    let x = c.args.self.now in
    weighted_entry x.ones x.twos x.high_ones x.high_twos c.weight_of_size.result c.args.place _ _ _
    (ap (weighted_numbers x.ones x.twos x.high_ones x.high_twos) (c.weight_of_size.ensures.weight o is prime)) c.requires
    c.entry_of_bits-low.ensures c.entry_of_bits-high.ensures
