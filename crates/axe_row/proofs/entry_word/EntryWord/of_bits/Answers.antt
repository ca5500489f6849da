use Rattle.axe_row.proofs.EntryWordLaws.{weighted_by_bits}
use Rattle.axe_row.proofs.entry_word.EntryWord.of_bits.Goals as goal

pub returns : goal.returns
returns c = weighted_by_bits c.args.constant c.args.linear c.args.quadratic c.requires.constant c.requires.linear c.requires.quadratic
