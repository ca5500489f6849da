use Rattle.axe_row.proofs.EntryWordLaws.{weighted_by_trits}
use Rattle.axe_row.proofs.entry_word.EntryWord.of_trits.Goals as goal

pub returns : goal.returns
returns c = weighted_by_trits c.args.constant c.args.linear c.requires.constant c.requires.linear
