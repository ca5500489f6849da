use Rattle.axe_row.proofs.EntryWordLaws.{weighted_by_numbers}
use Rattle.axe_row.proofs.entry_word.EntryWord.of_numbers.Goals as goal

pub returns : goal.returns
returns c = weighted_by_numbers c.args.words
