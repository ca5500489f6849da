use Rattle.axe_row.proofs.EntryWordLaws.{weighted_entry}
use Rattle.axe_row.proofs.entry_word.EntryWord.entry.Goals as goal

pub returns : goal.returns
returns c =
    let x = c.self.inside in
    weighted_entry x.ones x.twos x.high_ones x.high_twos x.weight c.args.place _ _ c.args.self.now c.self.view_is c.requires c.entry_of_bits-low.ensures
    c.entry_of_bits-high.ensures
