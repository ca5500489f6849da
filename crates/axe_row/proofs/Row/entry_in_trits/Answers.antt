use Rattle.axe_row.proofs.NextEntries.{entry_of_held_trits, found_in_support, found_later, support_of_held_trits}
use Rattle.axe_row.proofs.Row.entry_in_trits.Goals as goal

pub returns-in-Some : goal.returns-in-Some
returns-in-Some c =
    found_in_support c.args.places.now c.args.self.now.entries c.args.start _ c.word-marks.result
    (support_of_held_trits _ _ c.args.constant c.args.linear c.requires.words) c.word-marks.ensures c.in-Some.index c.entry_of_trits.result c.in-Some.ensures
    (entry_of_held_trits _ c.args.start c.args.constant c.args.linear c.in-Some.index _ c.requires.words c.entry_of_trits.ensures)

pub returns : goal.returns
returns c =
    found_later c.args.places.now c.args.self.now.entries c.args.start _ c.word-marks.result
    (support_of_held_trits _ _ c.args.constant c.args.linear c.requires.words) c.word-marks.ensures _ _ c.in_default.ensures c.entry_in_later_words.ensures
