use Rattle.axe_row.proofs.NextEntries.{entry_of_held_bits, found_in_support, found_later, support_of_held_bits}
use Rattle.axe_row.proofs.Row.entry_in_bits.Goals as goal

pub returns-in-Some : goal.returns-in-Some
returns-in-Some c =
    found_in_support c.args.places.now c.args.self.now.entries c.args.start _ c.word-marks.result
    (support_of_held_bits _ _ _ _ _ c.requires.words) c.word-marks.ensures c.in-Some.index c.entry_of_bits.result c.in-Some.ensures
    (entry_of_held_bits _ c.args.start _ _ _ c.in-Some.index _ c.requires.words c.entry_of_bits.ensures)

pub returns : goal.returns
returns c =
    found_later c.args.places.now c.args.self.now.entries c.args.start _ c.word-marks.result
    (support_of_held_bits _ _ _ _ _ c.requires.words) c.word-marks.ensures _ _ c.in_default.ensures c.entry_in_later_words.ensures
