use Rattle.std.proofs.Common.{arith}
use Rattle.axe_layer.proofs.SupportLaws.{length-restricted, support_of_restricted}
use Rattle.axe_row.proofs.NextEntries.{found_in_support, found_later}
use Rattle.axe_row.proofs.Row.entry_in_support.Goals as goal

pub get-requires : goal.get-requires
get-requires c =
    let both = support_of_restricted c.args.places.now c.args.self.now.entries _ _ _ c.requires.support c.word.ensures in
    omega (arith, (c.in-Some.ensures _ both).within, length-restricted c.args.places.now c.args.self.now.entries)

pub returns-in-Some : goal.returns-in-Some
returns-in-Some c =
    found_in_support c.args.places.now c.args.self.now.entries c.args.start c.args.support c.word.result c.requires.support c.word.ensures
    c.in-Some.index c.get.result c.in-Some.ensures (λ _. c.get.ensures.entry)

pub returns : goal.returns
returns c =
    found_later c.args.places.now c.args.self.now.entries c.args.start c.args.support c.word.result c.requires.support c.word.ensures _ _
    c.in_default.ensures c.entry_in_later_words.ensures
