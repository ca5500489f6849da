use Rattle.std.proofs.Common.{arith}
use Rattle.axe_layer.proofs.SupportLaws.{length-restricted}
use Rattle.axe_row.proofs.NextEntries.{tells_found}
use Rattle.axe_row.proofs.Row.entry_in_later_words.Goals as goal

pub get-requires : goal.get-requires
get-requires c = omega (arith, c.in-Some.ensures.within, length-restricted c.args.places.now c.args.self.now.entries)

pub returns-in-Some : goal.returns-in-Some
returns-in-Some c =
    tells_found c.args.places.now c.args.self.now.entries _ c.in-Some.index c.get.result c.in-Some.ensures c.get.ensures.entry
