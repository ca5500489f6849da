use Rattle.std.proofs.Common.{◌≡◌, sym, arith}
use Rattle.axe_bits.proofs.TritEntries.{layers_for_entry, none_added, once_added, twice_added}
use Rattle.axe_bits.proofs.TritTables.{trit_index}
use Rattle.axe_bits.proofs.TritWords.{exchanged}
use Rattle.axe_bits.proofs.trit_table.TritTable.add_to_entry.Goals as goal

pub add_layers_to_entry-requires-clause-to : goal.add_layers_to_entry-requires-clause-to
add_layers_to_entry-requires-clause-to c = trit_index _ _ _ _ c.self.view_is c.requires.to

pub add_layers_to_entry-requires-clause-more : goal.add_layers_to_entry-requires-clause-more
add_layers_to_entry-requires-clause-more c =
    layers_for_entry _ _ _ c.args.to _ _ _ c.self.view_is c.requires.to c.requires.fits c.layers.ensures.holds

pub add_layers_to_entry-requires-in_default-clause-to : goal.add_layers_to_entry-requires-in_default-clause-to
add_layers_to_entry-requires-in_default-clause-to c = trit_index _ _ _ _ c.self.view_is c.requires.to

pub add_layers_to_entry-requires-in_default-clause-more : goal.add_layers_to_entry-requires-in_default-clause-more
add_layers_to_entry-requires-in_default-clause-more c =
    exchanged _ _ _
    (layers_for_entry _ _ _ c.args.to _ _ _ c.self.view_is c.requires.to c.requires.fits c.layers.ensures.holds)

pub returns-in-0 : goal.returns-in-0
returns-in-0 c = none_added _ _ _ _ _ _ c.self.invariant c.self.view_is c.requires.to c.in-0.is

pub returns-in-1 : goal.returns-in-1
returns-in-1 c =
    once_added _ _ _ _ c.args.to _ _ c.self.view_is c.requires.to c.requires.fits _ _ c.layers.ensures.digits
    (sym c.in-1.is) c.add_layers_to_entry.ensures.digits

pub returns-in_default : goal.returns-in_default
returns-in_default c =
    let two : 2 ≡ c.args.factor = omega arith in
    twice_added _ _ _ _ c.args.to _ _ c.self.view_is c.requires.to c.requires.fits _ _ c.layers.ensures.digits two
    c.add_layers_to_entry-in_default.ensures.digits
