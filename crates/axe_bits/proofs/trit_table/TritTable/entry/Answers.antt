use Rattle.std.proofs.Common.{subst, sym}
use Rattle.axe_bits.specs.Trits.{HoldLayers}
use Rattle.axe_bits.proofs.TableLaws.{AreWordsOf}
use Rattle.axe_bits.proofs.TritEntries.{digits_of_entry, layers_of_entry, other_index, trit_entry-long}
use Rattle.axe_bits.proofs.TritTables.{trit_index}
use Rattle.axe_bits.proofs.trit_table.TritTable.entry.Goals as goal

pub entry-requires : goal.entry-requires
entry-requires c = trit_index _ _ _ _ c.self.view_is c.requires

pub entry-requires-2 : goal.entry-requires-2
entry-requires-2 c = other_index _ _ _ c.self.invariant (trit_index _ _ _ _ c.self.view_is c.requires)

pub returns-clause-holds : goal.returns-clause-holds
returns-clause-holds c =
    let below = trit_index _ _ _ _ c.self.view_is c.requires in
    let mine : AreWordsOf c.self.inside.ones c.args.index c.entry.result.now =
    record { holds = c.entry.ensures.holds; digits = c.entry.ensures.digits } in
    let its : AreWordsOf c.self.inside.twos c.args.index c.entry-2.result.now =
    record { holds = c.entry-2.ensures.holds; digits = c.entry-2.ensures.digits } in
    subst (λ n. HoldLayers n c.entry.result.now c.entry-2.result.now) (sym (trit_entry-long _ _ _ _ c.self.view_is c.requires))
    (layers_of_entry _ _ _ _ _ c.self.invariant below mine its)

pub returns-clause-digits : goal.returns-clause-digits
returns-clause-digits c =
    let mine : AreWordsOf c.self.inside.ones c.args.index c.entry.result.now =
    record { holds = c.entry.ensures.holds; digits = c.entry.ensures.digits } in
    let its : AreWordsOf c.self.inside.twos c.args.index c.entry-2.result.now =
    record { holds = c.entry-2.ensures.holds; digits = c.entry-2.ensures.digits } in
    digits_of_entry _ _ _ _ _ _ c.self.invariant c.self.view_is c.requires mine its
