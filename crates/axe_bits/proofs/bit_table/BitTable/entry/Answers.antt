use Rattle.axe_bits.proofs.TableLaws.{bit_index, entry_words}
use Rattle.axe_bits.proofs.bit_table.BitTable.entry.Goals as goal

pub start_of-start-requires-clause-within : goal.start_of-start-requires-clause-within
start_of-start-requires-clause-within c = bit_index _ _ _ _ _ _ c.self.view_is c.requires

pub returns-clause-holds : goal.returns-clause-holds
returns-clause-holds c =
    (entry_words _ _ _ _ _ _ _ _ c.self.invariant c.self.view_is c.requires c.start_of-start.ensures.start c.deref.ensures.value).holds

pub returns-clause-digits : goal.returns-clause-digits
returns-clause-digits c =
    (entry_words _ _ _ _ _ _ _ _ c.self.invariant c.self.view_is c.requires c.start_of-start.ensures.start c.deref.ensures.value).digits
