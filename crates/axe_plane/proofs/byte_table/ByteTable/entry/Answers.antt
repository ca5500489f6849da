use Rattle.std.proofs.Common.{ap}
use Rattle.axe_plane.specs.Primes.{ByteEntries}
use Rattle.axe_plane.proofs.TableLaws.{byte_index, entry_bytes}
use Rattle.axe_plane.proofs.byte_table.ByteTable.entry.Goals as goal

pub start_of-start-requires-clause-within : goal.start_of-start-requires-clause-within
start_of-start-requires-clause-within c = byte_index _ _ _ _ _ (ap (λ (t : ByteEntries). t.entries) c.self.view_is) c.requires

pub returns-clause-value : goal.returns-clause-value
returns-clause-value c =
    entry_bytes _ _ _ _ _ _ _ (ap (λ (t : ByteEntries). t.entries) c.self.view_is) c.requires c.start_of-start.ensures.start c.deref.ensures.value
