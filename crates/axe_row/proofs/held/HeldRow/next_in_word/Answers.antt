use Rattle.std.proofs.Common.{ℕ, List, MatchOption, subst}
use Rattle.axe_lane.specs.Entries.{AreZerosFrom}
use Rattle.axe_layer.specs.Supports.{restricted}
use Rattle.axe_row.specs.BitBlocks.{bits_of_word}
use Rattle.axe_row.specs.FoundEntries.{IsNextEntry}
use Rattle.axe_row.proofs.HeldLaws.{block_of_row, characteristic_of_blocks, found_element, row_of_blocks}
use Rattle.axe_row.proofs.held.HeldRow.next_in_word.Goals as goal

pub returns-clause-found : goal.returns-clause-found
returns-clause-found g c =
    subst (λ (word : List ℕ). MatchOption c.next_within.result (AreZerosFrom (restricted (bits_of_word c.args.places.now) word) 0)
    (λ found. IsNextEntry (bits_of_word c.args.places.now) word 0 found.0 found.1))
    (block_of_row c.self.inside.field c.self.inside.len c.self.inside.blocks c.args.self.now c.self.invariant c.self.view_is c.args.at).numbers
    (c.next_within.ensures.found c.args.self.now.order c.requires.order (characteristic_of_blocks _ _ _ c.args.self.now c.self.invariant c.self.view_is))

pub returns-clause-element : goal.returns-clause-element
returns-clause-element g c =
    found_element c.args.self.now.order (bits_of_word c.args.places.now) c.args.self.now.entries c.args.at _ c.next_within.result
    (row_of_blocks _ _ _ c.args.self.now c.self.invariant c.self.view_is).elements (returns-clause-found g c)
