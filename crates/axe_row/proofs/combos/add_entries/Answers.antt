use Rattle.std.proofs.Common.{rules}
use Rattle.axe_bits.specs.Combinations.{digits_with_multiples}
use Rattle.axe_row.proofs.PlaneSums.{after_more, addable_after, digits_after}
use Rattle.axe_row.proofs.combos.add_entries.Goals as goal

pub add_entry-requires-2-clause-fits : goal.add_entry-requires-2-clause-fits
add_entry-requires-2-clause-fits c = (addable_after _ _ _ _ _ _ c.add_entry.ensures c.requires.addable.linear).fits

pub add_entry-requires-2-clause-digits : goal.add_entry-requires-2-clause-digits
add_entry-requires-2-clause-digits c = digits_after _ _ _ _ c.add_entry.ensures

pub add_entry-requires-3-clause-fits : goal.add_entry-requires-3-clause-fits
add_entry-requires-3-clause-fits c =
    (addable_after _ _ _ _ _ _ c.add_entry-2.ensures (addable_after _ _ _ _ _ _ c.add_entry.ensures c.requires.addable.quadratic)).fits

pub add_entry-requires-3-clause-digits : goal.add_entry-requires-3-clause-digits
add_entry-requires-3-clause-digits c = digits_after _ _ _ _ c.add_entry-2.ensures

pub returns : goal.returns
unfolding digits_with_multiples
returns c = after_more _ _ _ _ _ _ (after_more _ _ _ _ _ _ c.add_entry.ensures c.add_entry-2.ensures) c.add_entry-3.ensures

pub add_entry-requires-clause-factor : goal.add_entry-requires-clause-factor
add_entry-requires-clause-factor c = search rules

pub add_entry-requires-2-clause-factor : goal.add_entry-requires-2-clause-factor
add_entry-requires-2-clause-factor c = search rules

pub add_entry-requires-3-clause-factor : goal.add_entry-requires-3-clause-factor
add_entry-requires-3-clause-factor c = search rules
