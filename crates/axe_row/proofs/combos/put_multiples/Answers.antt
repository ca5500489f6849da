use Rattle.std.proofs.Common.{rules, sym, ◌∙◌}
use Rattle.axe_layer.proofs.DigitLaws.{length-digits_with_multiple, AreDigits-sum}
use Rattle.axe_plane.proofs.TableLaws.{prime_of_table-positive, written_fits, written_digits, written_more}
use Rattle.axe_bits.specs.Combinations.{digits_with_multiples}
use Rattle.axe_row.proofs.TablePlanes.{sum_with_entry}
use Rattle.axe_row.proofs.combos.put_multiples.Goals as goal

pub add_to_entry-requires-clause-fits : goal.add_to_entry-requires-clause-fits
add_to_entry-requires-clause-fits c nonzero =
    let one = sum_with_entry _ _ _ _ _ _ c.put_sum.ensures in
    written_fits _ _ _ _ _ _ c.requires.to one (c.requires.addable.linear.fits nonzero ∙ sym (length-digits_with_multiple _ _ _ _))

pub add_to_entry-requires-clause-digits : goal.add_to_entry-requires-clause-digits
add_to_entry-requires-clause-digits c =
    let one = sum_with_entry _ _ _ _ _ _ c.put_sum.ensures in
    written_digits _ _ _ _ _ c.requires.to one (AreDigits-sum _ _ _ _ (prime_of_table-positive c.args.table.now))

pub add_to_entry-requires-2-clause-fits : goal.add_to_entry-requires-2-clause-fits
add_to_entry-requires-2-clause-fits c nonzero =
    let one = sum_with_entry _ _ _ _ _ _ c.put_sum.ensures in
    let two = written_more _ _ _ _ _ _ _ _ c.requires.to one c.add_to_entry.ensures in
    written_fits _ _ _ _ _ _ c.requires.to two
    (c.requires.addable.quadratic.fits nonzero ∙ sym (length-digits_with_multiple _ _ _ _ ∙ length-digits_with_multiple _ _ _ _))

pub add_to_entry-requires-2-clause-digits : goal.add_to_entry-requires-2-clause-digits
add_to_entry-requires-2-clause-digits c =
    let one = sum_with_entry _ _ _ _ _ _ c.put_sum.ensures in
    let two = written_more _ _ _ _ _ _ _ _ c.requires.to one c.add_to_entry.ensures in
    written_digits _ _ _ _ _ c.requires.to two (AreDigits-sum _ _ _ _ (prime_of_table-positive c.args.table.now))

pub returns : goal.returns
unfolding digits_with_multiples
returns c =
    let one = sum_with_entry _ _ _ _ _ _ c.put_sum.ensures in
    let two = written_more _ _ _ _ _ _ _ _ c.requires.to one c.add_to_entry.ensures in
    written_more _ _ _ _ _ _ _ _ c.requires.to two c.add_to_entry-2.ensures

pub put_sum-requires-clause-factor : goal.put_sum-requires-clause-factor
put_sum-requires-clause-factor c = search rules

pub put_sum-requires-clause-fits : goal.put_sum-requires-clause-fits
put_sum-requires-clause-fits c = search rules

pub add_to_entry-requires-clause-factor : goal.add_to_entry-requires-clause-factor
add_to_entry-requires-clause-factor c = search rules

pub add_to_entry-requires-2-clause-factor : goal.add_to_entry-requires-2-clause-factor
add_to_entry-requires-2-clause-factor c = search rules
