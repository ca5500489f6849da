use Rattle.std.proofs.Common.{◌≤◌, ◌∙◌, ap, sym, subst, arith}
use Rattle.axe_field.specs.Order.{IsElement, order_number, prime_of}
use Rattle.axe_row.specs.BitBlocks.{IsBlock}
use Rattle.axe_row.specs.EntryWords.{entries_in_word}
use Rattle.axe_echelon.specs.Echelons.{EchelonValue}
use Rattle.axe_echelon.proofs.PivotRowLaws.{rows_fit}
use Rattle.axe_echelon.proofs.WordsOfPivots.{half_begun_with, found_by_block, none_by_block, negative_of_two, pivot_inside, row_told, block_told, entry_nonzero, entry_element, there, row_there, zeros_there, still_fewer, half_more_with, block_more, word_cleared_with}
use Rattle.axe_echelon.proofs.subspace.Subspace.clear_word_with_by_block.Goals as goal

pub loop-place-init : goal.loop-place-init
loop-place-init g c =
    let field = c.requires.field ∙ sym (ap (λ (e : EchelonValue). e.order) c.self.view_is) in
    let fits = c.requires.fits ∙ sym (ap (λ (e : EchelonValue). e.cols) c.self.view_is) in
    record {
      cleared = half_begun_with c.args.self.now _ _ c.self.inside.rows.items c.self.inside.pivots c.args.word c.args.row.now _ c.args.multipliers.now
          c.self.view_is c.self.invariant.are_rows field fits c.word-places.ensures
          (c.requires.multipliers_field ∙ sym (ap (λ (e : EchelonValue). e.order) c.self.view_is))
          (c.requires.multipliers_fit ∙ sym (ap (λ (e : EchelonValue). e.cols) c.self.view_is));
      block_is = subst (λ o. IsBlock o (entries_in_word c.args.row.now.entries c.args.word) c.bit_block-block.result) field
          (c.bit_block-block.ensures.block (omega (arith, ap prime_of c.requires.field, c.requires.characteristic)));
      row_well_formed = c.bit_block-block.ensures.well_formed;
    }

pub overflow_add-column : goal.overflow_add-column
overflow_add-column g c =
    let found = found_by_block _ _ _ (ap (λ (e : EchelonValue). e.order) c.self.view_is) c.requires.order c.requires.characteristic _ _ _
    c.loop-place.invariant.block_is _ _ c.in-Some.ensures.found in
    omega (
      arith,
      pivot_inside _ _ _ _ _ _ _ _ _ c.self.invariant c.loop-place.invariant.cleared.half _ _ found,
      c.self.invariant.are_rows.columns_fit,
    )

pub block_of-requires : goal.block_of-requires
block_of-requires g c =
    let found = found_by_block _ _ _ (ap (λ (e : EchelonValue). e.order) c.self.view_is) c.requires.order c.requires.characteristic _ _ _
    c.loop-place.invariant.block_is _ _ c.in-Some.ensures.found in
    block_told _ _ _ _ _ _ _ _ _ c.self.invariant c.loop-place.invariant.cleared.half _ _ found

pub add_scaled_in-requires : goal.add_scaled_in-requires
add_scaled_in-requires g c =
    let found = found_by_block _ _ _ (ap (λ (e : EchelonValue). e.order) c.self.view_is) c.requires.order c.requires.characteristic _ _ _
    c.loop-place.invariant.block_is _ _ c.in-Some.ensures.found in
    record { nonzero = entry_nonzero _ _ _ _ _ _ _ _ _ c.self.invariant c.loop-place.invariant.cleared.half _ _ found }

pub row_of-index-requires : goal.row_of-index-requires
row_of-index-requires g c =
    let found = found_by_block _ _ _ (ap (λ (e : EchelonValue). e.order) c.self.view_is) c.requires.order c.requires.characteristic _ _ _
    c.loop-place.invariant.block_is _ _ c.in-Some.ensures.found in
    row_told _ _ _ _ _ _ _ _ _ c.self.invariant c.loop-place.invariant.cleared.half _ _ found

pub index-requires : goal.index-requires
index-requires g c =
    let found = found_by_block _ _ _ (ap (λ (e : EchelonValue). e.order) c.self.view_is) c.requires.order c.requires.characteristic _ _ _
    c.loop-place.invariant.block_is _ _ c.in-Some.ensures.found in
    omega (
      arith,
      (there _ _ _ _ _ _ _ _ _ c.self.invariant c.loop-place.invariant.cleared.half _ _ found _ c.row_of-index.ensures).within,
      c.self.inside.rows.ok.0,
    )

pub add_scaled_in-requires-in-Some-clause-within : goal.add_scaled_in-requires-in-Some-clause-within
add_scaled_in-requires-in-Some-clause-within g c =
    let found = found_by_block _ _ _ (ap (λ (e : EchelonValue). e.order) c.self.view_is) c.requires.order c.requires.characteristic _ _ _
    c.loop-place.invariant.block_is _ _ c.in-Some.ensures.found in
    omega (
      arith,
      pivot_inside _ _ _ _ _ _ _ _ _ c.self.invariant c.loop-place.invariant.cleared.half _ _ found,
      c.loop-place.invariant.cleared.half.as_long,
    )

pub add_scaled_in-requires-in-Some-clause-field : goal.add_scaled_in-requires-in-Some-clause-field
add_scaled_in-requires-in-Some-clause-field g c =
    let found = found_by_block _ _ _ (ap (λ (e : EchelonValue). e.order) c.self.view_is) c.requires.order c.requires.characteristic _ _ _
    c.loop-place.invariant.block_is _ _ c.in-Some.ensures.found in
    (row_there _ _ _ _ _ _ _ _ _ c.self.invariant c.loop-place.invariant.cleared.half _ _ found _ c.row_of-index.ensures _ c.index.ensures).row_field
    ∙ sym c.loop-place.invariant.cleared.half.field

pub add_scaled_in-requires-in-Some-clause-fits : goal.add_scaled_in-requires-in-Some-clause-fits
add_scaled_in-requires-in-Some-clause-fits g c =
    let found = found_by_block _ _ _ (ap (λ (e : EchelonValue). e.order) c.self.view_is) c.requires.order c.requires.characteristic _ _ _
    c.loop-place.invariant.block_is _ _ c.in-Some.ensures.found in
    (row_there _ _ _ _ _ _ _ _ _ c.self.invariant c.loop-place.invariant.cleared.half _ _ found _ c.row_of-index.ensures _
    c.index.ensures).row_over.length_is
    ∙ sym c.loop-place.invariant.cleared.half.as_long

pub add_scaled_in-requires-in-Some-clause-element : goal.add_scaled_in-requires-in-Some-clause-element
add_scaled_in-requires-in-Some-clause-element g c =
    let found = found_by_block _ _ _ (ap (λ (e : EchelonValue). e.order) c.self.view_is) c.requires.order c.requires.characteristic _ _ _
    c.loop-place.invariant.block_is _ _ c.in-Some.ensures.found in
    subst (λ o. IsElement o c.in-Some.entry) (sym c.loop-place.invariant.cleared.half.field)
    (entry_element _ _ _ _ _ _ _ _ _ c.self.invariant c.loop-place.invariant.cleared.half _ _ found c.loop-place.invariant.row_well_formed)

pub add_scaled_in-requires-in-Some-clause-nonzero : goal.add_scaled_in-requires-in-Some-clause-nonzero
add_scaled_in-requires-in-Some-clause-nonzero g c =
    λ _. let found = found_by_block _ _ _ (ap (λ (e : EchelonValue). e.order) c.self.view_is) c.requires.order c.requires.characteristic _ _ _
    c.loop-place.invariant.block_is _ _ c.in-Some.ensures.found in
    entry_nonzero _ _ _ _ _ _ _ _ _ c.self.invariant c.loop-place.invariant.cleared.half _ _ found

pub add_scaled_in-requires-in-Some-clause-zeros : goal.add_scaled_in-requires-in-Some-clause-zeros
add_scaled_in-requires-in-Some-clause-zeros g c =
    let found = found_by_block _ _ _ (ap (λ (e : EchelonValue). e.order) c.self.view_is) c.requires.order c.requires.characteristic _ _ _
    c.loop-place.invariant.block_is _ _ c.in-Some.ensures.found in
    zeros_there _ _ _ _ _ _ _ _ _ c.self.invariant c.loop-place.invariant.cleared.half _ _ found _ c.row_of-index.ensures _ c.index.ensures

pub set-requires-clause-index : goal.set-requires-clause-index
set-requires-clause-index g c =
    let found = found_by_block _ _ _ (ap (λ (e : EchelonValue). e.order) c.self.view_is) c.requires.order c.requires.characteristic _ _ _
    c.loop-place.invariant.block_is _ _ c.in-Some.ensures.found in
    omega (
      arith,
      rows_fit _ _ _ c.self.invariant.are_rows,
      (there _ _ _ _ _ _ _ _ _ c.self.invariant c.loop-place.invariant.cleared.half _ _ found _ c.row_of-index.ensures).within,
      c.loop-place.invariant.cleared.multipliers_long,
    )

pub set-requires-clause-element : goal.set-requires-clause-element
set-requires-clause-element g c =
    let found = found_by_block _ _ _ (ap (λ (e : EchelonValue). e.order) c.self.view_is) c.requires.order c.requires.characteristic _ _ _
    c.loop-place.invariant.block_is _ _ c.in-Some.ensures.found in
    subst (λ o. IsElement o c.in-Some.entry) (sym c.loop-place.invariant.cleared.multipliers_field)
    (entry_element _ _ _ _ _ _ _ _ _ c.self.invariant c.loop-place.invariant.cleared.half _ _ found c.loop-place.invariant.row_well_formed)

pub loop-place-smaller : goal.loop-place-smaller
loop-place-smaller g c =
    let found = found_by_block _ _ _ (ap (λ (e : EchelonValue). e.order) c.self.view_is) c.requires.order c.requires.characteristic _ _ _
    c.loop-place.invariant.block_is _ _ c.in-Some.ensures.found in
    still_fewer _ _ _ _ _ _ _ _ _ c.self.invariant c.loop-place.invariant.cleared.half _ _ found c.next_within.new.places c.in-Some.ensures.rest

pub loop-place-preserved : goal.loop-place-preserved
loop-place-preserved g c =
    let order = ap (λ (e : EchelonValue). order_number e.order) c.self.view_is ∙ c.requires.order in
    let two = ap (λ (e : EchelonValue). prime_of e.order) c.self.view_is ∙ c.requires.characteristic in
    let small : prime_of c.self.inside.field ≤ 3 = omega (arith, two) in
    let found = found_by_block _ _ _ (ap (λ (e : EchelonValue). e.order) c.self.view_is) c.requires.order c.requires.characteristic _ _ _
    c.loop-place.invariant.block_is _ _ c.in-Some.ensures.found in
    let element = entry_element _ _ _ _ _ _ _ _ _ c.self.invariant c.loop-place.invariant.cleared.half _ _ found
    c.loop-place.invariant.row_well_formed in
    record {
      cleared = half_more_with _ _ _ _ _ _ _ _ _ c.self.invariant c.loop-place.invariant.cleared.half _ _ found _ c.row_of-index.ensures _
          c.index.ensures
          _ (negative_of_two _ _ two element) c.add_scaled_in-in-Some.new.self c.next_within.new.places
          c.add_scaled_in-in-Some.ensures.sum c.add_scaled_in-in-Some.ensures.as_long c.add_scaled_in-in-Some.ensures.well_formed
          c.in-Some.ensures.rest
          c.args.multipliers.now c.loop-place.multipliers c.set.new.self c.loop-place.invariant.cleared.multipliers_field
          c.loop-place.invariant.cleared.multipliers_long c.loop-place.invariant.cleared.so_far c.set.ensures.replaced c.set.ensures.well_formed;
      block_is = block_more _ _ _ _ _ _ _ _ _ c.self.invariant c.loop-place.invariant.cleared.half _ _ found _ c.row_of-index.ensures _
          c.index.ensures
          small c.loop-place.invariant.row_well_formed _ c.block_of.result.now c.add_scaled_in.new.self c.loop-place.invariant.block_is
          c.block_of.ensures (c.add_scaled_in.ensures.sum _ order small) c.add_scaled_in-in-Some.new.self c.add_scaled_in-in-Some.ensures.sum;
      row_well_formed = c.add_scaled_in-in-Some.ensures.well_formed;
    }

pub returns : goal.returns
returns g c =
    word_cleared_with c.args.self.now _ _ _ _ _ _ c.loop-place.row _ _ c.loop-place.multipliers c.self.view_is c.self.invariant
    c.loop-place.invariant.cleared (none_by_block _ _ _ (ap (λ (e : EchelonValue). e.order) c.self.view_is) c.requires.order c.requires.characteristic _ _ _
    c.loop-place.invariant.block_is c.in_default.ensures.found)
