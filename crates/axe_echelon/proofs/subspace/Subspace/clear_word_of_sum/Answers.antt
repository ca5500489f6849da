use Rattle.std.proofs.Common.{◌∙◌, ap, sym, subst, get_or, arith}
use Rattle.axe_field.specs.Order.{IsElement}
use Rattle.axe_echelon.specs.Echelons.{EchelonValue}
use Rattle.axe_echelon.proofs.ClearingLaws.{negative_at}
use Rattle.axe_echelon.proofs.WordsOfPivots.{half_begun, pivot_inside, row_told, there, row_there, zeros_there, still_fewer, half_more, word_cleared}
use Rattle.axe_echelon.proofs.subspace.Subspace.clear_word_of_sum.Goals as goal

pub loop-place-init : goal.loop-place-init
loop-place-init c =
    let field = c.requires.field ∙ sym (ap (λ (e : EchelonValue). e.order) c.self.view_is) in
    let fits = c.requires.fits ∙ sym (ap (λ (e : EchelonValue). e.cols) c.self.view_is) in
    half_begun c.args.self.now _ _ c.self.inside.rows.items c.self.inside.pivots c.args.at c.args.sum.now _ c.self.view_is
    c.self.invariant.are_rows field fits c.word-marks.ensures

pub overflow_add-column : goal.overflow_add-column
overflow_add-column c =
    omega (
      arith,
      pivot_inside _ _ _ _ _ _ _ _ _ c.self.invariant c.loop-place.invariant _ _ c.in-Some.ensures.found,
      c.self.invariant.are_rows.columns_fit,
    )

pub row_of-requires : goal.row_of-requires
row_of-requires c =
    row_told _ _ _ _ _ _ _ _ _ c.self.invariant c.loop-place.invariant _ _ c.in-Some.ensures.found

pub index-requires : goal.index-requires
index-requires c =
    omega (
      arith,
      (there _ _ _ _ _ _ _ _ _ c.self.invariant c.loop-place.invariant _ _ c.in-Some.ensures.found _ c.row_of.ensures).within,
      c.self.inside.rows.ok.0,
    )

pub add_scaled_from-requires-clause-within : goal.add_scaled_from-requires-clause-within
add_scaled_from-requires-clause-within c =
    omega (arith, pivot_inside _ _ _ _ _ _ _ _ _ c.self.invariant c.loop-place.invariant _ _ c.in-Some.ensures.found, c.loop-place.invariant.as_long)

pub add_scaled_from-requires-clause-field : goal.add_scaled_from-requires-clause-field
add_scaled_from-requires-clause-field c =
    (row_there _ _ _ _ _ _ _ _ _ c.self.invariant c.loop-place.invariant _ _ c.in-Some.ensures.found _ c.row_of.ensures _ c.index.ensures).row_field
    ∙ sym c.loop-place.invariant.field

pub add_scaled_from-requires-clause-fits : goal.add_scaled_from-requires-clause-fits
add_scaled_from-requires-clause-fits c =
    (row_there _ _ _ _ _ _ _ _ _ c.self.invariant c.loop-place.invariant _ _ c.in-Some.ensures.found _ c.row_of.ensures _
    c.index.ensures).row_over.length_is
    ∙ sym c.loop-place.invariant.as_long

pub add_scaled_from-requires-clause-element : goal.add_scaled_from-requires-clause-element
add_scaled_from-requires-clause-element c =
    subst (λ o. IsElement o (get_or c.negatives-negatives.result.now c.from.result 0)) (sym c.loop-place.invariant.field)
    (negative_at _ _ _ _ _ c.negatives-negatives.ensures.values c.negatives-negatives.ensures.elements
    c.loop-place.invariant.field c.in-Some.ensures.element c.from.ensures).element

pub add_scaled_from-requires-clause-zeros : goal.add_scaled_from-requires-clause-zeros
add_scaled_from-requires-clause-zeros c =
    zeros_there _ _ _ _ _ _ _ _ _ c.self.invariant c.loop-place.invariant _ _ c.in-Some.ensures.found _ c.row_of.ensures _ c.index.ensures

pub loop-place-smaller : goal.loop-place-smaller
loop-place-smaller c =
    still_fewer _ _ _ _ _ _ _ _ _ c.self.invariant c.loop-place.invariant _ _ c.in-Some.ensures.found c.next_in_word.new.places c.in-Some.ensures.rest

pub loop-place-preserved : goal.loop-place-preserved
loop-place-preserved c =
    half_more _ _ _ _ _ _ _ _ _ c.self.invariant c.loop-place.invariant _ _ c.in-Some.ensures.found _ c.row_of.ensures _ c.index.ensures
    _ (negative_at _ _ _ _ _ c.negatives-negatives.ensures.values c.negatives-negatives.ensures.elements
    c.loop-place.invariant.field c.in-Some.ensures.element c.from.ensures) c.add_scaled_from.new.self c.next_in_word.new.places
    c.add_scaled_from.ensures.sum c.add_scaled_from.ensures.as_long c.add_scaled_from.ensures.well_formed c.in-Some.ensures.rest

pub returns : goal.returns
returns c =
    word_cleared c.args.self.now _ _ _ _ _ _ c.loop-place.sum _ c.self.view_is c.self.invariant c.loop-place.invariant
    c.in_default.ensures.found
