use Rattle.std.proofs.Common.{◌+◌, ◌*◌, ◌≤◌, ◌∙◌, ap, sym, subst, arith}
use Rattle.axe_field.specs.Order.{IsElement, order_number, prime_of}
use Rattle.axe_echelon.specs.Echelons.{EchelonValue}
use Rattle.axe_echelon.proofs.PivotRowLaws.{rows_fit}
use Rattle.axe_echelon.proofs.ClearingLaws.{negative_told, negative_nonzero}
use Rattle.axe_echelon.proofs.HeldWords.{zeros_before_word, block_of_word, cleared_past}
use Rattle.axe_echelon.proofs.WordsOfPivots.{half_begun_with, pivot_inside, row_told, block_told, entry_nonzero, there, row_there, still_fewer, half_more_with, word_cleared_with}
use Rattle.axe_echelon.proofs.subspace.Subspace.clear_word_of_held_with.Goals as goal

pub returns-then-word-clause-cleared : goal.returns-then-word-clause-cleared
returns-then-word-clause-cleared g c =
    λ first before.
    let whole : c.args.self.now.cols ≤ c.args.word * 64 = omega (arith, c.requires.words, c.if-word.true) in
    let up : c.args.word * 64 ≤ c.args.word * 64 + 64 = omega arith in
    cleared_past c.args.self.now (c.args.word * 64) (c.args.word * 64 + 64) first c.args.held.now c.args.multipliers.now whole up before

pub loop-place-init : goal.loop-place-init
loop-place-init g c =
    let field = c.requires.field ∙ sym (ap (λ (e : EchelonValue). e.order) c.self.view_is) in
    let fits = c.requires.fits ∙ sym (ap (λ (e : EchelonValue). e.cols) c.self.view_is) in
    half_begun_with c.args.self.now _ _ c.self.inside.rows.items c.self.inside.pivots c.args.word c.args.held.now _ c.args.multipliers.now
    c.self.view_is c.self.invariant.are_rows field fits c.word-marks.ensures
    (c.requires.multipliers_field ∙ sym (ap (λ (e : EchelonValue). e.order) c.self.view_is))
    (c.requires.multipliers_fit ∙ sym (ap (λ (e : EchelonValue). e.cols) c.self.view_is))

pub overflow_add-pivot : goal.overflow_add-pivot
overflow_add-pivot g c =
    omega (
      arith,
      pivot_inside _ _ _ _ _ _ _ _ _ c.self.invariant c.loop-place.invariant.half _ _ c.in-Some.ensures.found,
      c.self.invariant.are_rows.columns_fit,
    )

pub row_of-index-requires : goal.row_of-index-requires
row_of-index-requires g c =
    row_told _ _ _ _ _ _ _ _ _ c.self.invariant c.loop-place.invariant.half _ _ c.in-Some.ensures.found

pub index-requires : goal.index-requires
index-requires g c =
    omega (
      arith,
      (there _ _ _ _ _ _ _ _ _ c.self.invariant c.loop-place.invariant.half _ _ c.in-Some.ensures.found _ c.row_of-index.ensures).within,
      c.self.inside.rows.ok.0,
    )

pub add_scaled_from_block-requires : goal.add_scaled_from_block-requires
add_scaled_from_block-requires g c =
    let element = subst (λ o. IsElement o c.in-Some.entry) c.loop-place.invariant.half.field c.in-Some.ensures.element in
    let negative = negative_told _ _ _ _ _ _ c.negatives-negatives.ensures.values c.negatives-negatives.ensures.elements c.loop-place.invariant.half.field
    (ap order_number (c.loop-place.invariant.half.field ∙ ap (λ (e : EchelonValue). e.order) c.self.view_is) ∙ c.requires.order) c.in-Some.ensures.element
    c.negative_in-factor.ensures in
    let there = row_there _ _ _ _ _ _ _ _ _ c.self.invariant c.loop-place.invariant.half _ _ c.in-Some.ensures.found _ c.row_of-index.ensures _ c.index.ensures in
    let columns = ap (λ (e : EchelonValue). e.cols) c.self.view_is in (
      omega (arith, columns, c.self.invariant.are_rows.columns_fit, c.requires.words),
      (
        ap order_number (c.loop-place.invariant.half.field ∙ ap (λ (e : EchelonValue). e.order) c.self.view_is) ∙ c.requires.order,
        (
          omega (arith, c.if-word.false),
          (
            there.row_field ∙ sym c.loop-place.invariant.half.field,
            (
              there.row_over.length_is ∙ sym c.loop-place.invariant.half.as_long,
              (
                zeros_before_word _ _ _ _ _ _ _ _ _ c.self.invariant c.loop-place.invariant.half _ _ c.in-Some.ensures.found _ c.row_of-index.ensures _ c.index.ensures,
                (
                  block_of_word _ _ _ _ _ _ _ _ _ c.self.invariant c.loop-place.invariant.half _ _ c.in-Some.ensures.found _ c.row_of-index.ensures _ c.index.ensures
                      _ c.block_of-block.ensures (omega (arith, ap prime_of (there.row_field ∙ ap (λ (e : EchelonValue). e.order) c.self.view_is), c.requires.characteristic)),
                  (
                    subst (λ o. IsElement o c.negative_in-factor.result) (sym c.loop-place.invariant.half.field) negative.element,
                    negative_nonzero _ _ _ element (entry_nonzero _ _ _ _ _ _ _ _ _ c.self.invariant c.loop-place.invariant.half _ _ c.in-Some.ensures.found) negative,
                  ),
                ),
              ),
            ),
          ),
        ),
      ),
    )

pub set-requires-clause-index : goal.set-requires-clause-index
set-requires-clause-index g c =
    omega (
      arith,
      rows_fit _ _ _ c.self.invariant.are_rows,
      (there _ _ _ _ _ _ _ _ _ c.self.invariant c.loop-place.invariant.half _ _ c.in-Some.ensures.found _ c.row_of-index.ensures).within,
      c.loop-place.invariant.multipliers_long,
    )

pub set-requires-clause-element : goal.set-requires-clause-element
set-requires-clause-element g c =
    let negative = negative_told _ _ _ _ _ _ c.negatives-negatives.ensures.values c.negatives-negatives.ensures.elements c.loop-place.invariant.half.field
    (ap order_number (c.loop-place.invariant.half.field ∙ ap (λ (e : EchelonValue). e.order) c.self.view_is) ∙ c.requires.order) c.in-Some.ensures.element
    c.negative_in-factor.ensures in
    subst (λ o. IsElement o c.negative_in-factor.result) (sym c.loop-place.invariant.multipliers_field) negative.element

pub block_of-block-requires : goal.block_of-block-requires
block_of-block-requires g c =
    block_told _ _ _ _ _ _ _ _ _ c.self.invariant c.loop-place.invariant.half _ _ c.in-Some.ensures.found

pub loop-place-smaller : goal.loop-place-smaller
loop-place-smaller g c =
    still_fewer _ _ _ _ _ _ _ _ _ c.self.invariant c.loop-place.invariant.half _ _ c.in-Some.ensures.found c.next_in_word.new.places
    c.in-Some.ensures.rest

pub loop-place-preserved : goal.loop-place-preserved
loop-place-preserved g c =
    let negative = negative_told _ _ _ _ _ _ c.negatives-negatives.ensures.values c.negatives-negatives.ensures.elements c.loop-place.invariant.half.field
    (ap order_number (c.loop-place.invariant.half.field ∙ ap (λ (e : EchelonValue). e.order) c.self.view_is) ∙ c.requires.order) c.in-Some.ensures.element
    c.negative_in-factor.ensures in
    half_more_with _ _ _ _ _ _ _ _ _ c.self.invariant c.loop-place.invariant.half _ _ c.in-Some.ensures.found _ c.row_of-index.ensures _
    c.index.ensures
    _ negative c.add_scaled_from_block.new.self c.next_in_word.new.places
    c.add_scaled_from_block.ensures.sum c.add_scaled_from_block.ensures.as_long c.add_scaled_from_block.ensures.well_formed c.in-Some.ensures.rest
    c.args.multipliers.now c.loop-place.multipliers c.set.new.self c.loop-place.invariant.multipliers_field
    c.loop-place.invariant.multipliers_long c.loop-place.invariant.so_far c.set.ensures.replaced c.set.ensures.well_formed

pub returns-clause-cleared : goal.returns-clause-cleared
returns-clause-cleared g c =
    word_cleared_with c.args.self.now _ _ _ _ _ _ c.loop-place.held _ _ c.loop-place.multipliers c.self.view_is c.self.invariant
    c.loop-place.invariant c.in_default.ensures.found

pub returns-clause-same_field : goal.returns-clause-same_field
returns-clause-same_field g c = c.loop-place.invariant.half.field ∙ ap (λ (e : EchelonValue). e.order) c.self.view_is

pub returns-clause-as_long : goal.returns-clause-as_long
returns-clause-as_long g c = c.loop-place.invariant.half.as_long ∙ ap (λ (e : EchelonValue). e.cols) c.self.view_is

pub returns-clause-multipliers_field : goal.returns-clause-multipliers_field
returns-clause-multipliers_field g c = c.loop-place.invariant.multipliers_field ∙ ap (λ (e : EchelonValue). e.order) c.self.view_is

pub returns-clause-multipliers_fit : goal.returns-clause-multipliers_fit
returns-clause-multipliers_fit g c = c.loop-place.invariant.multipliers_long ∙ ap (λ (e : EchelonValue). e.cols) c.self.view_is
