use Rattle.std.proofs.Common.{◌≡◌, ◌<◌, ◌≤◌, length, ap, sym, ◌∙◌, subst, arith, None, refl}
use Rattle.axe_echelon.proofs.Exits.{no_memory_late, memory_if_accepted, refused_late}
use Rattle.axe_algebra.specs.SpansOfLists.{IsSpanned}
use Rattle.axe_algebra.proofs.ListSpans.{independent_rows_are_few}
use Rattle.axe_field.specs.NumberFields.{number_field}
use Rattle.axe_row.specs.Rows.{RowValue}
use Rattle.axe_row.specs.Refusals.{RefusedAs}
use Rattle.axe_row.specs.declared.refusals.Refusal.TheVariants.{NotInvariant}
use Rattle.axe_matrix.specs.Matrices.{MatrixValue}
use Rattle.axe_echelon.specs.Echelons.{EchelonValue, IsEchelon}
use Rattle.axe_action.specs.Coordinates.{row_times, HasImagesIn, HasActionRows, HasCoefficientsToo}
use Rattle.axe_action.proofs.Images.{images_accepted, images_made, image_row, images_count}
use Rattle.axe_action.proofs.SubRows.{form_over, action_row_of, image_outside, action_rows_more, action_images}
use Rattle.axe_action.proofs.subspaces.generator_action.Goals as goal

pub with_capacity-requires-clause-columns_fit : goal.with_capacity-requires-clause-columns_fit
with_capacity-requires-clause-columns_fit c =
    let formed : IsEchelon c.args.span.now = c.rank.ensures.well_formed in
    let few : length c.args.span.now.rows ≤ c.args.span.now.cols =
    independent_rows_are_few (number_field c.args.span.now.order) c.args.span.now.cols c.args.span.now.rows formed.over formed.independent in
    omega (arith, c.rank.ensures.count, formed.columns_fit)

pub append_coefficients-requires-clause-image_field : goal.append_coefficients-requires-clause-image_field
append_coefficients-requires-clause-image_field c =
    let made = images_made c.args.rows.now c.args.generator.now c.in_ok-images.images c.requires.field c.requires.fits c.requires.square c.in_ok-images.ensures.product in
    ap (λ (r : RowValue). r.order) c.row.ensures.value ∙ ap (λ (m : MatrixValue). m.order) made ∙ c.requires.field ∙ sym (ap (λ (e : EchelonValue). e.order) c.requires.span)

pub append_coefficients-requires-clause-image_fits : goal.append_coefficients-requires-clause-image_fits
append_coefficients-requires-clause-image_fits c =
    let made = images_made c.args.rows.now c.args.generator.now c.in_ok-images.images c.requires.field c.requires.fits c.requires.square c.in_ok-images.ensures.product in
    c.row.ensures.as_long ∙ ap (λ (m : MatrixValue). m.cols) made ∙ sym (ap (λ (e : EchelonValue). e.cols) c.requires.span)

pub append_coefficients-requires-clause-field : goal.append_coefficients-requires-clause-field
append_coefficients-requires-clause-field c = c.loop-index.invariant.field ∙ sym (ap (λ (e : EchelonValue). e.order) c.requires.span)

pub append_coefficients-requires-clause-width : goal.append_coefficients-requires-clause-width
append_coefficients-requires-clause-width c = c.loop-index.invariant.columns ∙ sym (ap (λ (e : EchelonValue). length e.rows) c.requires.span)

pub append_coefficients-requires-clause-room : goal.append_coefficients-requires-clause-room
append_coefficients-requires-clause-room c =
    omega (arith, c.loop-index-test.true, c.rows-index-end.ensures.count, c.loop-index.invariant.count, c.rows-index-end.ensures.well_formed.rows_fit)

pub returns-in_err-append_coefficients : goal.returns-in_err-append_coefficients
returns-in_err-append_coefficients c =
    let made = images_made c.args.rows.now c.args.generator.now c.in_ok-images.images c.requires.field c.requires.fits c.requires.square c.in_ok-images.ensures.product in
    let below : c.loop-index.index < length c.args.rows.now.rows =
    omega (arith, c.loop-index-test.true, c.rows-index-end.ensures.count, images_count c.args.rows.now c.args.generator.now c.in_ok-images.images made) in
    let image : c.row.result.now.entries ≡ row_times c.args.generator.now c.args.rows.now.rows c.loop-index.index =
    image_row c.args.rows.now c.args.generator.now c.in_ok-images.images c.row.result.now c.loop-index.index c.requires.field made below c.row.ensures.value in
    refused_late {S = Unit {0}} None (λ _. HasCoefficientsToo c.args.span.now c.row.result.now.entries c.loop-index.action c.append_coefficients.new.action)
    (λ action. HasImagesIn c.args.generator.now c.args.rows.now.rows c.args.rows.now.rows
    × HasActionRows c.args.generator.now c.args.rows.now.rows (length c.args.rows.now.rows) action)
    (RefusedAs NotInvariant (¬ (IsSpanned (number_field c.args.span.now.order) c.args.span.now.rows c.row.result.now.entries)))
    (RefusedAs NotInvariant (¬ (HasImagesIn c.args.generator.now c.args.rows.now.rows c.args.rows.now.rows)))
    c.from_residual-in_err-append_coefficients.result _ refl
    (λ refusal stands. (
      stands.0,
      image_outside c.args.generator.now c.args.rows.now.rows c.loop-index.index c.args.span.now c.row.result.now c.requires.span image below stands.1,
    ))
    c.in_err-append_coefficients.ensures c.from_residual-in_err-append_coefficients.ensures.1

pub loop-index-preserved : goal.loop-index-preserved
loop-index-preserved c =
    let made = images_made c.args.rows.now c.args.generator.now c.in_ok-images.images c.requires.field c.requires.fits c.requires.square c.in_ok-images.ensures.product in
    let below : c.loop-index.index < length c.args.rows.now.rows =
    omega (arith, c.loop-index-test.true, c.rows-index-end.ensures.count, images_count c.args.rows.now c.args.generator.now c.in_ok-images.images made) in
    let image : c.row.result.now.entries ≡ row_times c.args.generator.now c.args.rows.now.rows c.loop-index.index =
    image_row c.args.rows.now c.args.generator.now c.in_ok-images.images c.row.result.now c.loop-index.index c.requires.field made below c.row.ensures.value in
    let too : HasCoefficientsToo c.args.span.now c.row.result.now.entries c.loop-index.action c.append_coefficients.new.action =
    c.in_ok-append_coefficients.ensures in
    action_rows_more c.args.generator.now c.args.rows.now.rows c.loop-index.index c.loop-index.action c.append_coefficients.new.action too.coefficients
    c.loop-index.invariant
    (action_row_of c.args.generator.now c.args.rows.now.rows c.loop-index.index c.args.span.now c.row.result.now too.coefficients c.requires.span image too.are)
    too.appended too.well_formed

pub returns : goal.returns
returns c =
    let whole : c.loop-index.index ≡ length c.args.rows.now.rows =
    omega (
      arith,
      c.loop-index-test.false,
      c.loop-index.auto.index-end,
      c.rows-index-end.ensures.count,
      images_count c.args.rows.now c.args.generator.now c.in_ok-images.images
          (images_made c.args.rows.now c.args.generator.now c.in_ok-images.images c.requires.field c.requires.fits c.requires.square c.in_ok-images.ensures.product),
    ) in
    let enough : length c.args.rows.now.rows ≤ c.loop-index.index = omega arith in (
      action_images c.args.generator.now c.args.rows.now.rows c.loop-index.index c.loop-index.action c.loop-index.invariant
          (form_over c.args.generator.now c.args.rows.now.rows c.args.span.now c.requires.span c.rank.ensures.well_formed) enough,
      subst (λ k. HasActionRows c.args.generator.now c.args.rows.now.rows k c.loop-index.action) whole c.loop-index.invariant,
    )

pub returns-in_err-images : goal.returns-in_err-images
returns-in_err-images c =
    let none = images_accepted c.args.rows.now c.args.generator.now c.requires.field c.requires.fits c.requires.square in
    no_memory_late None _ _ c.from_residual.result _ refl (memory_if_accepted _ _ _ none c.in_err-images.ensures.product) c.from_residual.ensures.1

pub returns-in_err-action : goal.returns-in_err-action
returns-in_err-action c = no_memory_late None _ _ c.from_residual-in_err-action.result _ refl c.in_err-action.ensures.no_rows c.from_residual-in_err-action.ensures.1
