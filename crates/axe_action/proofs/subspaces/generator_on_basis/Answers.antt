use Rattle.std.proofs.Common.{◌≡◌, ◌<◌, length, All, None, refl, ap, sym, ◌∙◌, subst, arith}
use Rattle.axe_row.specs.Refusals.{RefusedAs}
use Rattle.axe_row.specs.declared.refusals.Refusal.TheVariants.{NotInvariant}
use Rattle.axe_matrix.specs.Matrices.{MatrixValue, IsMatrix, matrix_product, columns_at}
use Rattle.axe_echelon.proofs.Exits.{no_memory_late, memory_if_accepted, answered_late}
use Rattle.axe_action.specs.Coordinates.{HasImagesIn, HasActionRows}
use Rattle.axe_action.proofs.Images.{images_accepted, images_made, images_count}
use Rattle.axe_action.proofs.SubRows.{action_images, rows_over_field}
use Rattle.axe_action.proofs.ColumnLaws.{AreImagesAt, action_if_combined, combined_if_within}
use Rattle.axe_action.proofs.subspaces.generator_on_basis.Goals as goal

pub coordinates_at-requires-clause-field : goal.coordinates_at-requires-clause-field
coordinates_at-requires-clause-field c =
    let made = images_made c.args.basis.now c.args.generator.now c.in_ok-images.images c.requires.field c.requires.fits c.requires.square c.in_ok-images.ensures.product in
    ap (λ (m : MatrixValue). m.order) made

pub coordinates_at-requires-clause-some_column : goal.coordinates_at-requires-clause-some_column
coordinates_at-requires-clause-some_column c = omega (arith, c.requires.some_row, c.requires.coordinates.count)

pub coordinates_at-requires-clause-columns_fit : goal.coordinates_at-requires-clause-columns_fit
coordinates_at-requires-clause-columns_fit c =
    let made = images_made c.args.basis.now c.args.generator.now c.in_ok-images.images c.requires.field c.requires.fits c.requires.square c.in_ok-images.ensures.product in
    let formed : IsMatrix c.in_ok-images.images = c.in_ok-images.ensures.well_formed in
    omega (arith, images_count c.args.basis.now c.args.generator.now c.in_ok-images.images made, formed.rows_fit, c.requires.coordinates.count)

pub coordinates_at-requires-clause-within : goal.coordinates_at-requires-clause-within
coordinates_at-requires-clause-within c =
    let made = images_made c.args.basis.now c.args.generator.now c.in_ok-images.images c.requires.field c.requires.fits c.requires.square c.in_ok-images.ensures.product in
    subst (λ n. All (λ column. column < n) c.args.columns.now) (c.requires.fits ∙ sym (ap (λ (m : MatrixValue). m.cols) made)) c.requires.coordinates.within

pub coordinates_at-requires-clause-as_many : goal.coordinates_at-requires-clause-as_many
coordinates_at-requires-clause-as_many c = c.requires.coordinates.count

pub returns-in_err-images : goal.returns-in_err-images
returns-in_err-images c =
    let none = images_accepted c.args.basis.now c.args.generator.now c.requires.field c.requires.fits c.requires.square in
    no_memory_late None _ _ c.from_residual.result _ refl (memory_if_accepted _ _ _ none c.in_err-images.ensures.product) c.from_residual.ensures.1

pub returns : goal.returns
returns c =
    answered_late None
    (λ action. IsMatrix action × (action ≡ columns_at c.args.columns.now c.in_ok-images.images) × (matrix_product action c.args.basis.now ≡ c.in_ok-images.images))
    (λ action. HasImagesIn c.args.generator.now c.args.basis.now.rows c.args.basis.now.rows × HasActionRows c.args.generator.now c.args.basis.now.rows (length c.args.basis.now.rows) action)
    (RefusedAs NotInvariant (IsMatrix (columns_at c.args.columns.now c.in_ok-images.images) × (¬ (matrix_product (columns_at c.args.columns.now c.in_ok-images.images) c.args.basis.now ≡ c.in_ok-images.images))))
    (RefusedAs NotInvariant (¬ (HasImagesIn c.args.generator.now c.args.basis.now.rows c.args.basis.now.rows)))
    c.coordinates_at.result refl
    (λ action combines.
    let are : AreImagesAt c.args.generator.now c.args.basis.now c.in_ok-images.images action c.args.columns.now = record {
      field = c.requires.field;
      fits = c.requires.fits;
      coordinates = c.requires.coordinates;
      made = images_made c.args.basis.now c.args.generator.now c.in_ok-images.images c.requires.field c.requires.fits c.requires.square c.in_ok-images.ensures.product;
      images_well_formed = c.in_ok-images.ensures.well_formed;
      entries = combines.1;
      well_formed = combines.0;
    } in
    let all = action_if_combined c.args.generator.now c.args.basis.now c.in_ok-images.images action c.args.columns.now are combines.2 in (
      action_images c.args.generator.now c.args.basis.now.rows (length c.args.basis.now.rows) action all
          (rows_over_field c.args.generator.now c.args.basis.now c.requires.well_formed c.requires.field c.requires.fits) (omega arith),
      all,
    ))
    (λ refusal stands.
    let are : AreImagesAt c.args.generator.now c.args.basis.now c.in_ok-images.images (columns_at c.args.columns.now c.in_ok-images.images) c.args.columns.now = record {
      field = c.requires.field;
      fits = c.requires.fits;
      coordinates = c.requires.coordinates;
      made = images_made c.args.basis.now c.args.generator.now c.in_ok-images.images c.requires.field c.requires.fits c.requires.square c.in_ok-images.ensures.product;
      images_well_formed = c.in_ok-images.ensures.well_formed;
      entries = refl;
      well_formed = stands.1.0;
    } in
    (stands.0, λ within. stands.1.1 (combined_if_within c.args.generator.now c.args.basis.now c.in_ok-images.images (columns_at c.args.columns.now c.in_ok-images.images) c.args.columns.now are within)))
    c.coordinates_at.ensures
